use Rattle.std.proofs.Common.{◌*ℤ◌, ◌∙◌, ap₂, lit<, to_z-of_z}
use Rattle.arith.proofs.Parts.{within-sfits}
use Rattle.arith.proofs.Words.{back}
use Rattle.feasibility.proofs.Sizes.{term-within}
use Rattle.feasibility.proofs.one_term.Goals as goal

pub overflow_mul-result : goal.overflow_mul-result
overflow_mul-result c =
    let a = c.args in
    let product = ap₂ ◌*ℤ◌ (back c.figure_of.result c.figure_of.type_inv ∙ c.figure_of.ensures) (back c.parts.result c.parts.type_inv ∙ c.parts.ensures) in
    rw product (within-sfits (lit< tt) (term-within a.f a.d a.i a.x c.requires.0 c.requires.1.0 c.requires.1.1))

pub returns : goal.returns
returns c =
    let a = c.args in
    let product = ap₂ ◌*ℤ◌ (back c.figure_of.result c.figure_of.type_inv ∙ c.figure_of.ensures) (back c.parts.result c.parts.type_inv ∙ c.parts.ensures) in
    rw product (to_z-of_z (within-sfits (lit< tt) (term-within a.f a.d a.i a.x c.requires.0 c.requires.1.0 c.requires.1.1)))
