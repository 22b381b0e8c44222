-- `solver::joined` meets its contract: nothing overflows.
use mathlib.Core.Path.{◌≡◌, ap, ap₂, ◌∙◌}
use native.Mathlib.Omega.{arith}
use lib.Dec.{lit<}
use lib.IntN.{ℤ, pos, ◌+ℤ◌, ◌*ℤ◌}
use mir.Syntax.{w64}
use mir.Val.{to_z, of_z}
use mir.Facts.{to_z_pos}
use borrow.Author.Rules.{rules}
use Rattle.arith.proofs.Mixes.{over}
use Rattle.arith.proofs.Parts.{within-sfits, within-back}
use Rattle.solver.proofs.Values.{joined-within}
use Rattle.solver.proofs.joined.Statement.{statement}
use Rattle.solver.proofs.joined.Tie as tie

cast-result : tie.Need-overflow_cast-result
cast-result c = search rules

product_is : (s : tie.Start) → to_z w64 (of_z w64 s.args.v.whole) *ℤ to_z w64 s.args.v.parts ≡ s.args.v.whole *ℤ pos s.args.v.parts
product_is s = ap₂ (λ (x y : ℤ). x *ℤ y) (within-back tt s.requires.whole_in) (to_z_pos w64 (omega (arith, s.requires.parts_in)))

mul-result : tie.Need-overflow_mul-result
mul-result c = let s = c.before.before.before in rw (product_is s) (within-sfits (lit< tt) s.requires.product-in)

cast-result-2 : tie.Need-overflow_cast-result-2
cast-result-2 c = search rules

held : (s : tie.Start) → to_z w64 (of_z w64 (to_z w64 (of_z w64 s.args.v.whole) *ℤ to_z w64 s.args.v.parts)) +ℤ to_z w64 s.args.v.part ≡ over
    s.args.v
held s = ap₂ (λ (x y : ℤ). x +ℤ y) (ap (λ (x : ℤ). to_z w64 (of_z w64 x)) (product_is s) ∙ within-back tt s.requires.product-in)
    (to_z_pos w64 (omega (arith, s.requires.part_in)))

add-result : tie.Need-overflow_add-result
add-result c =
    let m = c.before.before in
    let s = m.before.before in
    rw (held s) (within-sfits (lit< tt) (joined-within s.args.v s.requires))

returns : tie.Need-returns
returns c =
    let m = c.before.before in
    let s = m.before.before in
    rw (held s) (within-back tt (joined-within s.args.v s.requires))

pub joined_spec : {M : Type 1} → statement M
joined_spec = tie.close (tie.spec cast-result mul-result cast-result-2 add-result returns)
