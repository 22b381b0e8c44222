-- `search::ahead::amount_over` meets its contract: nothing overflows.
use mathlib.Core.Path.{◌≡◌, ap, ap₂, ◌∙◌}
use mathlib.Core.Bool.{cond}
use native.Mathlib.Omega.{arith}
use lib.Dec.{lit<, ltb}
use lib.IntN.{ℤ, pos, ◌+ℤ◌, ◌*ℤ◌}
use lib.Signed.{lt_z}
use mir.Syntax.{w64}
use mir.Val.{to_z, of_z}
use mir.Facts.{to_z-of_z, to_z_pos}
use borrow.Author.Rules.{rules}
use Rattle.arith.specs.Within.{Within}
use Rattle.arith.proofs.Parts.{within-sfits, within-back, within-mul, within-add}
use Rattle.arith.proofs.Words.{back}
use Rattle.greedy.specs.Fill.{lightest, heaviest, taken_by}
use Rattle.greedy.proofs.Numerators.{taken-within}
use Rattle.greedy.proofs.Sizes.{cond-within, lightest-within}
use Rattle.search.proofs.ahead.amount_over.Statement.{statement}
use Rattle.search.proofs.ahead.amount_over.Tie as tie

standing-requires : tie.Need-standing-x-requires
standing-requires c κs = search rules

taking-requires : tie.Need-taking-t-requires
taking-requires c κs = let s = c.before.before in rw (within-back tt s.requires.1.1.0) s.requires.1.1.0

cast-result : tie.Need-overflow_cast-result
cast-result c = search rules

-- what the function was given
abbrev S : tie.After-taking-t → tie.Start
S c = c.before.before.before

-- the whole amount
abbrev stand : tie.Start → ℤ
stand s = cond (ltb s.args.v s.args.f.at) (heaviest s.args.a s.args.l s.args.h)
    (lightest s.args.a s.args.p s.args.l s.args.h)

whole-within : (s : tie.Start) → Within 300000000000 (stand s *ℤ pos s.args.q)
whole-within s = within-mul
    (cond-within (ltb s.args.v s.args.f.at) (cond-within (lt_z s.args.a (pos 0)) s.requires.0 s.requires.1.0)
    (lightest-within s.args.a s.args.p s.args.l s.args.h s.requires.0 s.requires.1.0))
    (record { above = s.requires.1.1.1; below = omega arith })

-- the two terms, as the code holds them
whole_is : (c : tie.After-taking-t) → to_z w64 (of_z w64 c.standing-x.result) *ℤ to_z w64 (S c).args.q ≡ stand (S c) *ℤ pos (S c).args.q
whole_is c =
    let s = S c in
    let d = c.standing-x in
    let e = rw (to_z-of_z s.ranges.a, to_z-of_z s.ranges.p, to_z-of_z s.ranges.l, to_z-of_z s.ranges.h) at d.ensures in
    ap₂ (λ (x y : ℤ). x *ℤ y) (back d.result d.type_inv ∙ e) (to_z_pos w64 (omega (arith, s.requires.1.1.1)))

abbrev taken : tie.Start → ℤ
taken s = taken_by s.args.a s.args.f.room s.args.v s.args.f.at s.args.n

taken_is : (c : tie.After-taking-t) → to_z w64 (of_z w64 c.taking-t.result) ≡ taken (S c)
taken_is c =
    let s = S c in
    let e : c.taking-t.result ≡ taken s = rw (to_z-of_z s.ranges.a, within-back tt s.requires.1.1.0) at c.taking-t.ensures in
    back c.taking-t.result c.taking-t.type_inv ∙ e

mul-result : tie.Need-overflow_mul-result
mul-result c = rw (whole_is c) (within-sfits (lit< tt) (whole-within (S c)))

-- and their sum
inside : (s : tie.Start) → Within 20300000000000 (stand s *ℤ pos s.args.q +ℤ taken s)
inside s = within-add (whole-within s) (taken-within s.args.a s.args.f.room s.args.v s.args.f.at s.args.n s.requires.1.1.0)

held : (c : tie.After-taking-t) → to_z w64 (of_z w64 (to_z w64 (of_z w64 c.standing-x.result) *ℤ to_z w64 (S c).args.q)) +ℤ to_z w64
    (of_z w64 c.taking-t.result) ≡ stand (S c) *ℤ pos (S c).args.q +ℤ taken (S c)
held c = ap₂ (λ (x y : ℤ). x +ℤ y) (ap (λ (x : ℤ). to_z w64 (of_z w64 x)) (whole_is c) ∙ within-back tt (whole-within (S c))) (taken_is c)

add-result : tie.Need-overflow_add-result
add-result c = rw (held c) (within-sfits (lit< tt) (inside (S c)))

returns : tie.Need-returns
returns c = rw (held c) (within-back tt (inside (S c)))

pub amount_over_spec : {M : Type 1} → statement M
amount_over_spec =
    tie.close
    (tie.spec standing-requires taking-requires cast-result mul-result add-result returns)
