-- `ranging::stands_low` meets its contract.
use mathlib.Core.Bool.{Bool, true, false, not}
use mathlib.Core.List.{List}
use mathlib.Core.Path.{◌≡◌, refl, sym, subst, ◌∙◌}
use Prim.Native.Nat.{ℕ, ◌<◌, ◌^◌}
use native.Mathlib.Omega.{arith}
use lib.IntN.{pos}
use lib.ListN.{length, get_or}
use lib.Signed.{mag}
use borrow.Author.Rules.{rules}
use Rattle.arith.proofs.Parts.{impossible}
use Rattle.arith.proofs.Words.{back}
use Rattle.arith.specs.Fractions.{frac}
use Rattle.arith.specs.declared.Fraction.{Fraction}
use Rattle.comparing.specs.Comparing.{amount_in}
use Rattle.knapsack.specs.Meaning.{nought}
use Rattle.model.proofs.Showing.{default}
use Rattle.model.specs.declared.Side.TheVariants.{Upper}
use Rattle.feasibility.specs.Amounts.{GoodAmount}
use Rattle.feasibility.specs.Check.{breaks_bound}
use Rattle.ranging.specs.Searching.{StandsLow}
use Rattle.ranging.proofs.Lowering.{stands_by}
use Rattle.ranging.proofs.stands_low.Statement.{statement}
use Rattle.ranging.proofs.stands_low.Tie as tie

-- the amount as the code reads it
abbrev read_at : List Fraction → ℕ → Fraction
read_at l k = get_or l k (record { p = pos 0; q = 0 })

abbrev start : tie.After-struct_told-1 → tie.Start
start c = c.before.before.before.before

same : (s : tie.Start) → amount_in s.args.x s.args.k ≡ read_at s.args.x s.args.k
same s =
    let size : length s.args.x ≡ 16 = search rules in
    default s.args.x s.args.k nought (record { p = pos 0; q = 0 }) (omega (arith, s.requires.0, size))

good : (s : tie.Start) → GoodAmount (read_at s.args.x s.args.k)
good s = subst GoodAmount (same s) s.requires.1.1

-- the code's test is the definition's
past : (c : tie.After-breaks_bound) → let a = (start c.before).args in
    breaks_bound Upper a.b (read_at a.x a.k).p (read_at a.x a.k).q ≡ c.breaks_bound.result
past c =
    let s = start c.before in
    let h : mag (read_at s.args.x s.args.k).p < 2 ^ 63 = search rules in
    sym (rw (back (read_at s.args.x s.args.k).p h) at c.breaks_bound.ensures)

denied : (b : Bool) → not b ≡ true → b ≡ false
denied true e = absurd (impossible e)
denied false e = refl

is-absent-requires : tie.Need-is_absent-requires
is-absent-requires c κs = search rules

returns : tie.Need-returns-then-is_absent
returns c = λ e. absurd (impossible e)

mul-y : tie.Need-offset_bounds-x-k
mul-y c = search rules

array-copy-out-y : tie.Need-bounds-x-k
array-copy-out-y c = search rules

breaks-bound-requires : tie.Need-breaks_bound-requires
breaks-bound-requires c κs = ((start c).requires.1.0, (good (start c)).few)

returns-2 : tie.Need-returns
returns-2 c =
    let t = c.before.before.before in
    let o = t.before in
    let s = o.before in
    λ e. subst (λ (z : Fraction). StandsLow s.args.b (frac z.p z.q)) (sym (same s))
    (stands_by s.args.b (read_at s.args.x s.args.k) (good s) (sym o.is_absent.ensures ∙ t.if-is_absent.false)
    (past c ∙ denied c.breaks_bound.result e))

pub stands_low_spec : {M : Type 1} → statement M
stands_low_spec = tie.close (tie.spec is-absent-requires returns mul-y array-copy-out-y breaks-bound-requires returns-2)
