-- A filling as a list shows it.
-- shown-parts: the divisor of its bound.  shown-small: the amounts can be compared.
-- level-fixed: the whole items are fixed.  shown-over: so the amounts are the filling's.
-- no-later: what comes no later in the list comes no later as a filling.
use mathlib.Core.Path.{◌≡◌, sym, ◌∙◌, subst}
use mathlib.Core.Bool.{Bool, true}
use mathlib.Core.List.{List}
use mathlib.Core.Logic.{inl, inr}
use Prim.Native.Nat.{ℕ, ◌≤◌, ◌<◌}
use native.Mathlib.Omega.{arith}
use lib.IntN.{ℤ, pos}
use lib.Signed.{◌≤ℤ◌}
use Rattle.arith.specs.declared.Fraction.{Fraction}
use Rattle.arith.proofs.Fractions.{Over}
use Rattle.greedy.specs.declared.Columns.{Columns}
use Rattle.greedy.specs.declared.Ends.{Ends}
use Rattle.greedy.specs.Amounts.{whole_in, divisor_in}
use Rattle.greedy.specs.Fill.{at, fill}
use Rattle.greedy.specs.Sized.{Sized}
use Rattle.greedy.proofs.Bounds.{bound-proper}
use Rattle.greedy.proofs.Numerators.{divisor-few, numerator-within}
use Rattle.greedy.proofs.Owning.{divisor-some, fill-over}
use Rattle.greedy.proofs.Sizes.{fill-sized}
use Rattle.ceiling.specs.Frames.{Levelled}
use Rattle.foremost.proofs.Earlier as order
use Rattle.foremost.proofs.Filling.{parts, filling}
use Rattle.foremost.proofs.Points.{bridge-earlier, bridge-agree}
use Rattle.setting.specs.declared.Setting.{Setting}
use Rattle.setting.specs.Box.{Inside, Long}
use Rattle.setting.specs.Ready.{ReadySetting}
use Rattle.setting.proofs.Boxes.{fixed-level}
use Rattle.firsts.specs.Leading.{Tying, ends_at, OwnAmounts, Shows}
use Rattle.firsts.specs.Order.{point_in, Comparable, NoLater}
use Rattle.firsts.proofs.Places.{place-sized}

-- ---- a filling

module _ (c : Columns) (e : Ends) (z : Sized c e) where
  pub shown-parts : (1 ≤ parts c e) × (parts c e ≤ 1000)
  shown-parts = let b = bound-proper c (fill c e) (fill-sized c e z) in (omega (arith, b.low), b.few)

  pub shown-small : (s : Setting) (l : List Fraction) → OwnAmounts s c e (fill c e) l → Comparable c.count l
  shown-small s l h k m = let few = divisor-few c h.whole k z.columns in rw (h.amounts.counted k m) (record {
    small = numerator-within c e (fill c e) (divisor_in c h.whole k) k
        (record { sized = z; filled = fill-sized c e z; few = few; item_in = omega (arith, z.columns.few) });
    some = divisor-some c h.whole k;
    few = few;
  })

-- ---- at a place

pub level-fixed : (s : Setting) → ReadySetting s → Long s.ends → (P : ℕ → ℤ) (w : List Bool) → Levelled s.level s.levels w → (k : ℕ)
    → whole_in w k ≡ true → at (ends_at s P).lo k ≡ at (ends_at s P).hi k
level-fixed s r long P w lw k q =
    let d = lw.level k q in
    let h = fixed-level s r long P s.levels d.0 (omega arith) d.1 in
    subst (λ j. at (ends_at s P).lo j ≡ at (ends_at s P).hi j) d.2 (h.0 ∙ sym h.1)

-- a place that fits, and its list
module _ (s : Setting) (c : Columns) (y : Tying s c) (P : ℕ → ℤ) (inside : Inside s P) where
  abbrev f : Ends
  f = ends_at s P

  some : 1 ≤ parts c f
  some = (shown-parts c f (place-sized s c y P inside)).0

  pub shown-over : pos 0 ≤ℤ (fill c f).room → (l : List Fraction) → Shows s c P l → (k : ℕ) → k < c.count → Over (parts c f) (point_in l k) (filling c f k)
  shown-over room l h k m = rw (h.amounts.counted k m) (fill-over c f h.whole y.tied.tied.item-rank y.tied.tied.sizes some
      (λ j i. level-fixed s y.ready y.long P h.whole h.levelled j) room k m)

-- ---- two places

module _ (s : Setting) (c : Columns) (y : Tying s c) (P Q : ℕ → ℤ) (in_p : Inside s P) (in-q : Inside s Q)
    (room-p : pos 0 ≤ℤ (fill c (ends_at s P)).room) (room-q : pos 0 ≤ℤ (fill c (ends_at s Q)).room) (l m : List Fraction) (hl : Shows s c P l) (hm : Shows s c Q m) where
  abbrev e : Ends
  e = ends_at s P

  abbrev g : Ends
  g = ends_at s Q

  pub no-later : NoLater c.count (point_in l) (point_in m) → order.NoLater c.count (parts c e) (filling c e) (parts c g) (filling c g)
  no-later (inl h) = inl (bridge-agree c.count (parts c e) (parts c g) (point_in l) (point_in m) (filling c e) (filling c g) (some s c y P in_p)
      (some s c y Q in-q) (shown-over s c y P in_p room-p l hl) (shown-over s c y Q in-q room-q m hm) h)
  no-later (inr h) = inr (bridge-earlier c.count (parts c e) (parts c g) (point_in l) (point_in m) (filling c e) (filling c g) (some s c y P in_p)
      (some s c y Q in-q) (shown-over s c y P in_p room-p l hl) (shown-over s c y Q in-q room-q m hm) h)
