-- Amounts that alone cost too much are taken out: what is left has the same offset, and every filling that costs less than the cap.
-- near_within, near-inside: the narrowed ranges are within the ranges. near-offset: the offset stays. near-keeps: what costs less than the cap stays.
use mathlib.Core.Path.{◌≡◌, refl, ap₂}
use mathlib.Core.Bool.{Bool, true, false, cond}
use Prim.Native.Nat.{ℕ, ◌+◌, ◌*◌, ◌-◌, ◌/◌, ◌≤◌, ◌<◌, min}
use native.Mathlib.Omega.{arith}
use native.Mathlib.Nat.{le-div_iff_mul-le}
use lib.Dec.{eqb}
use lib.ListN.{length}
use borrow.Author.Tests.{eqb-true, eqb-false}
use Rattle.scales.specs.Filling.{cost}
use Rattle.scales.proofs.Sums.{sum-cong, sum-part}
use Rattle.fillings.specs.declared.Parts.{Parts}
use Rattle.fillings.specs.declared.Ranges.{Ranges}
use Rattle.fillings.specs.Ranges.{num, items_in, Inside, Among, offset_at, offset_of, near_wide, near_low, Narrows}
use Rattle.fillings.proofs.Boxes.{Shifted, from_low, shifted_of, shifted-cost}

pub near_within : (left t l wide : ℕ) → near_wide left t l wide ≤ wide
near_within left t l wide = go _ _ (eqb l 0) (eqb t 0)
  where
    below : (n : ℕ) → min wide n ≤ wide
    below n = omega arith

    go : (m n : ℕ) (a b : Bool) → cond a (cond b wide (min wide m)) (cond b (min wide n) wide) ≤ wide
    go m n true true = omega arith
    go m n true false = below m
    go m n false true = below n
    go m n false false = omega arith

-- ---- one part

module _ (left t l low wide : ℕ) where
  abbrev wide' : ℕ
  wide' = near_wide left t l wide

  abbrev low' : ℕ
  low' = near_low left t l low wide

  at_most : low' + wide' ≤ low + wide
  at_most = go (eqb t 0) (near_within left t l wide)
    where
      go : (b : Bool) → wide' ≤ wide → cond b (low + (wide - wide')) low + wide' ≤ low + wide
      go true h = omega arith
      go false h = omega arith

  at_least : low ≤ low'
  at_least = go (eqb t 0)
    where
      go : (b : Bool) → low ≤ cond b (low + (wide - wide')) low
      go true = omega arith
      go false = omega arith

  offset-same : (u : ℕ) → low + wide ≤ u → t * low' + l * (u - (low' + wide')) ≡ t * low + l * (u - (low + wide))
  offset-same u h = go _ _ (eqb l 0) refl (eqb t 0) refl
    where
      free : (x y : ℕ) → l ≡ 0 → t * low + l * x ≡ t * low + l * y
      free x y e = rw e (omega arith)

      none : (x y : ℕ) → t ≡ 0 → t * x ≡ t * y
      none x y e = rw e (omega arith)

      whole : (x y : ℕ) → x ≤ wide → u - ((low + (wide - x)) + x) ≡ u - (low + wide)
      whole x y k = omega arith

      below : (n : ℕ) → min wide n ≤ wide
      below n = omega arith

      go : (m n : ℕ) (a : Bool) → eqb l 0 ≡ a → (b : Bool) → eqb t 0 ≡ b
          → t * cond b (low + (wide - cond a (cond b wide (min wide m)) (cond b (min wide n) wide))) low
          + l * (u - (cond b (low + (wide - cond a (cond b wide (min wide m)) (cond b (min wide n) wide))) low + cond a (cond b wide (min wide m))
          (cond b (min wide n) wide))) ≡ t * low + l * (u - (low + wide))
      go m n true e true f = ap₂ (λ (x y : ℕ). x + l * y) (none (low + (wide - wide)) low (eqb-true t 0 f)) (whole wide 0 (omega arith))
      go m n true e false f = free (u - (low + min wide m)) (u - (low + wide)) (eqb-true l 0 e)
      go m n false e true f = ap₂ (λ (x y : ℕ). x + l * y) (none (low + (wide - min wide n)) low (eqb-true t 0 f)) (whole (min wide n) 0 (below n))
      go m n false e false f = refl

  -- z units from low on that cost less than left stay
  keeps : (z : ℕ) → z ≤ wide → t * z + l * (wide - z) < left → (low' ≤ low + z) × (low + z ≤ low' + wide')
  keeps z h k = go _ _ (eqb l 0) refl (eqb t 0) refl (λ e f. few t z f (priced-taken e)) (λ e f. few l (wide - z) f (priced-left e))
    where
      few : (c x : ℕ) → (c ≡ 0 → ⊥) → c * x < left → x ≤ (left - 1) / c
      few c x ne i = (le-div_iff_mul-le {k = c} {x = x} {y = left - 1} (omega arith)).1 (omega arith)

      priced-taken : l ≡ 0 → t * z < left
      priced-taken e = omega arith

      priced-left : t ≡ 0 → l * (wide - z) < left
      priced-left e = omega arith

      -- of m units that may be taken, of n that may be left
      go : (m n : ℕ) (a : Bool) → eqb l 0 ≡ a → (b : Bool) → eqb t 0 ≡ b → (l ≡ 0 → (t ≡ 0 → ⊥) → z ≤ m) → (t ≡ 0 → (l ≡ 0 → ⊥) → wide - z ≤ n)
          → (cond b (low + (wide - cond a (cond b wide (min wide m)) (cond b (min wide n) wide))) low ≤ low + z)
          × (low + z ≤ cond b (low + (wide - cond a (cond b wide (min wide m)) (cond b (min wide n) wide))) low
          + cond a (cond b wide (min wide m)) (cond b (min wide n) wide))
      go m n true e true f x y = (omega arith, omega arith)
      go m n true e false f x y = (omega arith, omega (arith, x (eqb-true l 0 e) (eqb-false t 0 f)))
      go m n false e true f x y = let i = y (eqb-true t 0 f) (eqb-false l 0 e) in (omega arith, omega arith)
      go m n false e false f x y = (omega arith, omega arith)

-- ---- all parts

module _ (p : Parts) (r r' : Ranges) (left : ℕ) (long : length p.weight ≡ 17) (among : Among p r) (n : Narrows p left r r') where
  pub near-among : Among p r'
  near-among j l = rw (n.lows.each j l, n.wides.each j l)
      (omega (arith, among j l, at_most left (num p.taken j) (num p.left j) (num r.low j) (num r.wide j)))

  pub near-wide-in : (j : ℕ) → j < 17 → num r'.wide j ≤ num r.wide j
  near-wide-in j l = rw (n.wides.each j l) (near_within left (num p.taken j) (num p.left j) (num r.wide j))

  pub near-inside : (y : ℕ → ℕ) → Inside r' y → Inside r y
  near-inside y h j l = let a = rw (n.lows.each j l) at (h j l).0 in let b = rw (n.lows.each j l, n.wides.each j l) at (h j l).1 in (
    omega (arith, at_least left (num p.taken j) (num p.left j) (num r.low j) (num r.wide j)),
    omega (arith, at_most left (num p.taken j) (num p.left j) (num r.low j) (num r.wide j)),
  )

  pub near-offset : offset_of p r' ≡ offset_of p r
  unfolding offset_of
  near-offset = sum-cong (length p.weight) (offset_at p r') (offset_at p r) (λ j l. let m : j < 17 = omega (arith, long) in
      rw (n.lows.each j m, n.wides.each j m) (offset-same left (num p.taken j) (num p.left j) (num r.low j) (num r.wide j)
      (num p.range j) (among j m)))

  pub near-keeps : (y : ℕ → ℕ) → Inside r y → cost (items_in p) y < offset_of p r + left → Inside r' y
  near-keeps y h k j l = rw (n.lows.each j l, n.wides.each j l)
      (rw (← s.up j l) at (keeps left (num p.taken j) (num p.left j) (num r.low j) (num r.wide j) (z j) (s.few j l) own))
    where
      z : ℕ → ℕ
      z = from_low r y

      s : Shifted r y z
      s = shifted_of r y h

      own : num p.taken j * z j + num p.left j * (num r.wide j - z j) < left
      own = omega (
        arith,
        shifted-cost p r long among y z s,
        sum-part (length p.weight) (λ i. num p.taken i * z i + num p.left i * (num r.wide i - z i)) j (omega (arith, long)),
      )
