-- The boxes of a search: the setting's, with some levels fixed.
--   orderOf s        the order of places
-- fixed-level, fixed-other: the ends of a fixed level's item, and of the others.
-- fixed-sized, fixed-order: a box with levels fixed inside stays in its ranges and in order.
-- order-laws: starts hang on the levels above, and lie within their ends.
use mathlib.Core.Path.{◌≡◌, refl, sym, ap₂, ◌∙◌, subst}
use mathlib.Core.List.{List}
use mathlib.Core.Logic.{◌≢◌}
use Prim.Native.Nat.{ℕ, zero, suc, ◌≤◌, ◌<◌}
use native.Mathlib.Omega.{arith}
use native.Mathlib.Decide.{ℕ_discrete}
use lib.ListN.{length, set, length-set}
use lib.Seq.{get_or-set_same, get_or-set_other}
use lib.IntN.{ℤ, pos}
use lib.Signed.{◌≤ℤ◌, ≤ℤ_refl}
use Rattle.arith.specs.Limits.{farthest}
use Rattle.arith.specs.Sum.{Each}
use Rattle.arith.specs.Within.{Within}
use Rattle.arith.proofs.Parts.{zs, to-within}
use Rattle.greedy.specs.declared.Ends.{Ends}
use Rattle.greedy.specs.Fill.{at}
use Rattle.greedy.specs.Sized.{SizedEnds}
use Rattle.greedy.proofs.Relaxed.{InOrder}
use Rattle.setting.specs.declared.Setting.{Setting}
use Rattle.setting.specs.Box.{level_at, spanned, fixed_in, fixed_by, InsideTo, Long}
use Rattle.setting.specs.Ready.{ReadySetting}

-- ---- one entry set

pub at_same : (l : List ℤ) (k : ℕ) (v : ℤ) → k < length l → at (set l k v) k ≡ v
at_same l k v h = get_or-set_same l k v (pos 0) h

pub at_other : (l : List ℤ) (k : ℕ) (v : ℤ) (i : ℕ) → i ≢ k → at (set l k v) i ≡ at l i
at_other l k v i h = get_or-set_other l k i v (pos 0) h

-- a property of all entries survives, if it holds of the new one
at_all : (P : ℤ → Type 0) (l : List ℤ) (k : ℕ) (v : ℤ) → k < length l → ((i : ℕ) → P (at l i)) → P v → (i : ℕ) → P (at (set l k v) i)
at_all P l k v h all new i = go (ℕ_discrete i k)
  where
    go : Dec (i ≡ k) → P (at (set l k v) i)
    go (yes e) = rw (e, at_same l k v h) new
    go (no e) = rw (at_other l k v i e) (all i)

pub span-long : (e : Ends) (k : ℕ) (l u : ℤ) → Long e → Long (spanned e k l u)
span-long e k l u h = record { lo-long = simp length-set h.lo-long; hi-long = simp length-set h.hi-long }

pub span-sized : (e : Ends) (k : ℕ) (l u : ℤ) → Long e → k < 16 → Within farthest l → Within farthest u → SizedEnds e → SizedEnds (spanned e k l u)
span-sized e k l u h n wl wu z = record {
  lo-in = at_all (Within farthest) e.lo k l (omega (arith, h.lo-long)) z.lo-in wl;
  hi-in = at_all (Within farthest) e.hi k u (omega (arith, h.hi-long)) z.hi-in wu;
}

-- what lies between two numbers in a range is in it
pub between : {n : ℕ} (l u x : ℤ) → Within n l → Within n u → l ≤ℤ x → x ≤ℤ u → Within n x
between l u x wl wu h k =
    to-within (omega (arith, zs, wl.above, wl.below, wu.above, wu.below)) (omega (arith, zs, wl.above, wl.below, wu.above, wu.below))

module _ (s : Setting) (r : ReadySetting s) (long : Long s.ends) where
  pub item<16 : (d : ℕ) → d < s.levels → level_at s d < 16
  item<16 d l = omega (arith, r.level_in d l, r.sized.columns.few)

  pub fixed-long : (P : ℕ → ℤ) (d : ℕ) → Long (fixed_by s P d)
  unfolding fixed_in
  fixed-long P zero = long
  fixed-long P (suc d) = span-long (fixed_by s P d) (level_at s d) (P d) (P d) (fixed-long P d)

  -- an item of none of the levels passed keeps its ends
  pub fixed-other : (P : ℕ → ℤ) (d k : ℕ) → ((j : ℕ) → j < d → level_at s j ≢ k) → (at (fixed_by s P d).lo k ≡ at s.ends.lo k)
      × (at (fixed_by s P d).hi k ≡ at s.ends.hi k)
  unfolding fixed_in
  fixed-other P zero k h = (refl, refl)
  fixed-other P (suc d) k h =
      let ih = fixed-other P d k (λ j l. h j (omega arith)) in
      let ne : k ≢ level_at s d = λ e. h d (omega arith) (sym e) in
      (at_other (fixed_by s P d).lo (level_at s d) (P d) k ne ∙ ih.0, at_other (fixed_by s P d).hi (level_at s d) (P d) k ne ∙ ih.1)

  -- a level passed stands at its amount
  pub fixed-level : (P : ℕ → ℤ) (d j : ℕ) → d ≤ s.levels → j < d → (at (fixed_by s P d).lo (level_at s j) ≡ P j) × (at (fixed_by s P d).hi (level_at s j) ≡ P j)
  unfolding fixed_in
  fixed-level P zero j n l = absurd (omega arith)
  fixed-level P (suc d) j n l = go (ℕ_discrete j d) (λ m. fixed-level P d j (omega arith) m)
    where
      e : Ends
      e = fixed_by s P d

      go : Dec (j ≡ d) → (j < d → (at e.lo (level_at s j) ≡ P j) × (at e.hi (level_at s j) ≡ P j))
          → (at (set e.lo (level_at s d) (P d)) (level_at s j) ≡ P j) × (at (set e.hi (level_at s d) (P d)) (level_at s j) ≡ P j)
      go (yes q) ih = rw q (
        at_same e.lo (level_at s d) (P d) (omega (arith, (fixed-long P d).lo-long, item<16 d (omega arith))),
        at_same e.hi (level_at s d) (P d) (omega (arith, (fixed-long P d).hi-long, item<16 d (omega arith))),
      )
      go (no q) ih =
          let ne : level_at s j ≢ level_at s d = λ h. q (r.distinct j d (omega arith) (omega arith) h) in
          let h = ih (omega arith) in
          (at_other e.lo (level_at s d) (P d) (level_at s j) ne ∙ h.0, at_other e.hi (level_at s d) (P d) (level_at s j) ne ∙ h.1)

  -- the level itself still has its own ends
  pub fixed-own : (P : ℕ → ℤ) (d : ℕ) → d < s.levels → (at (fixed_by s P d).lo (level_at s d) ≡ at s.low d)
      × (at (fixed_by s P d).hi (level_at s d) ≡ at s.high d)
  fixed-own P d l =
      let h = fixed-other P d (level_at s d) (λ j m e. apart j m (r.distinct j d (omega arith) l e)) in
      (h.0 ∙ sym (r.low-is d l), h.1 ∙ sym (r.high_is d l))
    where
      apart : (j : ℕ) → j < d → j ≡ d → ⊥
      apart j m e = omega arith

  pub low-within : (d : ℕ) → d < s.levels → Within farthest (at s.low d)
  low-within d l = subst (Within farthest) (sym (r.low-is d l)) (r.sized.ends.lo-in (level_at s d))

  pub high-within : (d : ℕ) → d < s.levels → Within farthest (at s.high d)
  high-within d l = subst (Within farthest) (sym (r.high_is d l)) (r.sized.ends.hi-in (level_at s d))

  pub inside-within : (P : ℕ → ℤ) (n d : ℕ) → n ≤ s.levels → d < n → InsideTo s n P → Within farthest (P d)
  inside-within P n d m l h = between (at s.low d) (at s.high d) (P d) (low-within d (omega arith)) (high-within d (omega arith)) (h d l).0 (h d l).1

  pub fixed-sized : (P : ℕ → ℤ) (d : ℕ) → d ≤ s.levels → InsideTo s d P → SizedEnds (fixed_by s P d)
  unfolding fixed_in
  fixed-sized P zero l h = r.sized.ends
  fixed-sized P (suc d) l h =
      let w = inside-within P (suc d) d l (omega arith) h in
      span-sized (fixed_by s P d) (level_at s d) (P d) (P d) (fixed-long P d) (item<16 d (omega arith)) w w
      (fixed-sized P d (omega arith) (λ j m. h j (omega arith)))

  -- a box whose item k has the ends l ≤ u is in order if the rest is
  pub span-order : (e : Ends) (k : ℕ) (l u : ℤ) → Long e → k < 16 → l ≤ℤ u → InOrder s.cols e → InOrder s.cols (spanned e k l u)
  span-order e k l u g n h o j m = go (ℕ_discrete j k)
    where
      go : Dec (j ≡ k) → at (set e.lo k l) j ≤ℤ at (set e.hi k u) j
      go (yes q) = rw (q, at_same e.lo k l (omega (arith, g.lo-long)), at_same e.hi k u (omega (arith, g.hi-long))) h
      go (no q) = rw (at_other e.lo k l j q, at_other e.hi k u j q) (o j m)

  pub fixed-order : (P : ℕ → ℤ) (d : ℕ) → d ≤ s.levels → InOrder s.cols (fixed_by s P d)
  unfolding fixed_in
  fixed-order P zero l = r.in_order
  fixed-order P (suc d) l =
      span-order (fixed_by s P d) (level_at s d) (P d) (P d) (fixed-long P d) (item<16 d (omega arith)) (≤ℤ_refl (P d)) (fixed-order P d (omega arith))

-- the levels above alone count
pub fixed-cong : (s : Setting) (P Q : ℕ → ℤ) (d : ℕ) → Each d (λ k. P k ≡ Q k) → fixed_by s P d ≡ fixed_by s Q d
unfolding fixed_in
fixed-cong s P Q zero h = refl
fixed-cong s P Q (suc d) h = ap₂ (λ (e : Ends) (v : ℤ). spanned e (level_at s d) v v) (fixed-cong s P Q d (λ k l. h k (omega arith))) (h d (omega arith))
