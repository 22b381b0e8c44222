-- The room of a box, and its losses where there is none.
-- foot-light: where an item weighs least. room-begun: the room is that of the filling's start; room_in: how large it gets. roomless: no room, no point.
-- floor-zero: nothing is lost below 0.
use mathlib.Core.Path.{◌≡◌, refl, sym, ap, subst}
use mathlib.Core.Bool.{Bool, true, false, cond}
use Prim.Native.Nat.{ℕ, zero, suc, ◌≤◌, ◌<◌}
use native.Mathlib.Omega.{arith}
use lib.IntN.{ℤ, pos, ◌-ℤ◌, ◌*ℤ◌}
use lib.Signed.{◌≤ℤ◌, ◌<ℤ◌, ≤ℤ_refl, lt_z}
use Rattle.arith.specs.Sum.{sum}
use Rattle.arith.specs.Within.{Within}
use Rattle.arith.proofs.Integers.{split, split2, split3, zed, ≤ℤ-trans, ≤ℤ-antisym, +ℤ-mono, times-≤-back}
use Rattle.arith.proofs.Sums.{sum_mono, sum-cong, sum-times}
use Rattle.arith.proofs.Words.{yes_lt, no_lt}
use Rattle.arith.proofs.Parts.{within-sub}
use Rattle.greedy.specs.declared.Columns.{Columns}
use Rattle.greedy.specs.declared.Ends.{Ends}
use Rattle.greedy.specs.Fill.{at, weight_of, price_of, lightest, light_of, begun}
use Rattle.greedy.specs.Sized.{Sized}
use Rattle.greedy.proofs.Sizes.{corner-weight-within}
use Rattle.ceiling.specs.Loss.{score_of, weigh_of, Point, Floor}
use Rattle.ceiling.specs.Pieces.{foot_by, foot_of, room_by}
use Rattle.ceiling.proofs.Loss.{term, loss-is, terms≥0, slack≥0}
use Rattle.ceiling.proofs.Pieces.{apart}

-- where an item weighs least, for one of any weight
foot-light : (a c l u : ℤ) → a *ℤ foot_by a l u ≡ a *ℤ lightest a c l u
foot-light a c l u = go (lt_z (pos 0) a) (lt_z a (pos 0)) refl refl
  where
    zero_is : (a x y : ℤ) → a ≤ℤ pos 0 → pos 0 ≤ℤ a → a *ℤ x ≡ a *ℤ y
    zero_is a x y h k = rw (≤ℤ-antisym h k) (none x y)
      where
        none : (x y : ℤ) → pos 0 *ℤ x ≡ pos 0 *ℤ y
        none = split2 _ (λ a b c e. simp zed (omega arith))

    clash : (a : ℤ) → pos 0 <ℤ a → a <ℤ pos 0 → ⊥
    clash = split _ (λ a b. simp zed (omega arith))

    go : (t s : Bool) → lt_z (pos 0) a ≡ t → lt_z a (pos 0) ≡ s → a *ℤ cond s u l ≡ a *ℤ cond t l (cond s u (cond (lt_z (pos 0) c) u l))
    go true true h k = absurd (clash a (yes_lt h) (yes_lt k))
    go true false h k = refl
    go false true h k = refl
    go false false h k = zero_is a l (cond (lt_z (pos 0) c) u l) (no_lt h) (no_lt k)

pub room-begun : (c : Columns) (e : Ends) → (begun c e).room ≡ room_by c e
room-begun c e = ap (λ z. c.capacity -ℤ z) (sum-cong c.count (λ k. weight_of c k *ℤ light_of c e k) (λ k. weight_of c k *ℤ foot_of c e k)
    (λ k l. sym (foot-light (weight_of c k) (price_of c k) (at e.lo k) (at e.hi k))))

pub room_in : (c : Columns) (e : Ends) → Sized c e → Within 4800100000000 (begun c e).room
room_in c e z = within-sub z.columns.capacity-in (corner-weight-within c e z c.count z.columns.few)

-- no room: no point
pub roomless : (p q : ℕ) (c : Columns) (e : Ends) (E cut r : ℕ) → 1 ≤ E → room_by c e <ℤ pos 0 → Floor p q c e E cut r
roomless p q c e E cut r h k = record { floor = λ N pt. absurd (none N pt) }
  where
    F : ℤ
    F = sum c.count (λ j. weight_of c j *ℤ foot_of c e j)

    least : (N : ℕ → ℤ) → Point c e E cut N → (F *ℤ pos E) ≤ℤ weigh_of c N
    least N pt = subst (λ z. z ≤ℤ weigh_of c N) (sum-times c.count (weight_of c) (foot_of c e) E)
        (sum_mono c.count (λ j. weight_of c j *ℤ (foot_of c e j *ℤ pos E)) (λ j. weight_of c j *ℤ N j) (λ j l. light j l))
      where
        turn : (a f x : ℤ) (n : ℕ) → a *ℤ x -ℤ (a *ℤ f) *ℤ pos E ≡ pos n → (a *ℤ (f *ℤ pos E)) ≤ℤ (a *ℤ x)
        turn = split3 _ (λ a b c e f g n. simp zed (omega arith))

        light : (j : ℕ) → j < c.count → (weight_of c j *ℤ (foot_of c e j *ℤ pos E)) ≤ℤ (weight_of c j *ℤ N j)
        light j l = let a = apart E (at e.lo j) (at e.hi j) (N j) (pt.above j l) (pt.below j l) h (weight_of c j) (score_of p q c j) in
            turn (weight_of c j) (foot_of c e j) (N j) _ a.weigh

    none : (N : ℕ → ℤ) → Point c e E cut N → ⊥
    none N pt = clash E h c.capacity F (weigh_of c N) k (least N pt) pt.fits
      where
        clash : (E : ℕ) → 1 ≤ E → (B F W : ℤ) → (B -ℤ F) <ℤ pos 0 → (F *ℤ pos E) ≤ℤ W → W ≤ℤ (B *ℤ pos E) → ⊥
        clash E h B F W k l m = off B F k (times-≤-back E F B h (≤ℤ-trans l m))
          where
            off : (B F : ℤ) → (B -ℤ F) <ℤ pos 0 → F ≤ℤ B → ⊥
            off = split2 _ (λ a b c e. simp zed (omega arith))

-- nothing is lost below 0
pub floor-zero : (p q : ℕ) (c : Columns) (e : Ends) (E cut : ℕ) → Floor p q c e E cut 0
floor-zero p q c e E cut = record {
  floor = λ N pt. rw (loss-is p q c e E N)
      (+ℤ-mono {x = pos 0} (sum≥0 c.count (term p q c e E N) (λ k l. terms≥0 p q c e E N pt.above pt.below pt.fits k l))
      (slack≥0 p q c e E N pt.above pt.below pt.fits));
}
  where
    sum≥0 : (n : ℕ) (f : ℕ → ℤ) → ((k : ℕ) → k < n → pos 0 ≤ℤ f k) → pos 0 ≤ℤ sum n f
    sum≥0 zero f h = ≤ℤ_refl (pos 0)
    sum≥0 (suc n) f h = +ℤ-mono {x = pos 0} (sum≥0 n f (λ k l. h k (omega arith))) (h n (omega arith))
