-- Going down the levels of a path.
--   Diving s j p q e k   the path q and the box e at level k, on their way from the path p at level j
use mathlib.Core.Path.{◌≡◌, refl, sym, ap, ap₂, ◌∙◌}
use mathlib.Core.List.{List}
use mathlib.Core.Logic.{◌≢◌}
use Prim.Native.Nat.{ℕ, suc, ◌+◌, ◌≤◌, ◌<◌}
use native.Mathlib.Numerals.{add-one}
use native.Mathlib.Omega.{arith}
use native.Mathlib.Decide.{dec_lt, ℕ_discrete}
use lib.ListN.{length, set, length-set}
use lib.IntN.{ℤ}
use lib.Signed.{◌≤ℤ◌}
use Rattle.greedy.specs.declared.Ends.{Ends}
use Rattle.greedy.specs.Fill.{at, fill, start}
use Rattle.greedy.specs.Sized.{Sized}
use Rattle.setting.specs.declared.Setting.{Setting}
use Rattle.search.specs.declared.Path.{Path}
use Rattle.setting.specs.Box.{level_at, spanned, fixed_in, fixed_by, InsideTo, Long}
use Rattle.search.specs.Search.{start_by}
use Rattle.search.specs.Tying.{ReadyTied}
use Rattle.search.specs.Steps.{LongPath, Dived, MoveInRange, MovedTo}
use Rattle.setting.proofs.Boxes.{at_same, at_other, fixed-cong}
use Rattle.search.proofs.Boxes.{fixed-sized}
use Rattle.search.proofs.Starts.{start-cong, start-in}

pub record Diving (s : Setting) (j : ℕ) (p q : Path) (e : Ends) (k : ℕ) : Type 0 where
  pub past : j ≤ k
  pub top : k ≤ s.levels
  pub long : LongPath q
  pub ends-are : e ≡ fixed_by s (at q.place) k
  pub inside : InsideTo s k (at q.place)
  pub kept : (i : ℕ) → i < j → (at q.place i ≡ at p.place i) × (at q.starts i ≡ at p.starts i)
  pub filled : (i : ℕ) → j ≤ i → i < k → (at q.place i ≡ start_by s (at q.place) i) × (at q.starts i ≡ at q.place i)
  pub beyond : (i : ℕ) → k ≤ i → (at q.place i ≡ at p.place i) × (at q.starts i ≡ at p.starts i)

pub diving-first : (s : Setting) (j : ℕ) (p : Path) (e : Ends) → j ≤ s.levels → LongPath p → e ≡ fixed_by s (at p.place) j → InsideTo s j (at p.place)
    → Diving s j p p e j
diving-first s j p e l g h n =
    record {
      past = omega arith;
      top = l;
      long = g;
      ends-are = h;
      inside = n;
      kept = λ i m. (refl, refl);
      filled = λ i m n. absurd (omega arith);
      beyond = λ i m. (refl, refl);
    }

-- the start of level k in the box e
abbrev pub start_in : Setting → Ends → ℕ → ℤ
start_in s e k = start s.cols e (fill s.cols e) (level_at s k)

-- the path with v at level k, which starts there
abbrev pub begun_at : Path → ℕ → ℤ → Path
begun_at q k v = record { place = set q.place k v; starts = set q.starts k v }

module _ (s : Setting) (r : ReadyTied s) (long : Long s.ends) (j : ℕ) (p : Path) where
  pub diving-sized : (q : Path) (e : Ends) (k : ℕ) → Diving s j p q e k → Sized s.cols e
  diving-sized q e k d = record { columns = r.order.sized; ends = rw d.ends-are (fixed-sized s r long (at q.place) k d.top d.inside) }

  pub diving-step : (q : Path) (e : Ends) (k : ℕ) → k < s.levels → Diving s j p q e k
      → Diving s j p (begun_at q k (start_in s e k)) (spanned e (level_at s k) (start_in s e k) (start_in s e k)) (k + 1)
  unfolding start_by fixed_in
  diving-step q e k l d = record {
    past = omega (arith, d.past);
    top = omega arith;
    long = record { place-long = simp length-set d.long.place-long; starts-long = simp length-set d.long.starts-long };
    ends-are = rw add-one own-ends;
    inside = λ i m. at_level i m (ℕ_discrete i k);
    kept = λ i m. (other_place i (omega (arith, d.past)) ∙ (d.kept i m).0, other-starts i (omega (arith, d.past)) ∙ (d.kept i m).1);
    filled = λ i m n. filled_at i m n (ℕ_discrete i k);
    beyond = λ i m. let h = d.beyond i (omega arith) in (other_place i (omega arith) ∙ h.0, other-starts i (omega arith) ∙ h.1);
  }
    where
      x : List ℤ
      x = q.place

      v : ℤ
      v = start_in s e k

      y : List ℤ
      y = set x k v

      v-is : v ≡ start_by s (at x) k
      v-is = ap (λ (e : Ends). start_in s e k) d.ends-are

      k-in : k < length x
      k-in = omega (arith, d.long.place-long, r.ready.few)

      other_place : (i : ℕ) → i ≢ k → at y i ≡ at x i
      other_place i ne = at_other x k v i ne

      other-starts : (i : ℕ) → i ≢ k → at (set q.starts k v) i ≡ at q.starts i
      other-starts i ne = at_other q.starts k v i ne

      own : at y k ≡ v
      own = at_same x k v k-in

      own-start : at (set q.starts k v) k ≡ v
      own-start = at_same q.starts k v (omega (arith, d.long.starts-long, r.ready.few))

      above : (n : ℕ) → n ≤ k → (i : ℕ) → i < n → at x i ≡ at y i
      above n m i o = sym (other_place i (omega arith))

      own-ends : spanned e (level_at s k) v v ≡ fixed_by s (at y) (suc k)
      own-ends = ap₂ (λ (e : Ends) (z : ℤ). spanned e (level_at s k) z z) (d.ends-are ∙ fixed-cong s (at x) (at y) k (above k (omega arith))) (sym own)

      at_level : (i : ℕ) → i < k + 1 → Dec (i ≡ k) → (at s.low i ≤ℤ at y i) × (at y i ≤ℤ at s.high i)
      at_level i m (yes z) = rw (z, own, v-is) (start-in s r long (at x) k l)
      at_level i m (no z) = rw (other_place i z) (d.inside i (omega arith))

      filled_at : (i : ℕ) → j ≤ i → i < k + 1 → Dec (i ≡ k) → (at y i ≡ start_by s (at y) i) × (at (set q.starts k v) i ≡ at y i)
      filled_at i m n (yes z) = rw z (own ∙ v-is ∙ start-cong s (at x) (at y) k (above k (omega arith)), own-start ∙ sym own)
      filled_at i m n (no z) =
          let h = d.filled i m (omega arith) in
          (other_place i z ∙ h.0 ∙ start-cong s (at x) (at y) i (above i (omega arith)), other-starts i z ∙ h.1 ∙ sym (other_place i z))

  pub diving-done : (q : Path) (e : Ends) (k : ℕ) → s.levels ≤ k → Diving s j p q e k → Dived s j p q
  diving-done q e k l d =
      record { kept = d.kept; filled = λ i m n. d.filled i m (omega arith); beyond = λ i m. d.beyond i (omega (arith, d.top)); long = d.long }

-- no level is left
pub dived-none : (s : Setting) (k : ℕ) (p : Path) → s.levels ≤ k → LongPath p → Dived s k p p
dived-none s k p l g = record { kept = λ i m. (refl, refl); filled = λ i m n. absurd (omega arith); beyond = λ i m. (refl, refl); long = g }

-- ---- turning at a level

module _ (s : Setting) (t : Path) (j : ℕ) (v : ℤ) (h : MoveInRange s t j v) (long : LongPath t) where
  j-in : j < length t.place
  j-in = omega (arith, long.place-long, h.ready.ready.few, h.level_in)

  pub moved_inside : InsideTo s (j + 1) (at (set t.place j v))
  moved_inside d l = go (ℕ_discrete d j)
    where
      go : Dec (d ≡ j) → (at s.low d ≤ℤ at (set t.place j v) d) × (at (set t.place j v) d ≤ℤ at s.high d)
      go (yes q) = rw (q, at_same t.place j v j-in) (h.low, h.high)
      go (no q) = rw (at_other t.place j v d q) (h.started.inside d (omega (arith, h.level_in)))

  pub moved_by : (r : Path) → Dived s (j + 1) (record { place = set t.place j v; starts = t.starts }) r → MovedTo s t j v r
  moved_by r d = record {
    above = λ i l. (d.kept i (omega arith)).0 ∙ at_other t.place j v i (omega arith);
    here = (d.kept j (omega arith)).0 ∙ at_same t.place j v j-in;
    deeper = λ i l m. (d.filled i (omega arith) m).0;
    starts = λ i l. go i l (dec_lt i (j + 1));
    beyond = λ i l. let f = d.beyond i l in (f.0 ∙ at_other t.place j v i (omega (arith, h.level_in)), f.1);
    long = d.long;
  }
    where
      go : (i : ℕ) → i < s.levels → Dec (i < j + 1) → at r.starts i ≡ start_by s (at r.place) i
      go i l (yes q) = (d.kept i q).1 ∙ h.started.starts i l ∙ start-cong s (at t.place) (at r.place) i
          (λ k o. sym ((d.kept k (omega arith)).0 ∙ at_other t.place j v k (omega arith)))
      go i l (no q) = let f = d.filled i (omega arith) l in f.1 ∙ f.0
