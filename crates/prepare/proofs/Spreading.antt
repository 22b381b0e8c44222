-- Tables of pairs, spread.
-- fits-few; steps-are: both steps of a pair, zeros where there is none; spread-first, spread-step: the turns of the loop that spreads them.
-- all_short: no step is long. ready: what is spread from the table of a problem's least pairs is true of its columns.
use Rattle.std.specs.Prelude.{Option, None, Some}
use Rattle.std.specs.Option.{unwrap_or}
use mathlib.Core.Path.{◌≡◌, refl, sym, ◌∙◌, subst}
use mathlib.Core.Bool.{Bool}
use mathlib.Core.List.{List}
use mathlib.Core.Logic.{◌≢◌}
use Prim.Native.Nat.{ℕ, zero, suc, ◌+◌, ◌*◌, ◌/◌, ◌%◌, ◌≤◌, ◌<◌}
use native.Mathlib.Decide.{dec_lt}
use native.Mathlib.Omega.{arith}
use lib.Dec.{lit<}
use lib.IntN.{ℤ, pos, nat_abs}
use lib.ListN.{length, get_or, replicate, length-set, length-replicate}
use lib.Seq.{get_or-set_same, get_or-set_other}
use mir.Syntax.{w16}
use mir.Val.{SFits}
use Rattle.arith.proofs.Parts.{within-abs, abs-within, within-width}
use Rattle.knapsack.specs.declared.Problem.{Problem}
use Rattle.model.specs.Records.{FiguresInRange}
use Rattle.domination.specs.Pairs.{tabled}
use Rattle.domination.proofs.Entry.{tabled-steps}
use Rattle.greedy.specs.declared.Columns.{Columns}
use Rattle.greedy.specs.Fill.{at}
use Rattle.setting.specs.declared.Pairs.{Pairs}
use Rattle.setting.specs.Ready.{pair_index, TruePair, ReadyPairs}
use Rattle.prepare.specs.Pairs.{first_step, second_step, Short, no_steps, with_pair, Holds, Spread, Agrees}

-- ---- the loop

-- a short step fits the few bits of its table
pub fits-few : (z : ℤ) → nat_abs z ≤ 1000 → SFits w16 z
fits-few z h = within-width w16 (lit< tt) (abs-within z h)

pub steps-are : (q : Option (ℤ × ℤ)) → unwrap_or q (pos 0, pos 0) ≡ (first_step q, second_step q)
steps-are None = refl
steps-are (Some (a, b)) = refl

zero-at : (n k : ℕ) → at (replicate n (pos 0)) k ≡ pos 0
zero-at zero k = refl
zero-at (suc n) zero = refl
zero-at (suc n) (suc k) = zero-at n k

pub spread-first : (t : List (Option (ℤ × ℤ))) → Spread t 0 no_steps
spread-first t = record {
  first-length = length-replicate 256 (pos 0);
  second-length = length-replicate 256 (pos 0);
  held = λ k h. absurd (omega arith);
  rest = λ k h. record { first_step = zero-at 256 k; second-step = zero-at 256 k };
}

-- a pair stands where it was put
stands : (r : Pairs) (n : ℕ) (q : Option (ℤ × ℤ)) → n < length r.first → n < length r.second → Holds (with_pair r n q) n q
stands r n q l m = record {
  first_step = get_or-set_same r.first n (first_step q) (pos 0) l;
  second-step = get_or-set_same r.second n (second_step q) (pos 0) m;
}

-- and the other places keep theirs
stays : (r : Pairs) (n : ℕ) (q : Option (ℤ × ℤ)) (k : ℕ) (o : Option (ℤ × ℤ)) → k ≢ n → Holds r k o → Holds (with_pair r n q) k o
stays r n q k o ne h = record {
  first_step = get_or-set_other r.first n k (first_step q) (pos 0) ne ∙ h.first_step;
  second-step = get_or-set_other r.second n k (second_step q) (pos 0) ne ∙ h.second-step;
}

pub spread-step : (t : List (Option (ℤ × ℤ))) (n : ℕ) (r : Pairs) → n < 256 → Spread t n r → Spread t (n + 1) (with_pair r n (get_or t n None))
spread-step t n r l s = record {
  first-length = length-set r.first n (first_step q) ∙ s.first-length;
  second-length = length-set r.second n (second_step q) ∙ s.second-length;
  held = λ k h. at_place k h (dec_lt k n);
  rest = λ k h. stays r n q k None (omega arith) (s.rest k (omega arith));
}
  where
    q : Option (ℤ × ℤ)
    q = get_or t n None

    here : Holds (with_pair r n q) n q
    here = stands r n q (omega (arith, s.first-length)) (omega (arith, s.second-length))

    at_place : (k : ℕ) → k < n + 1 → Dec (k < n) → Holds (with_pair r n q) k (get_or t k None)
    at_place k h (yes m) = stays r n q k (get_or t k None) (omega arith) (s.held k m)
    at_place k h (no m) = let e : k ≡ n = omega arith in rw e here

-- ---- the least pairs of a problem

abbrev Tabled : Problem → List Bool → List (Option (ℤ × ℤ)) → Type 0
Tabled p named t = (i j : ℕ) → i < 16 → j < 16 → get_or t (16 * i + j) None ≡ tabled p named i j

module _ (p : Problem) (range : FiguresInRange p) (named : List Bool) where
  steps-small : (i j : ℕ) (q : Option (ℤ × ℤ)) → tabled p named i j ≡ q → Short q
  steps-small i j None e = (omega arith, omega arith)
  steps-small i j (Some (a, b)) e = let h = tabled-steps a b p range named i j e in (within-abs a h.first_small, within-abs b h.second-small)

  entry : (t : List (Option (ℤ × ℤ))) → Tabled p named t → (k : ℕ) → k < 256 → get_or t k None ≡ tabled p named (k / 16) (k % 16)
  entry t f k l = let e : 16 * (k / 16) + k % 16 ≡ k = omega arith in rw e at (f (k / 16) (k % 16) (omega arith) (omega arith))

  pub all_short : (t : List (Option (ℤ × ℤ))) → Tabled p named t → (k : ℕ) → k < 256 → Short (get_or t k None)
  all_short t f k l = steps-small (k / 16) (k % 16) (get_or t k None) (sym (entry t f k l))

  module _ (r : Pairs) where
    small_at : (k : ℕ) (q : Option (ℤ × ℤ)) → Holds r k q → Short q → (nat_abs (at r.first k) ≤ 1000) × (nat_abs (at r.second k) ≤ 1000)
    small_at k q h s = rw (h.first_step, h.second-step) s

    true-pair : (c : Columns) → Agrees p c → (i j : ℕ) (q : Option (ℤ × ℤ)) → tabled p named i j ≡ q → Holds r (pair_index i j) q → at r.first (pair_index i j) ≢ pos 0
        → TruePair c r i j
    true-pair c g i j None e h ne = absurd (ne h.first_step)
    true-pair c g i j (Some (a, b)) e h ne =
        let s = tabled-steps a b p range named i j e in
        record {
          heavy = rw (h.first_step, h.second-step, g.weights-agree i s.first-place, g.weights-agree j s.second-place) s.pair.heavy;
          loss = rw (h.first_step, h.second-step, g.prices-agree i s.first-place, g.prices-agree j s.second-place) s.pair.loss;
        }

    pub held : (t : List (Option (ℤ × ℤ))) → Tabled p named t → Spread t 256 r → (k : ℕ) → k < 256 → Holds r k (tabled p named (k / 16) (k % 16))
    held t f s k l = subst (Holds r k) (entry t f k l) (s.held k l)

    pub ready : (t : List (Option (ℤ × ℤ))) → Tabled p named t → Spread t 256 r → (c : Columns) → Agrees p c → ReadyPairs c r
    ready t f s c g = record {
      steps-in = λ k. steps-in k (dec_lt k 256);
      pairs = λ i j hi hj. true-pair c g i j (get_or t (16 * i + j) None) (sym (f i j hi hj)) (s.held (16 * i + j) (omega arith));
    }
      where
        steps-in : (k : ℕ) → Dec (k < 256) → (nat_abs (at r.first k) ≤ 1000) × (nat_abs (at r.second k) ≤ 1000)
        steps-in k (yes l) = small_at k (get_or t k None) (s.held k l) (all_short t f k l)
        steps-in k (no l) = small_at k None (s.rest k (omega arith)) (omega arith, omega arith)
