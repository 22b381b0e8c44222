-- Laws of numbers on a sheet (specs/Numbers.antt).
-- digit-yes, digit-same, leading-yes: what a byte is.
-- run_more, run-stop, run_end: a run of digits, a byte at a time. run-plain, run-splits, run-leads, run-append: what it is.
-- Reading, reading-more, reading-done: a run of digits as far as it was read.
-- saturate: a value that stops at a bound stays right up to the bound.
-- ranged-in: a number that is in is the number itself, and lies in its range.
use mathlib.Core.Path.{◌≡◌, refl, sym, ap, ◌∙◌}
use mathlib.Core.Bool.{Bool, true, false, cond}
use mathlib.Core.List.{List, [], ◌∷◌, ◌++◌}
use Prim.Native.Nat.{ℕ, zero, suc, ◌+◌, ◌*◌, ◌-◌, ◌≤◌, ◌<◌, min}
use native.Mathlib.Omega.{arith}
use native.Mathlib.Numerals.{add-one}
use borrow.Author.Tests.{lt-ltb, le-ltb, ltb-true, ltb-false}
use lib.Dec.{ltb}
use Rattle.std.specs.Char.{is_ascii_digit}
use lib.IntN.{ℤ, pos, negsuc, neg_ℤ}
use lib.ListN.{length, drop, get_or, drop_of_length-le}
use lib.Seq.{drop-cons}
use lib.Signed.{lt_z, ◌≤ℤ◌}
use Rattle.arith.specs.Within.{Within}
use Rattle.arith.proofs.Words.{no_lt}
use Rattle.text.specs.Decimal.{read_after, Plain}
use Rattle.lines.specs.declared.number.Range.{Range}
use Rattle.lines.specs.Numbers.{is_digit, is_leading, digit_run, RunFrom, signed_of, ranged, Narrow}
use Rattle.std.specs.Prelude.{None, Some}

pub digit-yes : (b : ℕ) → 48 ≤ b → b ≤ 57 → is_digit b ≡ true
digit-yes b h k = rw (le-ltb b 48 h, lt-ltb b 58 (omega arith))

-- the library's test
pub digit-same : (b : ℕ) → is_ascii_digit b ≡ is_digit b
digit-same b = grind arith

pub leading-yes : (b : ℕ) → 49 ≤ b → b ≤ 57 → is_leading b ≡ true
leading-yes b h k = rw (le-ltb b 49 h, lt-ltb b 58 (omega arith))

digit-range : (b : ℕ) → is_digit b ≡ true → (48 ≤ b) × (b ≤ 57)
digit-range b h = go (ltb b 48) refl h
  where
    go : (t : Bool) → ltb b 48 ≡ t → cond t false (ltb b 58) ≡ true → (48 ≤ b) × (b ≤ 57)
    go true e h = absurd (let z : ◌≡◌ {A = ℕ} 0 1 = cc in omega arith)
    go false e h = (ltb-false b 48 e, omega (arith, ltb-true b 58 h))

leading-range : (b : ℕ) → is_leading b ≡ true → (49 ≤ b) × (b ≤ 57)
leading-range b h = go (ltb b 49) refl h
  where
    go : (t : Bool) → ltb b 49 ≡ t → cond t false (ltb b 58) ≡ true → (49 ≤ b) × (b ≤ 57)
    go true e h = absurd (let z : ◌≡◌ {A = ℕ} 0 1 = cc in omega arith)
    go false e h = (ltb-false b 49 e, omega (arith, ltb-true b 58 h))

-- ---- a run of digits, from the place i on

pub run_more : (s : List ℕ) (i : ℕ) → i < length s → is_digit (get_or s i 0) ≡ true → digit_run (drop i s) ≡ get_or s i 0 ∷ digit_run (drop (suc i) s)
unfolding digit_run
run_more s i h e = rw (drop-cons s i 0 h, e)

pub run-stop : (s : List ℕ) (i : ℕ) → i < length s → is_digit (get_or s i 0) ≡ false → digit_run (drop i s) ≡ []
unfolding digit_run
run-stop s i h e = rw (drop-cons s i 0 h, e)

pub run_end : (s : List ℕ) (i : ℕ) → length s ≤ i → digit_run (drop i s) ≡ []
unfolding digit_run
run_end s i h = rw (drop_of_length-le s h)

-- what it is: digits, the text's beginning, and led by what leads the text
pub run-plain : (l : List ℕ) → Plain (digit_run l)
unfolding digit_run Plain
run-plain [] = tt
run-plain (b ∷ l) = go (is_digit b) refl (run-plain l)
  where
    go : (t : Bool) → is_digit b ≡ t → Plain (digit_run l) → Plain (cond t (b ∷ digit_run l) [])
    go true e ih = (digit-range b e, ih)
    go false e ih = tt

pub run-splits : (l : List ℕ) → l ≡ digit_run l ++ drop (length (digit_run l)) l
unfolding digit_run
run-splits [] = refl
run-splits (b ∷ l) = go (is_digit b) (run-splits l)
  where
    go : (t : Bool) → l ≡ digit_run l ++ drop (length (digit_run l)) l → b ∷ l ≡ cond t (b ∷ digit_run l) [] ++ drop (length (cond t (b ∷ digit_run l) [])) (b ∷ l)
    go true ih = ap (λ x. b ∷ x) ih
    go false ih = refl

pub run-leads : (b : ℕ) (l : List ℕ) → is_leading b ≡ true → (digit_run (b ∷ l) ≡ b ∷ digit_run l) × ((48 < b) × (b ≤ 57))
unfolding digit_run
run-leads b l h = let r = leading-range b h in (rw (digit-yes b (omega arith) (omega arith)), (omega arith, omega arith))

-- digits in front of a text are digits of its run
pub run-append : (ds l : List ℕ) → Plain ds → digit_run (ds ++ l) ≡ ds ++ digit_run l
unfolding digit_run Plain
run-append [] l p = refl
run-append (b ∷ ds) l p = rw (digit-yes b p.0.0 p.0.1) (ap (λ x. b ∷ x) (run-append ds l p.1))

-- the value may stop at L on the way
pub saturate : (L v : ℕ) (ds : List ℕ) → min (read_after v ds) L ≡ min (read_after (min v L) ds) L
unfolding read_after
saturate L v [] = omega arith
saturate L v (b ∷ ds) =
    let e : min (10 * v + (b - 48)) L ≡ min (10 * min v L + (b - 48)) L = omega arith in
    saturate L (10 * v + (b - 48)) ds ∙ rw e (sym (saturate L (10 * min v L + (b - 48)) ds))

-- ---- figures

pub ranged-low : (r : Range) (z : ℤ) → lt_z z r.lo ≡ true → ranged r z ≡ None
ranged-low r z h = rw h

pub ranged-high : (r : Range) (z : ℤ) → lt_z r.hi z ≡ true → ranged r z ≡ None
ranged-high r z h = go (lt_z z r.lo)
  where
    go : (t : Bool) → cond t None (cond (lt_z r.hi z) None (Some z)) ≡ None
    go true = refl
    go false = rw h

beyond : (h : ℤ) (n : ℕ) → Within 999999999 h → 1000000000 ≤ n → lt_z h (pos n) ≡ true
beyond (pos m) n w l = lt-ltb m n (omega arith)
beyond (negsuc m) n w l = refl

below : (h : ℤ) (n : ℕ) → Within 999999999 h → 1000000000 ≤ n → lt_z (neg_ℤ (pos n)) h ≡ true
below h zero w l = absurd (omega arith)
below (pos m) (suc n) w l = refl
below (negsuc m) (suc n) w l = lt-ltb m n (omega arith)

far : (r : Range) (negative : Bool) (n : ℕ) → Narrow r → 1000000000 ≤ n → ranged r (signed_of negative n) ≡ None
far r true n w l = ranged-low r (neg_ℤ (pos n)) (below r.lo n w.low l)
far r false n w l = ranged-high r (pos n) (beyond r.hi n w.high l)

pub ranged-in : (r : Range) (z x : ℤ) → ranged r z ≡ Some x → (z ≡ x) × ((r.lo ≤ℤ x) × (x ≤ℤ r.hi))
ranged-in r z x h = go (lt_z z r.lo) (lt_z r.hi z) refl refl h
  where
    go : (t u : Bool) → lt_z z r.lo ≡ t → lt_z r.hi z ≡ u → cond t None (cond u None (Some z)) ≡ Some x → (z ≡ x) × ((r.lo ≤ℤ x) × (x ≤ℤ r.hi))
    go true u p q h = absurd (let z : ◌≡◌ {A = ℕ} 0 1 = cc in omega arith)
    go false true p q h = absurd (let z : ◌≡◌ {A = ℕ} 0 1 = cc in omega arith)
    go false false p q h = let e : z ≡ x = cc in (e, (rw e at (no_lt {a = z} {b = r.lo} p), rw e at (no_lt {a = r.hi} {b = z} q)))

-- the digits from `at` on are still to be read
pub record Reading (s : List ℕ) (from value at : ℕ) : Type 0 where
  pub small : value ≤ 1000000000
  pub same : min (read_after 0 (digit_run (drop from s))) 1000000000 ≡ min (read_after value (digit_run (drop at s))) 1000000000
  pub place : at + length (digit_run (drop at s)) ≡ from + length (digit_run (drop from s))

-- one digit more
pub reading-more : (s : List ℕ) (from value at : ℕ) → Reading s from value at → at < length s → is_digit (get_or s at 0) ≡ true →
    Reading s from (min (10 * value + (get_or s at 0 - 48)) 1000000000) (at + 1)
unfolding read_after
reading-more s from value at r h d =
    let e = run_more s at h d in
    record {
      small = omega arith;
      same = r.same ∙ rw (e, add-one) (saturate 1000000000 (10 * value + (get_or s at 0 - 48)) (digit_run (drop (suc at) s)));
      place = rw add-one (omega (arith, ap length e, r.place));
    }

-- the run ends here
pub reading-done : (s : List ℕ) (from value at : ℕ) → Reading s from value at → digit_run (drop at s) ≡ [] → RunFrom s from (record { value = value; next = at })
unfolding read_after
reading-done s from value at r e = record { capped = sym (r.same ∙ rw e (omega (arith, r.small))); behind = omega (arith, rw e at r.place) }
