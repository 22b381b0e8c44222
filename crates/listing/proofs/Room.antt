-- Every reply fits the room.
--   Common           a divisor over which all amounts of an answer are whole numbers of parts, at most 1,000
-- reply-short: the text of a true answer to an accepted record, in either sense. room-enough (end theorem): both are no longer than `room`.
-- value-small: numerator and divisor of a value that is shown. item-short, lines-short, best-short: the lengths of lines.
use mathlib.Core.Path.{◌≡◌, refl, sym, ap, ◌∙◌, subst}
use mathlib.Core.Bool.{Bool, true, false, cond}
use mathlib.Core.List.{List, [], ◌++◌}
use mathlib.Core.Logic.{◌⊎◌, ◌≢◌, inl, inr, ⊎_elim}
use Prim.Native.Nat.{ℕ, zero, suc, ◌+◌, ◌*◌, ◌%◌, ◌≤◌, ◌<◌, min}
use native.Mathlib.Decide.{ℕ_discrete, dec_lt}
use native.Mathlib.Nat.{mul_comm, mul-le-mul_right, le_of_mul-le-mul_right}
use native.Mathlib.Omega.{arith}
use lib.IntN.{ℤ, pos, nat_abs, ◌*ℤ◌}
use lib.ListN.{length, length-append, get_or-eq_default}
use Rattle.arith.specs.Fractions.{frac}
use Rattle.arith.specs.Gcd.{Divides}
use Rattle.arith.specs.Sum.{sum, Each}
use Rattle.arith.specs.Within.{Within}
use Rattle.arith.specs.declared.Fraction.{Fraction}
use Rattle.arith.proofs.Fractions.{Over, over-frac, over-scale, over-total, over-≤, ≈ᶠ-≤, ≈ᶠ-≥}
use Rattle.arith.proofs.Integers.{nat_abs-times, ≤ℤ-antisym}
use Rattle.arith.proofs.Lowest.{gauss}
use Rattle.arith.proofs.Parts.{within-abs, abs-within, within-mul, within-add}
use Rattle.arith.proofs.Sums.{find}
use Rattle.knapsack.specs.Meaning.{Instance, instance_of, prices, value, Shown, nought, amount_at, point_of}
use Rattle.knapsack.specs.declared.Answer.{Answer}
use Rattle.knapsack.specs.declared.Kind.{Kind}
use Rattle.knapsack.specs.declared.Kind.TheVariants as kind
use Rattle.knapsack.specs.declared.Problem.{Problem}
use Rattle.std.specs.Prelude.{Ok}
use Rattle.model.specs.Promises.{Planned}
use Rattle.model.specs.Needs.{ShownOptimalNeeds, AnswersAsNeeds}
use Rattle.model.specs.Records.{plain_of, needs_of, verdict, FiguresInRange}
use Rattle.model.specs.declared.Model.{Model}
use Rattle.model.specs.declared.Need.{Need}
use Rattle.model.specs.declared.Sense.{Sense}
use Rattle.model.specs.declared.Sense.TheVariants.{Sure, Possible}
use Rattle.model.proofs.Records.{accepted}
use Rattle.model.proofs.Showing.{default, own-some, shown-few, whole-iff, parts_of, Parted, parted}
use Rattle.text.proofs.Decimals.{decimal-length, integer-length}
use Rattle.listing.specs.Printing.{best_line, item_line, printed_amount, step_at, item_lines, printed_as, printed, is_refused, printed_both, room}
use Rattle.model.specs.declared.Answers.{Answers}

-- ---- the value that is shown

small-divisor : (q n : ℕ) → Divides q n → n ≡ 0 ⊎ (q ≤ n)
small-divisor q n (zero, e) = inl (omega (arith, e))
small-divisor q n (suc t, e) = inr (omega (arith, e))

sum-small : (c n : ℕ) (f : ℕ → ℤ) → Each n (λ k. nat_abs (f k) ≤ c) → Within (n * c) (sum n f)
sum-small c zero f h = record { above = omega arith; below = omega arith }
sum-small c (suc n) f h =
    let w = within-add (sum-small c n f (λ k l. h k (omega arith))) (abs-within (f n) (h n (omega arith))) in
    let e : n * c + c ≡ suc n * c = omega arith in
    subst (λ k. Within k (sum (suc n) f)) e w

module _ (p : Problem) (a : Answer) (range : FiguresInRange p) (shown : Shown (instance_of p) (amount_at a)) where
  abbrev s : Instance
  s = instance_of p

  abbrev rest : ℕ → ℕ
  rest k = nat_abs (amount_at a k).p % (amount_at a k).q

  -- no divisor is 0
  some-parts : (k : ℕ) → k < p.count → 1 ≤ (amount_at a k).q
  some-parts k l = rw (shown.divisor k l) (own-some (s.item k))

  record Common : Type 0 where
    D : ℕ
    some : 1 ≤ D
    most : D ≤ 1000
    parts : (k : ℕ) → k < p.count → Parted D (amount_at a k)

  -- the divisor of the one amount that is not whole
  common : Common
  common = go (find p.count (λ k. rest k ≢ 0) (λ k. rest k ≡ 0)
      (λ k. either k (ℕ_discrete (rest k) 0)))
    where
      either : (k : ℕ) → Dec (rest k ≡ 0)
          → (rest k ≢ 0) ⊎ (rest k ≡ 0)
      either k (yes e) = inr e
      either k (no n) = inl n

      into : (i : ℕ) → i < p.count → rest i ≢ 0 → (k : ℕ) → k < p.count
          → Dec (rest k ≡ 0) → Parted (amount_at a i).q (amount_at a k)
      into i l n k h (yes e) = parted (amount_at a i).q (amount_at a k) (some-parts k h) (inl ((whole-iff (amount_at a k) (some-parts k h)).0 e))
      into i l n k h (no o) = parted (amount_at a i).q (amount_at a k) (some-parts k h) (inr (ap (λ (j : ℕ). (amount_at a j).q)
          (shown.single k i h l (λ w. o ((whole-iff (amount_at a k) (some-parts k h)).1 w)) (λ w. n ((whole-iff (amount_at a i) (some-parts i l)).1 w)))))

      go : ((k : ℕ) × (k < p.count) × (rest k ≢ 0)) ⊎ Each p.count (λ k. rest k ≡ 0)
          → Common
      go (inl (i, l, n)) = record {
        D = (amount_at a i).q;
        some = some-parts i l;
        most = shown-few p (amount_at a) range shown i l;
        parts = λ k h. into i l n k h (ℕ_discrete (rest k) 0);
      }
      go (inr h) = record {
        D = 1;
        some = omega arith;
        most = omega arith;
        parts = λ k l. parted 1 (amount_at a k) (some-parts k l) (inl ((whole-iff (amount_at a k) (some-parts k l)).0 (h k l)));
      }

  module _ (d : Common) where
    abbrev D : ℕ
    D = d.D

    -- the amounts in D-th parts
    abbrev N : ℕ → ℤ
    N k = parts_of D (amount_at a k)

    reads : (k : ℕ) → k < p.count → Over D (point_of a k) (N k)
    reads k l = (d.parts k l).over

    part_small : (k : ℕ) → k < p.count → nat_abs (N k) ≤ 1000000000 * D
    part_small k l = (d.parts k l).near 1000000000 (shown.small k l)

    abbrev T : ℤ
    T = sum p.count (λ k. prices s k *ℤ N k)

    sum-within : nat_abs T ≤ p.count * (10000 * (1000000000 * D))
    sum-within = within-abs T (sum-small _ p.count _ (λ k l. within-abs _ (within-mul (abs-within (prices s k) (range.items-in k l).price-in)
        (abs-within (N k) (part_small k l)))))

    module _ (ns : List Need) (o : ShownOptimalNeeds s ns a) where
      abbrev P : ℤ
      P = a.value.p

      abbrev Q : ℕ
      Q = a.value.q

      crossed : P *ℤ pos D ≡ T *ℤ pos Q
      crossed =
          let x = frac P Q in
          let y = value s (point_of a) in
          let u : Over (Q * D) x (P *ℤ pos D) = over-scale D (over-frac P Q o.divisor) in
          let v : Over (Q * D) y (T *ℤ pos Q) = subst (λ n. Over n y (T *ℤ pos Q)) (mul_comm D Q) (over-scale Q (over-total D p.count (point_of a) N reads
          (prices s))) in
          let l : 1 ≤ Q * D = omega (arith, mul-le-mul_right D o.divisor, d.some) in
          ≤ℤ-antisym ((over-≤ l u v).0 (≈ᶠ-≤ x y o.exact)) ((over-≤ l v u).0 (≈ᶠ-≥ x y o.exact))

      sizes : nat_abs P * D ≡ nat_abs T * Q
      sizes = sym (nat_abs-times P D) ∙ ap nat_abs crossed ∙ nat_abs-times T Q

      divisor-small : Q ≤ D
      divisor-small =
          let e = gauss (nat_abs P) Q D (omega (arith, d.some)) o.lowest (nat_abs T, sizes) in
          ⊎_elim (λ z. absurd (omega (arith, d.some, z))) (λ h. h) (small-divisor Q D e)

      numerator-small : nat_abs P ≤ 160000000000000 * Q
      numerator-small = le_of_mul-le-mul_right {k = D} (go p.count (nat_abs P) (nat_abs T) Q D range.few-items sum-within sizes) d.some
        where
          go : (n P T Q D : ℕ) → n ≤ 16 → T ≤ n * (10000 * (1000000000 * D)) → P * D ≡ T * Q → P * D ≤ (160000000000000 * Q) * D
          go n P T Q D few h e =
              let u = mul-le-mul_right Q h in
              let w = mul-le-mul_right (D * Q) few in
              omega (arith, u, w, e)

pub value-small : (p : Problem) (a : Answer) (ns : List Need) → FiguresInRange p → ShownOptimalNeeds (instance_of p) ns a →
    (nat_abs a.value.p < 1000000000000000000) × (a.value.q ≤ 1000)
value-small p a ns range o =
    let d = common p a range o.shown in
    let q = divisor-small p a range o.shown d ns o in
    let n = numerator-small p a range o.shown d ns o in
    (omega (arith, d.most, q, n), omega (arith, d.most, q))

-- ---- lines

best-short : (v : Fraction) → nat_abs v.p < 1000000000000000000 → v.q ≤ 1000 → length (best_line v) ≤ 30
best-short v h l = let x = integer-length 17 v.p h in let y = decimal-length 3 v.q (omega arith) in simp length-append (omega arith)

-- an amount and a step as they are printed
record Printable (steps : Bool) (x : Fraction) (r : ℤ) : Type 0 where
  numerator : nat_abs x.p ≤ 1000000000000
  divisor : x.q ≤ 1000
  step : steps ≡ true → nat_abs r ≤ 1000

item-short : (steps : Bool) (k : ℕ) (x : Fraction) (r : ℤ) → k < 16 → Printable steps x r → length (item_line steps k x r) ≤ 29
item-short false k x r l h =
    let n = decimal-length 1 (suc k) (omega arith) in
    let y = integer-length 12 x.p (omega (arith, h.numerator)) in
    let z = decimal-length 3 x.q (omega (arith, h.divisor)) in
    simp length-append (omega arith)
item-short true k x r l h =
    let n = decimal-length 1 (suc k) (omega arith) in
    let y = integer-length 12 x.p (omega (arith, h.numerator)) in
    let z = decimal-length 3 x.q (omega (arith, h.divisor)) in
    let w = integer-length 3 r (omega (arith, h.step refl)) in
    simp length-append (omega arith)

lines-short : (steps : Bool) (a : Answer) (n : ℕ) → n ≤ 16 → Each n (λ k. Printable steps (printed_amount a k) (step_at a k)) →
    length (item_lines steps a n) ≤ 29 * n
unfolding item_lines
lines-short steps a zero l h = omega arith
lines-short steps a (suc n) l h =
    let i = item-short steps n (printed_amount a n) (step_at a n) l (h n (omega arith)) in
    let r = lines-short steps a n (omega arith) (λ k m. h k (omega arith)) in
    omega (arith, length-append (item_lines steps a n) (item_line steps n (printed_amount a n) (step_at a n)), i, r)

printable : (p : Problem) (a : Answer) (steps : Bool) → FiguresInRange p → Shown (instance_of p) (amount_at a) →
    ((k : ℕ) → k < p.count → steps ≡ true → nat_abs (step_at a k) ≤ 1000) → Each p.count (λ k. Printable steps (printed_amount a k) (step_at a k))
printable p a steps range shown h k l = go (dec_lt k (length a.point))
  where
    go : Dec (k < length a.point) → Printable steps (printed_amount a k) (step_at a k)
    go (yes i) =
        let few = shown-few p (amount_at a) range shown k l in
        rw (default a.point k _ nought i)
        (record { numerator = omega (arith, shown.small k l, few); divisor = few; step = h k l })
    go (no n) = rw (get_or-eq_default a.point (record { p = pos 0; q = 0 }) {n = k} (omega arith))
        (record { numerator = omega arith; divisor = omega arith; step = h k l })

reply-short : (sense : Sense) (m : Model) (a : Answer) → verdict m ≡ Ok tt → Planned sense m a → length (printed m.count a) ≤ 1440
unfolding printed
reply-short sense m a fair planned = go a.kind (rw fair at planned.replies)
  where
    range : FiguresInRange (plain_of sense m)
    range = (accepted m fair).figures sense

    within : (k : ℕ) → k < min m.count 16 → k < m.count
    within k l = omega arith

    go : (k : Kind) → AnswersAsNeeds (instance_of (plain_of sense m)) (needs_of m.needs) a k → length (printed_as k m.count a) ≤ 1440
    go kind.Optimal o =
        let v = value-small (plain_of sense m) a (needs_of m.needs) range o in
        let h = best-short a.value v.0 v.1 in
        let each = printable (plain_of sense m) a false range o.shown (λ k l e. absurd (let z : ◌≡◌ {A = ℕ} 0 1 = cc in omega arith)) in
        let i = lines-short false a (min m.count 16) (omega arith) (λ k l. each k (within k l)) in
        omega (arith, length-append (best_line a.value) (item_lines false a (min m.count 16)), h, i)
    go kind.Infeasible o = omega arith
    go kind.Unbounded o =
        let each = printable (plain_of sense m) a true range o.shown (λ k l e. o.steps k l) in
        let i = lines-short true a (min m.count 16) (omega arith) (λ k l. each k (within k l)) in
        simp length-append (omega (arith, i))
    go (kind.Refused f) o = absurd o

pub room-enough : (m : Model) (s : Answers) → verdict m ≡ Ok tt → Planned Sure m s.sure → Planned Possible m s.possible →
    length (printed_both m.count s) ≤ room
room-enough m s fair x y = go (is_refused s.sure.kind)
  where
    go : (b : Bool) → length (printed m.count s.sure ++ cond b [] (printed m.count s.possible)) ≤ room
    go true = simp length-append (omega (arith, reply-short Sure m s.sure fair x))
    go false = simp length-append (omega (arith, reply-short Sure m s.sure fair x, reply-short Possible m s.possible fair y))
