-- The entry's replies and the table's entries, in 01's words.
--   Applies p named i j r s   what a search uses of an entry that holds steps: two items of the problem that no need names, and a cost pair
-- refused-record, refused-numbers, refused-items, answered: which reply when; the four cases are all.
-- least-pair-steps, least-pair-missing: an answer is 01's least pair exactly.
-- told: what the reply says, by its case, holds.
-- tabled-steps: an entry of the table with steps applies.
use Rattle.std.specs.Prelude.{Option, None, Some}
use Rattle.std.specs.Prelude.{Result, Ok, Err}
use mathlib.Core.Path.{◌≡◌, refl, sym, ap, subst}
use mathlib.Core.Bool.{Bool, true, false, cond}
use mathlib.Core.List.{List}
use mathlib.Core.Logic.{◌↔◌}
use Prim.Native.Nat.{ℕ, ◌+◌, ◌-◌, ◌<◌}
use native.Mathlib.Omega.{arith}
use lib.IntN.{ℤ}
use Rattle.arith.specs.Within.{Within}
use Rattle.knapsack.specs.declared.Mark.TheVariants.{Integer}
use Rattle.knapsack.specs.declared.Item.{Item}
use Rattle.knapsack.specs.declared.Problem.{Problem}
use Rattle.knapsack.specs.declared.Refusal.{Refusal}
use Rattle.knapsack.specs.Verdicts.{Verdict}
use Rattle.knapsack.specs.Ranges.{item_at}
use Rattle.knapsack.specs.Meaning.{CostPair, LeastPair, NoPair}
use Rattle.model.specs.Records.{plain_of, wrong_numbers, verdict, ItemFigures, FiguresInRange, Numbers}
use Rattle.model.proofs.NeedLines.{numbers-iff}
use Rattle.model.specs.declared.refusals.Reason.TheVariants as refusal
use Rattle.model.specs.declared.Model.{Model}
use Rattle.model.specs.declared.Sense.{Sense}
use Rattle.domination.specs.Eligible.{Eligible}
use Rattle.domination.specs.Pairs.{pair_of, eligible, refuse_pair, paired, numbered, least_pair, or_missing, is_named, tabled}
use Rattle.domination.specs.Told.{Answerable, by-record, by-numbers, by-items, Told}
use Rattle.domination.proofs.Minimal.{Outcome, pair-outcome, pair-steps, pair-missing}
use Rattle.domination.proofs.Sizes.{Small, pair_small}
use Rattle.domination.proofs.Eligible.{eligible-iff}
use Rattle.domination.proofs.Tests.{not-both}

-- a test that cannot succeed fails
fails : (t : Bool) → (t ≡ true → ⊥) → t ≡ false
fails true h = absurd (h refl)
fails false h = refl

succeeds : (t : Bool) → (t ≡ false → ⊥) → t ≡ true
succeeds true h = refl
succeeds false h = absurd (h refl)

module _ (sense : Sense) (m : Model) (i j : ℕ) where
  abbrev first : Item
  first = item_at (plain_of sense m) (i - 1)

  abbrev second : Item
  second = item_at (plain_of sense m) (j - 1)

  pub refused-record : (f : Refusal) → verdict m ≡ Err f → least_pair sense m i j ≡ Err f
  unfolding least_pair
  refused-record f e = rw e

  pub refused-numbers : verdict m ≡ Ok tt → (Numbers m.count i j → ⊥) → least_pair sense m i j ≡ refuse_pair refusal.PairNumbers
  unfolding least_pair numbered
  refused-numbers e n = rw (e, succeeds (wrong_numbers m.count i j) (λ w. n ((numbers-iff m.count i j).0 w)))

  pub refused-items : verdict m ≡ Ok tt → Numbers m.count i j → (Eligible first × Eligible second → ⊥) → least_pair sense m i j ≡ refuse_pair refusal.PairItems
  unfolding least_pair numbered paired
  refused-items e n h = rw (e, (numbers-iff m.count i j).1 n) (go (eligible first) (eligible second) refl refl)
    where
      go : (s t : Bool) → eligible first ≡ s → eligible second ≡ t →
          cond s (cond t (Ok (pair_of first second)) (refuse_pair refusal.PairItems)) (refuse_pair refusal.PairItems) ≡ refuse_pair refusal.PairItems
      go true true a b = absurd (h ((eligible-iff first).0 a, (eligible-iff second).0 b))
      go true false a b = refl
      go false t a b = refl

  pub answered : Answerable sense m i j → least_pair sense m i j ≡ Ok (pair_of first second)
  unfolding least_pair numbered paired
  answered h = rw (
    h.is-accepted,
    (numbers-iff m.count i j).1 h.numbers,
    (eligible-iff first).1 h.first-eligible,
    (eligible-iff second).1 h.second-eligible,
  )

  found : (q : Option (ℤ × ℤ)) → Answerable sense m i j → (least_pair sense m i j ≡ Ok q) ↔ (pair_of first second ≡ q)
  found q h = let e = answered h in (λ k. cc, λ k. cc)

  pub least-pair-steps : Answerable sense m i j → (r s : ℤ) → (least_pair sense m i j ≡ Ok (Some (r, s))) ↔ LeastPair first second r s
  least-pair-steps h r s =
      let a = found (Some (r, s)) h in
      let b = pair-steps first second h.first-eligible h.second-eligible r s in
      (λ k. b.0 (a.0 k), λ l. a.1 (b.1 l))

  pub least-pair-missing : Answerable sense m i j → (least_pair sense m i j ≡ Ok None) ↔ NoPair first second
  least-pair-missing h =
      let a = found None h in
      let b = pair-missing first second h.first-eligible h.second-eligible in
      (λ k. b.0 (a.0 k), λ l. a.1 (b.1 l))

  told-pair : Answerable sense m i j → Told sense m i j (Ok (pair_of first second))
  told-pair h = go (pair_of first second) (pair-outcome first second h.first-eligible h.second-eligible)
    where
      go : (q : Option (ℤ × ℤ)) → Outcome first second q → Told sense m i j (Ok q)
      go None o = (h, o)
      go (Some (r, s)) o = (h, o)

  pub told : Told sense m i j (least_pair sense m i j)
  told = go (verdict m) (wrong_numbers m.count i j) (eligible first) (eligible second) refl refl refl refl
    where
      is : (q : Result (Option (ℤ × ℤ)) Refusal) → least_pair sense m i j ≡ q → Told sense m i j q → Told sense m i j (least_pair sense m i j)
      is q e t = subst (Told sense m i j) (sym e) t

      unfit : verdict m ≡ Ok tt → wrong_numbers m.count i j ≡ false → (Eligible first × Eligible second → ⊥) → Told sense m i j (least_pair sense m i j)
      unfit e w n = let k = (numbers-iff m.count i j).0 w in is _ (refused-items e k n) (by-items e k n)

      go : (v : Verdict) (w x y : Bool) → verdict m ≡ v → wrong_numbers m.count i j ≡ w → eligible first ≡ x → eligible second ≡ y →
          Told sense m i j (least_pair sense m i j)
      go (Err f) w x y e n a b = is _ (refused-record f e) (by-record f e)
      go (Ok _) true x y e n a b =
          let k : Numbers m.count i j → ⊥ = λ h. not-both _ n ((numbers-iff m.count i j).1 h) in
          is _ (refused-numbers e k) (by-numbers e k)
      go (Ok _) false true true e n a b =
          let h : Answerable sense m i j = record {
            is-accepted = e;
            numbers = (numbers-iff m.count i j).0 n;
            first-eligible = (eligible-iff first).0 a;
            second-eligible = (eligible-iff second).0 b;
          } in
          is _ (answered h) (told-pair h)
      go (Ok _) false true false e n a b = unfit e n (λ h. not-both _ ((eligible-iff second).1 h.1) b)
      go (Ok _) false false y e n a b = unfit e n (λ h. not-both _ ((eligible-iff first).1 h.0) a)

-- ---- the table

pub record Applies (p : Problem) (named : List Bool) (i j : ℕ) (r s : ℤ) : Type 0 where
  pub first-place : i < p.count
  pub second-place : j < p.count
  pub different : i ≡ j → ⊥
  pub first-unnamed : is_named named i ≡ false
  pub second-unnamed : is_named named j ≡ false
  pub first-integer : (item_at p i).mark ≡ Integer
  pub second-integer : (item_at p j).mark ≡ Integer
  pub pair : CostPair (item_at p i) (item_at p j) r s
  pub first_small : Within 1000 r
  pub second-small : Within 1000 s

module _ (r s : ℤ) where
  answer : (q : Result (Option (ℤ × ℤ)) Refusal) → or_missing q ≡ Some (r, s) → q ≡ Ok (Some (r, s))
  answer (Ok q) e = ap Ok e
  answer (Err f) e = absurd (let z : ◌≡◌ {A = ℕ} 0 1 = cc in omega arith)

  items : (x y : Item) → paired x y ≡ Ok (Some (r, s)) → (Eligible x) × (Eligible y) × (pair_of x y ≡ Some (r, s))
  unfolding paired
  items x y = go (eligible x) (eligible y) refl refl
    where
      go : (a b : Bool) → eligible x ≡ a → eligible y ≡ b →
          cond a (cond b (Ok (pair_of x y)) (refuse_pair refusal.PairItems)) (refuse_pair refusal.PairItems) ≡ Ok (Some (r, s)) →
          (Eligible x) × (Eligible y) × (pair_of x y ≡ Some (r, s))
      go true true e f h = ((eligible-iff x).0 e, (eligible-iff y).0 f, cc)
      go true false e f h = absurd (let z : ◌≡◌ {A = ℕ} 0 1 = cc in omega arith)
      go false b e f h = absurd (let z : ◌≡◌ {A = ℕ} 0 1 = cc in omega arith)

  numbers_of : (p : Problem) (i j : ℕ) → numbered p i j ≡ Ok (Some (r, s)) →
      Numbers p.count i j × (paired (item_at p (i - 1)) (item_at p (j - 1)) ≡ Ok (Some (r, s)))
  unfolding numbered
  numbers_of p i j = go (wrong_numbers p.count i j) refl
    where
      go : (a : Bool) → wrong_numbers p.count i j ≡ a → cond a (refuse_pair refusal.PairNumbers) (paired (item_at p (i - 1)) (item_at p (j - 1))) ≡ Ok (Some (r, s)) →
          Numbers p.count i j × (paired (item_at p (i - 1)) (item_at p (j - 1)) ≡ Ok (Some (r, s)))
      go true e h = absurd (let z : ◌≡◌ {A = ℕ} 0 1 = cc in omega arith)
      go false e h = ((numbers-iff p.count i j).0 e, h)

  -- an entry with steps is not barred
  open-to : (a b : Bool) (q : Option (ℤ × ℤ)) → cond (cond a true b) None q ≡ Some (r, s) → (a ≡ false) × (b ≡ false) × (q ≡ Some (r, s))
  open-to true b q e = absurd (let z : ◌≡◌ {A = ℕ} 0 1 = cc in omega arith)
  open-to false true q e = absurd (let z : ◌≡◌ {A = ℕ} 0 1 = cc in omega arith)
  open-to false false q e = (refl, refl, e)

  pub tabled-steps : (p : Problem) → FiguresInRange p → (named : List Bool) (i j : ℕ) → tabled p named i j ≡ Some (r, s) → Applies p named i j r s
  tabled-steps p range named i j e =
      let o = open-to (is_named named i) (is_named named j) (or_missing (numbered p (i + 1) (j + 1))) e in
      let n = numbers_of p (i + 1) (j + 1) (answer (numbered p (i + 1) (j + 1)) o.2) in
      go o.0 o.1 range.items-in n.0 (items (item_at p (i + 1 - 1)) (item_at p (j + 1 - 1)) n.1)
    where
      go : is_named named i ≡ false → is_named named j ≡ false → ((k : ℕ) → k < p.count → ItemFigures (item_at p k)) → Numbers p.count (i + 1) (j + 1) →
          (Eligible (item_at p (i + 1 - 1))) × (Eligible (item_at p (j + 1 - 1))) × (pair_of (item_at p (i + 1 - 1)) (item_at p (j + 1 - 1)) ≡ Some (r, s)) →
          Applies p named i j r s
      go a b f n h =
          let u : i + 1 - 1 ≡ i = omega arith in
          let v : j + 1 - 1 ≡ j = omega arith in
          let li : i < p.count = omega (arith, n.first-most) in
          let lj : j < p.count = omega (arith, n.second-most) in
          let k = rw (u, v) at h in
          let m = (pair-steps (item_at p i) (item_at p j) k.0 k.1 r s).0 k.2 in
          let z : Small (Some (r, s)) = subst Small k.2 (pair_small (item_at p i) (item_at p j) (record { in-range = f i li; is-eligible = k.0 })
          (record { in-range = f j lj; is-eligible = k.1 })) in
          record {
            first-place = li;
            second-place = lj;
            different = λ e. n.different (omega arith);
            first-unnamed = a;
            second-unnamed = b;
            first-integer = k.0.integer;
            second-integer = k.1.integer;
            pair = m.pair;
            first_small = z.0;
            second-small = z.1;
          }
