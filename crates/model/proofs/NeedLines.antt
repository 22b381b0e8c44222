-- Laws of lines of needs.
-- numbers-iff, rises-iff, fit-iff: the tests of two item numbers, of the order of lines and of an item that a need names, and what they say.
-- before-next: the line before the next is the line itself. line-numbers: a line that row 5 does not refuse has two item numbers.
-- good-line, line-good: a line is not refused exactly if it is good.
-- needs-in, needs-from: the needs of a record are its lines, by places. needs-cong: lines that agree give the same needs.
use mathlib.Core.Path.{◌≡◌, refl, sym, ap₂, subst}
use mathlib.Core.Bool.{Bool, true, false, cond}
use mathlib.Core.List.{List, ◌∷◌}
use mathlib.Core.Logic.{◌↔◌, inl, inr}
use Prim.Native.Nat.{ℕ, zero, suc, ◌-◌, ◌≤◌, ◌<◌}
use native.Mathlib.Decide.{ℕ_discrete}
use native.Mathlib.Omega.{arith}
use lib.Dec.{ltb, eqb}
use lib.IntN.{ℤ}
use borrow.Author.Tests.{ltb-true, ltb-false, eqb-false, lt-ltb, le-ltb, ne_eqb}
use Rattle.arith.specs.Sum.{Each}
use Rattle.arith.proofs.Parts.{impossible}
use Rattle.arith.proofs.Words.{no_lt, le-no}
use Rattle.knapsack.specs.Items.{is_absent}
use Rattle.knapsack.specs.Meaning.{instance_of}
use Rattle.std.specs.Prelude.{Option, None, Some}
use Rattle.knapsack.specs.declared.Mark.{Mark}
use Rattle.knapsack.specs.declared.Mark.TheVariants.{Integer, Continuous}
use Rattle.model.specs.declared.Model.{Model}
use Rattle.model.specs.declared.ModelItem.{ModelItem}
use Rattle.model.specs.declared.Need.{Need}
use Rattle.model.specs.declared.Needs.{Needs}
use Rattle.model.specs.declared.Sense.{Sense}
use Rattle.model.specs.declared.Sense.TheVariants.{Sure}
use Rattle.model.specs.Needs.{In, here, there, NotNegative, Present, Named}
use Rattle.model.specs.Records.{item_at, need_at, plain_of, placed, needs_up_to, wrong_number, wrong_numbers, out_of_order, bad_line, is_continuous, below_zero, unfit, unfit_line, line_before, Numbers, Rises, GoodLine}
use Rattle.model.proofs.Tests.{neither}
use Rattle.model.proofs.Plain.{plain-item}

-- ---- item numbers

right : (n k : ℕ) → wrong_number n k ≡ false → (1 ≤ k) × (k ≤ n)
right n k e = let h = neither (eqb k 0) (ltb n k) e in (omega (arith, eqb-false k 0 h.0), ltb-false n k h.1)

not-wrong : (n k : ℕ) → 1 ≤ k → k ≤ n → wrong_number n k ≡ false
not-wrong n k h l = rw (ne_eqb k 0 (omega arith)) (le-ltb n k l)

pub numbers-iff : (n i j : ℕ) → (wrong_numbers n i j ≡ false) ↔ Numbers n i j
numbers-iff n i j = (
  there-is,
  λ h. rw (not-wrong n i h.first-least h.first-most, not-wrong n j h.second-least h.second-most) (ne_eqb i j h.different),
)
  where
    there-is : wrong_numbers n i j ≡ false → Numbers n i j
    there-is e =
        let s = neither (wrong_number n i) (cond (wrong_number n j) true (eqb i j)) e in
        let t = neither (wrong_number n j) (eqb i j) s.1 in
        record {
          first-least = (right n i s.0).0;
          first-most = (right n i s.0).1;
          second-least = (right n j t.0).0;
          second-most = (right n j t.0).1;
          different = eqb-false i j t.1;
        }

-- ---- the order of lines

pub rises-iff : (a b : Need) → (out_of_order a b ≡ false) ↔ Rises a b
rises-iff a b = (go (ltb a.item b.item) (ltb b.item a.item) (ltb a.cover b.cover) refl refl refl, back)
  where
    go : (x y z : Bool) → ltb a.item b.item ≡ x → ltb b.item a.item ≡ y → ltb a.cover b.cover ≡ z →
        cond x false (cond y true (cond z false true)) ≡ false → Rises a b
    go true y z p q r e = inl (ltb-true a.item b.item p)
    go false true z p q r e = absurd (impossible (sym e))
    go false false true p q r e = inr (omega (arith, ltb-false a.item b.item p, ltb-false b.item a.item q), ltb-true a.cover b.cover r)
    go false false false p q r e = absurd (impossible (sym e))

    back : Rises a b → out_of_order a b ≡ false
    back (inl h) = rw (lt-ltb a.item b.item h)
    back (inr h) = rw (le-ltb a.item b.item (omega (arith, h.0)), le-ltb b.item a.item (omega (arith, h.0)), lt-ltb a.cover b.cover h.1)

-- ---- items that a need may name

pub record Fit (i : ModelItem) : Type 0 where
  pub whole : i.mark ≡ Integer
  pub above : NotNegative i.lower
  pub below : Present i.upper

is-whole : (m : Mark) → is_continuous m ≡ false → m ≡ Integer
is-whole Integer e = refl
is-whole Continuous e = absurd (impossible (sym e))

pub is-above : (b : Option ℤ) → below_zero b ≡ false → NotNegative b
is-above None e = absurd (impossible (sym e))
is-above (Some l) e = no_lt e

pub above-is : (b : Option ℤ) → NotNegative b → below_zero b ≡ false
above-is None h = absurd h
above-is (Some l) h = le-no h

is-present : (b : Option ℤ) → is_absent b ≡ false → Present b
is-present None e = absurd (impossible (sym e))
is-present (Some u) e = tt

present-is : (b : Option ℤ) → Present b → is_absent b ≡ false
present-is None h = absurd h
present-is (Some u) h = refl

pub fit-iff : (i : ModelItem) → (unfit i ≡ false) ↔ Fit i
unfolding unfit
fit-iff i = (there-is, λ h. rw (h.whole, above-is i.lower h.above) (present-is i.upper h.below))
  where
    there-is : cond (is_continuous i.mark) true (cond (below_zero i.lower) true (is_absent i.upper)) ≡ false → Fit i
    there-is e =
        let m = neither (is_continuous i.mark) (cond (below_zero i.lower) true (is_absent i.upper)) e in
        let b = neither (below_zero i.lower) (is_absent i.upper) m.1 in
        record { whole = is-whole i.mark m.0; above = is-above i.lower b.0; below = is-present i.upper b.1 }

-- ---- a line

pub before-next : (ns : Needs) (j : ℕ) → line_before ns (suc j) ≡ need_at ns j
before-next ns j =
    let e : suc j - 1 ≡ j = omega arith in
    let n : suc j ≡ 0 → ⊥ = λ h. omega arith in
    rw (ne_eqb (suc j) 0 n, e)

-- a line that row 5 does not refuse has two item numbers
pub line-numbers : (n : ℕ) (a b : Need) → bad_line n a b ≡ false → Numbers n b.item b.cover
unfolding bad_line
line-numbers n a b e = (numbers-iff n b.item b.cover).0 (neither (wrong_numbers n b.item b.cover) (out_of_order a b) e).0

module _ (m : Model) (j : ℕ) where
  abbrev line : Need
  line = need_at m.needs j

  named : (s : Sense) (k : ℕ) → 1 ≤ k → k ≤ m.count → unfit (item_at m (k - 1)) ≡ false → Named (instance_of (plain_of s m)) (k - 1)
  named s k least most e =
      let f = (fit-iff (item_at m (k - 1))).0 e in
      let i = plain-item s m (k - 1) in
      record { inside = omega arith; whole = rw i f.whole; above = rw i f.above; below = rw i f.below }

  -- one sense is enough: an item may be named whatever it weighs
  unnamed : (k : ℕ) → Named (instance_of (plain_of Sure m)) k → unfit (item_at m k) ≡ false
  unnamed k h =
      let i = plain-item Sure m k in
      (fit-iff (item_at m k)).1 (record { whole = rw i at h.whole; above = rw i at h.above; below = rw i at h.below })

  pub good-line : bad_line m.count (line_before m.needs j) line ≡ false → unfit_line (item_at m) line ≡ false → GoodLine m j
  unfolding bad_line
  good-line e f =
      let b = neither (wrong_numbers m.count line.item line.cover) (out_of_order (line_before m.needs j) line) e in
      let n = (numbers-iff m.count line.item line.cover).0 b.0 in
      let u = neither (unfit (item_at m (line.item - 1))) (unfit (item_at m (line.cover - 1))) f in
      record {
        numbers = n;
        rises = (rises-iff (line_before m.needs j) line).0 b.1;
        allowed = λ s. record {
          item = named s line.item n.first-least n.first-most u.0;
          cover = named s line.cover n.second-least n.second-most u.1;
        };
      }

  pub line-good : GoodLine m j → (bad_line m.count (line_before m.needs j) line ≡ false) × (unfit_line (item_at m) line ≡ false)
  unfolding bad_line
  line-good g = (
    rw ((numbers-iff m.count line.item line.cover).1 g.numbers) ((rises-iff (line_before m.needs j) line).1 g.rises),
    rw (unnamed (line.item - 1) (g.allowed Sure).item) (unnamed (line.cover - 1) (g.allowed Sure).cover),
  )

-- ---- the needs of a record

pub needs-in : (n : ℕ) (f : ℕ → Need) (j : ℕ) → j < n → In (placed (f j)) (needs_up_to n f)
unfolding needs_up_to
needs-in zero f j l = absurd (omega arith)
needs-in (suc n) f j l = go (ℕ_discrete j n) (λ h. needs-in n f j h)
  where
    go : Dec (j ≡ n) → (j < n → In (placed (f j)) (needs_up_to n f)) → In (placed (f j)) (placed (f n) ∷ needs_up_to n f)
    go (yes e) ih = subst (λ k. In (placed (f k)) (placed (f n) ∷ needs_up_to n f)) (sym e) here
    go (no d) ih = there (ih (omega arith))

pub needs-from : (n : ℕ) (f : ℕ → Need) (x : Need) → In x (needs_up_to n f) → (j : ℕ) × ((j < n) × (x ≡ placed (f j)))
unfolding needs_up_to
needs-from zero f x x3 = elim x3 [ ]
needs-from (suc n) f x here = (n, (omega arith, refl))
needs-from (suc n) f x (there i) = let h = needs-from n f x i in (h.0, (omega (arith, h.1.0), h.1.1))

pub needs-cong : (n : ℕ) (f g : ℕ → Need) → Each n (λ j. f j ≡ g j) → needs_up_to n f ≡ needs_up_to n g
unfolding needs_up_to
needs-cong zero f g h = refl
needs-cong (suc n) f g h = ap₂ (λ (x : Need) (l : List Need). placed x ∷ l) (h n (omega arith)) (needs-cong n f g (λ j l. h j (omega arith)))
