-- Every drawn problem is admissible: paper 02, requests 8, 9 and 11. Its bounds may cross.
-- bound-in, mended-in, line-in: what a line draws is in range. section-figures, heading-figures, drawn-figures: so are the figures of all.
-- mended-full, drawn-full: no item is blank. drawn-known: the weights are known, low and high are equal.
-- lines-needs, section-needs, heading-needs, drawn-needs: there are no needs. drawn-admissible: the theorem.
use Rattle.std.proofs.Common.{◌≡◌, ℕ, zero, suc, ◌≤◌, Bool, true, false, cond, eqb, pos, nat_abs, sym, refl, ap, ◌∙◌, subst, arith}
use lib.Signed.{clash_ℤ}
use Rattle.arith.specs.Sum.{Each}
use Rattle.arith.proofs.Integers.{≤ℤ-reflexive}
use Rattle.knapsack.specs.Ranges.{BoundInRange}
use Rattle.model.specs.declared.ModelItem.{ModelItem}
use Rattle.model.specs.declared.Needs.{Needs}
use Rattle.model.specs.declared.Sense.{Sense}
use Rattle.model.specs.declared.Sense.TheVariants.{Sure, Possible}
use Rattle.model.specs.Needs.{no_needs}
use Rattle.model.specs.Records.{item_at, item_in, is_weightless, is_blank, ItemFigures, Admissible}
use Rattle.model.proofs.Plain.{plain-item}
use Rattle.drawing.specs.declared.DrawnProblem.{DrawnProblem}
use Rattle.drawing.specs.declared.Section.{Section}
use Rattle.drawing.specs.declared.Section.TheVariants.{Items, Lower, Upper}
use Rattle.drawing.specs.Drawing.{next_state, choice_at, bound_by, drawn_bound, drawn_figures, mended, drawn_item, drawn_line}
use Rattle.drawing.specs.Drawing.{with_line, lines, drawn_section, drawn_heading, drawn_problem}
use Rattle.drawing.proofs.Draws.{around-in}
use Rattle.drawing.proofs.Sections.{Sized, lines-count, lines-capacity, section-each, with_items, with_lowers}
use Rattle.drawing.proofs.Sections.{heading-few, heading-some, heading-capacity, heading-blank, heading-sized, items-sized, lowers-sized}

-- ---- the figures

bound-in : (s : ℕ) → BoundInRange (drawn_bound s).bound
unfolding drawn_bound
bound-in s = go (next_state s) (eqb (choice_at (next_state s) (pos 0) (pos 3)) 3)
  where
    go : (a : ℕ) (b : Bool) → BoundInRange (bound_by b a).bound
    go a true = tt
    go a false = around-in (next_state a) 10000

-- an item's figures, in both senses
abbrev Fair : ModelItem → Type 0
Fair i = (sense : Sense) → ItemFigures (item_in sense i)

fair : (i : ModelItem) → nat_abs i.low ≤ 1000 → nat_abs i.high ≤ 1000 → nat_abs i.price ≤ 10000 → BoundInRange i.lower → BoundInRange i.upper → Fair i
fair i a b c l u Sure = record { weight-in = b; price-in = c; lower_in = l; upper_in = u }
fair i a b c l u Possible = record { weight-in = a; price-in = c; lower_in = l; upper_in = u }

mended-in : (i : ModelItem) → Fair i → Fair (mended i)
unfolding mended
mended-in i h = go (is_blank i)
  where
    go : (b : Bool) → Fair (cond b (record { mark = i.mark; low = i.low; high = i.high; price = pos 1; lower = i.lower; upper = i.upper }) i)
    go true = fair _ (h Possible).weight-in (h Sure).weight-in (omega arith) (h Sure).lower_in (h Sure).upper_in
    go false = h

line-in : (σ : Section) (i : ModelItem) (s : ℕ) → Fair i → Fair (drawn_line σ i s).item
unfolding drawn_line drawn_item drawn_figures
line-in Items i s h =
    let b = next_state (next_state s) in
    mended-in _ (fair _ (around-in b 1000) (around-in b 1000) (around-in (next_state b) 10000) tt tt)
line-in Lower i s h = fair _ (h Possible).weight-in (h Sure).weight-in (h Sure).price-in (bound-in s) (h Sure).upper_in
line-in Upper i s h = fair _ (h Possible).weight-in (h Sure).weight-in (h Sure).price-in (h Sure).lower_in (bound-in s)

-- what is to be shown of a problem's figures
record Figured (d : DrawnProblem) : Type 0 where
  some-items : 1 ≤ d.problem.count
  few-items : d.problem.count ≤ 16
  capacity-in : nat_abs d.problem.capacity ≤ 100000000
  items-in : Each d.problem.count (λ k. Fair (item_at d.problem k))

section-figures : (σ : Section) (d : DrawnProblem) → Sized d → Figured d → Figured (drawn_section σ d)
section-figures σ d w r =
    let n = d.problem.count in
    let e = lines-count σ n d in
    record {
      some-items = rw e r.some-items;
      few-items = rw e r.few-items;
      capacity-in = rw (lines-capacity σ n d) r.capacity-in;
      items-in = section-each σ Fair Fair (line-in σ) d w r.items-in;
    }

heading-figures : (s : ℕ) → Figured (drawn_heading s)
heading-figures s = record {
  some-items = heading-some s;
  few-items = heading-few s;
  capacity-in = heading-capacity s;
  items-in = λ k h. rw (heading-blank s k h) (fair _ (omega arith) (omega arith) (omega arith) tt tt);
}

-- ---- no item is blank

mended-full : (i : ModelItem) → is_blank (mended i) ≡ false
unfolding mended
mended-full i = go (is_blank i) refl
  where
    priced : (b : Bool) → cond b (eqb (nat_abs (pos 1)) 0) false ≡ false
    priced true = refl
    priced false = refl

    go : (b : Bool) → is_blank i ≡ b
        → is_blank (cond b (record { mark = i.mark; low = i.low; high = i.high; price = pos 1; lower = i.lower; upper = i.upper }) i) ≡ false
    go true e = priced (is_weightless i)
    go false e = e

abbrev Full : ModelItem → Type 0
Full i = is_blank i ≡ false

item-full : (i : ModelItem) (s : ℕ) → Unit {0} → Full (drawn_line Items i s).item
unfolding drawn_line drawn_item
item-full i s t = mended-full (drawn_figures s).item

lower-full : (i : ModelItem) (s : ℕ) → Full i → Full (drawn_line Lower i s).item
unfolding drawn_line
lower-full i s h = h

upper-full : (i : ModelItem) (s : ℕ) → Full i → Full (drawn_line Upper i s).item
unfolding drawn_line
upper-full i s h = h

drawn-full : (s : ℕ) → Each (drawn_problem s).problem.count (λ k. Full (item_at (drawn_problem s).problem k))
unfolding drawn_problem
drawn-full s =
    let i = section-each Items (λ i. Unit {0}) Full item-full (drawn_heading s) (heading-sized s) (λ k h. tt) in
    let l = section-each Lower Full Full lower-full (with_items s) (items-sized s) i in
    section-each Upper Full Full upper-full (with_lowers s) (lowers-sized s) l

-- ---- the weights are known

abbrev Known : ModelItem → Type 0
Known i = i.low ≡ i.high

line_known : (σ : Section) (i : ModelItem) (s : ℕ) → Known i → Known (drawn_line σ i s).item
unfolding drawn_line drawn_item drawn_figures mended
line_known Items i s h = go (is_blank (drawn_figures s).item)
  where
    go : (b : Bool) → Known (cond b (record {
      mark = (drawn_figures s).item.mark;
      low = (drawn_figures s).item.low;
      high = (drawn_figures s).item.high;
      price = pos 1;
      lower = (drawn_figures s).item.lower;
      upper = (drawn_figures s).item.upper;
    }) (drawn_figures s).item)
    go true = refl
    go false = refl
line_known Lower i s h = h
line_known Upper i s h = h

drawn-known : (s : ℕ) → Each (drawn_problem s).problem.count (λ k. Known (item_at (drawn_problem s).problem k))
unfolding drawn_problem
drawn-known s =
    let i = section-each Items Known Known (line_known Items) (drawn_heading s) (heading-sized s) (λ k h. rw (heading-blank s k h) refl) in
    let l = section-each Lower Known Known (line_known Lower) (with_items s) (items-sized s) i in
    section-each Upper Known Known (line_known Upper) (with_lowers s) (lowers-sized s) l

-- ---- the needs

lines-needs : (σ : Section) (n : ℕ) (d : DrawnProblem) → (lines σ n d).problem.needs ≡ d.problem.needs
unfolding lines with_line
lines-needs σ zero d = refl
lines-needs σ (suc n) d = lines-needs σ n d

section-needs : (σ : Section) (d : DrawnProblem) → (drawn_section σ d).problem.needs ≡ d.problem.needs
section-needs σ d = lines-needs σ d.problem.count d

heading-needs : (s : ℕ) → (drawn_heading s).problem.needs ≡ no_needs
unfolding drawn_heading
heading-needs s = refl

drawn-needs : (s : ℕ) → (drawn_problem s).problem.needs ≡ no_needs
unfolding drawn_problem
drawn-needs s = section-needs Upper (with_lowers s) ∙ section-needs Lower (with_items s) ∙ section-needs Items (drawn_heading s) ∙ heading-needs s

drawn-figures : (s : ℕ) → Figured (drawn_problem s)
unfolding drawn_problem
drawn-figures s =
    section-figures Upper (with_lowers s) (lowers-sized s)
    (section-figures Lower (with_items s) (items-sized s) (section-figures Items (drawn_heading s) (heading-sized s) (heading-figures s)))

pub drawn-admissible : (s : ℕ) → Admissible (drawn_problem s).problem
drawn-admissible s =
    let none = ap (λ (ns : Needs). ns.count) (drawn-needs s) in
    let m = (drawn_problem s).problem in
    let f = drawn-figures s in
    record {
      figures = λ sense. record {
        some-items = f.some-items;
        few-items = f.few-items;
        capacity-in = f.capacity-in;
        items-in = λ k l. subst ItemFigures (sym (plain-item sense m k)) (f.items-in k l sense);
      };
      ordered = λ k l. ≤ℤ-reflexive (drawn-known s k l);
      unbarred = drawn-full s;
      few-needs = omega (arith, none);
      needs = λ j h. absurd (omega (arith, none));
      ranged = λ k l less. clash_ℤ less (≤ℤ-reflexive (sym (drawn-known s k l)));
    }
