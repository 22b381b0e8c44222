-- What a section draws, item by item, for whatever is to be shown of every drawn problem.
--   Sized d          at most 16 items in 16 places
--   with_items s, with_lowers s     a drawn problem after its items, after its lower bounds
-- lines-count, lines-capacity, lines-length, lines-beyond: a section's lines leave count, limit, places and every item from the n-th on.
-- lines-each: of each of the first n items holds what a line makes of it; section-each: of every item.
-- heading-some, heading-few, heading-capacity, heading-length, heading-blank: what a heading holds.
-- heading-sized, section-sized, items-sized, lowers-sized: they are Sized.
use Rattle.std.proofs.Common.{◌≡◌, ℕ, zero, suc, ◌<◌, ◌≤◌, List, length, get_or, set, nat_abs, refl, ◌∙◌, arith, length-set, get_or-set_other, get_or-set_same}
use native.Mathlib.Decide.{ℕ_discrete}
use lib.ListN.{get_or-replicate}
use Rattle.arith.specs.Sum.{Each}
use Rattle.model.specs.declared.ModelItem.{ModelItem}
use Rattle.model.specs.Records.{no_item, item_at}
use Rattle.drawing.specs.declared.DrawnProblem.{DrawnProblem}
use Rattle.drawing.specs.declared.Section.{Section}
use Rattle.drawing.specs.declared.Section.TheVariants.{Items, Lower}
use Rattle.drawing.specs.Drawing.{next_state, drawn_line, with_line, lines, drawn_section, drawn_heading}
use Rattle.drawing.proofs.Draws.{choice-in, around-in}

-- at most 16 items in 16 places
pub record Sized (d : DrawnProblem) : Type 0 where
  pub few : d.problem.count ≤ 16
  pub places : length d.problem.items ≡ 16

-- ---- what a section's lines leave

pub lines-count : (σ : Section) (n : ℕ) (d : DrawnProblem) → (lines σ n d).problem.count ≡ d.problem.count
unfolding lines with_line
lines-count σ zero d = refl
lines-count σ (suc n) d = lines-count σ n d

pub lines-capacity : (σ : Section) (n : ℕ) (d : DrawnProblem) → (lines σ n d).problem.capacity ≡ d.problem.capacity
unfolding lines with_line
lines-capacity σ zero d = refl
lines-capacity σ (suc n) d = lines-capacity σ n d

lines-length : (σ : Section) (n : ℕ) (d : DrawnProblem) → length (lines σ n d).problem.items ≡ length d.problem.items
unfolding lines with_line
lines-length σ zero d = refl
lines-length σ (suc n) d = simp length-set (lines-length σ n d)

lines-beyond : (σ : Section) (n : ℕ) (d : DrawnProblem) (k : ℕ) → n ≤ k → item_at (lines σ n d).problem k ≡ item_at d.problem k
unfolding lines with_line
lines-beyond σ zero d k h = refl
lines-beyond σ (suc n) d k h =
    let e : k ≡ n → ⊥ = λ e. omega arith in
    get_or-set_other (lines σ n d).problem.items n k _ no_item e ∙ lines-beyond σ n d k (omega arith)

-- ---- what they make

lines-each : (σ : Section) (P Q : ModelItem → Type 0) → ((i : ModelItem) (s : ℕ) → P i → Q (drawn_line σ i s).item)
    → (n : ℕ) (d : DrawnProblem) → n ≤ length d.problem.items
    → Each n (λ k. P (item_at d.problem k)) → Each n (λ k. Q (item_at (lines σ n d).problem k))
unfolding lines with_line
lines-each σ P Q f zero d l h k m = absurd (omega arith)
lines-each σ P Q f (suc n) d l h k m = go (ℕ_discrete k n) (λ m. lines-each σ P Q f n d (omega arith) (λ j b. h j (omega arith)) k m)
  where
    old : List ModelItem
    old = (lines σ n d).problem.items

    new : ModelItem
    new = (drawn_line σ (get_or old n no_item) (lines σ n d).state).item

    go : Dec (k ≡ n) → (k < n → Q (get_or old k no_item)) → Q (get_or (set old n new) k no_item)
    go (yes e) ih =
        let l : n < length old = omega (arith, lines-length σ n d) in
        rw (e, get_or-set_same old n new no_item l) (f _ _ (rw (lines-beyond σ n d n (omega arith)) (h n (omega arith))))
    go (no e) ih = rw (get_or-set_other old n k new no_item e) (ih (omega arith))

-- a section, item by item
pub section-each : (σ : Section) (P Q : ModelItem → Type 0) → ((i : ModelItem) (s : ℕ) → P i → Q (drawn_line σ i s).item) → (d : DrawnProblem) → Sized d
    → Each d.problem.count (λ k. P (item_at d.problem k))
    → Each (drawn_section σ d).problem.count (λ k. Q (item_at (drawn_section σ d).problem k))
section-each σ P Q f d w h k l =
    let n = d.problem.count in
    lines-each σ P Q f n d (omega (arith, w.few, w.places)) h k (rw (lines-count σ n d) at l)

section-sized : (σ : Section) (d : DrawnProblem) → Sized d → Sized (drawn_section σ d)
section-sized σ d w =
    let n = d.problem.count in
    record { few = rw (lines-count σ n d) w.few; places = lines-length σ n d ∙ w.places }

-- ---- the heading, and the problem after its items and after its lower bounds

pub heading-some : (s : ℕ) → 1 ≤ (drawn_heading s).problem.count
unfolding drawn_heading
heading-some s = (choice-in (next_state (next_state s)) 1 16 (omega arith)).0

pub heading-few : (s : ℕ) → (drawn_heading s).problem.count ≤ 16
unfolding drawn_heading
heading-few s = (choice-in (next_state (next_state s)) 1 16 (omega arith)).1

pub heading-capacity : (s : ℕ) → nat_abs (drawn_heading s).problem.capacity ≤ 100000000
unfolding drawn_heading
heading-capacity s = around-in (next_state s) 100000000

heading-length : (s : ℕ) → length (drawn_heading s).problem.items ≡ 16
unfolding drawn_heading
heading-length s = refl

pub heading-blank : (s k : ℕ) → k < (drawn_heading s).problem.count → item_at (drawn_heading s).problem k ≡ no_item
unfolding drawn_heading
heading-blank s k h = get_or-replicate 16 k no_item no_item (omega (arith, h, heading-few s))

pub heading-sized : (s : ℕ) → Sized (drawn_heading s)
heading-sized s = record { few = heading-few s; places = heading-length s }

abbrev pub with_items : ℕ → DrawnProblem
with_items s = drawn_section Items (drawn_heading s)

abbrev pub with_lowers : ℕ → DrawnProblem
with_lowers s = drawn_section Lower (with_items s)

pub items-sized : (s : ℕ) → Sized (with_items s)
items-sized s = section-sized Items (drawn_heading s) (heading-sized s)

pub lowers-sized : (s : ℕ) → Sized (with_lowers s)
lowers-sized s = section-sized Lower (with_items s) (items-sized s)
