-- What a step of the reader keeps (specs/Reading.antt), for what the code's functions require.
--   Few p          the record has at most 16 items
-- step-item: a line of an item, a bound or a need raises the item number by at most one.
-- lines-stopped: a refusal ends the reading. one_more: a line after others.
-- head_few, side-few, need-few, last-few, end-few: no section or line makes a record of more than 16 items.
use mathlib.Core.Path.{◌≡◌, refl, ap}
use mathlib.Core.Bool.{Bool, true, false, cond}
use mathlib.Core.List.{List}
use Prim.Native.Nat.{ℕ, zero, suc, ◌+◌, ◌≤◌}
use native.Mathlib.Omega.{arith}
use lib.Dec.{ltb}
use lib.ListN.{length}
use Rattle.knapsack.specs.declared.Refusal.{Refusal}
use Rattle.model.specs.declared.Blanks.{Blanks}
use Rattle.model.specs.declared.Side.{Side}
use Rattle.model.specs.declared.refusals.Reason.TheVariants as refusal
use Rattle.lines.specs.Places.{line_at, refusal_on}
use Rattle.sheet.specs.declared.Progress.{Progress}
use Rattle.sheet.specs.Sections.{stopped_by, refused_at, LineForm, step_of, lines_of}
use Rattle.sheet.specs.Reading.{limit, items, word_of, limit_form, item_form_by, bound_form, need_form, limit_section, items_section, bounds_section, head_of}
use Rattle.sheet.specs.Reading.{needs, needs_section, end_of_sheet}
use Rattle.sheet.proofs.Sections.{onward-keeps, step_keeps, section-keeps}

pub step-item : {A : Type 0} (f : LineForm A) (s : List ℕ) (p : Progress) → ((a : A) → f.item p a ≡ suc p.item) → (step_of f s p).item ≤ suc p.item
step-item f s p e = step_keeps f (λ q. q.item ≤ suc p.item) s p (λ r. omega arith) (λ a n. omega (arith, e a)) (omega arith)

abbrev pub Few : Progress → Type 0
Few p = p.model.count ≤ 16

none-few : (r : Refusal) → Few (stopped_by r)
none-few r = omega arith

limit-few : (s : List ℕ) → Few (limit_section s)
unfolding limit_section
limit-few s = section-keeps limit_form Few limit 1 1 _ s _ none-few (λ p b n h. h) (λ n at h. omega arith) (omega arith)

pub head_few : (kind : Blanks) (s : List ℕ) → Few (head_of kind s)
unfolding head_of items_section
head_few kind s = section-keeps (item_form_by kind) Few items 1 16 _ s (limit_section s) none-few (λ p i n h. h) (λ n at h. h) (limit-few s)

pub side-few : (s : List ℕ) (side : Side) (p : Progress) → Few p → Few (bounds_section s side p)
unfolding bounds_section
side-few s side p h = section-keeps (bound_form side) Few (word_of side) _ p.model.count _ s p none-few (λ q b n k. k) (λ n at k. h) h

pub need-few : (s : List ℕ) (p : Progress) → Few p → Few (step_of need_form s p)
need-few s p h = step_keeps need_form Few s p none-few (λ b n. h) h

pub last-few : (s : List ℕ) (p : Progress) → Few p → Few (needs_section s p)
unfolding needs_section
last-few s p h = section-keeps need_form Few needs 0 16 _ s p none-few (λ q b n k. k) (λ n at k. h) h

pub end-few : (s : List ℕ) (p : Progress) → Few p → Few (end_of_sheet s p)
unfolding end_of_sheet
end-few s p h = onward-keeps Few p _ h (go (ltb p.at (length s)))
  where
    go : (b : Bool) → Few (cond b (refused_at s refusal.Form p.at) p)
    go true = none-few (refusal_on refusal.Form (line_at s p.at))
    go false = h

-- a refusal ends the reading, however many lines there are to come
pub lines-stopped : {A : Type 0} (f : LineForm A) (s : List ℕ) (p : Progress) (r : Refusal) (k d n : ℕ) → n ≡ d + k → lines_of f k s p ≡ stopped_by r
    → lines_of f n s p ≡ stopped_by r
unfolding lines_of step_of
lines-stopped f s p r k zero n e h = let q : n ≡ k = omega arith in rw q h
lines-stopped f s p r k (suc d) n e h = let q : n ≡ suc (d + k) = omega arith in rw q (rw (lines-stopped f s p r k d (d + k) refl h))

-- the lines before one, and that line
pub one_more : {A : Type 0} (f : LineForm A) (s : List ℕ) (p q : Progress) (k : ℕ) → q ≡ lines_of f k s p → step_of f s q ≡ lines_of f (suc k) s p
unfolding lines_of
one_more f s p q k h = ap (step_of f s) h
