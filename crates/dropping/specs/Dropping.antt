-- A record without its blank items: paper 02, request 9.
--   kept m k             the item at place k, from 0, is not blank
--   renumber keep k      the new number of item k, from 1;  renumbered keep n: a need by the new numbers
--   lines_to keep l t     sixteen lines of needs: the first t of l by the new numbers, and unused ones behind them
--   dropped_to m n t      what is made of the first n items and the first t lines of needs, which are not counted as yet
--   dropped m            the record with its blank items left out
--   appended_unless_blank q x   the record with one item more, or without
--   named_in t f k        one of the first t lines names item k, from 1
--   hinders m k          the item at place k is blank and cannot be left out: its bounds cross or a need names it
--   first_hindered m      the first such place; the count if there is none
--   hindrance m          place 0 if nothing would remain, else the first such place
--   Droppable m          something remains, and no blank item hinders: so it is where the hindrance is not below the count (proofs/Dropped, droppable)
use Rattle.std.specs.Prelude.{Bool, true, false, cond, not, List, ◌≡◌, ℕ, zero, suc, ◌-◌, ◌≤◌, eqb, get_or, set, replicate}
use Rattle.arith.specs.Sum.{Each}
use Rattle.model.specs.declared.Model.{Model}
use Rattle.model.specs.declared.ModelItem.{ModelItem}
use Rattle.model.specs.declared.Need.{Need}
use Rattle.model.specs.Needs.{no_need}
use Rattle.model.specs.Records.{no_item, item_at, need_at, is_blank, bounds_cross, names_item}
use Rattle.model.specs.Setters.{appended, with_need_count}
use Rattle.dropping.specs.Kept.{rank, packed, first_from}

abbrev pub kept : Model → ℕ → Bool
kept m k = not (is_blank (item_at m k))

abbrev pub renumber : (ℕ → Bool) → ℕ → ℕ
renumber keep k = suc (rank keep (k - 1))

abbrev pub renumbered : (ℕ → Bool) → Need → Need
renumbered keep n = record { item = renumber keep n.item; cover = renumber keep n.cover }

unfoldable pub lines_to : (ℕ → Bool) → List Need → ℕ → List Need
lines_to keep l zero = replicate 16 no_need
lines_to keep l (suc t) = set (lines_to keep l t) t (renumbered keep (get_or l t no_need))

abbrev pub dropped_to : Model → ℕ → ℕ → Model
dropped_to m n t = record {
  items = packed no_item (kept m) (item_at m) n;
  count = rank (kept m) n;
  capacity = m.capacity;
  needs = record { lines = lines_to (kept m) m.needs.lines t; count = 0 };
}

abbrev pub dropped : Model → Model
dropped m = with_need_count (dropped_to m m.count m.needs.count) m.needs.count

abbrev pub appended_unless_blank : Model → ModelItem → Model
appended_unless_blank q x = cond (is_blank x) q (appended q x)

-- ---- what stands against it

unfoldable pub named_in : ℕ → (ℕ → Need) → ℕ → Bool
named_in zero f k = false
named_in (suc t) f k = cond (named_in t f k) true (names_item (f t) k)

abbrev pub hinders : Model → ℕ → Bool
hinders m k = cond (is_blank (item_at m k)) (cond (bounds_cross (item_at m k)) true (named_in m.needs.count (need_at m.needs) (suc k))) false

abbrev pub first_hindered : Model → ℕ
first_hindered m = first_from m.count (hinders m) 0

abbrev pub hindrance : Model → ℕ
hindrance m = cond (eqb (rank (kept m) m.count) 0) 0 (first_hindered m)

pub record Droppable (m : Model) : Type 0 where
  pub remains : 1 ≤ rank (kept m) m.count
  pub uncrossed : Each m.count (λ k. is_blank (item_at m k) ≡ true → bounds_cross (item_at m k) ≡ false)
  pub unnamed : Each m.count (λ k. is_blank (item_at m k) ≡ true → named_in m.needs.count (need_at m.needs) (suc k) ≡ false)
