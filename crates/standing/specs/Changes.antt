-- Changes of a problem: paper 02, request 10. Items have their numbers here, from 1.
--   Change               an item added at the end, item k removed, item k with another upper bound
--   others k j           the place j, from 0, is not that of item k
--   lowered k j          the new number of item j when item k goes;  lowered_need k n: a need by the new numbers
--   spared k ns j        line j of the needs does not name item k;  spared_to k ns t: those of the first t lines, by the new numbers
--   removed_to m k n t    what is made of the first n items and the first t lines of needs when item k goes
--   removed m k          the record without item k: later items move down, needs naming it go
--   changed c m          the changed record
--   full_verdict, missing_verdict, only_verdict   the rows of a change: 16, 17, 18
--   own_verdict c m       a change's own rows
--   change_verdict c m    the record's own refusal, then the change's, then that of the changed record
use Rattle.std.specs.Prelude.{Bool, cond, not, ℕ, suc, ◌-◌, ltb, eqb}
use Rattle.std.specs.Prelude.{Option, ℤ}
use Rattle.knapsack.specs.Verdicts.{Verdict}
use Rattle.model.specs.declared.Model.{Model}
use Rattle.model.specs.declared.ModelItem.{ModelItem}
use Rattle.model.specs.declared.Need.{Need}
use Rattle.model.specs.declared.Needs.{Needs}
use Rattle.model.specs.declared.Side.TheVariants.{Upper}
use Rattle.model.specs.Needs.{no_need}
use Rattle.model.specs.Records.{no_item, item_at, need_at, wrong_number, names_item, refused_for, or_else, verdict}
use Rattle.model.specs.declared.refusals.Reason.TheVariants as refusal
use Rattle.model.specs.Setters.{appended, with_bound}
use Rattle.dropping.specs.Kept.{rank, packed}

pub data Change : Type 0 where
  Adding : ModelItem → Change
  Removing : ℕ → Change
  Bounding : ℕ → Option ℤ → Change

-- ---- without an item

abbrev pub others : ℕ → ℕ → Bool
others k j = not (eqb (suc j) k)

abbrev pub lowered : ℕ → ℕ → ℕ
lowered k j = cond (ltb k j) (j - 1) j

abbrev pub lowered_need : ℕ → Need → Need
lowered_need k n = record { item = lowered k n.item; cover = lowered k n.cover }

abbrev pub spared : ℕ → Needs → ℕ → Bool
spared k ns j = not (names_item (need_at ns j) k)

abbrev pub spared_to : ℕ → Needs → ℕ → Needs
spared_to k ns t = record { lines = packed no_need (spared k ns) (λ j. lowered_need k (need_at ns j)) t; count = rank (spared k ns) t }

abbrev pub removed_to : Model → ℕ → ℕ → ℕ → Model
removed_to m k n t = record {
  items = packed no_item (others k) (item_at m) n;
  count = rank (others k) n;
  capacity = m.capacity;
  needs = spared_to k m.needs t;
}

abbrev pub removed : Model → ℕ → Model
removed m k = removed_to m k m.count m.needs.count

abbrev pub changed : Change → Model → Model
changed (Adding x) m = appended m x
changed (Removing k) m = removed m k
changed (Bounding k u) m = with_bound m Upper (k - 1) u

-- ---- verdicts

abbrev pub full_verdict : Model → Verdict
full_verdict m = refused_for (ltb 15 m.count) refusal.FullRecord

abbrev pub missing_verdict : Model → ℕ → Verdict
missing_verdict m k = refused_for (wrong_number m.count k) refusal.MissingItem

abbrev pub only_verdict : Model → Verdict
only_verdict m = refused_for (eqb m.count 1) refusal.OnlyItem

abbrev pub own_verdict : Change → Model → Verdict
own_verdict (Adding x) m = full_verdict m
own_verdict (Removing k) m = or_else (missing_verdict m k) (only_verdict m)
own_verdict (Bounding k u) m = missing_verdict m k

abbrev pub change_verdict : Change → Model → Verdict
change_verdict c m = or_else (or_else (verdict m) (own_verdict c m)) (verdict (changed c m))
