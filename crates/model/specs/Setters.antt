-- Records by steps: the equations of src/setters.rt.
--   with_capacity m b    with that capacity
--   with_count m n       with that count
--   with_items m l       with those items, all 16 places
--   with_item m j x      with x at place j
--   appended m x        with an item more
--   bounded side b i    the item with the bound b on that side
--   with_bound m side j b   with that bound of the item at place j
--   with_needs m ns      with those needs
--   with_need_count m t   with that number of needs
--   with_need m j x      with x as line j
--   appended_need m x    with a line of needs more
use Rattle.std.specs.Prelude.{List, ℕ, suc, ℤ, set}
use Rattle.std.specs.Prelude.{Option}
use Rattle.model.specs.declared.Model.{Model}
use Rattle.model.specs.declared.ModelItem.{ModelItem}
use Rattle.model.specs.declared.Need.{Need}
use Rattle.model.specs.declared.Needs.{Needs}
use Rattle.model.specs.declared.Side.{Side}
use Rattle.model.specs.declared.Side.TheVariants.{Lower, Upper}
use Rattle.model.specs.Records.{item_at}

abbrev pub with_capacity : Model → ℤ → Model
with_capacity m b = record { items = m.items; count = m.count; capacity = b; needs = m.needs }

abbrev pub with_count : Model → ℕ → Model
with_count m n = record { items = m.items; count = n; capacity = m.capacity; needs = m.needs }

abbrev pub with_items : Model → List ModelItem → Model
with_items m l = record { items = l; count = m.count; capacity = m.capacity; needs = m.needs }

abbrev pub with_item : Model → ℕ → ModelItem → Model
with_item m j x = record { items = set m.items j x; count = m.count; capacity = m.capacity; needs = m.needs }

abbrev pub appended : Model → ModelItem → Model
appended m x = with_count (with_item m m.count x) (suc m.count)

abbrev pub bounded : Side → Option ℤ → ModelItem → ModelItem
bounded Lower b i = record { mark = i.mark; low = i.low; high = i.high; price = i.price; lower = b; upper = i.upper }
bounded Upper b i = record { mark = i.mark; low = i.low; high = i.high; price = i.price; lower = i.lower; upper = b }

abbrev pub with_bound : Model → Side → ℕ → Option ℤ → Model
with_bound m side j b = with_item m j (bounded side b (item_at m j))

abbrev pub with_needs : Model → Needs → Model
with_needs m ns = record { items = m.items; count = m.count; capacity = m.capacity; needs = ns }

abbrev pub with_need_count : Model → ℕ → Model
with_need_count m t = with_needs m (record { lines = m.needs.lines; count = t })

abbrev pub with_need : Model → ℕ → Need → Model
with_need m j x = with_needs m (record { lines = set m.needs.lines j x; count = m.needs.count })

abbrev pub appended_need : Model → Need → Model
appended_need m x = with_need_count (with_need m m.needs.count x) (suc m.needs.count)
