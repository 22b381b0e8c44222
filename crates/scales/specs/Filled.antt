-- What the loops over the items leave: which table the cells show, how many are live, how many were written, and what the units to come weigh.
--   Stage                        a scale: its number, the divisor of the weights, the cap on costs, and what is left of the capacity
--   stage_items s ..              the items at a scale
--   SharedOf i D ws us g         g is what the weights, divided by D, share after scale i
--   ItemFilled s j ..            after the digit of item j
--   AllFilled s ..               after those of all items
use Rattle.std.specs.Prelude.{◌≡◌, List, ℕ, ◌-◌, ◌*◌}
use Rattle.scales.specs.declared.Live.{Live}
use Rattle.scales.specs.declared.Stage.{Stage}
use Rattle.scales.specs.Digits.{digit}
use Rattle.scales.specs.Tables.{at}
use Rattle.scales.specs.Filling.{Items, fill_item, fill, shared, scaled, items_of}
use Rattle.scales.specs.Lent.{Shows}
use Rattle.scales.specs.Counts.{live_of, pass_cells, live_at, heft_at, fill_cells}

abbrev pub stage_items : Stage → List ℕ → List ℕ → List ℕ → List ℕ → Items
stage_items s ws us ts ls = scaled s.cap s.i s.divisor (items_of ws us ts ls)

abbrev pub SharedOf : ℕ → ℕ → List ℕ → List ℕ → ℕ → Type 0
SharedOf i D ws us g = (cap : ℕ) (ts ls : List ℕ) → g ≡ shared (scaled cap i D (items_of ws us ts ls))

pub record ItemFilled (s : Stage) (j : ℕ) (I : Items) (whole n : ℕ) (old new : List ℕ) (r : Live) : Type 0 where
  pub live : r.n ≡ live_of (digit (I.range j)) (I.weight j) n s.rest
  pub written : r.written ≡ pass_cells (digit (I.range j)) (I.weight j) n s.rest whole
  pub heft : r.heft ≡ whole - digit (I.range j) * I.weight j
  pub shows : Shows s.cap (fill_item s.cap I j (at s.cap n old)) s.rest r.heft r.n old new

pub record AllFilled (s : Stage) (I : Items) (whole n : ℕ) (old new : List ℕ) (r : Live) : Type 0 where
  pub live : r.n ≡ live_at I I.count n s.rest
  pub written : r.written ≡ fill_cells I I.count n s.rest whole
  pub heft : r.heft ≡ heft_at I I.count whole
  pub shows : Shows s.cap (fill s.cap I I.count (at s.cap n old)) s.rest r.heft r.n old new
