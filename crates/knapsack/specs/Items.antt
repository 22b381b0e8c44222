-- Tests of an item, and a problem with one item changed.
--   is_absent b        the bound is none
--   is_open x          the item lacks a bound
--   with_item p j x    the problem with x at place j
use Rattle.std.specs.Prelude.{Bool, true, false, cond, ℕ, set}
use Rattle.std.specs.Prelude.{Option, ℤ, None, Some}
use Rattle.knapsack.specs.declared.Item.{Item}
use Rattle.knapsack.specs.declared.Problem.{Problem}

abbrev pub is_absent : Option ℤ → Bool
is_absent None = true
is_absent (Some v) = false

abbrev pub is_open : Item → Bool
is_open x = cond (is_absent x.lower) true (is_absent x.upper)

abbrev pub with_item : Problem → ℕ → Item → Problem
with_item p j x = record { items = set p.items j x; count = p.count; capacity = p.capacity }
