-- What the entry's replies say. Paper 01, "Least pair" and rows 9 and 10 of "Refused, by place".
--   numbered_item sense m i     the item with number i, from 1, in that sense (02, request 11)
--   Answerable sense m i j     no refusal applies: the record is accepted, i and j are two items of it, and both are eligible
--   RefusedAs sense m i j f    why the refusal f is given: the record's, 9 or 10, in this order, with line 0
--   Told sense m i j r         what the reply r says of the items i and j, by its case: the entry's promise beside least_pair sense m i j
use Rattle.std.specs.Prelude.{Option, None, Some, Result, Ok, Err, ◌≡◌, ℕ, ◌-◌, ℤ}
use Rattle.knapsack.specs.declared.Item.{Item}
use Rattle.knapsack.specs.declared.Refusal.{Refusal}
use Rattle.knapsack.specs.Meaning.{LeastPair, NoPair}
use Rattle.knapsack.specs.Ranges.{item_at}
use Rattle.model.specs.Records.{plain_of, refusal_for, verdict, Numbers}
use Rattle.model.specs.declared.refusals.Reason.TheVariants as refusal
use Rattle.model.specs.declared.Model.{Model}
use Rattle.model.specs.declared.Sense.{Sense}
use Rattle.domination.specs.Eligible.{Eligible}

abbrev pub numbered_item : Sense → Model → ℕ → Item
numbered_item sense m i = item_at (plain_of sense m) (i - 1)

pub record Answerable (sense : Sense) (m : Model) (i j : ℕ) : Type 0 where
  pub is-accepted : verdict m ≡ Ok tt
  pub numbers : Numbers m.count i j
  pub first-eligible : Eligible (numbered_item sense m i)
  pub second-eligible : Eligible (numbered_item sense m j)

pub data RefusedAs (sense : Sense) (m : Model) (i j : ℕ) : Refusal → Type 0 where
  by-record : (f : Refusal) → verdict m ≡ Err f → RefusedAs sense m i j f
  by-numbers : verdict m ≡ Ok tt → ¬ Numbers m.count i j → RefusedAs sense m i j (refusal_for refusal.PairNumbers)
  by-items : verdict m ≡ Ok tt → Numbers m.count i j → ¬ (Eligible (numbered_item sense m i) × Eligible (numbered_item sense m j)) →
      RefusedAs sense m i j (refusal_for refusal.PairItems)

-- 01's none: no steps are a cost pair; else the steps with both the least |r| and the least |s|
abbrev pub Told : Sense → Model → ℕ → ℕ → Result (Option (ℤ × ℤ)) Refusal → Type 0
Told sense m i j (Err f) = RefusedAs sense m i j f
Told sense m i j (Ok None) = Answerable sense m i j × NoPair (numbered_item sense m i) (numbered_item sense m j)
Told sense m i j (Ok (Some (r, s))) = Answerable sense m i j × LeastPair (numbered_item sense m i) (numbered_item sense m j) r s
