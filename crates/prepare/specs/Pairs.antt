-- A table of pairs, spread over a table for each of the two steps.
--   first_step q, second_step q   the steps of a pair; zero where there is none
--   Short q                     they are within 1,000
--   no_steps                     tables of zeros
--   with_pair r k q              the tables r with the steps of q at k
--   Holds r k q                 the tables hold the steps of q at k
--   Spread t n r                the tables hold the first n entries of t, and zeros from there on
--   Agrees p c                  the columns hold the weights and prices of the problem's items
--   PairsOf p named r           the tables hold the least pairs of p but those with an item that a need names, and are true of all columns of p
use Rattle.std.specs.Prelude.{Option, None, Some, ◌≡◌, Bool, List, ℕ, ◌/◌, ◌%◌, ◌≤◌, ◌<◌, ℤ, pos, nat_abs, length, get_or, set, replicate}
use Rattle.knapsack.specs.declared.Problem.{Problem}
use Rattle.knapsack.specs.Ranges.{item_at}
use Rattle.domination.specs.Pairs.{tabled}
use Rattle.greedy.specs.declared.Columns.{Columns}
use Rattle.greedy.specs.Fill.{at, weight_of, price_of}
use Rattle.setting.specs.declared.Pairs.{Pairs}
use Rattle.setting.specs.Ready.{ReadyPairs}

abbrev pub first_step : Option (ℤ × ℤ) → ℤ
first_step None = pos 0
first_step (Some (a, b)) = a

abbrev pub second_step : Option (ℤ × ℤ) → ℤ
second_step None = pos 0
second_step (Some (a, b)) = b

-- no step is longer than any least pair's
abbrev pub Short : Option (ℤ × ℤ) → Type 0
Short q = (nat_abs (first_step q) ≤ 1000) × (nat_abs (second_step q) ≤ 1000)

abbrev pub no_steps : Pairs
no_steps = record { first = replicate 256 (pos 0); second = replicate 256 (pos 0) }

abbrev pub with_pair : Pairs → ℕ → Option (ℤ × ℤ) → Pairs
with_pair r k q = record { first = set r.first k (first_step q); second = set r.second k (second_step q) }

pub record Holds (r : Pairs) (k : ℕ) (q : Option (ℤ × ℤ)) : Type 0 where
  pub first_step : at r.first k ≡ first_step q
  pub second-step : at r.second k ≡ second_step q

pub record Spread (t : List (Option (ℤ × ℤ))) (n : ℕ) (r : Pairs) : Type 0 where
  pub first-length : length r.first ≡ 256
  pub second-length : length r.second ≡ 256
  pub held : (k : ℕ) → k < n → Holds r k (get_or t k None)
  pub rest : (k : ℕ) → n ≤ k → Holds r k None

pub record Agrees (p : Problem) (c : Columns) : Type 0 where
  pub weights-agree : (k : ℕ) → k < p.count → weight_of c k ≡ (item_at p k).weight
  pub prices-agree : (k : ℕ) → k < p.count → price_of c k ≡ (item_at p k).price

pub record PairsOf (p : Problem) (named : List Bool) (r : Pairs) : Type 0 where
  pub held : (k : ℕ) → k < 256 → Holds r k (tabled p named (k / 16) (k % 16))
  pub ready : (c : Columns) → Agrees p c → ReadyPairs c r
