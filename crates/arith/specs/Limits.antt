-- Limits that several crates share. They bound what the planner's arithmetic meets, so that nothing overflows.
--   farthest        how far from 0 an amount of a box may be: what stands for an absent bound (knapsack, proofs/Reach)
--   most_room        how much of the capacity a filling leaves at most, or lacks
--   most_worth       how much a filling is worth at most, without sign
use Rattle.std.specs.Prelude.{ℕ}

abbrev pub farthest : ℕ
farthest = 300000000

abbrev pub most_room : ℕ
most_room = 20000000000000

abbrev pub most_worth : ℕ
most_worth = 200000000000000
