-- What a search relies on.
--   Changes s d        every item of no level is fixed, and what the levels from d on change is on d's lattice
--   ReadySetting s     the setting is in order: sizes, the order by price per weight, the levels, the lattices
--   pair_index i j      where the steps of the pair of items i and j stand
--   TruePair c p i j   taking the pair's steps away weighs no more and is worth more
--   ReadyPairs c p     the pairs are true of the columns
--   Ready s p          both
--   Marked s marks     the integer items are those of the levels
use Rattle.std.specs.Prelude.{◌≡◌, ◌≢◌, ℕ, ◌+◌, ◌*◌, ◌≤◌, ◌<◌, pos, nat_abs, ◌+ℤ◌, ◌*ℤ◌, ◌≤ℤ◌, ◌<ℤ◌}
use Rattle.knapsack.specs.declared.Mark.{Mark}
use Rattle.knapsack.specs.declared.Mark.TheVariants.{Integer}
use Rattle.greedy.specs.declared.Columns.{Columns}
use Rattle.greedy.specs.Fill.{at, weight_of, price_of}
use Rattle.greedy.specs.Sized.{Sized}
use Rattle.greedy.specs.Ordered.{Ordered}
use Rattle.greedy.proofs.Relaxed.{InOrder}
use Rattle.lattice.specs.Lattice.{On, Tame, lattice_at}
use Rattle.setting.specs.declared.Setting.{Setting}
use Rattle.setting.specs.declared.Pairs.{Pairs}
use Rattle.setting.specs.Box.{level_at}

-- every item of no level is fixed, and what the levels from d on change is on d's lattice
pub record Changes (s : Setting) (d : ℕ) : Type 0 where
  pub fixed : (k : ℕ) → k < s.cols.count → ((j : ℕ) → j < s.levels → level_at s j ≢ k) → at s.ends.lo k ≡ at s.ends.hi k
  pub on : (j : ℕ) → d ≤ j → j < s.levels → On (lattice_at s.lattice d) (weight_of s.cols (level_at s j)) (price_of s.cols (level_at s j))

-- the steps of the pair of two items
abbrev pub pair_index : ℕ → ℕ → ℕ
pair_index i j = 16 * i + j

-- taking the pair's steps away weighs no more and is worth more
pub record TruePair (c : Columns) (p : Pairs) (i j : ℕ) : Type 0 where
  pub heavy : pos 0 ≤ℤ (weight_of c i *ℤ at p.first (pair_index i j) +ℤ weight_of c j *ℤ at p.second (pair_index i j))
  pub loss : (price_of c i *ℤ at p.first (pair_index i j) +ℤ price_of c j *ℤ at p.second (pair_index i j)) <ℤ pos 0

pub record ReadySetting (s : Setting) : Type 0 where
  pub sized : Sized s.cols s.ends
  pub ordered : Ordered s.cols
  pub in_order : InOrder s.cols s.ends
  pub few : s.levels ≤ 16
  pub level_in : (d : ℕ) → d < s.levels → level_at s d < s.cols.count
  pub distinct : (i j : ℕ) → i < s.levels → j < s.levels → level_at s i ≡ level_at s j → i ≡ j
  pub low-is : (d : ℕ) → d < s.levels → at s.low d ≡ at s.ends.lo (level_at s d)
  pub high_is : (d : ℕ) → d < s.levels → at s.high d ≡ at s.ends.hi (level_at s d)
  pub tame : (d : ℕ) → d < 16 → Tame (lattice_at s.lattice d)
  pub changes : (d : ℕ) → d < s.levels → (lattice_at s.lattice d).stride ≢ pos 0 → Changes s d

pub record ReadyPairs (c : Columns) (p : Pairs) : Type 0 where
  pub steps-in : (k : ℕ) → (nat_abs (at p.first k) ≤ 1000) × (nat_abs (at p.second k) ≤ 1000)
  pub pairs : (i j : ℕ) → i < 16 → j < 16 → at p.first (pair_index i j) ≢ pos 0 → TruePair c p i j

pub record Ready (s : Setting) (p : Pairs) : Type 0 where
  pub setting : ReadySetting s
  pub true-pairs : ReadyPairs s.cols p

pub record Marked (s : Setting) (marks : ℕ → Mark) : Type 0 where
  pub integer : (d : ℕ) → d < s.levels → marks (level_at s d) ≡ Integer
  pub level : (k : ℕ) → k < s.cols.count → marks k ≡ Integer → (d : ℕ) × (d < s.levels) × (level_at s d ≡ k)
