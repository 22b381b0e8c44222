-- Weights as costs: what is taken weighs the capacity, and what is left weighs what is over.
-- taken-weighs, left-weighs: what units cost that cost their weight if they are taken, or if they are left. caps-taken, caps-left: no filling costs more.
use mathlib.Core.Path.{◌≡◌, sym, subst, ◌∙◌}
use mathlib.Core.List.{List}
use Prim.Native.Nat.{ℕ, ◌+◌, ◌-◌, ◌*◌, ◌≤◌, ◌<◌, min}
use native.Mathlib.Omega.{arith}
use lib.ListN.{length}
use Rattle.scales.specs.Filling.{sum, load, cost, Within, items_of}
use Rattle.scales.proofs.Sums.{sum-cong, sum-add}
use Rattle.fillings.specs.declared.Parts.{Parts}
use Rattle.fillings.specs.Ranges.{num, items_in, Fair}
use Rattle.fillings.specs.Runs.{Fills}
use Rattle.fillings.specs.Leaps.{Caps}

module _ (ws us none : List ℕ) (zero : (j : ℕ) → num none j ≡ 0) (y : ℕ → ℕ) where
  abbrev weigh : (ℕ → ℕ) → ℕ
  weigh z = sum (length ws) (λ j. num ws j * z j)

  pub taken-weighs : cost (items_of ws us ws none) y ≡ weigh y
  taken-weighs = sum-cong (length ws) _ (λ j. num ws j * y j) (λ j l. one (num ws j * y j) (num none j) (num us j - y j) (zero j))
    where
      one : (a n v : ℕ) → n ≡ 0 → a + n * v ≡ a
      one a n v e = rw e (omega arith)

  pub left-weighs : ((j : ℕ) → j < length ws → y j ≤ num us j) → weigh y + cost (items_of ws us none ws) y ≡ weigh (num us)
  left-weighs h = sym (sum-add (length ws) (λ j. num ws j * y j) (λ j. num none j * y j + num ws j * (num us j - y j)))
      ∙ sum-cong (length ws) _ (λ j. num ws j * num us j) (λ j l. one (num ws j) (y j) (num us j) (num none j) (zero j) (h j l))
    where
      one : (w y u n : ℕ) → n ≡ 0 → y ≤ u → w * y + (n * y + w * (u - y)) ≡ w * u
      one w y u n e l = rw e (let parts : y + (u - y) ≡ u = omega arith in subst (λ (v : ℕ). w * y + (0 * y + w * (u - y)) ≡ w * v) parts (omega arith))

module _ (p q : Parts) (C total : ℕ) (fair : Fair p) (weights : q.weight ≡ p.weight) (ranges : q.range ≡ p.range)
    (total-is : total ≡ load (items_in p) (num p.range)) where
  same : Fair q
  same = record { long = rw weights fair.long; light = rw weights fair.light; ranges_in = λ k l. rw ranges (fair.ranges_in k l) }

  -- what is left over
  over : (none : List ℕ) → ((j : ℕ) → num none j ≡ 0) → (y : ℕ → ℕ) → Within (items_in p) y → Fills p C y →
      C + cost (items_of p.weight p.range none p.weight) y ≡ total
  over none zero y i fl = omega (arith, total-is, left-weighs p.weight p.range none zero y i)

  pub caps-taken : q.taken ≡ p.weight → ((j : ℕ) → num q.left j ≡ 0) → Caps p C q (min C total + 1)
  caps-taken e zero = record {
    fair = same;
    ranges = ranges;
    below = λ y i fl. rw (weights, ranges, e) (omega (arith, taken-weighs p.weight p.range q.left zero y, over q.left zero y i fl));
  }

  pub caps-left : ((j : ℕ) → num q.taken j ≡ 0) → q.left ≡ p.weight → Caps p C q ((total + 1) - C)
  caps-left zero e = record {
    fair = same;
    ranges = ranges;
    below = λ y i fl. rw (weights, ranges, e) (omega (arith, over q.taken zero y i fl));
  }
