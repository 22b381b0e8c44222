use Rattle.std.specs.Prelude.{None}
use Rattle.std.proofs.Common.{◌≡◌, ℕ, ◌+◌, ◌*◌, ◌-◌, ◌<◌, ◌/◌, ◌%◌, ◌∙◌, Bool, cond, List, length, arith}
use borrow.Author.Count.{below_more}
use Rattle.std.proofs.Math.ListN.{length-set}
use Rattle.std.proofs.Math.Seq.{get_or-set_same, get_or-set_other}
use Rattle.knapsack.specs.declared.Problem.{Problem}
use Rattle.knapsack.specs.Ranges.{item_at}
use Rattle.domination.specs.Pairs.{numbered, placed, or_missing, barred, tabled}
use Rattle.domination.proofs.pair_table.Goals as goal

-- an entry, by the items at its places
at_places : (p : Problem) (named : List Bool) (i j : ℕ)
    → cond (barred named i j) None (or_missing (placed p.count (item_at p i) (item_at p j) (i + 1) (j + 1))) ≡ tabled p named i j
unfolding numbered
at_places p named i j = let e : i + 1 - 1 ≡ i = omega arith in let d : j + 1 - 1 ≡ j = omega arith in rw (e, d)

pub entry_of-requires : goal.entry_of-requires
entry_of-requires c = λ n. (c.requires.items-in _ (omega (arith, n)), c.requires.items-in _ (omega (arith, n)))

pub loop-k-preserved : goal.loop-k-preserved
loop-k-preserved c =
    let k = c.loop-k.k in
    let l = c.loop-k.t in
    let e = rw c.is_barred.ensures at c.entry_of.ensures ∙ at_places c.args.p c.args.named (k / 16) (k % 16) in
    record {
      long = simp length-set (omega arith);
      so_far = below_more _ _
          (λ j h. let ne : j ≡ k → ⊥ = omega arith in get_or-set_other l k j _ None ne ∙ c.loop-k.invariant.so_far j h)
          (let lt : k < length l = omega arith in get_or-set_same l k _ None lt ∙ e);
    }

pub returns : goal.returns
returns c = λ i j hi hj.
    let row : (16 * i + j) / 16 ≡ i = omega arith in
    let column : (16 * i + j) % 16 ≡ j = omega arith in
    rw (row, column) at (c.loop-k.invariant.so_far (16 * i + j) (omega arith))
