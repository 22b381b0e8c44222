-- Paper 01's rows L and M: the definition computed, and what that means.
use Rattle.std.specs.Prelude.{None}
use Rattle.std.specs.Prelude.{Ok}
use mathlib.Core.Path.{◌≡◌, refl}
use mathlib.Core.List.{◌∷◌}
use Prim.Native.Nat.{ℕ}
use lib.IntN.{pos, negsuc}
use lib.ListN.{replicate}
use Rattle.arith.specs.Gcd.{signed}
use Rattle.std.specs.Prelude.{Some}
use Rattle.knapsack.specs.declared.Mark.TheVariants.{Integer}
use Rattle.knapsack.specs.declared.Item.{Item}
use Rattle.model.specs.Needs.{no_needs}
use Rattle.model.specs.Records.{no_item, items_in, some_item, needs_verdict, verdict_by}
use Rattle.model.specs.declared.Model.{Model}
use Rattle.model.specs.declared.ModelItem.{ModelItem}
use Rattle.model.specs.declared.Sense.{Sense}
use Rattle.model.specs.declared.Sense.TheVariants.{Sure, Possible}
use Rattle.knapsack.specs.Meaning.{LeastPair, NoPair}
use Rattle.domination.specs.Trades.{serving, least_give}
use Rattle.domination.specs.Pairs.{one_way, pair_of, paired, numbered, least_pair}
use Rattle.domination.proofs.Minimal.{pair-steps, pair-missing}
use Rattle.domination.proofs.Eligible.{eligible-iff}

-- an integer item with lower bound 0
abbrev pub item : ℕ → ℕ → ℕ → Item
item a c u = record { mark = Integer; weight = pos a; price = pos c; lower = Some (pos 0); upper = Some (pos u) }

-- with one weight, low and high
abbrev weighed : Item → ModelItem
weighed i = record { mark = i.mark; low = i.weight; high = i.weight; price = i.price; lower = i.lower; upper = i.upper }

-- row F, with this upper bound of the first item
abbrev pub row_f : ℕ → Model
row_f u = record { items = weighed (item 3 5 u) ∷ weighed (item 4 6 10) ∷ replicate 14 no_item; count = 2; capacity = pos 10; needs = no_needs }

pub row-L : (sense : Sense) → least_pair sense (row_f 10) 1 2 ≡ Ok (Some (negsuc 3, pos 3))
unfolding items_in some_item needs_verdict verdict_by signed serving least_give one_way pair_of paired numbered least_pair
row-L Sure = refl
row-L Possible = refl

pub row-M : (sense : Sense) → least_pair sense (row_f 3) 1 2 ≡ Ok None
unfolding items_in some_item needs_verdict verdict_by signed serving least_give one_way pair_of paired numbered least_pair
row-M Sure = refl
row-M Possible = refl

pair-L : pair_of (item 3 5 10) (item 4 6 10) ≡ Some (negsuc 3, pos 3)
unfolding signed serving least_give one_way pair_of
pair-L = refl

pair-M : pair_of (item 3 5 3) (item 4 6 10) ≡ None
unfolding signed serving least_give one_way pair_of
pair-M = refl

-- End theorems: what the rows mean.
pub row-L-least : LeastPair (item 3 5 10) (item 4 6 10) (negsuc 3) (pos 3)
row-L-least = (pair-steps (item 3 5 10) (item 4 6 10) ((eligible-iff (item 3 5 10)).0 refl) ((eligible-iff (item 4 6 10)).0 refl) (negsuc 3) (pos 3)).0 pair-L

pub row-M-none : NoPair (item 3 5 3) (item 4 6 10)
row-M-none = (pair-missing (item 3 5 3) (item 4 6 10) ((eligible-iff (item 3 5 3)).0 refl) ((eligible-iff (item 4 6 10)).0 refl)).0 pair-M
