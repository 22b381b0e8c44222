-- What the relaxation's entry owes, in paper 01's words. Its answer has the planner's kind and is worth no less: relaxed-kind and relaxed-value of
-- `planned-demands` (planner, proofs/Demands).
-- same-items (end theorem): the lent list holds the same items afterwards, whether its problem is accepted or not.
use mathlib.Core.List.{List}
use mathlib.Core.Path.{refl}
use Prim.Native.Nat.{ℕ}
use lib.IntN.{ℤ}
use lib.ListN.{length, get_or}
use Rattle.knapsack.specs.declared.Answer.{Answer}
use Rattle.knapsack.specs.Verdicts.{Verdict}
use Rattle.std.specs.Prelude.{Ok, Err}
use Rattle.knapsack.specs.declared.Item.{Item}
use Rattle.model.specs.declared.ModelItem.{ModelItem}
use Rattle.model.specs.declared.Sense.{Sense}
use Rattle.model.specs.Records.{no_item, item_in, verdict}
use Rattle.ordering.specs.Order.{order}
use Rattle.ordering.proofs.Order.{in_order_lem}
use Rattle.ordering.proofs.Permutations.{Inverse, inverse}
use Rattle.relaxation.specs.Demands.{SameItems}
use Rattle.relaxation.specs.declared.Terms.{Terms}
use Rattle.relaxation.specs.Lent.{model_of, in_order, if_accepted, after, Relaxes}
use Rattle.relaxation.proofs.Lent.{items-length, items_at}

ordered_same : (s : Sense) (l : List ModelItem) → SameItems l (in_order s (λ k. get_or l k no_item) (length l))
ordered_same s l = go (inverse (length l) place (in_order_lem items (length l)).place (in_order_lem items (length l)).once)
  where
    own : ℕ → ModelItem
    own k = get_or l k no_item

    items : ℕ → Item
    items k = item_in s (own k)

    place : ℕ → ℕ
    place u = get_or (order items (length l)) u 0

    go : (rank : ℕ → ℕ) × Inverse (length l) place rank → SameItems l (in_order s own (length l))
    go (rank, r) = record {
      length-is = items-length s own (length l);
      from = place;
      to = rank;
      from_in = (in_order_lem items (length l)).place;
      to_in = r.inside;
      to-from = r.rank-of;
      from-to = r.place_of;
      item-is = items_at s own (length l);
    }

after_same : (b : ℤ) (t : Terms) (l : List ModelItem) → SameItems l (after b t l)
unfolding after
after_same b t l = go (verdict (model_of b t.needs l))
  where
    go : (v : Verdict) → SameItems l (if_accepted v (in_order t.sense (λ k. get_or l k no_item) (length l)) l)
    go (Ok _) = ordered_same t.sense l
    go (Err f) = record {
      length-is = refl;
      from = λ u. u;
      to = λ u. u;
      from_in = λ u h. h;
      to_in = λ u h. h;
      to-from = λ u h. refl;
      from-to = λ u h. refl;
      item-is = λ u h. refl;
    }

pub same-items : (b : ℤ) (t : Terms) (l m : List ModelItem) (r : Answer) → Relaxes b t l m r → SameItems l m
same-items b t l m r h = rw h.list (after_same b t l)
