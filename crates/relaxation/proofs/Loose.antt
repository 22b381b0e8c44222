-- A record with its items continuous, but for those that its needs name, is its relaxation: it has its figures in range, and its needs stay allowed.
-- loosened-none, loosened-more: while the items are made continuous. loosened-same, loosened-needed: when all are.
-- ranged: figures in range are what the order asks for.
use mathlib.Core.Path.{◌≡◌, refl, sym, ap, ◌∙◌, subst}
use mathlib.Core.Bool.{Bool, false}
use mathlib.Core.List.{List}
use Prim.Native.Nat.{ℕ, ◌+◌, ◌≤◌, ◌<◌}
use native.Mathlib.Decide.{ℕ_discrete}
use native.Mathlib.Omega.{arith}
use lib.IntN.{nat_abs}
use lib.ListN.{length, get_or, set}
use lib.Seq.{get_or-set_same, get_or-set_other}
use Rattle.arith.proofs.Parts.{within_more, abs-within}
use Rattle.knapsack.specs.declared.Item.{Item}
use Rattle.knapsack.specs.declared.Mark.TheVariants.{Integer}
use Rattle.knapsack.specs.declared.Problem.{Problem}
use Rattle.knapsack.specs.Meaning.{instance_of}
use Rattle.knapsack.specs.Ranges.{blank, item_at}
use Rattle.knapsack.specs.Items.{with_item}
use Rattle.knapsack.proofs.Same.{Same}
use Rattle.model.specs.declared.Model.{Model}
use Rattle.model.specs.declared.Sense.{Sense}
use Rattle.model.specs.declared.Need.{Need}
use Rattle.model.specs.Needs.{NotNegative, Present, Named, Allowed, names, relaxed_but}
use Rattle.model.specs.Records.{plain_of, needs_of, ItemFigures, FiguresInRange, Admissible}
use Rattle.ordering.specs.Ranking.{Ranged}
use Rattle.cases.proofs.Relaxing.{allowed-relaxed}
use Rattle.planner.specs.Branching.{NamedBy, Needed}
use Rattle.planner.proofs.Breaking.{needed}
use Rattle.relaxation.specs.Lent.{loose, Loosened}

pub loosened-none : (p : Problem) (named : List Bool) → Loosened p named 0 p
loosened-none p named = record { count = refl; capacity = refl; items = λ j h. absurd (omega arith) }

pub loosened-more : (p q : Problem) (named : List Bool) (k : ℕ) → k < length q.items → Loosened p named k q
    → Loosened p named (k + 1) (with_item q k (loose (get_or named k false) (item_at p k)))
loosened-more p q named k size e = record { count = e.count; capacity = e.capacity; items = λ j h. go j h (ℕ_discrete j k) }
  where
    new : Item
    new = loose (get_or named k false) (item_at p k)

    go : (j : ℕ) → j < k + 1 → Dec (j ≡ k) → get_or (set q.items k new) j blank ≡ loose (get_or named j false) (item_at p j)
    go j h (yes i) = rw i (get_or-set_same q.items k new blank size)
    go j h (no i) = get_or-set_other q.items k j new blank i ∙ e.items j (omega arith)

-- ---- when all are

module _ (sense : Sense) (m : Model) (a : Admissible m) (named : List Bool) (by : NamedBy (needs_of m.needs) named) (q : Problem)
    (e : Loosened (plain_of sense m) named m.count q) where
  abbrev p : Problem
  p = plain_of sense m

  abbrev ns : List Need
  ns = needs_of m.needs

  -- the items that are named are those that a need names
  item-is : (k : ℕ) → k < m.count → item_at q k ≡ loose (names ns k) (item_at p k)
  item-is k h = e.items k h ∙ ap (λ b. loose b (item_at p k)) (by.each k (omega (arith, (a.figures sense).few-items)))

  pub loosened-same : Same (instance_of q) (relaxed_but ns (instance_of p))
  loosened-same = record { capacity = e.capacity; count = e.count; items = λ k h. item-is k (omega (arith, e.count)) }

  figures : FiguresInRange q
  figures = record {
    some-items = omega (arith, e.count, (a.figures sense).some-items);
    few-items = omega (arith, e.count, (a.figures sense).few-items);
    capacity-in = subst (λ b. nat_abs b ≤ 100000000) (sym e.capacity) (a.figures sense).capacity-in;
    items-in = λ k g.
        let h : k < m.count = omega (arith, e.count) in
        subst ItemFigures (sym (item-is k h)) (in-range (names ns k) (item_at p k) ((a.figures sense).items-in k h));
  }
    where
      in-range : (b : Bool) (x : Item) → ItemFigures x → ItemFigures (loose b x)
      in-range b x f = record { weight-in = f.weight-in; price-in = f.price-in; lower_in = f.lower_in; upper_in = f.upper_in }

  still-named : (k : ℕ) → Named (relaxed_but ns (instance_of p)) k → Named (instance_of q) k
  still-named k h = let x = sym (item-is k h.inside) in record {
    inside = omega (arith, e.count, h.inside);
    whole = subst (λ (j : Item). j.mark ≡ Integer) x h.whole;
    above = subst (λ (j : Item). NotNegative j.lower) x h.above;
    below = subst (λ (j : Item). Present j.upper) x h.below;
  }

  pub loosened-needed : Needed q m.needs
  loosened-needed = record { figures = figures; few = a.few-needs; allowed = λ n i. allowed (allowed-relaxed (instance_of p) ns (needed sense m a).allowed n i) }
    where
      allowed : {n : Need} → Allowed (relaxed_but ns (instance_of p)) n → Allowed (instance_of q) n
      allowed {n} h = record { item = still-named n.item h.item; cover = still-named n.cover h.cover }

pub ranged : (p : Problem) → FiguresInRange p → Ranged p
ranged p r = record {
  few = r.few-items;
  small = λ k h. record {
    weight = abs-within (item_at p k).weight (r.items-in k h).weight-in;
    price = within_more (omega arith) (abs-within (item_at p k).price (r.items-in k h).price-in);
  };
}
