-- The two cases of a need as problems: what a call on one of them is given.
--   Part s ns t          t is a case of s: what its points show is shown of s and the other way round, and fewer needs are undecided
-- capped_is, raised_is: the problems are the two cases.  capped-figures, raised-figures: their figures are in range.
-- part_without, part-having: the cases of a need that a feasible point breaks.
use mathlib.Core.Path.{◌≡◌, sym, ap, subst}
use mathlib.Core.Bool.{false}
use mathlib.Core.List.{List}
use Prim.Native.Nat.{ℕ, ◌≤◌, ◌<◌}
use native.Mathlib.Omega.{arith}
use native.Mathlib.Decide.{ℕ_discrete}
use lib.IntN.{ℤ, pos, nat_abs}
use lib.ListN.{length}
use Rattle.arith.proofs.Fractions.{Common, common}
use Rattle.arith.proofs.Integers.{split, zed, minℤ, maxℤ}
use Rattle.arith.proofs.Sums.{pick_ind}
use Rattle.knapsack.proofs.Branch.{narrow}
use Rattle.knapsack.proofs.Bridge.{bridge-feasible}
use Rattle.knapsack.specs.Items.{with_item}
use Rattle.knapsack.specs.Meaning.{Instance, instance_of, Feasible, stepped, amount_at}
use Rattle.knapsack.specs.Ranges.{item_at, BoundInRange}
use Rattle.knapsack.specs.declared.Answer.{Answer}
use Rattle.std.specs.Prelude.{Option, None, Some}
use Rattle.knapsack.specs.declared.Problem.{Problem}
use Rattle.model.specs.Records.{ItemFigures, FiguresInRange}
use Rattle.cases.proofs.Limits.{bounded, record-narrow, shown-narrow}
use Rattle.cases.proofs.Splitting.{cap, raise, without, having, without-out, having-out, allowed-without, allowed-having}
use Rattle.cases.proofs.Tops.{◌⊆◌}
use Rattle.cases.proofs.Undecided.{decided, undecided, undecided-without, undecided-having}
use Rattle.model.specs.declared.Need.{Need}
use Rattle.model.specs.Needs.{In, Every, Allowed}
use Rattle.planner.specs.Branching.{capped_at, raised_at, Worthy, Bounded}

-- ---- the problems

pub capped_is : (p : Problem) (k : ℕ) → k < length p.items → instance_of (capped_at p k) ≡ without (instance_of p) k
capped_is p k h = record-narrow p k (item_at p k).lower (cap (item_at p k).upper) h

pub raised_is : (p : Problem) (m : ℕ) → m < length p.items → instance_of (raised_at p m) ≡ having (instance_of p) m
raised_is p m h = record-narrow p m (raise (item_at p m).lower) (item_at p m).upper h

narrow-figures : (p : Problem) (k : ℕ) (l u : Option ℤ) → k < length p.items → BoundInRange l → BoundInRange u → FiguresInRange p
    → FiguresInRange (with_item p k (bounded (item_at p k) l u))
narrow-figures p k l u h a b f = record {
  some-items = f.some-items;
  few-items = f.few-items;
  capacity-in = f.capacity-in;
  items-in = λ j m. subst ItemFigures (sym (ap (λ (s : Instance). s.item j) (record-narrow p k l u h))) (record {
    weight-in = (f.items-in j m).weight-in;
    price-in = (f.items-in j m).price-in;
    lower_in = pick_ind BoundInRange (ℕ_discrete j k) l (item_at p j).lower (λ e. a) (λ e. (f.items-in j m).lower_in);
    upper_in = pick_ind BoundInRange (ℕ_discrete j k) u (item_at p j).upper (λ e. b) (λ e. (f.items-in j m).upper_in);
  });
}

cap-in : (b : Option ℤ) → BoundInRange b → BoundInRange (cap b)
cap-in None h = omega arith
cap-in (Some u) h = go u h
  where
    go : (u : ℤ) → nat_abs u ≤ 10000 → nat_abs (minℤ u (pos 0)) ≤ 10000
    go = split _ (λ a b. simp zed (omega arith))

raise-in : (b : Option ℤ) → BoundInRange b → BoundInRange (raise b)
raise-in None h = omega arith
raise-in (Some l) h = go l h
  where
    go : (l : ℤ) → nat_abs l ≤ 10000 → nat_abs (maxℤ l (pos 1)) ≤ 10000
    go = split _ (λ a b. simp zed (omega arith))

pub capped-figures : (p : Problem) (k : ℕ) → k < length p.items → k < p.count → FiguresInRange p → FiguresInRange (capped_at p k)
capped-figures p k h l f = narrow-figures p k (item_at p k).lower (cap (item_at p k).upper) h (f.items-in k l).lower_in
    (cap-in (item_at p k).upper (f.items-in k l).upper_in) f

pub raised-figures : (p : Problem) (m : ℕ) → m < length p.items → m < p.count → FiguresInRange p → FiguresInRange (raised_at p m)
raised-figures p m h l f = narrow-figures p m (raise (item_at p m).lower) (item_at p m).upper h (raise-in (item_at p m).lower (f.items-in m l).lower_in)
    (f.items-in m l).upper_in f

-- ---- their points

without-plain : (s : Instance) (k : ℕ) → Feasible (without s k) ⊆ Feasible s
without-plain s k x f = go (common s.count x)
  where
    go : Common s.count x → Feasible s x
    go c = (bridge-feasible s c.D x c.N c.D≥1 c.reads).1
        (without-out s k c.D c.N ((bridge-feasible (without s k) c.D x c.N c.D≥1 c.reads).0 f))

having-plain : (s : Instance) (m : ℕ) → Feasible (having s m) ⊆ Feasible s
having-plain s m x f = go (common s.count x)
  where
    go : Common s.count x → Feasible s x
    go c = (bridge-feasible s c.D x c.N c.D≥1 c.reads).1
        (having-out s m c.D c.N ((bridge-feasible (having s m) c.D x c.N c.D≥1 c.reads).0 f))

module _ (s : Instance) (k : ℕ) (l u : Option ℤ) where
  bounded-narrow : Feasible (narrow s k l u) ⊆ Feasible s → Bounded s → Bounded (narrow s k l u)
  bounded-narrow out b x d h = b x d (record {
    i = h.i;
    j = h.j;
    i-in = h.i-in;
    j-in = h.j-in;
    i-moves = h.i-moves;
    j-moves = h.j-moves;
    others = h.others;
    from = out x h.from;
    stays = λ t. out (stepped x d t) (h.stays t);
    rises = h.rises;
  })

  worthy-into : (a : Answer) → Worthy s a → Worthy (narrow s k l u) a
  worthy-into a w = record {
    kind-is = w.kind-is;
    shown = record {
      small = w.shown.small;
      divisor = w.shown.divisor;
      single = w.shown.single;
      beyond = w.shown.beyond;
    };
    exact = w.exact;
    divisor = w.divisor;
    lowest = w.lowest;
    still = w.still;
  }

  worthy-out : (a : Answer) → Worthy (narrow s k l u) a → Worthy s a
  worthy-out a w = record {
    kind-is = w.kind-is;
    shown = shown-narrow s k l u (amount_at a) w.shown;
    exact = w.exact;
    divisor = w.divisor;
    lowest = w.lowest;
    still = w.still;
  }

-- ---- a case

pub record Part (s : Instance) (ns : List Need) (t : Instance) : Type 0 where
  pub allowed : Every (Allowed t) ns
  pub limited : Bounded t
  pub into : (a : Answer) → Worthy s a → Worthy t a
  pub out : (a : Answer) → Worthy t a → Worthy s a
  pub fewer : undecided t ns < undecided s ns

module _ (s : Instance) (ns : List Need) (allowed : Every (Allowed s) ns) (limited : Bounded s) (n : Need) (i : In n ns) (open-yet : decided s n ≡ false) where
  pub part_without : Part s ns (without s n.item)
  part_without = record {
    allowed = allowed-without s n.item (allowed n i).item ns allowed;
    limited = bounded-narrow s n.item (s.item n.item).lower (cap (s.item n.item).upper) (without-plain s n.item) limited;
    into = worthy-into s n.item (s.item n.item).lower (cap (s.item n.item).upper);
    out = worthy-out s n.item (s.item n.item).lower (cap (s.item n.item).upper);
    fewer = undecided-without s ns n i open-yet;
  }

  pub part-having : Part s ns (having s n.cover)
  part-having = record {
    allowed = allowed-having s n.cover (allowed n i).cover ns allowed;
    limited = bounded-narrow s n.cover (raise (s.item n.cover).lower) (s.item n.cover).upper (having-plain s n.cover) limited;
    into = worthy-into s n.cover (raise (s.item n.cover).lower) (s.item n.cover).upper;
    out = worthy-out s n.cover (raise (s.item n.cover).lower) (s.item n.cover).upper;
    fewer = undecided-having s ns n i open-yet;
  }
