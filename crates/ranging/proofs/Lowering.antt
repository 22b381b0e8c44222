-- The problem at a lower price, as the code makes it.
-- deepest-most: no fall is above 20,000.
-- lowered_is: it is the lowered instance.  lowered-figures, lowered-needed: the solver takes it.  shown-lowered: what is shown of a point stays so.
-- span-first, span-kept, span-passed, span-unended, span_none, span-found: how the span of falls begins, narrows and ends.
-- stands_by: the code's test of the lower bound.  shown-good: what it asks of an amount.  low-stays: an item at its lower bound has no fall.
-- falls-none, falls-more: the falls of one item more.  fall-small, no-small: none is above 20,000.
-- planned-watched: the planner's best points are such.
use mathlib.Core.Bool.{false}
use mathlib.Core.List.{List}
use mathlib.Core.Path.{◌≡◌, refl, sym, ap, subst, fun_ext, ◌∙◌}
use Prim.Native.Nat.{ℕ, zero, suc, ◌+◌, ◌≤◌, ◌<◌}
use native.Mathlib.Decide.{ℕ_discrete}
use native.Mathlib.Omega.{arith}
use lib.IntN.{ℤ, pos, neg_ℤ, nat_abs, ◌-ℤ◌}
use lib.ListN.{length, get_or, set, replicate, length-set}
use lib.Seq.{get_or-set_same, get_or-set_other}
use Rattle.arith.proofs.Integers.{split, zed}
use Rattle.arith.proofs.Parts.{impossible}
use Rattle.arith.proofs.Sums.{bump-same, bump-other}
use Rattle.arith.proofs.Fractions.{≤ᶠ-trans}
use Rattle.arith.specs.Fractions.{Frac, int, frac, ◌≤ᶠ◌}
use Rattle.arith.specs.Sum.{bump}
use Rattle.arith.specs.declared.Fraction.{Fraction}
use Rattle.knapsack.specs.Items.{is_absent}
use Rattle.knapsack.specs.Meaning.{Instance, Point, instance_of, value, prices, KeepsLower, Shown, point_of}
use Rattle.knapsack.specs.Ranges.{blank, item_at}
use Rattle.knapsack.specs.declared.Answer.{Answer}
use Rattle.std.specs.Prelude.{Option, None, Some}
use Rattle.knapsack.specs.declared.Kind.TheVariants as kind
use Rattle.knapsack.specs.declared.Problem.{Problem}
use Rattle.foremost.proofs.Foremost.{priced_item}
use Rattle.model.specs.Needs.{Every, Allowed, AnswersNeeds, FeasibleNeeds}
use Rattle.model.proofs.Records.{accepted}
use Rattle.model.specs.Promises.{Planned}
use Rattle.model.specs.Records.{ItemFigures, FiguresInRange, plain_of, needs_of}
use Rattle.model.specs.declared.Model.{Model}
use Rattle.model.specs.declared.Need.{Need}
use Rattle.model.specs.declared.Needs.{Needs}
use Rattle.model.specs.declared.Sense.TheVariants.{Sure}
use Rattle.model.specs.declared.Side.TheVariants.{Upper}
use Rattle.cases.proofs.Endless.{allowed-priced}
use Rattle.feasibility.proofs.Breaking.{keeps-upper}
use Rattle.feasibility.proofs.Divisor.{good-amount}
use Rattle.feasibility.proofs.Passing.{answers}
use Rattle.feasibility.specs.Amounts.{GoodAmount}
use Rattle.feasibility.specs.Check.{breaks_bound}
use Rattle.planner.proofs.Breaking.{needed}
use Rattle.planner.specs.Branching.{is_optimal, Needed}
use Rattle.ranging.specs.Ranging.{deepest, lowered, StaysBest, FallIs}
use Rattle.ranging.specs.Searching.{lowered_at, Watched, StandsLow, Passed, Spans, Narrows, FallsAre}
use Rattle.ranging.specs.declared.Span.{Span}
use Rattle.ranging.proofs.Ranging.{all-before, unfallen, lowest-stays, not-passed, unpassed, unended}

-- ---- the lowered problem

pub deepest-most : (c : ℤ) → nat_abs c ≤ 10000 → deepest c ≤ 20000
deepest-most = split _ (λ a b. simp zed (omega arith))

module _ (p : Problem) (k : ℕ) (d : ℕ) (inside : k < length p.items) where
  abbrev prices-at : ℕ → ℤ
  prices-at = bump (prices (instance_of p)) k (neg_ℤ (pos d))

  item-at : (j : ℕ) → item_at (lowered_at p k d) j ≡ priced_item (item_at p j) (prices-at j)
  item-at j = go (ℕ_discrete j k)
    where
      go : Dec (j ≡ k) → item_at (lowered_at p k d) j ≡ priced_item (item_at p j) (prices-at j)
      go (yes e) = subst (λ i. item_at (lowered_at p k d) i ≡ priced_item (item_at p i) (prices-at i)) (sym e)
          (get_or-set_same p.items k _ blank inside ∙ ap (priced_item (item_at p k)) (sym (bump-same (prices (instance_of p)) k (neg_ℤ (pos d)))))
      go (no e) = get_or-set_other p.items k j _ blank e ∙ ap (priced_item (item_at p j)) (sym (bump-other (prices (instance_of p)) k (neg_ℤ (pos d)) j e))

  pub lowered_is : instance_of (lowered_at p k d) ≡ lowered (instance_of p) k d
  lowered_is = ap (λ f. record { capacity = p.capacity; count = p.count; item = f }) (fun_ext item-at)

  -- a price that falls no further than to -10,000
  fallen-in : (c : ℤ) → nat_abs c ≤ 10000 → d ≤ deepest c → nat_abs (c -ℤ pos d) ≤ 10000
  fallen-in = split _ (λ a b. simp zed (omega arith))

  pub lowered-figures : FiguresInRange p → d ≤ deepest (item_at p k).price → k < p.count → FiguresInRange (lowered_at p k d)
  lowered-figures f most in_count = record {
    some-items = f.some-items;
    few-items = f.few-items;
    capacity-in = f.capacity-in;
    items-in = λ j l. at j l (ℕ_discrete j k);
  }
    where
      at : (j : ℕ) → j < p.count → Dec (j ≡ k) → ItemFigures (item_at (lowered_at p k d) j)
      at j l (yes e) =
          let g = f.items-in k in_count in
          subst (λ i. ItemFigures (item_at (lowered_at p k d) i)) (sym e)
          (subst ItemFigures (sym (get_or-set_same p.items k _ blank inside))
          (record { weight-in = g.weight-in; price-in = fallen-in (item_at p k).price g.price-in most; lower_in = g.lower_in; upper_in = g.upper_in }))
      at j l (no e) = subst ItemFigures (sym (get_or-set_other p.items k j _ blank e)) (f.items-in j l)

  pub lowered-needed : (ns : Needs) → Needed p ns → d ≤ deepest (item_at p k).price → k < p.count → Needed (lowered_at p k d) ns
  lowered-needed ns h most in_count = record {
    figures = lowered-figures h.figures most in_count;
    few = h.few;
    allowed = subst (λ s. Every (Allowed s) (needs_of ns)) (sym lowered_is) (allowed-priced (instance_of p) prices-at (needs_of ns) h.allowed);
  }

  pub shown-lowered : (x : ℕ → Fraction) → Shown (instance_of p) x → Shown (instance_of (lowered_at p k d)) x
  shown-lowered x h = subst (λ s. Shown s x) (sym lowered_is)
      (record {
        small = h.small;
        divisor = h.divisor;
        single = h.single;
        beyond = h.beyond;
      })

-- ---- an item at its lower bound

pub stands_by : (b : Option ℤ) (x : Fraction) → GoodAmount x → is_absent b ≡ false → breaks_bound Upper b x.p x.q ≡ false
    → StandsLow b (frac x.p x.q)
stands_by None x g e h = absurd (impossible (sym e))
stands_by (Some l) x g e h = (keeps-upper (Some l) x g).0 h

-- an amount that is shown can be reckoned with
pub shown-good : (p : Problem) (x : ℕ → Fraction) (k : ℕ) → FiguresInRange p → Shown (instance_of p) x → k < p.count → GoodAmount (x k)
shown-good p x k f h l = good-amount (item_at p k) (x k) (f.items-in k l) (record { own = h.divisor k l; near = h.small k l })

-- ---- the span of falls

module _ (p : Problem) (ns : Needs) (a : Answer) (k : ℕ) (w : Watched p ns a) (inside : k < p.count) where
  abbrev s : Instance
  s = instance_of p

  abbrev deep : ℕ
  deep = deepest (item_at p k).price

  pub span-first : (l : ℕ) → Spans p ns a k (record { low = 0; high = deep + 1; leaps = l })
  span-first l = record {
    order = omega arith;
    most = omega arith;
    kept = unfallen s k inside (needs_of ns) (point_of a) w.best.optimal;
    lost = λ h. absurd (omega arith);
  }

  module _ (low high : ℕ) (l : ℕ) (h : Spans p ns a k (record { low = low; high = high; leaps = l })) (d : ℕ) (above : low < d) (below : d < high) (m : ℕ) where
    abbrev from : Span
    from = record { low = low; high = high; leaps = l }

    -- after the fall tried the point is best
    pub span-kept : (b : Answer) → StaysBest s (needs_of ns) (point_of b) k d → value (lowered s k d) (point_of b) ≤ᶠ value (lowered s k d) (point_of a)
        → Narrows p ns a k from (record { low = d; high = high; leaps = m })
    span-kept b o l = record {
      spans = record {
        order = below;
        most = h.most;
        kept = unpassed s k inside (needs_of ns) (point_of a) d (point_of b) w.best.optimal.feasible o l;
        lost = h.lost;
      };
      less = omega arith;
    }

    -- another point is worth more after a fall that is not above it
    pub span-passed : (b : Answer) → FeasibleNeeds s (needs_of ns) (point_of b) → (r : ℕ) → Passed p k a b low r → r ≤ d
        → Narrows p ns a k from (record { low = low; high = r; leaps = m })
    span-passed b f r q t = record {
      spans = record {
        order = q.above;
        most = omega (arith, h.most);
        kept = h.kept;
        lost = λ g. not-passed s k inside (needs_of ns) (point_of a) r (point_of b) f q.ahead;
      };
      less = omega arith;
    }

    -- there is no best point
    pub span-unended : (b : Answer) → AnswersNeeds (lowered s k d) (needs_of ns) b → (b.kind ≡ kind.Optimal → ⊥)
        → Narrows p ns a k from (record { low = low; high = d; leaps = m })
    span-unended b t n = record {
      spans = record {
        order = above;
        most = omega (arith, h.most);
        kept = h.kept;
        lost = λ g. unended s k inside (needs_of ns) (point_of a) d b t n;
      };
      less = omega arith;
    }

  module _ (z : Span) (h : Spans p ns a k z) (end : z.high ≤ z.low + 1) where
    -- the point is best after the last fall
    pub span_none : deep < z.high → FallIs s (needs_of ns) (point_of a) k 0
    span_none l =
        let q : z.low ≡ deep = omega (arith, h.most, h.order) in
        record { none = λ e. subst (StaysBest s (needs_of ns) (point_of a) k) q h.kept; least = λ n. absurd (n refl) }

    -- or the fall is found
    pub span-found : z.high ≤ deep → FallIs s (needs_of ns) (point_of a) k z.high
    span-found l = record {
      none = λ e. absurd (omega (arith, e, h.order));
      least = λ n. record {
        some = omega (arith, h.order);
        most = l;
        kept = λ e g. all-before s k inside (needs_of ns) (point_of a) w.best.optimal z.low e (omega arith) h.kept;
        lost = h.lost l;
      };
    }

  -- no point has less of an item than its lower bound
  pub low-stays : StandsLow (item_at p k).lower (point_of a k) → FallIs s (needs_of ns) (point_of a) k 0
  low-stays h = record {
    none = λ e. lowest-stays s k inside (needs_of ns) (point_of a) w.best.optimal
        (λ y f. under (item_at p k).lower (point_of a k) (y k) h (f.plain.keeps k inside).above) deep;
    least = λ n. absurd (n refl);
  }
    where
      under : (b : Option ℤ) (x y : Frac) → StandsLow b x → KeepsLower b y → x ≤ᶠ y
      under (Some l) x y g q = ≤ᶠ-trans x (int l) y g q
      under None x y g q = elim g [ ]

-- ---- all items

pub fall-small : (s : Instance) (ns : List Need) (x : Point) (k r : ℕ) → nat_abs (prices s k) ≤ 10000 → FallIs s ns x k r → r ≤ 20000
fall-small s ns x k zero h f = omega arith
fall-small s ns x k (suc r) h f = omega (arith, (f.least (λ e. omega arith)).most, deepest-most (prices s k) h)

zeros : (n k : ℕ) → ◌≡◌ {A = ℕ} (get_or (replicate n 0) k 0) 0
zeros zero k = refl
zeros (suc n) zero = refl
zeros (suc n) (suc k) = zeros n k

pub no-small : (k : ℕ) → get_or {A = ℕ} (replicate 16 0) k 0 ≤ 20000
no-small k = omega (arith, zeros 16 k)

module _ (p : Problem) (ns : Needs) (a : Answer) where
  pub falls-none : FallsAre p ns a 0 (replicate 16 0)
  falls-none = record { long = refl; falls = λ k l. absurd (omega arith); small = no-small }

  pub falls-more : (k : ℕ) (l : List ℕ) (r : ℕ) → k < 16 → FallsAre p ns a k l → FallIs (instance_of p) (needs_of ns) (point_of a) k r → r ≤ 20000
      → FallsAre p ns a (k + 1) (set l k r)
  falls-more k l r m h f g = record {
    long = simp length-set h.long;
    falls = λ j n. at j n (ℕ_discrete j k);
    small = λ j. few j (ℕ_discrete j k);
  }
    where
      at : (j : ℕ) → j < k + 1 → Dec (j ≡ k) → FallIs (instance_of p) (needs_of ns) (point_of a) j (get_or (set l k r) j 0)
      at j n (yes e) = rw (e, get_or-set_same l k r 0 (omega (arith, h.long))) f
      at j n (no e) = rw (get_or-set_other l k j r 0 e) (h.falls j (omega arith))

      few : (j : ℕ) → Dec (j ≡ k) → get_or (set l k r) j 0 ≤ 20000
      few j (yes e) = rw (e, get_or-set_same l k r 0 (omega (arith, h.long))) g
      few j (no e) = rw (get_or-set_other l k j r 0 e) (h.small j)

-- ---- the planner's answer

-- a best point that the planner shows
pub planned-watched : (m : Model) (a : Answer) → Planned Sure m a → a.kind ≡ kind.Optimal → Watched (plain_of Sure m) m.needs a
planned-watched m a p e =
    let h = answers Sure m a kind.Optimal p e (λ f g. impossible (ap is_optimal (sym g))) in
    record { needed = needed Sure m (accepted m h.0); best = h.1 }
