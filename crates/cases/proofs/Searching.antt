-- The contract of a solver by cases, in the words of the meaning: what each way out of its calls has shown.
--   PointLeadsBy, PointLeads s   x is worth no less than y, and y does not come before x if it is worth as much; by the values of s
--   WorthBy                      x is worth no less than y
--   WorthFirst L                 an order that goes by what points are worth first: worth-order, first-order
--   SearchedNeeds L s ns b c     the points of s with the needs ns have been looked through: b was the best before, c is the best after it
-- point-leads-over: the order by way of a common divisor.  point-leads-refl, point-leads-trans, point-leads-total: any two points can be compared.
-- optimal-is-top, first-is-top: a best point, the first best point, leads all.  parts-needs: the two cases of a need are all.
-- End theorems:
-- top-is-optimal, top-is-first: who leads all with needs is the best, the first best, with needs.
-- broken-open: a need that a feasible point breaks is not decided, so each case leaves fewer undecided.
-- needs-infeasible, needs-behind, needs-bounded, needs-kept, needs-split: the ways out of a call.
-- needs-nothing, needs-best: what is found from nothing is the answer.
use mathlib.Core.Path.{◌≡◌, subst}
use mathlib.Core.Bool.{false}
use mathlib.Core.List.{List}
use mathlib.Core.Logic.{◌⊎◌, inl, inr, ◌↔◌}
use Prim.Native.Nat.{ℕ}
use native.Mathlib.Nat.{mul-le-mul, mul_comm}
use lib.IntN.{pos, ◌*ℤ◌}
use lib.Signed.{◌≤ℤ◌}
use Rattle.arith.proofs.Fractions.{Over, over-≤, over-total, over-scale, Common, common, ≤ᶠ-trans, <ᶠ-not-≤}
use Rattle.arith.specs.Fractions.{Frac, ◌≤ᶠ◌, ◌<ᶠ◌}
use Rattle.knapsack.proofs.Bridge.{bridge-feasible}
use Rattle.knapsack.proofs.Common.{valueᴰ}
use Rattle.knapsack.specs.Meaning.{Instance, Point, value, prices, Feasible, Optimal, Infeasible}
use Rattle.arith.proofs.Parts.{lt-le}
use Rattle.foremost.proofs.Earlier.{not_after, not-after-not}
use Rattle.foremost.proofs.Leads.{Leads, leads-refl, leads-trans, leads-total}
use Rattle.knapsack.specs.Meaning.{Earlier, Foremost}
use Rattle.foremost.proofs.Points.{bridge-earlier, earlier-bridge}
use Rattle.model.specs.declared.Need.{Need}
use Rattle.model.specs.Needs.{Every, In, KeepsNeed, KeepsNeeds, FeasibleNeeds, InfeasibleNeeds, OptimalNeeds, ForemostNeeds, Inside}
use Rattle.cases.proofs.Needs.{FeasibleNeedsᴰ}
use Rattle.cases.proofs.Splitting.{without, having, cases-in}
use Rattle.cases.proofs.Tops.{◌⊆◌, Top, Parts, top_part}
use Rattle.cases.proofs.Searched.{Known, nothing, best, Settles, Follows, Searched, settles-part, settles-empty, searched-passed, searched-top}
use Rattle.cases.proofs.Searched.{searched-of-two, searched-tells}
use Rattle.cases.proofs.Points.{bridge-need, bridge-needs}
use Rattle.cases.proofs.Undecided.{decided, broken-undecided}

pub record PointLeadsBy (v : Point → Frac) (n : ℕ) (x y : Point) : Type 0 where
  pub worth : v y ≤ᶠ v x
  pub sooner : v x ≤ᶠ v y → ¬ Earlier n y x

-- the same in every case of s: values and counts compute
abbrev pub PointLeads : Instance → Point → Point → Type 0
PointLeads s = PointLeadsBy (value s) s.count

abbrev pub WorthBy : (Point → Frac) → ℕ → Point → Point → Type 0
WorthBy v n x y = v y ≤ᶠ v x

abbrev pub SearchedNeeds : ((Point → Frac) → ℕ → Point → Point → Type 0) → Instance → List Need → Known Point → Known Point → Type 0
SearchedNeeds L s ns b c = Searched (L (value s) s.count) (FeasibleNeeds s ns) b c

-- an order that goes by what points are worth first
pub record WorthFirst (L : (Point → Frac) → ℕ → Point → Point → Type 0) : Type 0 where
  pub transitive : (s : Instance) (x y z : Point) → L (value s) s.count x y → L (value s) s.count y z → L (value s) s.count x z
  pub leading : (s : Instance) (x y : Point) → PointLeads s x y → L (value s) s.count x y

-- ---- the order

module _ (s : Instance) where
  -- the values of two points over common divisors
  worth-over : (x y : Point) (a : Common s.count x) (b : Common s.count y)
      → (value s y ≤ᶠ value s x) ↔ ((valueᴰ s b.N *ℤ pos a.D) ≤ℤ (valueᴰ s a.N *ℤ pos b.D))
  worth-over x y a b = over-≤ (mul-le-mul a.D≥1 b.D≥1) (subst (λ F. Over F (value s y) (valueᴰ s b.N *ℤ pos a.D)) (mul_comm b.D a.D)
      (over-scale a.D (over-total b.D s.count y b.N b.reads (prices s))))
      (over-scale b.D (over-total a.D s.count x a.N a.reads (prices s)))

  pub point-leads-over : (x y : Point) (a : Common s.count x) (b : Common s.count y)
      → PointLeads s x y ↔ Leads (valueᴰ s) s.count a.D a.N b.D b.N
  point-leads-over x y a b = (
    λ h. record {
      worth = (worth-over x y a b).0 h.worth;
      sooner = λ w. not_after s.count (λ k. a.N k *ℤ pos b.D) (λ k. b.N k *ℤ pos a.D)
          (λ e. h.sooner ((worth-over y x b a).1 w) (earlier-bridge s.count b.D a.D y x b.N a.N b.D≥1 a.D≥1 b.reads a.reads e));
    },
    λ h. record {
      worth = (worth-over x y a b).1 h.worth;
      sooner = λ w e. not-after-not s.count (λ k. a.N k *ℤ pos b.D) (λ k. b.N k *ℤ pos a.D) (h.sooner ((worth-over y x b a).0 w))
          (bridge-earlier s.count b.D a.D y x b.N a.N b.D≥1 a.D≥1 b.reads a.reads e);
    },
  )

  pub point-leads-refl : (x : Point) → PointLeads s x x
  point-leads-refl x = let a = common s.count x in (point-leads-over x x a a).1 (leads-refl (valueᴰ s) s.count a.D a.N)

  pub point-leads-trans : (x y z : Point) → PointLeads s x y → PointLeads s y z → PointLeads s x z
  point-leads-trans x y z h k = go (common s.count x) (common s.count y) (common s.count z)
    where
      go : Common s.count x → Common s.count y → Common s.count z → PointLeads s x z
      go a b c = (point-leads-over x z a c).1
          (leads-trans (valueᴰ s) s.count b.N c.N a.N c.D≥1 b.D≥1 a.D≥1 ((point-leads-over x y a b).0 h) ((point-leads-over y z b c).0 k))

  pub point-leads-total : (x y : Point) → PointLeads s x y ⊎ PointLeads s y x
  point-leads-total x y = go (common s.count x) (common s.count y)
    where
      go : Common s.count x → Common s.count y → PointLeads s x y ⊎ PointLeads s y x
      go a b = pick (leads-total (valueᴰ s) s.count a.D b.D a.N b.N)
        where
          pick : Leads (valueᴰ s) s.count a.D a.N b.D b.N ⊎ Leads (valueᴰ s) s.count b.D b.N a.D a.N → PointLeads s x y
              ⊎ PointLeads s y x
          pick (inl h) = inl ((point-leads-over x y a b).1 h)
          pick (inr h) = inr ((point-leads-over y x b a).1 h)

<ᶠ-≤ᶠ : (x y : Frac) → x <ᶠ y → x ≤ᶠ y
unfolding ◌<ᶠ◌ ◌≤ᶠ◌
<ᶠ-≤ᶠ x y h = lt-le h

pub first-order : WorthFirst PointLeadsBy
first-order = record { transitive = point-leads-trans; leading = λ s x y h. h }

pub worth-order : WorthFirst WorthBy
worth-order = record { transitive = λ s x y z h k. ≤ᶠ-trans (value s z) (value s y) (value s x) k h; leading = λ s x y h. h.worth }

-- ---- best points are ahead of all

pub optimal-is-top : (s : Instance) (x : Point) → Optimal s x → Top (WorthBy (value s) s.count) (Feasible s) x
optimal-is-top s x o = record { inside = o.feasible; ahead = o.highest }

pub top-is-optimal : (s : Instance) (ns : List Need) (x : Point) → Top (WorthBy (value s) s.count) (FeasibleNeeds s ns) x → OptimalNeeds s ns x
top-is-optimal s ns x t = record { feasible = t.inside; highest = t.ahead }

pub first-is-top : (s : Instance) (x : Point) → Optimal s x → Foremost s x → Top (PointLeads s) (Feasible s) x
first-is-top s x o f = record {
  inside = o.feasible;
  ahead = λ y p. record {
    worth = o.highest y p;
    sooner = λ w. f y (record {
      feasible = p;
      highest = λ z q. ≤ᶠ-trans (value s z) (value s x) (value s y) (o.highest z q) w;
    });
  };
}

pub top-is-first : (s : Instance) (ns : List Need) (x : Point) → Top (PointLeads s) (FeasibleNeeds s ns) x → OptimalNeeds s ns x × ForemostNeeds s ns x
top-is-first s ns x t = (
  record { feasible = t.inside; highest = λ y p. (t.ahead y p).worth },
  λ y o. (t.ahead y o.feasible).sooner
      (o.highest x t.inside),
)

-- ---- a need that a feasible point breaks is not decided: a call on it leaves fewer undecided

pub broken-open : (s : Instance) (n : Need) → Inside s n → (x : Point) → Feasible s x → ¬ KeepsNeed n x → decided s n ≡ false
broken-open s n i x p h = go (common s.count x)
  where
    go : Common s.count x → decided s n ≡ false
    go c = broken-undecided s n i.0 i.1 c.D c.N ((bridge-feasible s c.D x c.N c.D≥1 c.reads).0 p)
        (λ k. h ((bridge-need s c.D x c.N c.D≥1 c.reads n i).1 k))

-- ---- the two cases

module _ (s : Instance) (ns : List Need) (inside : Every (Inside s) ns) (n : Need) (i : In n ns) where
  cut : (x : Point) (c : Common s.count x) → FeasibleNeeds s ns x ↔ (FeasibleNeeds (without s n.item) ns x ⊎ FeasibleNeeds (having s n.cover) ns x)
  cut x c = (λ p. to (split.0 (whole.0 p)), λ p. whole.1 (split.1 (from p)))
    where
      whole : FeasibleNeeds s ns x ↔ FeasibleNeedsᴰ s ns c.D c.N
      whole = bridge-needs s ns inside c.D x c.N c.D≥1 c.reads

      lacks : FeasibleNeeds (without s n.item) ns x ↔ FeasibleNeedsᴰ (without s n.item) ns c.D c.N
      lacks = bridge-needs (without s n.item) ns inside c.D x c.N c.D≥1 c.reads

      has : FeasibleNeeds (having s n.cover) ns x ↔ FeasibleNeedsᴰ (having s n.cover) ns c.D c.N
      has = bridge-needs (having s n.cover) ns inside c.D x c.N c.D≥1 c.reads

      split : FeasibleNeedsᴰ s ns c.D c.N ↔
          (FeasibleNeedsᴰ (without s n.item) ns c.D c.N ⊎ FeasibleNeedsᴰ (having s n.cover) ns c.D c.N)
      split = cases-in s n (inside n i).0 (inside n i).1 c.D c.N ns i

      to : FeasibleNeedsᴰ (without s n.item) ns c.D c.N ⊎ FeasibleNeedsᴰ (having s n.cover) ns c.D c.N
          → FeasibleNeeds (without s n.item) ns x ⊎ FeasibleNeeds (having s n.cover) ns x
      to (inl p) = inl (lacks.1 p)
      to (inr p) = inr (has.1 p)

      from : FeasibleNeeds (without s n.item) ns x ⊎ FeasibleNeeds (having s n.cover) ns x
          → FeasibleNeedsᴰ (without s n.item) ns c.D c.N ⊎ FeasibleNeedsᴰ (having s n.cover) ns c.D c.N
      from (inl p) = inl (lacks.0 p)
      from (inr p) = inr (has.0 p)

  pub parts-needs : Parts (FeasibleNeeds s ns) (FeasibleNeeds (without s n.item) ns) (FeasibleNeeds (having s n.cover) ns)
  parts-needs = record {
    cut = λ x. (cut x (common s.count x)).0;
    left = λ x p. (cut x (common s.count x)).1 (inl p);
    right = λ x p. (cut x (common s.count x)).1 (inr p);
  }

-- ---- the ways out of a call

module _ {L : (Point → Frac) → ℕ → Point → Point → Type 0} (order : WorthFirst L) (s : Instance) (ns : List Need) where
  abbrev On : Point → Point → Type 0
  On = L (value s) s.count

  same : (x : Point) → On x x
  same x = order.leading s x x (point-leads-refl s x)

  only-plain : FeasibleNeeds s ns ⊆ Feasible s
  only-plain x p = p.plain

  passed : (b : Known Point) → Settles On b (Feasible s) → SearchedNeeds L s ns b b
  passed b h = searched-passed On same (order.transitive s) b (settles-part On same (order.transitive s) only-plain b h)

  pub needs-infeasible : (b : Known Point) → Infeasible s → SearchedNeeds L s ns b b
  needs-infeasible b h = passed b (settles-empty On same (order.transitive s) h b)

  pub needs-behind : (q x : Point) → Top On (Feasible s) x → On q x → SearchedNeeds L s ns (best q) (best q)
  needs-behind q x t l = passed (best q) (λ y p. order.transitive s q x y l (t.ahead y p))

  -- a bound of the plain problem that is below what is known
  pub needs-bounded : (q : Point) (w : Frac) → ((y : Point) → Feasible s y → value s y ≤ᶠ w) → w <ᶠ value s q → SearchedNeeds L s ns (best q) (best q)
  needs-bounded q w h l = passed (best q) (λ y p. order.leading s q y (record {
    worth = ≤ᶠ-trans (value s y) w (value s q) (h y p) (<ᶠ-≤ᶠ w (value s q) l);
    sooner = λ k. absurd (<ᶠ-not-≤ w (value s q) l (≤ᶠ-trans (value s q) (value s y) w k (h y p)));
  }))

  pub needs-kept : (b : Known Point) (x : Point) → Top On (Feasible s) x → KeepsNeeds ns x → Follows On (best x) b → SearchedNeeds L s ns b (best x)
  needs-kept b x t k l = searched-top On same (order.transitive s) b x (top_part On only-plain t (record { plain = t.inside; kept = k })) l

  module _ (inside : Every (Inside s) ns) (n : Need) (i : In n ns) (b c d : Known Point) where
    pub needs-split : SearchedNeeds L (without s n.item) ns b c → SearchedNeeds L (having s n.cover) ns c d → SearchedNeeds L s ns b d
    needs-split x y = searched-of-two On same (order.transitive s) (parts-needs s ns inside n i) b c d x y

  pub needs-nothing : SearchedNeeds L s ns nothing nothing → InfeasibleNeeds s ns
  needs-nothing h = searched-tells On same (order.transitive s) nothing h

  pub needs-best : (x : Point) → SearchedNeeds L s ns nothing (best x) → Top On (FeasibleNeeds s ns) x
  needs-best x h = searched-tells On same (order.transitive s) (best x) h
