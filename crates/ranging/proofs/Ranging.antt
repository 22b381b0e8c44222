-- The falls that keep a point best are those up to one of them.
-- over-lowered: what a point is worth after a fall, over one divisor: less by the fall times the amount.
-- between: where a point is optimal before a fall and after it, it is so after every lesser one.  unfallen: so it is after none.
-- lowest-stays: a point with the least amount of the item is optimal after every fall.
-- not-passed: a point that another is worth more than is not optimal.  unpassed: one that no optimal point is worth more than is.
-- unended: after a fall that leaves no optimal point, unbounded say, no point is optimal.  unbounded-falls: so it is where steps are unbounded.
-- falls-once: there is one least fall, and it is `none` only where there is no fall.
use mathlib.Core.List.{List}
use mathlib.Core.Logic.{◌⊎◌, inl, inr}
use mathlib.Core.Path.{◌≡◌, refl, sym, ap, subst, subst₂, ◌∙◌}
use Prim.Native.Nat.{ℕ, zero, suc, ◌+◌, ◌*◌, ◌-◌, ◌≤◌, ◌<◌}
use native.Mathlib.Decide.{dec_lt}
use native.Mathlib.Nat.{mul-le-mul, mul_comm, mul-le-mul_left}
use native.Mathlib.Omega.{arith}
use lib.IntN.{ℤ, pos, neg_ℤ, ◌+ℤ◌, ◌-ℤ◌, ◌*ℤ◌, *ℤ_comm}
use lib.Signed.{◌≤ℤ◌, ◌<ℤ◌}
use Rattle.arith.proofs.Fractions.{Over, over-≤, over-scale, over-total, Common, common, ≤ᶠ-trans}
use Rattle.arith.proofs.Integers.{split2, split4, zed, ≤ℤ-or-<}
use Rattle.arith.proofs.Sums.{sum_bump, sum-cong}
use Rattle.arith.specs.Fractions.{◌≤ᶠ◌}
use Rattle.arith.specs.Sum.{sum, bump}
use Rattle.knapsack.proofs.Bridge.{Reads}
use Rattle.knapsack.proofs.Common.{valueᴰ}
use Rattle.knapsack.specs.Meaning.{Instance, Point, value, prices}
use Rattle.knapsack.specs.declared.Answer.{Answer}
use Rattle.knapsack.specs.declared.Kind.TheVariants as kind
use Rattle.model.specs.Needs.{FeasibleNeeds, OptimalNeeds, UnboundedNeeds, AnswersNeeds}
use Rattle.model.specs.declared.Need.{Need}
use Rattle.cases.proofs.Endless.{needs-priced}
use Rattle.cases.proofs.Once.{says, says-once, best-ends, ray-endless}
use Rattle.ranging.specs.Ranging.{deepest, lowered, StaysBest, LeastFall, FallIs}

-- ---- what a point is worth after a fall

module _ (s : Instance) (k : ℕ) (inside : k < s.count) where
  over-lowered : (x : Point) (D : ℕ) (N : ℕ → ℤ) → Reads s D x N → (d : ℕ) → Over D (value (lowered s k d) x) (valueᴰ s N -ℤ pos d *ℤ N k)
  over-lowered x D N h d = subst (Over D (value (lowered s k d) x)) sums (over-total D s.count x N h (bump (prices s) k (neg_ℤ (pos d))))
    where
      turned : (f : ℕ → ℤ) → sum s.count (λ j. f j *ℤ N j) ≡ sum s.count (λ j. N j *ℤ f j)
      turned f = sum-cong s.count (λ j. f j *ℤ N j) (λ j. N j *ℤ f j) (λ j l. *ℤ_comm (f j) (N j))

      less : (v n : ℤ) → v +ℤ n *ℤ neg_ℤ (pos d) ≡ v -ℤ pos d *ℤ n
      less = split2 _ (λ a b c e. simp zed (omega arith))

      sums : sum s.count (λ j. bump (prices s) k (neg_ℤ (pos d)) j *ℤ N j) ≡ valueᴰ s N -ℤ pos d *ℤ N k
      sums = turned (bump (prices s) k (neg_ℤ (pos d))) ∙ sum_bump s.count N (prices s) k (neg_ℤ (pos d)) inside
          ∙ ap (λ z. z +ℤ N k *ℤ neg_ℤ (pos d)) (sym (turned (prices s))) ∙ less (valueᴰ s N) (N k)

  -- with both points over one divisor
  module _ (x y : Point) (c : Common s.count x) (e : Common s.count y) where
    abbrev worth_x : ℤ
    worth_x = valueᴰ s c.N *ℤ pos e.D

    abbrev worth_y : ℤ
    worth_y = valueᴰ s e.N *ℤ pos c.D

    abbrev part_x : ℤ
    part_x = c.N k *ℤ pos e.D

    abbrev part_y : ℤ
    part_y = e.N k *ℤ pos c.D

    spread : (v n : ℤ) (d D : ℕ) → (v -ℤ pos d *ℤ n) *ℤ pos D ≡ v *ℤ pos D -ℤ pos d *ℤ (n *ℤ pos D)
    spread = split2 _ (λ a b c e d D. simp zed (omega arith))

    at_x : (d : ℕ) → Over (c.D * e.D) (value (lowered s k d) x) (worth_x -ℤ pos d *ℤ part_x)
    at_x d = subst (Over (c.D * e.D) (value (lowered s k d) x)) (spread (valueᴰ s c.N) (c.N k) d e.D)
        (over-scale e.D (over-lowered x c.D c.N c.reads d))

    at_y : (d : ℕ) → Over (c.D * e.D) (value (lowered s k d) y) (worth_y -ℤ pos d *ℤ part_y)
    at_y d = subst₂ (λ D z. Over D (value (lowered s k d) y) z) (mul_comm e.D c.D) (spread (valueᴰ s e.N) (e.N k) d c.D)
        (over-scale c.D (over-lowered y e.D e.N e.reads d))

    plain-x : Over (c.D * e.D) (value s x) worth_x
    plain-x = over-scale e.D (over-total c.D s.count x c.N c.reads (prices s))

    plain-y : Over (c.D * e.D) (value s y) worth_y
    plain-y = subst (λ D. Over D (value s y) worth_y) (mul_comm e.D c.D)
        (over-scale c.D (over-total e.D s.count y e.N e.reads (prices s)))

    shared : 1 ≤ c.D * e.D
    shared = mul-le-mul c.D≥1 e.D≥1

    after : (d : ℕ) → (value (lowered s k d) y ≤ᶠ value (lowered s k d) x) → (worth_y -ℤ pos d *ℤ part_y) ≤ℤ (worth_x -ℤ pos d *ℤ part_x)
    after d = (over-≤ shared (at_y d) (at_x d)).0

    back-after : (d : ℕ) → (worth_y -ℤ pos d *ℤ part_y) ≤ℤ (worth_x -ℤ pos d *ℤ part_x) → value (lowered s k d) y ≤ᶠ value (lowered s k d) x
    back-after d = (over-≤ shared (at_y d) (at_x d)).1

    falling : (e : ℕ) (w v y x : ℤ) → w ≤ℤ v → x ≤ℤ y → (w -ℤ pos e *ℤ y) ≤ℤ (v -ℤ pos e *ℤ x)
    falling e = split4 _ (λ a b c g h i j m. simp zed (λ p q. omega (arith, p, mul-le-mul_left e q)))

    -- the difference is linear in the fall: it is between those at both ends
    linear : (e f : ℕ) (w v y x : ℤ) → w ≤ℤ v → (w -ℤ pos (e + f) *ℤ y) ≤ℤ (v -ℤ pos (e + f) *ℤ x) → (w -ℤ pos e *ℤ y) ≤ℤ (v -ℤ pos e *ℤ x)
    linear e f w v y x h l = go (≤ℤ-or-< x y)
      where
        rising : (w v y x : ℤ) → (w -ℤ pos (e + f) *ℤ y) ≤ℤ (v -ℤ pos (e + f) *ℤ x) → y <ℤ x → (w -ℤ pos e *ℤ y) ≤ℤ (v -ℤ pos e *ℤ x)
        rising = split4 _ (λ a b c g h i j m. simp zed (λ p q. omega (arith, p, mul-le-mul_left f q)))

        go : (x ≤ℤ y) ⊎ (y <ℤ x) → (w -ℤ pos e *ℤ y) ≤ℤ (v -ℤ pos e *ℤ x)
        go (inl q) = falling e w v y x h q
        go (inr q) = rising w v y x l q

    worth-between : (e f : ℕ) → value s y ≤ᶠ value s x → value (lowered s k (e + f)) y ≤ᶠ value (lowered s k (e + f)) x
        → value (lowered s k e) y ≤ᶠ value (lowered s k e) x
    worth-between e f h l = back-after e (linear e f worth_y worth_x part_y part_x ((over-≤ shared plain-y plain-x).0 h) (after (e + f) l))

    -- the other point has as much of the item or more
    worth-low : (d : ℕ) → value s y ≤ᶠ value s x → x k ≤ᶠ y k → value (lowered s k d) y ≤ᶠ value (lowered s k d) x
    worth-low d h l = back-after d (falling d worth_y worth_x part_y part_x ((over-≤ shared plain-y plain-x).0 h) ((over-≤ shared amount-x amount-y).0 l))
      where
        amount-x : Over (c.D * e.D) (x k) part_x
        amount-x = over-scale e.D (c.reads k inside)

        amount-y : Over (c.D * e.D) (y k) part_y
        amount-y = subst (λ D. Over D (y k) part_y) (mul_comm e.D c.D) (over-scale c.D (e.reads k inside))

    worth-unfallen : value s y ≤ᶠ value s x → value (lowered s k 0) y ≤ᶠ value (lowered s k 0) x
    worth-unfallen h = back-after 0 (go worth_y worth_x part_y part_x ((over-≤ shared plain-y plain-x).0 h))
      where
        go : (w v y x : ℤ) → w ≤ℤ v → (w -ℤ pos 0 *ℤ y) ≤ℤ (v -ℤ pos 0 *ℤ x)
        go = split4 _ (λ a b c e f g h i. simp zed (omega arith))

  -- ---- the falls that keep a point best

  module _ (ns : List Need) (x : Point) where
    feasible-after : (d : ℕ) (y : Point) → FeasibleNeeds s ns y → FeasibleNeeds (lowered s k d) ns y
    feasible-after d y = (needs-priced s ns (bump (prices s) k (neg_ℤ (pos d))) y).0

    pub feasible-before : (d : ℕ) (y : Point) → FeasibleNeeds (lowered s k d) ns y → FeasibleNeeds s ns y
    feasible-before d y = (needs-priced s ns (bump (prices s) k (neg_ℤ (pos d))) y).1

    pub between : OptimalNeeds s ns x → (e f : ℕ) → StaysBest s ns x k (e + f) → StaysBest s ns x k e
    between o e f h = record {
      feasible = feasible-after e x o.feasible;
      highest = λ y p.
          let g = feasible-before e y p in
          worth-between x y (common s.count x) (common s.count y) e f (o.highest y g) (h.highest y (feasible-after (e + f) y g));
    }

    pub unfallen : OptimalNeeds s ns x → StaysBest s ns x k 0
    unfallen o = record {
      feasible = feasible-after 0 x o.feasible;
      highest = λ y p. worth-unfallen x y (common s.count x) (common s.count y) (o.highest y (feasible-before 0 y p));
    }

    pub lowest-stays : OptimalNeeds s ns x → ((y : Point) → FeasibleNeeds s ns y → x k ≤ᶠ y k) → (d : ℕ) → StaysBest s ns x k d
    lowest-stays o l d = record {
      feasible = feasible-after d x o.feasible;
      highest = λ y p.
          let g = feasible-before d y p in
          worth-low x y (common s.count x) (common s.count y) d (o.highest y g) (l y g);
    }

    -- every fall up to one that keeps it
    pub all-before : OptimalNeeds s ns x → (d e : ℕ) → e ≤ d → StaysBest s ns x k d → StaysBest s ns x k e
    all-before o d e l h = let q : d ≡ e + (d - e) = omega arith in between o e (d - e) (subst (StaysBest s ns x k) q h)

    pub not-passed : (d : ℕ) (y : Point) → FeasibleNeeds s ns y → ¬ (value (lowered s k d) y ≤ᶠ value (lowered s k d) x) → ¬ StaysBest s ns x k d
    not-passed d y g l h = l (h.highest y (feasible-after d y g))

    pub unpassed : (d : ℕ) (y : Point) → FeasibleNeeds s ns x → StaysBest s ns y k d → value (lowered s k d) y ≤ᶠ value (lowered s k d) x
        → StaysBest s ns x k d
    unpassed d y g o l = record {
      feasible = feasible-after d x g;
      highest = λ z p. ≤ᶠ-trans (value (lowered s k d) z) (value (lowered s k d) y) (value (lowered s k d) x) (o.highest z p) l;
    }

    -- a true answer of another kind than optimal: no point is
    pub unended : (d : ℕ) (b : Answer) → AnswersNeeds (lowered s k d) ns b → (b.kind ≡ kind.Optimal → ⊥) → ¬ StaysBest s ns x k d
    unended d b t n h = n (says-once (lowered s k d) ns b.kind kind.Optimal (says (lowered s k d) ns b b.kind t) (x, h))

    -- 02's "unbounded counts so"
    pub unbounded-falls : (d : ℕ) (y : Point) (r : ℕ → ℤ) → UnboundedNeeds (lowered s k d) ns y r → ¬ StaysBest s ns x k d
    unbounded-falls d y r u h = best-ends (lowered s k d) ns (x, h) (ray-endless (lowered s k d) ns (y, r, u))

    -- ---- one fall

    pub falls-once : OptimalNeeds s ns x → (r t : ℕ) → FallIs s ns x k r → FallIs s ns x k t → r ≡ t
    falls-once o zero zero f g = refl
    falls-once o zero (suc t) f g = absurd (clash (g.least (λ e. omega arith)) (f.none refl))
      where
        clash : LeastFall s ns x k (suc t) → StaysBest s ns x k (deepest (prices s k)) → ⊥
        clash l h = l.lost (all-before o (deepest (prices s k)) (suc t) l.most h)
    falls-once o (suc r) zero f g = absurd (clash (f.least (λ e. omega arith)) (g.none refl))
      where
        clash : LeastFall s ns x k (suc r) → StaysBest s ns x k (deepest (prices s k)) → ⊥
        clash l h = l.lost (all-before o (deepest (prices s k)) (suc r) l.most h)
    falls-once o (suc r) (suc t) f g = same (f.least (λ e. omega arith)) (g.least (λ e. omega arith)) (dec_lt r t) (dec_lt t r)
      where
        same : LeastFall s ns x k (suc r) → LeastFall s ns x k (suc t) → Dec (r < t) → Dec (t < r) → suc r ≡ suc t
        same a b (yes l) d = absurd (a.lost (b.kept (suc r) (omega arith)))
        same a b (no l) (yes h) = absurd (b.lost (a.kept (suc t) (omega arith)))
        same a b (no l) (no h) = omega arith
