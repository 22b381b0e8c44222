-- Items left out of a problem with needs.
--   moved_need keep a     a need, by places, with its items at their new places
--   Stays keep n a       both items of the need are kept, of n
--   DropsNeeds keep s t ns ms    t has the kept items of s, moved down, and ms the needs ns, all of kept items, moved along; the other items are idle
-- keeps-there, keeps-back: points that agree keep the needs together. there-feasible, back-feasible: and are feasible together.
-- drops-best, best-drops, drops-infeasible, infeasible-drops, drops-boundless, boundless-drops: what the meaning gives one it gives the other.
-- drops-gives: kind and value. answers-give: a true answer shows what the meaning gives.
use mathlib.Core.Bool.{Bool, true}
use mathlib.Core.List.{List}
use mathlib.Core.Logic.{◌↔◌}
use mathlib.Core.Path.{◌≡◌, ap}
use Prim.Native.Nat.{ℕ, ◌<◌}
use Rattle.arith.specs.Fractions.{Frac, frac}
use Rattle.arith.specs.declared.Fraction.{Fraction}
use Rattle.knapsack.specs.Meaning.{Instance, Point, value, point_of, steps_of}
use Rattle.knapsack.specs.declared.Answer.{Answer}
use Rattle.knapsack.specs.declared.Kind.{Kind}
use Rattle.knapsack.specs.declared.Kind.TheVariants as kind
use Rattle.model.specs.declared.Need.{Need}
use Rattle.model.specs.Needs.{In, KeepsNeeds, FeasibleNeeds, InfeasibleNeeds, AnswersNeeds, AnswersAsNeeds}
use Rattle.dropping.proofs.Boundless.{spread, gathered, spread-agree, gathered-agree, drops-spread, drops-gathered}
use Rattle.dropping.proofs.Drops.{Drops, Agree, restricted, extended, restrict-agree, extend-agree, restrict-feasible, extend-feasible, worth-same}
use Rattle.dropping.proofs.Sums.{◌≃◌, ≃-sym, ≃-join, ≤-≃}
use Rattle.dropping.specs.Gives.{Best, Boundless, Gives}
use Rattle.dropping.specs.Kept.{rank}

abbrev pub moved_need : (ℕ → Bool) → Need → Need
moved_need keep a = record { item = rank keep a.item; cover = rank keep a.cover }

pub record Stays (keep : ℕ → Bool) (n : ℕ) (a : Need) : Type 0 where
  pub item_in : a.item < n
  pub item-kept : keep a.item ≡ true
  pub cover-in : a.cover < n
  pub cover-kept : keep a.cover ≡ true

pub record DropsNeeds (keep : ℕ → Bool) (s t : Instance) (ns ms : List Need) : Type 0 where
  pub plain : Drops keep s t
  pub stays : (a : Need) → In a ns → Stays keep s.count a
  pub there : (a : Need) → In a ns → In (moved_need keep a) ms
  pub back : (b : Need) → In b ms → (a : Need) × (In a ns × (b ≡ moved_need keep a))

module _ (keep : ℕ → Bool) (s t : Instance) (ns ms : List Need) (d : DropsNeeds keep s t ns ms) where
  -- ---- points

  keeps-there : (x y : Point) → Agree keep s x y → KeepsNeeds ns x → KeepsNeeds ms y
  keeps-there x y h k b i =
      let f = d.back b i in
      let a = f.0 in
      let w = d.stays a f.1.0 in
      rw (f.1.1, h a.item w.item_in w.item-kept, h a.cover w.cover-in w.cover-kept) (k a f.1.0)

  keeps-back : (x y : Point) → Agree keep s x y → KeepsNeeds ms y → KeepsNeeds ns x
  keeps-back x y h k a i =
      let w = d.stays a i in
      rw (← h a.item w.item_in w.item-kept, ← h a.cover w.cover-in w.cover-kept) (k (moved_need keep a) (d.there a i))

  there-feasible : (x : Point) → FeasibleNeeds s ns x → FeasibleNeeds t ms (restricted keep s x)
  there-feasible x f = record {
    plain = restrict-feasible keep s t d.plain x f.plain;
    kept = keeps-there x (restricted keep s x) (restrict-agree keep s x) f.kept;
  }

  back-feasible : (y : Point) → FeasibleNeeds t ms y → FeasibleNeeds s ns (extended keep s y)
  back-feasible y f = record {
    plain = extend-feasible keep s t d.plain y f.plain;
    kept = keeps-back (extended keep s y) y (extend-agree keep s y) f.kept;
  }

  there-worth : (x : Point) → value s x ≃ value t (restricted keep s x)
  there-worth x = worth-same keep s t d.plain x (restricted keep s x) (restrict-agree keep s x)

  back-worth : (y : Point) → value t y ≃ value s (extended keep s y)
  back-worth y = ≃-sym (worth-same keep s t d.plain (extended keep s y) y (extend-agree keep s y))

  -- ---- the kinds

  drops-best : (v : Frac) → Best s ns v → Best t ms v
  drops-best v b =
      let x = b.point in
      record {
        point = restricted keep s x;
        optimal = record {
          feasible = there-feasible x b.optimal.feasible;
          highest = λ y f. ≤-≃ (≃-sym (back-worth y)) (there-worth x) (b.optimal.highest (extended keep s y) (back-feasible y f));
        };
        worth = (≃-join (≃-sym (there-worth x)) (≃-sym (record { same = b.worth }))).same;
      }

  best-drops : (v : Frac) → Best t ms v → Best s ns v
  best-drops v b =
      let y = b.point in
      record {
        point = extended keep s y;
        optimal = record {
          feasible = back-feasible y b.optimal.feasible;
          highest = λ x f. ≤-≃ (≃-sym (there-worth x)) (back-worth y) (b.optimal.highest (restricted keep s x) (there-feasible x f));
        };
        worth = (≃-join (≃-sym (back-worth y)) (≃-sym (record { same = b.worth }))).same;
      }

  drops-infeasible : InfeasibleNeeds s ns → InfeasibleNeeds t ms
  drops-infeasible h y f = h (extended keep s y) (back-feasible y f)

  infeasible-drops : InfeasibleNeeds t ms → InfeasibleNeeds s ns
  infeasible-drops h x f = h (restricted keep s x) (there-feasible x f)

  drops-boundless : Boundless s ns → Boundless t ms
  drops-boundless b =
      let x = b.point in
      let e = b.steps in
      let u = b.unbounded in
      let w = drops-gathered keep s t d.plain x e u.plain in
      record {
        point = restricted keep s x;
        steps = gathered keep s.count e;
        unbounded = record {
          plain = w;
          from = there-feasible x u.from;
          stays = λ n. record {
            plain = w.stays n;
            kept = keeps-there _ _ (gathered-agree keep s t d.plain x e u.plain n) (u.stays n).kept;
          };
        };
      }

  boundless-drops : Boundless t ms → Boundless s ns
  boundless-drops b =
      let y = b.point in
      let e = b.steps in
      let u = b.unbounded in
      let w = drops-spread keep s t d.plain y e u.plain in
      record {
        point = extended keep s y;
        steps = spread keep e;
        unbounded = record {
          plain = w;
          from = back-feasible y u.from;
          stays = λ n. record {
            plain = w.stays n;
            kept = keeps-back _ _ (spread-agree keep s t d.plain y e u.plain n) (u.stays n).kept;
          };
        };
      }

  pub drops-gives : (k : Kind) (v : Fraction) → Gives s ns k v ↔ Gives t ms k v
  drops-gives kind.Optimal v = (drops-best (frac v.p v.q), best-drops (frac v.p v.q))
  drops-gives kind.Infeasible v = (λ (h, e). (drops-infeasible h, e), λ (h, e). (infeasible-drops h, e))
  drops-gives kind.Unbounded v = (λ (h, e). (drops-boundless h, e), λ (h, e). (boundless-drops h, e))
  drops-gives (kind.Refused f) v = (λ h. h, λ h. h)

-- ---- answers

pub answers-give : (s : Instance) (ns : List Need) (a : Answer) → AnswersNeeds s ns a → Gives s ns a.kind a.value
answers-give s ns a = go a.kind
  where
    go : (k : Kind) → AnswersAsNeeds s ns a k → Gives s ns k a.value
    go kind.Optimal r = record { point = point_of a; optimal = r.optimal; worth = (≃-sym (record { same = r.exact })).same }
    go kind.Infeasible (none, e) = (none, ap (λ (x : Answer). x.value) e)
    go kind.Unbounded r = (record { point = point_of a; steps = steps_of a; unbounded = r.unbounded }, r.endless)
    go (kind.Refused f) r = r
