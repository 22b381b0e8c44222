-- The order of falls, and their lines.
-- watch-ordered (end theorem): the places come once each, by smallest fall, none last, equals by number.
-- items-none, items_more, items-ranged, items-sorted: the problem whose order this is.
-- some_item: a fall that is not none.  watched-best, watched-other: the text by the kind of the answer.
-- lines-cong: only the places that are listed matter.
use mathlib.Core.Bool.{false}
use mathlib.Core.List.{List, ◌++◌}
use mathlib.Core.Logic.{inl, inr}
use mathlib.Core.Path.{◌≡◌, refl, sym, ap, subst, subst₂, ◌∙◌}
use Prim.Native.Nat.{ℕ, zero, suc, ◌+◌, ◌≤◌, ◌<◌}
use native.Mathlib.Decide.{ℕ_discrete, dec_lt}
use native.Mathlib.Omega.{arith}
use lib.IntN.{pos, negsuc, neg_ℤ, ◌*ℤ◌}
use lib.ListN.{length, get_or, length-set}
use lib.Seq.{get_or-set_same, get_or-set_other}
use lib.Signed.{◌≤ℤ◌}
use Rattle.arith.proofs.Integers.{zed}
use Rattle.arith.proofs.Parts.{impossible}
use Rattle.arith.specs.Sum.{Each}
use Rattle.knapsack.specs.Items.{with_item}
use Rattle.knapsack.specs.Ranges.{blank, item_at}
use Rattle.std.specs.Prelude.{None}
use Rattle.knapsack.specs.declared.Kind.{Kind}
use Rattle.knapsack.specs.declared.Kind.TheVariants as kind
use Rattle.knapsack.specs.declared.Mark.TheVariants.{Integer}
use Rattle.knapsack.specs.declared.Problem.{Problem}
use Rattle.ordering.specs.Ranking.{Small, Ranged, Sorted}
use Rattle.ordering.proofs.Order.{MayPrecede, Ordered, order-before, order-cong, in_order_lem}
use Rattle.ordering.proofs.Permutations.{onto}
use Rattle.text.specs.Buffer.{Put}
use Rattle.listing.specs.Printing.{listed, printed}
use Rattle.planner.specs.Branching.{is_optimal}
use Rattle.ranging.specs.Ranging.{fall_at}
use Rattle.ranging.specs.declared.Falls.{Falls}
use Rattle.watching.specs.Watching.{fall_item, watch_order, SoonerBy, InWatchOrder, FallItems, SmallFalls, fall_line, fall_lines, watched_as, watched}

-- ---- the order

less-price : (a b : ℕ) → (negsuc b *ℤ pos 1) ≤ℤ (negsuc a *ℤ pos 1) → a ≤ b
less-price a b = simp zed (omega arith)

weighs-one : pos 1 ≡ pos 0 → ⊥
weighs-one e = let z : ◌≡◌ {A = ℕ} 1 0 = cc in omega arith

by-fall : (a b i j : ℕ) → MayPrecede (fall_item a) (fall_item b) → (MayPrecede (fall_item b) (fall_item a) → i < j) → SoonerBy a b i j
by-fall zero zero i j p q = inr (refl, q (inl refl))
by-fall zero (suc b) i j (inl e) q = absurd (weighs-one e)
by-fall zero (suc b) i j (inr h) q = absurd (h.0 refl)
by-fall (suc a) zero i j p q = inl ((λ e. omega arith), inl refl)
by-fall (suc a) (suc b) i j (inl e) q = absurd (weighs-one e)
by-fall (suc a) (suc b) i j (inr h) q = go (dec_lt a b)
  where
    le : a ≤ b
    le = less-price a b h.1

    go : Dec (a < b) → SoonerBy (suc a) (suc b) i j
    go (yes l) = inl ((λ e. omega arith), inr (omega arith))
    go (no l) =
        let e : a ≡ b = omega (arith, le) in
        inr (ap suc e, q (subst₂ (λ x y. MayPrecede (fall_item (suc x)) (fall_item (suc y))) e (sym e) (inr h)))

pub watch-ordered : (f : ℕ → ℕ) (n : ℕ) → InWatchOrder f n (watch_order f n)
watch-ordered f n = record {
  place = o.place;
  every = onto n (watch_order f n) o.place o.once;
  once = o.once;
  sooner = λ u v l m.
      let b = order-before (λ k. fall_item (f k)) n u v l m in
      by-fall (f (watch_order f n u)) (f (watch_order f n v)) (watch_order f n u) (watch_order f n v) b.precedes b.by_number;
}
  where
    o : Ordered (λ k. fall_item (f k)) n (watch_order f n)
    o = in_order_lem (λ k. fall_item (f k)) n

-- ---- the problem whose order it is

module _ (of : List ℕ) (n : ℕ) where
  pub items-none : (p : Problem) → p.count ≡ n → length p.items ≡ 16 → FallItems of n 0 p
  items-none p c l = record { count = c; long = l; items = λ j h. absurd (omega arith) }

  pub items_more : (k : ℕ) (p : Problem) → k < 16 → FallItems of n k p → FallItems of n (k + 1) (with_item p k (fall_item (get_or of k 0)))
  items_more k p l h = record { count = h.count; long = simp length-set h.long; items = λ j m. at j m (ℕ_discrete j k) }
    where
      at : (j : ℕ) → j < k + 1 → Dec (j ≡ k) → item_at (with_item p k (fall_item (get_or of k 0))) j ≡ fall_item (get_or of j 0)
      at j m (yes e) = rw e (get_or-set_same p.items k (fall_item (get_or of k 0)) blank (omega (arith, h.long)))
      at j m (no e) = get_or-set_other p.items k j (fall_item (get_or of k 0)) blank e ∙ h.items j (omega arith)

  small : (d : ℕ) → d ≤ 20000 → Small (fall_item d)
  small zero h = record { weight = record { above = omega arith; below = omega arith }; price = record { above = omega arith; below = omega arith } }
  small (suc d) h = record { weight = record { above = omega arith; below = omega arith }; price = record { above = omega arith; below = omega arith } }

  module _ (p : Problem) (few : n ≤ 16) (low : SmallFalls of) (h : FallItems of n n p) where
    pub items-ranged : Ranged p
    items-ranged = record {
      few = omega (arith, h.count);
      small = λ k l. subst Small (sym (h.items k (omega (arith, h.count)))) (small (get_or of k 0) (low k));
    }

    pub items-sorted : (l : List ℕ) → Sorted (item_at p) p.count l → Sorted (λ k. fall_item (get_or of k 0)) n l
    items-sorted l s =
        let t = subst (λ m. Sorted (item_at p) m l) h.count s in
        record { first = t.first ∙ order-cong (item_at p) (λ k. fall_item (get_or of k 0)) n h.items; below = t.below }

-- a fall that is not none
pub some_item_lem : (d : ℕ) → (d ≡ 0 → ⊥) → record { mark = Integer; weight = pos 1; price = neg_ℤ (pos d); lower = None; upper = None } ≡ fall_item d
some_item_lem zero h = absurd (h refl)
some_item_lem (suc d) h = refl

-- ---- the lines

pub lines-cong : (f g h : ℕ → ℕ) (n : ℕ) → Each n (λ u. g u ≡ h u) → fall_lines f g n ≡ fall_lines f h n
unfolding fall_lines
lines-cong f g h zero e = refl
lines-cong f g h (suc n) e =
    ap (λ t. t ++ fall_line (g n) (f (g n))) (lines-cong f g h n (λ u l. e u (omega arith))) ∙ ap (λ k. fall_lines f h n ++ fall_line k (f k)) (e n (omega arith))

pub put_as : {m at r : ℕ} {s t a b : List ℕ} → s ≡ t → Put m at s a b r → Put m at t a b r
put_as {m} {at} {r} {s} {t} {a} {b} e h = subst (λ z. Put m at z a b r) e h

-- ---- the text

pub watched-best : (n : ℕ) (w : Falls) → w.answer.kind ≡ kind.Optimal
    → watched n w ≡ fall_lines (fall_at w) (watch_order (fall_at w) (listed n)) (listed n)
unfolding watched
watched-best n w e = ap (λ k. watched_as k n w) e

pub watched-other : (n : ℕ) (w : Falls) → is_optimal w.answer.kind ≡ false → watched n w ≡ printed n w.answer
unfolding watched
watched-other n w e = go w.answer.kind e
  where
    go : (k : Kind) → is_optimal k ≡ false → watched_as k n w ≡ printed n w.answer
    go kind.Optimal h = absurd (impossible (sym h))
    go kind.Infeasible h = refl
    go kind.Unbounded h = refl
    go (kind.Refused f) h = refl
