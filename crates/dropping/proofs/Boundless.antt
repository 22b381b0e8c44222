-- Steps that raise the value every time, and items left out.
--   spread keep e        steps of t at the kept items' old places, and none at the others
--   gathered keep n d    steps of s at the kept items' new places
-- spread-agree, gathered-agree: the points on the way agree.
-- drops-spread, drops-gathered: what is unbounded without the idle items is so with them, and the other way round.
use mathlib.Core.Bool.{Bool, true, false, cond}
use mathlib.Core.Logic.{◌≢◌}
use mathlib.Core.Path.{◌≡◌, refl, sym, ap, ◌∙◌}
use Prim.Native.Nat.{ℕ, suc, ◌<◌}
use native.Mathlib.Omega.{arith}
use native.Mathlib.Decide.{dec_lt}
use borrow.Author.Tests.{lt-ltb, le-ltb}
use lib.Dec.{ltb}
use lib.IntN.{*ℤ-zero, ℤ, pos, ◌*ℤ◌}
use Rattle.arith.proofs.Fractions.{<ᶠ-not-≤, ≈ᶠ-≤}
use Rattle.arith.proofs.Parts.{impossible}
use Rattle.arith.specs.Fractions.{Frac, int, ◌+ᶠ◌}
use Rattle.knapsack.specs.Meaning.{Instance, Point, Keeps, value, Unbounded, stepped}
use Rattle.dropping.proofs.Drops.{Drops, Agree, between, between-keeps, keeps-≃, restricted, extended, restrict-agree}
use Rattle.dropping.proofs.Drops.{to-feasible, from-feasible, restrict-feasible, extend-feasible, worth-same}
use Rattle.dropping.proofs.Kept.{place, rank-strict, rank-injective, place-rank, at-rank, Source}
use Rattle.dropping.proofs.Sums.{◌≃◌, ≃-refl, ≃-sym, nothing-more, <-≃}
use Rattle.dropping.specs.Kept.{rank}

abbrev pub spread : (ℕ → Bool) → (ℕ → ℤ) → ℕ → ℤ
spread keep e k = cond (keep k) (e (rank keep k)) (pos 0)

abbrev pub gathered : (ℕ → Bool) → ℕ → (ℕ → ℤ) → ℕ → ℤ
gathered keep n d j = cond (ltb j (rank keep n)) (d (place keep n j)) (pos 0)

-- a step of nothing
still : (x : Frac) (z : ℤ) → z ≡ pos 0 → x +ᶠ int z ≃ x
still x z e = rw e (≃-sym (nothing-more x))

-- ---- items left out

module _ (keep : ℕ → Bool) (s t : Instance) (d : Drops keep s t) where
  source : (j : ℕ) → j < t.count → Source keep s.count j
  source j h = at-rank keep s.count j (omega (arith, d.count))

  -- ---- from t to s

  module _ (y : Point) (e : ℕ → ℤ) (u : Unbounded t y e) where
    spread_at : {n j : ℕ} (c : Source keep n j) → spread keep e c.from ≡ e j
    spread_at c = rw c.from-kept (ap e c.goes)

    pub spread-agree : (n : ℕ) → Agree keep s (stepped (extended keep s y) (spread keep e) n) (stepped y e n)
    spread-agree n k l h = rw h

    spread-idle : (n k : ℕ) → k < s.count → keep k ≡ false → Keeps (s.item k) (stepped (extended keep s y) (spread keep e) n k)
    spread-idle n k l h =
        rw h (keeps-≃ (s.item k) (≃-sym (still (int (between (s.item k).lower (s.item k).upper)) (pos n *ℤ pos 0) (*ℤ-zero (pos n))))
        (between-keeps (s.item k) (d.idle k l h).ordered))

    spread-worth : (n : ℕ) → value t (stepped y e n) ≃ value s (stepped (extended keep s y) (spread keep e) n)
    spread-worth n = ≃-sym (worth-same keep s t d _ _ (spread-agree n))

    -- no step at a place from which none of the two comes
    spread-other : (k : ℕ) → (rank keep k ≢ u.i) → (rank keep k ≢ u.j) → spread keep e k ≡ pos 0
    spread-other k p q = go (keep k)
      where
        go : (b : Bool) → cond b (e (rank keep k)) (pos 0) ≡ pos 0
        go true = u.others (rank keep k) p q
        go false = refl

    pub drops-spread : Unbounded s (extended keep s y) (spread keep e)
    drops-spread =
        let ci = source u.i u.i-in in
        let cj = source u.j u.j-in in
        record {
          i = ci.from;
          j = cj.from;
          i-in = ci.from_in;
          j-in = cj.from_in;
          i-moves = λ z. u.i-moves (sym (spread_at ci) ∙ z);
          j-moves = λ z. u.j-moves (sym (spread_at cj) ∙ z);
          others = λ k p q. apart k ci cj p q (keep k) refl;
          from = extend-feasible keep s t d y u.from;
          stays = λ n. from-feasible keep s t d _ _ (spread-agree n) (spread-idle n) (u.stays n);
          rises = λ n. <-≃ (spread-worth n) (spread-worth (suc n)) (u.rises n);
        }
      where
        apart : (k : ℕ) (ci : Source keep s.count u.i) (cj : Source keep s.count u.j) → k ≢ ci.from → k ≢ cj.from → (b : Bool)
            → keep k ≡ b → spread keep e k ≡ pos 0
        apart k ci cj p q true h =
            spread-other k (λ r. p (rank-injective keep k ci.from h ci.from-kept (r ∙ sym ci.goes)))
            (λ r. q (rank-injective keep k cj.from h cj.from-kept (r ∙ sym cj.goes)))
        apart k ci cj p q false h = rw h

  -- ---- from s to t

  module _ (x : Point) (e : ℕ → ℤ) (u : Unbounded s x e) where
    gathered-at : (k : ℕ) → k < s.count → keep k ≡ true → gathered keep s.count e (rank keep k) ≡ e k
    gathered-at k l h = rw (lt-ltb (rank keep k) (rank keep s.count) (rank-strict keep s.count k l h), place-rank keep s.count k l h)

    pub gathered-agree : (n : ℕ) → Agree keep s (stepped x e n) (stepped (restricted keep s x) (gathered keep s.count e) n)
    gathered-agree n k l h = rw (gathered-at k l h, place-rank keep s.count k l h)

    gathered-worth : (n : ℕ) → value s (stepped x e n) ≃ value t (stepped (restricted keep s x) (gathered keep s.count e) n)
    gathered-worth n = worth-same keep s t d _ _ (gathered-agree n)

    -- with two kept items that move, and no others
    gather : (i j : ℕ) → i < s.count → j < s.count → keep i ≡ true → keep j ≡ true → e i ≢ pos 0 → e j ≢ pos 0
        → ((k : ℕ) → keep k ≡ true → k ≢ i → k ≢ j → e k ≡ pos 0) → Unbounded t (restricted keep s x) (gathered keep s.count e)
    gather i j li lj hi hj mi mj other = record {
      i = rank keep i;
      j = rank keep j;
      i-in = omega (arith, d.count, rank-strict keep s.count i li hi);
      j-in = omega (arith, d.count, rank-strict keep s.count j lj hj);
      i-moves = λ z. mi (sym (gathered-at i li hi) ∙ z);
      j-moves = λ z. mj (sym (gathered-at j lj hj) ∙ z);
      others = λ m p q. none m p q (dec_lt m (rank keep s.count));
      from = restrict-feasible keep s t d x u.from;
      stays = λ n. to-feasible keep s t d _ _ (gathered-agree n) (u.stays n);
      rises = λ n. <-≃ (gathered-worth n) (gathered-worth (suc n)) (u.rises n);
    }
      where
        none : (m : ℕ) → m ≢ rank keep i → m ≢ rank keep j → Dec (m < rank keep s.count) → gathered keep s.count e m ≡ pos 0
        none m p q (yes h) =
            let c = at-rank keep s.count m h in
            ap (gathered keep s.count e) (sym c.goes) ∙ gathered-at c.from c.from_in c.from-kept
            ∙ other c.from c.from-kept (λ r. p (sym c.goes ∙ ap (rank keep) r)) (λ r. q (sym c.goes ∙ ap (rank keep) r))
        none m p q (no h) = rw (le-ltb m (rank keep s.count) (omega arith))

    -- idle items alone bring nothing
    no-rise : ((k : ℕ) → keep k ≡ true → e k ≡ pos 0) → ⊥
    no-rise h = <ᶠ-not-≤ (value t y) (value t y) (<-≃ (worth 0) (worth 1) (u.rises 0)) (≈ᶠ-≤ (value t y) (value t y) (≃-refl (value t y)).same)
      where
        y : Point
        y = restricted keep s (stepped x e 0)

        none : (n k : ℕ) → keep k ≡ true → pos n *ℤ e k ≡ pos 0
        none n k g = ap (λ z. pos n *ℤ z) (h k g) ∙ *ℤ-zero (pos n)

        worth : (n : ℕ) → value s (stepped x e n) ≃ value t y
        worth n = worth-same keep s t d _ _ (λ k l g. restrict-agree keep s (stepped x e 0) k l g ∙ ap (λ z. x k +ᶠ int z) (none 0 k g ∙ sym (none n k g)))

    kept-other : (k m : ℕ) → keep k ≡ true → keep m ≡ false → k ≢ m
    kept-other k m h g r = impossible (sym g ∙ ap keep (sym r) ∙ h)

    pub drops-gathered : Unbounded t (restricted keep s x) (gathered keep s.count e)
    drops-gathered = go (keep u.i) (keep u.j) refl refl
      where
        go : (a b : Bool) → keep u.i ≡ a → keep u.j ≡ b → Unbounded t (restricted keep s x) (gathered keep s.count e)
        go true true f g = gather u.i u.j u.i-in u.j-in f g u.i-moves u.j-moves (λ k h p q. u.others k p q)
        go true false f g = gather u.i u.i u.i-in u.i-in f f u.i-moves u.i-moves (λ k h p q. u.others k p (kept-other k u.j h g))
        go false true f g = gather u.j u.j u.j-in u.j-in g g u.j-moves u.j-moves (λ k h p q. u.others k (kept-other k u.i h f) p)
        go false false f g = absurd (no-rise (λ k h. u.others k (kept-other k u.i h f) (kept-other k u.j h g)))
