-- Laws of sums over the first n places, and of a change of one place.
-- sum_mono, sum-cong, sum-add, sum-scale, sum-lin, sum-times, sum-diff: sums keep orders, equations and linear combinations.
-- sum_bump: what a change at one place does to a weighted sum; each-bump: a property of each place survives it.
-- part-of-sum, even-part-of-sum: a part is at most the sum and what the others may fall short by.
--   far n X N      the distance of N from X, place by place; far-bump: how a change at one place lowers it
-- find: a place where the one holds, or the other everywhere.
use mathlib.Core.Path.{◌≡◌, refl, sym, ap, ap₂, ◌∙◌, subst}
use mathlib.Core.Logic.{◌≢◌, ◌⊎◌, inl, inr}
use Prim.Native.Nat.{ℕ, zero, suc, ◌+◌, ◌*◌, ◌≤◌, ◌<◌}
use native.Mathlib.Omega.{arith}
use native.Mathlib.Decide.{ℕ_discrete}
use lib.IntN.{*ℤ-zero, *ℤ_comm, ℤ, pos, neg_ℤ, nat_abs, ◌+ℤ◌, ◌-ℤ◌, ◌*ℤ◌}
use lib.Signed.{◌≤ℤ◌}
use Rattle.arith.specs.Sum.{sum, Each, pick, bump}
use Rattle.arith.proofs.Integers.{split, split2, split3, split4, zed, ≤ℤ-reflexive, +ℤ-mono}

pub sum_mono : (n : ℕ) (f g : ℕ → ℤ) → Each n (λ k. f k ≤ℤ g k) → sum n f ≤ℤ sum n g
sum_mono zero f g h = ≤ℤ-reflexive refl
sum_mono (suc n) f g h = +ℤ-mono (sum_mono n f g (λ k l. h k (omega arith))) (h n (omega arith))

pub sum-cong : (n : ℕ) (f g : ℕ → ℤ) → Each n (λ k. f k ≡ g k) → sum n f ≡ sum n g
sum-cong zero f g h = refl
sum-cong (suc n) f g h = ap₂ ◌+ℤ◌ (sum-cong n f g (λ k l. h k (omega arith))) (h n (omega arith))

pub sum-add : (n : ℕ) (f g : ℕ → ℤ) → sum n (λ k. f k +ℤ g k) ≡ sum n f +ℤ sum n g
sum-add zero f g = refl
sum-add (suc n) f g = rw (sum-add n f g) (swap (sum n f) (sum n g) (f n) (g n))
  where
    swap : (x y z w : ℤ) → (x +ℤ y) +ℤ (z +ℤ w) ≡ (x +ℤ z) +ℤ (y +ℤ w)
    swap = split4 _ (λ a b c e f g h i. simp zed (omega arith))

pub sum-scale : (n : ℕ) (z : ℤ) (f : ℕ → ℤ) → sum n (λ k. z *ℤ f k) ≡ z *ℤ sum n f
sum-scale zero z f = sym (*ℤ-zero z)
sum-scale (suc n) z f = rw (sum-scale n z f) (distrib z (sum n f) (f n))
  where
    distrib : (x y z : ℤ) → (x *ℤ y) +ℤ (x *ℤ z) ≡ x *ℤ (y +ℤ z)
    distrib = split3 _ (λ a b c e f g. simp zed (omega arith))

pub sum-lin : (n : ℕ) (u v : ℤ) (f g : ℕ → ℤ) → sum n (λ k. u *ℤ f k +ℤ v *ℤ g k) ≡ u *ℤ sum n f +ℤ v *ℤ sum n g
sum-lin n u v f g = sum-add n (λ k. u *ℤ f k) (λ k. v *ℤ g k) ∙ ap₂ ◌+ℤ◌ (sum-scale n u f) (sum-scale n v g)

pub sum-times : (n : ℕ) (a N : ℕ → ℤ) (E : ℕ) → sum n (λ k. a k *ℤ (N k *ℤ pos E)) ≡ sum n (λ k. a k *ℤ N k) *ℤ pos E
sum-times n a N E = sum-cong n _ _ (λ k l. swap (a k) (N k)) ∙ sum-scale n (pos E) (λ k. a k *ℤ N k) ∙ *ℤ_comm (pos E) (sum n (λ k. a k *ℤ N k))
  where
    swap : (x y : ℤ) → x *ℤ (y *ℤ pos E) ≡ pos E *ℤ (x *ℤ y)
    swap = split2 _ (λ a b c e. simp zed (omega arith))

pub pick_ind {ℓ} : {P A : Type 0} (Q : A → Type ℓ) (d : Dec P) (x y : A) → (P → Q x) → (¬ P → Q y) → Q (pick d x y)
pick_ind Q (yes e) x y f g = f e
pick_ind Q (no e) x y f g = g e

pub bump-same : (f : ℕ → ℤ) (i : ℕ) (r : ℤ) → bump f i r i ≡ f i +ℤ r
unfolding bump
bump-same f i r = pick_ind (λ z. z ≡ f i +ℤ r) (ℕ_discrete i i) _ _ (λ e. refl) (λ e. absurd (e refl))

pub bump-other : (f : ℕ → ℤ) (i : ℕ) (r : ℤ) (k : ℕ) → k ≢ i → bump f i r k ≡ f k
unfolding bump
bump-other f i r k h = pick_ind (λ z. z ≡ f k) (ℕ_discrete k i) _ _ (λ e. absurd (h e)) (λ e. refl)

-- a property of each place survives, if it holds of the new number
pub each-bump : (P : ℕ → ℤ → Type 0) (f : ℕ → ℤ) (i : ℕ) (r : ℤ) (n : ℕ) → Each n (λ k. P k (f k)) → P i (f i +ℤ r) → Each n (λ k. P k (bump f i r k))
unfolding bump
each-bump P f i r n h new k l = pick_ind (P k) (ℕ_discrete k i) _ _ (λ e. rw e new) (λ e. h k l)

pub sum_bump : (n : ℕ) (a f : ℕ → ℤ) (i : ℕ) (r : ℤ) → i < n → sum n (λ k. a k *ℤ bump f i r k) ≡ sum n (λ k. a k *ℤ f k) +ℤ a i *ℤ r
sum_bump zero a f i r l = absurd (omega arith)
sum_bump (suc n) a f i r l = go (ℕ_discrete i n) (λ m. sum_bump n a f i r m)
  where
    last : (s x y r : ℤ) → s +ℤ x *ℤ (y +ℤ r) ≡ (s +ℤ x *ℤ y) +ℤ x *ℤ r
    last = split4 _ (λ a b c e f g h i. simp zed (omega arith))

    inner : (s x y r : ℤ) → (s +ℤ r) +ℤ x *ℤ y ≡ (s +ℤ x *ℤ y) +ℤ r
    inner = split4 _ (λ a b c e f g h i. simp zed (omega arith))

    go : Dec (i ≡ n) → (i < n → sum n (λ k. a k *ℤ bump f i r k) ≡ sum n (λ k. a k *ℤ f k) +ℤ a i *ℤ r)
        → sum (suc n) (λ k. a k *ℤ bump f i r k) ≡ sum (suc n) (λ k. a k *ℤ f k) +ℤ a i *ℤ r
    go (yes e) ih = rw (
      e,
      bump-same f n r,
      sum-cong n (λ k. a k *ℤ bump f n r k) (λ k. a k *ℤ f k) (λ k m. ap (λ z. a k *ℤ z) (bump-other f n r k (omega arith))),
    ) (last (sum n (λ k. a k *ℤ f k)) (a n) (f n) r)
    go (no e) ih = rw (ih (omega arith), bump-other f i r n (omega arith)) (inner (sum n (λ k. a k *ℤ f k)) (a n) (f n) (a i *ℤ r))

-- ---- bounds of a sum and of its parts

pub sum-diff : (n : ℕ) (a N X : ℕ → ℤ) → sum n (λ k. a k *ℤ (N k -ℤ X k)) ≡ sum n (λ k. a k *ℤ N k) -ℤ sum n (λ k. a k *ℤ X k)
sum-diff zero a N X = refl
sum-diff (suc n) a N X = rw (sum-diff n a N X) (step (sum n (λ k. a k *ℤ N k)) (sum n (λ k. a k *ℤ X k)) (a n) (N n) (X n))
  where
    step : (S T a x y : ℤ) → (S -ℤ T) +ℤ a *ℤ (x -ℤ y) ≡ (S +ℤ a *ℤ x) -ℤ (T +ℤ a *ℤ y)
    step = split _ (λ h i. split4 _ (λ a b c e f g k l. simp zed (omega arith)))

pub part-of-sum : (n : ℕ) (f : ℕ → ℤ) (g : ℕ → ℕ) → Each n (λ k. neg_ℤ (pos (g k)) ≤ℤ f k) → (i : ℕ) → i < n → f i ≤ℤ (sum n f +ℤ sum n (λ k. pos (g k)))
part-of-sum zero f g h i l = absurd (omega arith)
part-of-sum (suc n) f g h i l = go (ℕ_discrete i n) (λ m. part-of-sum n f g (λ k o. h k (omega arith)) i m)
  where
    least : (n : ℕ) → Each n (λ k. neg_ℤ (pos (g k)) ≤ℤ f k) → pos 0 ≤ℤ (sum n f +ℤ sum n (λ k. pos (g k)))
    least zero h = ≤ℤ-reflexive refl
    least (suc n) h = both (sum n f) (sum n (λ k. pos (g k))) (f n) (g n) (least n (λ k o. h k (omega arith))) (h n (omega arith))
      where
        both : (s t x : ℤ) (c : ℕ) → pos 0 ≤ℤ (s +ℤ t) → neg_ℤ (pos c) ≤ℤ x → pos 0 ≤ℤ ((s +ℤ x) +ℤ (t +ℤ pos c))
        both = split3 _ (λ a b c e f g m. simp zed (omega arith))

    last : (s t x : ℤ) (c : ℕ) → pos 0 ≤ℤ (s +ℤ t) → x ≤ℤ ((s +ℤ x) +ℤ (t +ℤ pos c))
    last = split3 _ (λ a b c e f g m. simp zed (omega arith))

    inner : (s t x y : ℤ) (c : ℕ) → y ≤ℤ (s +ℤ t) → neg_ℤ (pos c) ≤ℤ x → y ≤ℤ ((s +ℤ x) +ℤ (t +ℤ pos c))
    inner = split4 _ (λ a b c e f g h i m. simp zed (omega arith))

    go : Dec (i ≡ n) → (i < n → f i ≤ℤ (sum n f +ℤ sum n (λ k. pos (g k)))) → f i ≤ℤ ((sum n f +ℤ f n) +ℤ (sum n (λ k. pos (g k)) +ℤ pos (g n)))
    go (yes e) ih = rw e (last (sum n f) (sum n (λ k. pos (g k))) (f n) (g n) (least n (λ k o. h k (omega arith))))
    go (no e) ih = inner (sum n f) (sum n (λ k. pos (g k))) (f n) (f i) (g n) (ih (omega arith)) (h n (omega arith))

-- the same bound for all
pub even-part-of-sum : (n : ℕ) (f : ℕ → ℤ) (C : ℕ) → Each n (λ k. neg_ℤ (pos C) ≤ℤ f k) → (i : ℕ) → i < n → f i ≤ℤ (sum n f +ℤ pos (n * C))
even-part-of-sum n f C h i l = subst (λ z. f i ≤ℤ (sum n f +ℤ z)) (even n) (part-of-sum n f (λ k. C) h i l)
  where
    even : (n : ℕ) → sum n (λ k. pos C) ≡ pos (n * C)
    even zero = simp zed (omega arith)
    even (suc n) = rw (even n) (more n)
      where
        more : (n : ℕ) → pos (n * C) +ℤ pos C ≡ pos (suc n * C)
        more n = simp zed (omega arith)

-- the distance of N from X, item by item
unfoldable pub far : ℕ → (ℕ → ℤ) → (ℕ → ℤ) → ℕ
far zero X N = 0
far (suc n) X N = far n X N + nat_abs (N n -ℤ X n)

far-cong : (n : ℕ) (X N M : ℕ → ℤ) → Each n (λ k. N k ≡ M k) → far n X N ≡ far n X M
unfolding far
far-cong zero X N M h = refl
far-cong (suc n) X N M h = ap₂ ◌+◌ (far-cong n X N M (λ k l. h k (omega arith))) (ap (λ z. nat_abs (z -ℤ X n)) (h n (omega arith)))

pub far-bump : (n : ℕ) (X N : ℕ → ℤ) (i : ℕ) (r : ℤ) (c : ℕ) → i < n → nat_abs ((N i +ℤ r) -ℤ X i) + c ≤ nat_abs (N i -ℤ X i)
    → far n X (bump N i r) + c ≤ far n X N
unfolding far
far-bump zero X N i r c l h = absurd (omega arith)
far-bump (suc n) X N i r c l h = go (ℕ_discrete i n) (λ m. far-bump n X N i r c m h)
  where
    go : Dec (i ≡ n) → (i < n → far n X (bump N i r) + c ≤ far n X N) → (far n X (bump N i r) + nat_abs (bump N i r n -ℤ X n)) + c ≤ far n X N + nat_abs
        (N n -ℤ X n)
    go (yes e) ih = rw (← e, bump-same N i r, far-cong i X (bump N i r) N (λ k m. bump-other N i r k (omega arith))) (omega arith)
    go (no e) ih = rw (bump-other N i r n (omega arith)) (omega (arith, ih (omega arith)))

-- a place where the first holds, or the second everywhere
pub find : (n : ℕ) (P Q : ℕ → Type 0) → ((k : ℕ) → P k ⊎ Q k) → ((k : ℕ) × (k < n) × P k) ⊎ Each n Q
find zero P Q d = inr (λ k l. absurd (omega arith))
find (suc n) P Q d = go (d n) (find n P Q d)
  where
    go : P n ⊎ Q n → ((k : ℕ) × (k < n) × P k) ⊎ Each n Q → ((k : ℕ) × (k < suc n) × P k) ⊎ Each (suc n) Q
    go (inl p) r = inl (n, omega arith, p)
    go (inr q) (inl (k, l, p)) = inl (k, omega arith, p)
    go (inr q) (inr h) = inr (λ k l. at k l (ℕ_discrete k n))
      where
        at : (k : ℕ) → k < suc n → Dec (k ≡ n) → Q k
        at k l (yes e) = rw e q
        at k l (no e) = h k (omega arith)
