-- What the tests of the order of points say.
-- sooner-earlier, sooner-not: the first item that differs decides.  sooner-next, sooner-none: the definition as a loop goes through it.
-- first-leads, second-leads: of two points with their values, the one that the tests prefer leads the other.
-- corner-leads: where the lower corner of a box does not come before a point, no point of the box does.
-- leads-cong: the order does not look beyond the items.  point_at, point-long, point-once: the list of a filling's amounts.
use mathlib.Core.Path.{◌≡◌, refl, sym, ap, ap₂, ◌∙◌, subst, subst₂}
use mathlib.Core.Bool.{Bool, true, false, cond}
use mathlib.Core.List.{List, [], ◌∷◌}
use mathlib.Core.Logic.{inl, inr}
use Prim.Native.Nat.{ℕ, zero, suc, ◌+◌, ◌≤◌, ◌<◌}
use native.Mathlib.Decide.{dec_lt, ℕ_discrete}
use native.Mathlib.Omega.{arith}
use lib.Dec.{ltb}
use lib.IntN.{ℤ, pos, ◌*ℤ◌}
use lib.ListN.{length}
use lib.Signed.{◌≤ℤ◌, ◌<ℤ◌, lt_z, clash_ℤ}
use borrow.Author.Tests.{lt-ltb, le-ltb}
use Rattle.arith.specs.Mixed.{Proper, less_mixed}
use Rattle.arith.specs.declared.Mixed.{Mixed}
use Rattle.arith.proofs.Integers.{split, zed, ≤ℤ-antisym, times-≤}
use Rattle.arith.proofs.Mixes.{over, less-true, less-false}
use Rattle.arith.proofs.Parts.{impossible}
use Rattle.arith.proofs.Words.{yes_lt, no_lt}
use Rattle.foremost.proofs.Earlier.{Earlierᴰ, Agree, NotAfter, not_after, not-after-trans, not-after-cong, not-after-times}
use Rattle.foremost.proofs.Leads.{Leads, leads-above}
use Rattle.foremost.proofs.Ties.{listed, listed_at}
use Rattle.greedy.specs.declared.Columns.{Columns}
use Rattle.greedy.specs.declared.Ends.{Ends}
use Rattle.greedy.specs.declared.Fill.{Fill}
use Rattle.greedy.specs.Fill.{at, numerator}
use Rattle.search.specs.Ahead.{sooner, point_of}

-- ---- the first item that differs

module _ (x y : ℕ → ℤ) where
  agree_on : (k : ℕ) → Agree k x y → lt_z (x k) (y k) ≡ false → lt_z (y k) (x k) ≡ false → Agree (k + 1) x y
  agree_on k a f g j l = go (ℕ_discrete j k)
    where
      go : Dec (j ≡ k) → x j ≡ y j
      go (yes e) = rw e (≤ℤ-antisym (no_lt g) (no_lt f))
      go (no e) = a j (omega (arith, e))

  sooner-earlier : (m n k : ℕ) → m ≡ n + k → Agree k x y → sooner n k x y ≡ true → Earlierᴰ m x y
  unfolding sooner
  sooner-earlier m zero k e a h = absurd (impossible h)
  sooner-earlier m (suc n) k e a h = go (lt_z (x k) (y k)) (lt_z (y k) (x k)) refl refl h (λ b i. sooner-earlier m n (k + 1) (omega (arith, e)) b i)
    where
      go : (s t : Bool) → lt_z (x k) (y k) ≡ s → lt_z (y k) (x k) ≡ t → cond s true (cond t false (sooner n (k + 1) x y)) ≡ true
          → (Agree (k + 1) x y → sooner n (k + 1) x y ≡ true → Earlierᴰ m x y) → Earlierᴰ m x y
      go true t f g i ih = record { place = k; below = omega (arith, e); same = a; less = yes_lt f }
      go false true f g i ih = absurd (impossible i)
      go false false f g i ih = ih (agree_on k a f g) i

  sooner-not : (m n k : ℕ) → m ≡ n + k → Agree k x y → sooner n k x y ≡ false → NotAfter m y x
  unfolding sooner
  sooner-not m zero k e a h = inl (λ j l. sym (a j (omega (arith, e))))
  sooner-not m (suc n) k e a h = go (lt_z (x k) (y k)) (lt_z (y k) (x k)) refl refl h (λ b i. sooner-not m n (k + 1) (omega (arith, e)) b i)
    where
      go : (s t : Bool) → lt_z (x k) (y k) ≡ s → lt_z (y k) (x k) ≡ t → cond s true (cond t false (sooner n (k + 1) x y)) ≡ false
          → (Agree (k + 1) x y → sooner n (k + 1) x y ≡ false → NotAfter m y x) → NotAfter m y x
      go true t f g i ih = absurd (impossible (sym i))
      go false true f g i ih = inr (record { place = k; below = omega (arith, e); same = λ j l. sym (a j l); less = yes_lt g })
      go false false f g i ih = ih (agree_on k a f g) i

-- the definition at the item looked at, where m items are left
pub sooner-next : (m k n : ℕ) (x y : ℕ → ℤ) → m + k ≡ n → k < n → (j : ℕ) × ((j + (k + 1) ≡ n) × (sooner m k x y ≡
    cond (lt_z (x k) (y k)) true (cond (lt_z (y k) (x k)) false (sooner j (k + 1) x y))))
unfolding sooner
sooner-next zero k n x y e l = absurd (omega arith)
sooner-next (suc m) k n x y e l = (m, (omega arith, refl))

-- and where none is left
pub sooner-none : (m k : ℕ) (x y : ℕ → ℤ) → m ≡ 0 → sooner m k x y ≡ false
unfolding sooner
sooner-none m k x y e = rw e refl

-- ---- two points with their values

module _ (v : (ℕ → ℤ) → ℤ) (n : ℕ) (a b : Mixed) (X Y : ℕ → ℤ) (pa : Proper a) (pb : Proper b) (va : v X ≡ over a) (vb : v Y ≡ over b) where
  abbrev x : ℕ → ℤ
  x k = X k *ℤ pos b.parts

  abbrev y : ℕ → ℤ
  y k = Y k *ℤ pos a.parts

  -- X is worth more, or as much and comes before Y
  abbrev ahead : Bool
  ahead = cond (less_mixed b a) true (cond (less_mixed a b) false (sooner n 0 x y))

  none : Agree 0 x y
  none j l = absurd (omega arith)

  pub first-leads : ahead ≡ true → Leads v n a.parts X b.parts Y
  first-leads h = go (less_mixed b a) (less_mixed a b) refl refl h
    where
      go : (s t : Bool) → less_mixed b a ≡ s → less_mixed a b ≡ t → cond s true (cond t false (sooner n 0 x y)) ≡ true → Leads v n a.parts X b.parts Y
      go true t f g i = leads-above v n a.parts b.parts X Y
          (subst₂ (λ p q. (p *ℤ pos a.parts) <ℤ (q *ℤ pos b.parts)) (sym vb) (sym va) (less-true b a pb pa f))
      go false true f g i = absurd (impossible i)
      go false false f g i = record {
        worth = subst₂ (λ p q. (p *ℤ pos a.parts) ≤ℤ (q *ℤ pos b.parts)) (sym vb) (sym va) (less-false a b pa pb g);
        sooner = λ w. inr (sooner-earlier x y n n 0 (omega arith) none i);
      }

  pub second-leads : ahead ≡ false → Leads v n b.parts Y a.parts X
  second-leads h = go (less_mixed b a) (less_mixed a b) refl refl h
    where
      go : (s t : Bool) → less_mixed b a ≡ s → less_mixed a b ≡ t → cond s true (cond t false (sooner n 0 x y)) ≡ false → Leads v n b.parts Y a.parts X
      go true t f g i = absurd (impossible (sym i))
      go false true f g i = leads-above v n b.parts a.parts Y X
          (subst₂ (λ p q. (p *ℤ pos b.parts) <ℤ (q *ℤ pos a.parts)) (sym va) (sym vb) (less-true a b pa pb g))
      go false false f g i = record {
        worth = subst₂ (λ p q. (p *ℤ pos b.parts) ≤ℤ (q *ℤ pos a.parts)) (sym va) (sym vb) (less-false b a pb pa f);
        sooner = λ w. sooner-not x y n n 0 (omega arith) none i;
      }

-- ---- the lower corner of a box

not-after-above : (n : ℕ) (x y : ℕ → ℤ) → ((k : ℕ) → k < n → x k ≤ℤ y k) → NotAfter n x y
not-after-above n x y h = not_after n x y (λ e. clash_ℤ e.less (h e.place e.below))

pub corner-leads : (v : (ℕ → ℤ) → ℤ) (n E D : ℕ) (lo Y N : ℕ → ℤ) → 1 ≤ D → sooner n 0 (λ k. lo k *ℤ pos E) Y ≡ false
    → ((k : ℕ) → k < n → (lo k *ℤ pos D) ≤ℤ N k) → (v N *ℤ pos E) ≤ℤ (v Y *ℤ pos D) → Leads v n E Y D N
corner-leads v n E D lo Y N d h above w = record {
  worth = w;
  sooner = λ m. not-after-trans (not-after-times D d (sooner-not (λ k. lo k *ℤ pos E) Y n n 0 (omega arith) (λ j l. absurd (omega arith)) h))
      (not-after-above n (λ k. (lo k *ℤ pos E) *ℤ pos D) (λ k. N k *ℤ pos E)
      (λ k l. subst (λ z. z ≤ℤ (N k *ℤ pos E)) (swap (lo k)) (times-≤ E (lo k *ℤ pos D) (N k) (above k l))));
}
  where
    swap : (z : ℤ) → (z *ℤ pos D) *ℤ pos E ≡ (z *ℤ pos E) *ℤ pos D
    swap = split _ (λ a b. simp zed (omega arith))

-- a point that agrees on the items leads as much
pub leads-cong : (v : (ℕ → ℤ) → ℤ) (n E D : ℕ) (M M' N : ℕ → ℤ) → Agree n M M' → v M ≡ v M' → Leads v n E M D N → Leads v n E M' D N
leads-cong v n E D M M' N a e h = record {
  worth = subst (λ z. (v N *ℤ pos E) ≤ℤ (z *ℤ pos D)) e h.worth;
  sooner = λ w. not-after-cong (λ k l. ap (λ z. z *ℤ pos D) (a k l)) (λ k l. refl) (h.sooner (subst (λ z. (z *ℤ pos D) ≤ℤ (v N *ℤ pos E)) (sym e) w));
}

-- ---- the list of a filling's amounts

pub list-once : (x y : List ℤ) → length x ≡ length y → ((i : ℕ) → at x i ≡ at y i) → x ≡ y
list-once [] [] l h = refl
list-once [] (b ∷ y) l h = absurd (omega (arith, l))
list-once (a ∷ x) [] l h = absurd (omega (arith, l))
list-once (a ∷ x) (b ∷ y) l h = ap₂ (λ (a : ℤ) (x : List ℤ). a ∷ x) (h 0) (list-once x y (omega (arith, l)) (λ i. h (suc i)))

listed-long : (f : ℕ → ℤ) (n : ℕ) → length (listed f n) ≡ n
unfolding listed
listed-long f zero = refl
listed-long f (suc n) = ap suc (listed-long (λ k. f (suc k)) n)

listed-beyond : (f : ℕ → ℤ) (n k : ℕ) → n ≤ k → at (listed f n) k ≡ pos 0
unfolding listed
listed-beyond f zero k l = refl
listed-beyond f (suc n) zero l = absurd (omega arith)
listed-beyond f (suc n) (suc k) l = listed-beyond (λ j. f (suc j)) n k (omega arith)

module _ (c : Columns) (e : Ends) (f : Fill) (q : ℕ) (few : c.count ≤ 16) where
  pub point-long : length (point_of c e f q) ≡ 16
  unfolding point_of
  point-long = listed-long _ 16

  pub point_at : (k : ℕ) → k < c.count → at (point_of c e f q) k ≡ numerator c e f q k
  unfolding point_of
  point_at k l = listed_at (λ k. cond (ltb k c.count) (numerator c e f q k) (pos 0)) 16 k (omega arith)
      ∙ ap (λ b. cond b (numerator c e f q k) (pos 0)) (lt-ltb k c.count l)

  pub point-beyond : (k : ℕ) → c.count ≤ k → at (point_of c e f q) k ≡ pos 0
  unfolding point_of
  point-beyond k l = go (dec_lt k 16)
    where
      F : ℕ → ℤ
      F k = cond (ltb k c.count) (numerator c e f q k) (pos 0)

      go : Dec (k < 16) → at (listed F 16) k ≡ pos 0
      go (yes m) = listed_at F 16 k m ∙ ap (λ b. cond b (numerator c e f q k) (pos 0)) (le-ltb k c.count l)
      go (no m) = listed-beyond F 16 k (omega arith)

  -- a list with these amounts and zeros beyond is that list
  pub point-once : (x : List ℤ) → length x ≡ 16 → ((k : ℕ) → k < c.count → at x k ≡ numerator c e f q k) → ((k : ℕ) → c.count ≤ k → at x k ≡ pos 0)
      → x ≡ point_of c e f q
  point-once x l h b = list-once x (point_of c e f q) (l ∙ sym point-long) (λ k. go k (dec_lt k c.count))
    where
      go : (k : ℕ) → Dec (k < c.count) → at x k ≡ at (point_of c e f q) k
      go k (yes m) = h k m ∙ sym (point_at k m)
      go k (no m) = b k (omega arith) ∙ sym (point-beyond k (omega arith))
