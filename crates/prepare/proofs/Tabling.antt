-- Laws for the loops that fill arrays.
--   Filled n f u l    the array at place u of n: so far it is tabled
--   Passed n t u      the places before u pass the test
--   InvertedTo n l u r    the places before u are led back
-- …-none, …-more: before the first turn, and after one turn more. listing-inside: a listed place is one of the array's.
use mathlib.Core.Path.{◌≡◌, refl, sym, ap, ◌∙◌}
use mathlib.Core.Bool.{Bool, true, false, cond}
use mathlib.Core.List.{List}
use Prim.Native.Nat.{ℕ, zero, suc, ◌+◌, ◌≤◌, ◌<◌}
use native.Mathlib.Decide.{ℕ_discrete}
use native.Mathlib.Omega.{arith}
use borrow.Author.Tests.{lt-ltb, le-ltb, ltb-true, ltb-false}
use lib.Dec.{ltb}
use lib.IntN.{ℤ, pos}
use lib.ListN.{length, get_or, set, replicate, length-set}
use lib.Seq.{get_or-set_same, get_or-set_other}
use Rattle.greedy.specs.Fill.{at, place}
use Rattle.knapsack.specs.Ranges.{blank}
use Rattle.knapsack.specs.declared.Item.{Item}
use Rattle.knapsack.specs.declared.Problem.{Problem}
use Rattle.prepare.specs.Tables.{Tabled, Listing, Leading, Permuted}

-- ---- entries of a list

pub nothing-at : {A : Type 0} (a : A) (n u : ℕ) → get_or (replicate n a) u a ≡ a
nothing-at a zero u = refl
nothing-at a (suc n) zero = refl
nothing-at a (suc n) (suc u) = nothing-at a n u

-- a number other than u is below u + 1 if it is below u
below_next : (v u : ℕ) → (v ≡ u → ⊥) → ltb v (u + 1) ≡ ltb v u
below_next v u ne = go (ltb v u) refl
  where
    go : (t : Bool) → ltb v u ≡ t → ltb v (u + 1) ≡ ltb v u
    go true h = lt-ltb v (u + 1) (omega (arith, ltb-true v u h)) ∙ sym h
    go false h = le-ltb v (u + 1) (omega (arith, ltb-false v u h)) ∙ sym h

-- ---- tables

pub listing-inside : (p : Problem) (l : List ℕ) (n u : ℕ) → Listing p l n → u < n → place l u < 16
listing-inside p l n u s h = omega (arith, s.below u h, s.accepted.few-items)

pub record Filled (n : ℕ) (f : ℕ → ℤ) (u : ℕ) (l : List ℤ) : Type 0 where
  pub most : u ≤ n
  pub long : length l ≡ 16
  pub so_far : Tabled u f l

pub filled_none : (n : ℕ) (f : ℕ → ℤ) → Filled n f 0 (replicate 16 (pos 0))
filled_none n f = record {
  most = omega arith;
  long = refl;
  so_far = λ u. nothing-at (pos 0) 16 u
      ∙ sym (ap (λ b. cond b (f u) (pos 0)) (le-ltb u 0 (omega arith)));
}

pub filled_more : (n : ℕ) (f : ℕ → ℤ) (u : ℕ) (l : List ℤ) (x : ℤ) → n ≤ 16 → u < n → x ≡ f u → Filled n f u l → Filled n f (u + 1) (set l u x)
filled_more n f u l x few h e r = record { most = omega arith; long = length-set l u x ∙ r.long; so_far = λ v. entry v (ℕ_discrete v u) }
  where
    entry : (v : ℕ) → Dec (v ≡ u) → at (set l u x) v ≡ cond (ltb v (u + 1)) (f v) (pos 0)
    entry v (yes q) = rw (q, get_or-set_same l u x (pos 0) (omega (arith, r.long)), lt-ltb u (u + 1) (omega arith)) e
    entry v (no q) = rw (get_or-set_other l u v x (pos 0) q, below_next v u q) (r.so_far v)

-- ---- the head of a list

pub record Passed (n : ℕ) (test : ℕ → Bool) (u : ℕ) : Type 0 where
  pub most : u ≤ n
  pub pass : (v : ℕ) → v < u → test v ≡ true

pub passed_none : (n : ℕ) (test : ℕ → Bool) → Passed n test 0
passed_none n test = record { most = omega arith; pass = λ v h. absurd (omega arith) }

pub passed-more : (n : ℕ) (test : ℕ → Bool) (u : ℕ) → u < n → test u ≡ true → Passed n test u → Passed n test (u + 1)
passed-more n test u h e r = record { most = omega arith; pass = λ v g. entry v (ℕ_discrete v u) g }
  where
    entry : (v : ℕ) → Dec (v ≡ u) → v < u + 1 → test v ≡ true
    entry v (yes q) g = rw q e
    entry v (no q) g = r.pass v (omega arith)

pub passed-stop : (n : ℕ) (test : ℕ → Bool) (u : ℕ) → test u ≡ false → Passed n test u → Leading n test u
passed-stop n test u e r = record { most = r.most; pass = r.pass; stop = λ h. e }

pub passed-all : (n : ℕ) (test : ℕ → Bool) (u : ℕ) → n ≤ u → Passed n test u → Leading n test u
passed-all n test u g r = record { most = r.most; pass = r.pass; stop = λ h. absurd (omega arith) }

-- ---- a list led back

pub record InvertedTo (n : ℕ) (l : List ℕ) (u : ℕ) (r : List ℕ) : Type 0 where
  pub most : u ≤ n
  pub long : length r ≡ 16
  pub so_far : (v : ℕ) → v < u → place r (place l v) ≡ v

pub inverted-none : (n : ℕ) (l : List ℕ) → InvertedTo n l 0 (replicate 16 0)
inverted-none n l = record { most = omega arith; long = refl; so_far = λ v h. absurd (omega arith) }

pub inverted-more : (n : ℕ) (l : List ℕ) (u : ℕ) (r : List ℕ) → Permuted n l → u < n → InvertedTo n l u r → InvertedTo n l (u + 1) (set r (place l u) u)
inverted-more n l u r p h t = record { most = omega arith; long = length-set r (place l u) u ∙ t.long; so_far = λ v g. entry v (ℕ_discrete v u) g }
  where
    entry : (v : ℕ) → Dec (v ≡ u) → v < u + 1 → place (set r (place l u) u) (place l v) ≡ v
    entry v (yes q) g = rw q (get_or-set_same r (place l u) u 0 (omega (arith, t.long, p.below u h, p.few)))
    entry v (no q) g = get_or-set_other r (place l u) (place l v) u 0 (λ e. q (p.once v u (omega arith) h e)) ∙ t.so_far v (omega arith)

-- ---- keys

pub item-set : (l : List Item) (k j : ℕ) (x : Item) → j < k + 1 → k < length l → (y : ℕ → Item) → x ≡ y k → ((j : ℕ) → j < k → get_or l j blank ≡ y j)
    → get_or (set l k x) j blank ≡ y j
item-set l k j x h g y e old = entry (ℕ_discrete j k)
  where
    entry : Dec (j ≡ k) → get_or (set l k x) j blank ≡ y j
    entry (yes q) = rw (q, get_or-set_same l k x blank g) e
    entry (no q) = rw (get_or-set_other l k j x blank q) (old j (omega arith))
