-- Bounds that cross, a lower bound above its upper.
-- order-in, uncrossed: where the test finds none, all bounds are in order. crossed-infeasible: where it finds one, no point is feasible.
use mathlib.Core.Path.{◌≡◌, refl}
use mathlib.Core.Bool.{Bool, true, false, cond}
use Prim.Native.Nat.{ℕ, zero, suc, ◌<◌}
use native.Mathlib.Omega.{arith}
use lib.IntN.{ℤ}
use lib.Signed.{◌<ℤ◌}
use Rattle.arith.specs.Fractions.{Frac, int, ◌<ᶠ◌}
use Rattle.arith.proofs.Fractions.{≤ᶠ-trans, <ᶠ-not-≤}
use Rattle.arith.proofs.Integers.{split2, zed}
use Rattle.arith.proofs.Parts.{impossible}
use Rattle.arith.proofs.Words.{yes_lt, no_lt}
use Rattle.std.specs.Prelude.{Option, None, Some}
use Rattle.knapsack.specs.declared.Problem.{Problem}
use Rattle.knapsack.specs.Meaning.{instance_of, KeepsLower, KeepsUpper, Infeasible}
use Rattle.knapsack.specs.Ranges.{item_at, BoundsInOrder}
use Rattle.model.specs.Records.{crossed, crosses, some_item, some_crosses, Uncrossed}
use Rattle.model.proofs.Records.{none-fails}

pub order-in : (l u : Option ℤ) → crossed l u ≡ false → BoundsInOrder l u
order-in None u h = tt
order-in (Some l) None h = tt
order-in (Some l) (Some u) h = no_lt h

pub uncrossed : (p : Problem) → some_crosses p ≡ false → Uncrossed p
uncrossed p h k l = order-in (item_at p k).lower (item_at p k).upper (none-fails p.count (item_at p) crosses h k l)

-- the item that the test found
one_found : {A : Type 0} (n : ℕ) (f : ℕ → A) (test : A → Bool) → some_item n f test ≡ true → (k : ℕ) × ((k < n) × (test (f k) ≡ true))
unfolding some_item
one_found zero f test h = absurd (impossible h)
one_found (suc n) f test h = go (some_item n f test) refl h (λ e. one_found n f test e)
  where
    go : (b : Bool) → some_item n f test ≡ b → cond b true (test (f n)) ≡ true → (some_item n f test ≡ true → (k : ℕ) × ((k < n) × (test (f k) ≡ true)))
        → (k : ℕ) × ((k < suc n) × (test (f k) ≡ true))
    go true e t ih = let x = ih e in (x.0, (omega (arith, x.1.0), x.1.1))
    go false e t ih = (n, (omega arith, t))

less-int : (u l : ℤ) → u <ℤ l → int u <ᶠ int l
unfolding ◌<ᶠ◌
less-int = split2 _ (λ a b c e. simp zed (omega arith))

-- no amount is between bounds that cross
no-amount : (l u : Option ℤ) (x : Frac) → crossed l u ≡ true → KeepsLower l x → KeepsUpper u x → ⊥
no-amount None u x h a b = impossible h
no-amount (Some l) None x h a b = impossible h
no-amount (Some l) (Some u) x h a b = <ᶠ-not-≤ (int u) (int l) (less-int u l (yes_lt h)) (≤ᶠ-trans (int l) x (int u) a b)

-- End theorem: as the bare definition of a feasible point says.
pub crossed-infeasible : (p : Problem) → some_crosses p ≡ true → Infeasible (instance_of p)
crossed-infeasible p h x f =
    let c = one_found p.count (item_at p) crosses h in
    let k = f.keeps c.0 c.1.0 in
    no-amount (item_at p c.0).lower (item_at p c.0).upper (x c.0) c.1.1 k.above k.below
