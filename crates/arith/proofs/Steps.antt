-- Chains of inequalities, each step with its reason: x ≤⟨ why ⟩ y ≡≤⟨ why equal ⟩ z ≤∎ says x ≤ℤ z.
use mathlib.Core.Path.{◌≡◌, subst, sym}
use lib.IntN.{ℤ}
use lib.Signed.{◌≤ℤ◌, ≤ℤ_refl}
use Rattle.arith.proofs.Integers.{≤ℤ-trans}

infixr 2 ◌≤⟨◌⟩◌ ◌≡≤⟨◌⟩◌
pub ◌≤⟨◌⟩◌ : (x : ℤ) {y z : ℤ} → x ≤ℤ y → y ≤ℤ z → x ≤ℤ z
x ≤⟨ h ⟩ k = ≤ℤ-trans h k

pub ◌≡≤⟨◌⟩◌ : (x : ℤ) {y z : ℤ} → x ≡ y → y ≤ℤ z → x ≤ℤ z
◌≡≤⟨◌⟩◌ x {y} {z} h k = subst (λ w. w ≤ℤ z) (sym h) k

infix 3 ◌≤∎
pub ◌≤∎ : (x : ℤ) → x ≤ℤ x
x ≤∎ = ≤ℤ_refl x
