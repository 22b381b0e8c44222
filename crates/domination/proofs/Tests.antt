-- A test as an equation of a Bool, from what it says, and two results of one test.
use mathlib.Core.Path.{◌≡◌, refl}
use mathlib.Core.Bool.{Bool, true, false}
use Prim.Native.Nat.{ℕ}
use native.Mathlib.Omega.{arith}
use lib.Dec.{T}
use lib.IntN.{ℤ}
use lib.Signed.{◌≤ℤ◌, le_z}

pub not-both : (t : Bool) → t ≡ true → t ≡ false → ⊥
not-both t p n = let z : ◌≡◌ {A = ℕ} 0 1 = cc in omega arith

is_true : (t : Bool) → T t → t ≡ true
is_true true h = refl
is_true false h = elim h [ ]

pub test-le : (x y : ℤ) → x ≤ℤ y → le_z x y ≡ true
test-le x y h = is_true (le_z x y) h.le
