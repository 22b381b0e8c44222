-- Numbers times the sign of another.
-- within-times-sign: they are as large as before. times-sign-self: a number times its own sign is its size.
use mathlib.Core.Path.{◌≡◌, refl}
use Prim.Native.Nat.{ℕ}
use lib.IntN.{ℤ, pos, negsuc, nat_abs}
use Rattle.arith.specs.Signs.{times_sign}
use Rattle.arith.specs.Within.{Within}
use Rattle.arith.proofs.Parts.{within-neg}

pub within-times-sign : {n : ℕ} (a c : ℤ) → Within n c → Within n (times_sign a c)
within-times-sign (pos m) c h = h
within-times-sign (negsuc m) c h = within-neg c h

pub times-sign-self : (a : ℤ) → times_sign a a ≡ pos (nat_abs a)
times-sign-self (pos n) = refl
times-sign-self (negsuc n) = refl
