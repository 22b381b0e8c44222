-- How far an integer is from zero.
--   up z, dn z      the part above 0 and the part below: z is up z minus dn z
--   Within n z      z is at most n from zero
use Rattle.std.specs.Prelude.{ℕ, suc, ◌≤◌, ℤ, pos, negsuc}

abbrev pub up : ℤ → ℕ
up (pos n) = n
up (negsuc n) = 0

abbrev pub dn : ℤ → ℕ
dn (pos n) = 0
dn (negsuc n) = suc n

pub record Within (n : ℕ) (z : ℤ) : Type 0 where
  pub above : up z ≤ n
  pub below : dn z ≤ n
