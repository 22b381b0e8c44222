-- What is read back from the bits of a small number.
use mathlib.Core.Path.{◌≡◌}
use Prim.Native.Nat.{ℕ, ◌<◌, ◌^◌}
use lib.IntN.{ℤ, pos, neg_ℤ, ◌-ℤ◌}
use mir.Syntax.{w64}
use mir.Val.{to_z, of_z}
use mir.Facts.{to_z-of_z}
use Rattle.arith.specs.Within.{Within}
use Rattle.arith.proofs.Parts.{zero-less, within-sfits}

pub read_back : {n : ℕ} {z : ℤ} → n < 2 ^ 63 → Within n z → to_z w64 (of_z w64 z) ≡ z
read_back h w = to_z-of_z (within-sfits h w)

-- 0 - z, as code computes it
pub negated : {n : ℕ} {z : ℤ} → n < 2 ^ 63 → Within n z → pos 0 -ℤ to_z w64 (of_z w64 z) ≡ neg_ℤ z
negated {z} h w = rw (read_back h w) (zero-less z)
