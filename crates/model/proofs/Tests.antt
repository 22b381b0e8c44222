-- Tests in a row.
-- neither: where none of two is found to hold, neither does.
use mathlib.Core.Path.{◌≡◌, refl, sym}
use mathlib.Core.Bool.{Bool, true, false, cond}
use Rattle.arith.proofs.Parts.{impossible}

pub neither : (a b : Bool) → cond a true b ≡ false → (a ≡ false) × (b ≡ false)
neither true b h = absurd (impossible (sym h))
neither false b h = (refl, h)
