-- Numbers held as a whole part and a remainder over a divisor, so that comparing two needs no long product.
--   Proper m        part < parts ≤ 1000
--   less_mixed a b   a is below b
use Rattle.std.specs.Prelude.{Bool, true, false, cond, ◌*◌, ◌<◌, ◌≤◌, ltb}
use Rattle.std.specs.Int.Signed.{lt_z}
use Rattle.arith.specs.declared.Mixed.{Mixed}

pub record Proper (m : Mixed) : Type 0 where
  pub low : m.part < m.parts
  pub few : m.parts ≤ 1000

-- the whole parts decide, and the remainders where they are equal
unfoldable pub less_mixed : Mixed → Mixed → Bool
less_mixed a b = cond (lt_z a.whole b.whole) true (cond (lt_z b.whole a.whole) false (ltb (a.part * b.parts) (b.part * a.parts)))
