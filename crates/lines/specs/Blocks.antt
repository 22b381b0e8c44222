-- Eight bytes of a text as one number, a block, and the bytes 10 among them.
--   block_of l    the bytes of l as a number, the first the lowest
--   hit b        128, the high bit of a byte, where b is 10
--   hits_in k w   the hits of the k low bytes of w, each in its byte's place
use Rattle.std.specs.Prelude.{cond, List, [], ◌∷◌, ℕ, zero, suc, ◌+◌, ◌*◌, ◌/◌, ◌%◌, eqb}

unfoldable pub block_of : List ℕ → ℕ
block_of [] = 0
block_of (b ∷ l) = block_of l * 256 + b

abbrev pub hit : ℕ → ℕ
hit b = cond (eqb b 10) 128 0

unfoldable pub hits_in : ℕ → ℕ → ℕ
hits_in zero w = 0
hits_in (suc k) w = hits_in k (w / 256) * 256 + hit (w % 256)
