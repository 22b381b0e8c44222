-- Keys of mixed radix: the digits of the parts k, k + 1, .., k + n - 1 as one number, that of the first part foremost.
--   keys r k n       how many keys the parts have, where digit j is at most r j: the product of r j + 1
--   key r d k n      the key of the digits d: d k * keys r (k + 1) (n - 1) + .. + d (k + n - 1)
--   digits r k n x   the digits of the key x; 0 of any other part
--   radix r f t j    what a unit of digit j is worth in a key of the parts f to t - 1: the keys of the parts after j; 0 of any other part
use Rattle.std.specs.Prelude.{cond, ℕ, zero, suc, ◌+◌, ◌*◌, ◌-◌, ◌/◌, ◌%◌, ltb, eqb}

unfoldable pub keys : (ℕ → ℕ) → ℕ → ℕ → ℕ
keys r k zero = 1
keys r k (suc n) = suc (r k) * keys r (suc k) n

unfoldable pub key : (r d : ℕ → ℕ) → ℕ → ℕ → ℕ
key r d k zero = 0
key r d k (suc n) = d k * keys r (suc k) n + key r d (suc k) n

unfoldable pub digits : (ℕ → ℕ) → ℕ → ℕ → ℕ → ℕ → ℕ
digits r k zero x j = 0
digits r k (suc n) x j = cond (eqb j k) (x / keys r (suc k) n) (digits r (suc k) n (x % keys r (suc k) n) j)

unfoldable pub radix : (ℕ → ℕ) → ℕ → ℕ → ℕ → ℕ
radix r f t j = cond (ltb j f) 0 (cond (ltb j t) (keys r (suc j) (t - suc j)) 0)
