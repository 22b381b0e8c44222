-- Numbers in base ten, as bytes.
--   digit d           the byte of a digit
--   digits_in t n      the digits of n in at most t turns
--   digits n          the digits of n, the most significant first; none for 0
--   decimal n         n in base ten: no leading zero, and 0 is `0`
--   integer z         likewise, with a minus in front where z is below 0
--   read_after v ds    the number that the digits of v, and behind them ds, write
--   Plain ds          nothing but digits
-- What makes decimal right is in proofs/Decimals: it reads back, is plain, and has no leading zero; and no other text is so.
use Rattle.std.specs.Prelude.{List, [], ◌∷◌, ◌++◌, ℕ, zero, suc, ◌+◌, ◌*◌, ◌-◌, ◌/◌, ◌%◌, ◌≤◌, ℤ, pos, negsuc}

-- 48 is `0`
abbrev pub digit : ℕ → ℕ
digit d = 48 + d

-- a quotient by 10 falls at each turn, so n turns are enough
unfoldable pub digits_in : ℕ → ℕ → List ℕ
digits_in zero n = []
digits_in (suc turns) zero = []
digits_in (suc turns) (suc n) = digits_in turns (suc n / 10) ++ (digit (suc n % 10) ∷ [])

unfoldable pub digits : ℕ → List ℕ
digits n = digits_in n n

unfoldable pub decimal : ℕ → List ℕ
decimal n = digits (n / 10) ++ (digit (n % 10) ∷ [])

-- 45 is the minus
abbrev pub integer : ℤ → List ℕ
integer (pos n) = decimal n
integer (negsuc n) = 45 ∷ decimal (suc n)

unfoldable pub read_after : ℕ → List ℕ → ℕ
read_after v [] = v
read_after v (b ∷ ds) = read_after (10 * v + (b - 48)) ds

unfoldable pub Plain : List ℕ → Type 0
Plain [] = Unit {0}
Plain (b ∷ ds) = ((48 ≤ b) × (b ≤ 57)) × Plain ds
