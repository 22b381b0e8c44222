-- Least pairs, computed. Paper 01, "Least pair"; the field's name is the minimal cost-domination pair.
--   room_for l u n        whether there is room for n steps between two bounds
--   size_of x             weight and price without sign
--   less_efficient x y    x is worth less than y per unit of weight
--   giving x y, taking x y   the least steps of x and y without sign, x the less efficient;  trade_of x y: both
--   steps x y r t        steps with their signs
--   one_way x y           those least steps with their signs, if both items have room for them
--   swapped q            the pair of the items in the other order
--   pair_of x y           the least pair of two eligible items, or None (01's none)
--   is_integer, one_sign, eligible   the tests of row 10
--   Fit x, Traded x y    what the code asks of items
--   refuse_pair n         refusal n
--   paired x y           row 10, then a pair;  placed n x y i j: row 9 for items numbered i and j of n, then these
--   numbered p i j       of the items that have these numbers
--   after v q            the record's refusal, or q
--   least_pair sense m i j   the reply for items i and j, from 1, by their weights in that sense: a refusal of the record, 9, 10, or a pair
--   or_missing q          the pair of a reply
--   is_named named k      a need names the item at place k, from 0;  barred named i j: one of two items
--   tabled p named i j   the table's entry for places i and j, from 0, of a plain problem: None where a need names one of the items, or 9 or 10 is due
use Rattle.std.specs.Prelude.{Result, Ok, Err, ◌≡◌, Bool, true, false, cond, List, ℕ, ◌+◌, ◌*◌, ◌-◌, ltb, ℤ, pos, neg_ℤ, nat_abs, ◌-ℤ◌, get_or}
use Rattle.knapsack.specs.declared.Refusal.{Refusal}
use Rattle.std.specs.Int.Signed.{le_z, lt_z}
use Rattle.arith.specs.Gcd.{signed}
use Rattle.std.specs.Prelude.{Option, None, Some}
use Rattle.knapsack.specs.declared.Mark.{Mark}
use Rattle.knapsack.specs.declared.Mark.TheVariants.{Integer, Continuous}
use Rattle.knapsack.specs.declared.Item.{Item}
use Rattle.knapsack.specs.declared.Problem.{Problem}
use Rattle.knapsack.specs.Verdicts.{Verdict}
use Rattle.knapsack.specs.Ranges.{item_at}
use Rattle.model.specs.Records.{plain_of, wrong_numbers, refusal_for, verdict, ItemFigures}
use Rattle.model.specs.declared.refusals.Reason.{Reason}
use Rattle.model.specs.declared.refusals.Reason.TheVariants as refusal
use Rattle.model.specs.declared.Model.{Model}
use Rattle.model.specs.declared.Sense.{Sense}
use Rattle.domination.specs.declared.trade.Size.{Size}
use Rattle.domination.specs.declared.trade.Trade.{Trade}
use Rattle.domination.specs.Eligible.{Eligible}
use Rattle.domination.specs.Trades.{partner, least_give}

-- whether there is room for n steps
abbrev pub room_for : Option ℤ → Option ℤ → ℕ → Bool
room_for None u n = true
room_for (Some l) None n = true
room_for (Some l) (Some u) n = le_z (pos n) (u -ℤ l)

-- weight and price without sign
abbrev pub size_of : Item → Size
size_of x = record { weight = nat_abs x.weight; price = nat_abs x.price }

abbrev pub less_efficient : Item → Item → Bool
less_efficient x y = ltb ((size_of x).price * (size_of y).weight) ((size_of x).weight * (size_of y).price)

-- the least steps of x and y without sign, x the less efficient
abbrev pub giving : Item → Item → ℕ
giving x y = least_give (size_of x).weight (size_of y).weight (size_of x).price (size_of y).price

abbrev pub taking : Item → Item → ℕ
taking x y = partner (size_of x).price (size_of y).price (giving x y)

abbrev pub trade_of : Item → Item → Trade
trade_of x y = record { give = giving x y; take = taking x y }

-- the less efficient item's step has its weight's sign, the other's the opposite
abbrev pub steps : Item → Item → ℕ → ℕ → Option (ℤ × ℤ)
steps x y r t = Some (signed x.weight r, neg_ℤ (signed y.weight t))

unfoldable pub one_way : Item → Item → Option (ℤ × ℤ)
one_way x y =
    cond (room_for x.lower x.upper (giving x y))
    (cond (room_for y.lower y.upper (taking x y)) (steps x y (giving x y) (taking x y)) None)
    None

abbrev pub swapped : Option (ℤ × ℤ) → Option (ℤ × ℤ)
swapped None = None
swapped (Some (r, s)) = Some (s, r)

unfoldable pub pair_of : Item → Item → Option (ℤ × ℤ)
pair_of x y = cond (less_efficient x y) (one_way x y) (cond (less_efficient y x) (swapped (one_way y x)) None)

abbrev pub is_integer : Mark → Bool
is_integer Integer = true
is_integer Continuous = false

abbrev pub one_sign : ℤ → ℤ → Bool
one_sign w c = cond (lt_z (pos 0) w) (lt_z (pos 0) c) (cond (lt_z w (pos 0)) (lt_z c (pos 0)) false)

abbrev pub eligible : Item → Bool
eligible x = cond (is_integer x.mark) (one_sign x.weight x.price) false

-- what the code asks of items: in range and eligible, and for a trade the first the less efficient
pub record Fit (x : Item) : Type 0 where
  pub in-range : ItemFigures x
  pub is-eligible : Eligible x

pub record Traded (x y : Item) : Type 0 where
  pub first-fit : Fit x
  pub second-fit : Fit y
  pub direction : less_efficient x y ≡ true

abbrev pub refuse_pair : Reason → Result (Option (ℤ × ℤ)) Refusal
refuse_pair n = Err (refusal_for n)

-- row 10 of the refusals
unfoldable pub paired : Item → Item → Result (Option (ℤ × ℤ)) Refusal
paired x y = cond (eligible x) (cond (eligible y) (Ok (pair_of x y)) (refuse_pair refusal.PairItems)) (refuse_pair refusal.PairItems)

-- rows 9 and 10, on an accepted problem
abbrev pub placed : ℕ → Item → Item → ℕ → ℕ → Result (Option (ℤ × ℤ)) Refusal
placed n x y i j = cond (wrong_numbers n i j) (refuse_pair refusal.PairNumbers) (paired x y)

unfoldable pub numbered : Problem → ℕ → ℕ → Result (Option (ℤ × ℤ)) Refusal
numbered p i j = placed p.count (item_at p (i - 1)) (item_at p (j - 1)) i j

abbrev pub after : Verdict → Result (Option (ℤ × ℤ)) Refusal → Result (Option (ℤ × ℤ)) Refusal
after (Ok _) q = q
after (Err f) q = Err f

unfoldable pub least_pair : Sense → Model → ℕ → ℕ → Result (Option (ℤ × ℤ)) Refusal
least_pair sense m i j = after (verdict m) (numbered (plain_of sense m) i j)

abbrev pub or_missing : Result (Option (ℤ × ℤ)) Refusal → Option (ℤ × ℤ)
or_missing (Err f) = None
or_missing (Ok q) = q

abbrev pub is_named : List Bool → ℕ → Bool
is_named named k = get_or named k false

abbrev pub barred : List Bool → ℕ → ℕ → Bool
barred named i j = cond (is_named named i) true (is_named named j)

abbrev pub tabled : Problem → List Bool → ℕ → ℕ → Option (ℤ × ℤ)
tabled p named i j = cond (barred named i j) None (or_missing (numbered p (i + 1) (j + 1)))
