-- What the planner's arrays hold of an item, and the keys by which it orders the items.
--   end_or b d           the bound b, or d where it is absent
--   low_end, high_end     an item's ends in the box; the farthest amount stands for an absent bound
--   figure_of f i        the figure f of the item i
--   live a c            an item of that weight and price is worth its weight
--   is_integer, meet, fixed  an item's mark; that nothing lies between its bounds; one of the two
--   passes t i          the item i passes the test t: worth its weight; integer; integer or with only one amount
--   light_bound i        the bound where the item weighs least
--   head_start b a       what parts equals of filling: those that lack the light end come first
--   key_item a c         an item of weight a and price c that stands for a key
--   filling_key i        the key for filling: falling price per weight; of equals, those that lack the light end first
--   reduced_price p q i  what a unit of the item is worth beyond its weight at the price p for a weight of q, times q
--   branching_price      the reduced price without sign, what weighs nothing last
--   branching_key p q i  the key for branching: falling reduced price, equals by number, then what weighs nothing, the continuous items last
--   key_of b i           one of these
--   SmallRatio, SmallKey  the key's numbers are a price and a weight
use Rattle.std.specs.Prelude.{Bool, true, false, cond, not, eqb, ℤ, pos, negsuc, neg_ℤ, nat_abs, ◌+ℤ◌, ◌-ℤ◌, ◌*ℤ◌}
use Rattle.std.specs.Int.Signed.{lt_z}
use Rattle.arith.specs.Limits.{farthest}
use Rattle.arith.specs.Within.{Within}
use Rattle.arith.specs.Signs.{times_sign}
use Rattle.std.specs.Prelude.{Option, None, Some}
use Rattle.knapsack.specs.declared.Item.{Item}
use Rattle.knapsack.specs.declared.Mark.TheVariants.{Integer, Continuous}
use Rattle.knapsack.specs.declared.Mark.{Mark}
use Rattle.prepare.specs.declared.tables.Figure.TheVariants.{Weight, Price, Low, High, Size, Rate}
use Rattle.prepare.specs.declared.tables.Figure.{Figure}
use Rattle.prepare.specs.declared.tables.Key.TheVariants.{Filling, Branching}
use Rattle.prepare.specs.declared.tables.Key.{Key}
use Rattle.prepare.specs.declared.tables.Test.TheVariants.{Live, Level, Fixed}
use Rattle.prepare.specs.declared.tables.Test.{Test}

-- ---- figures

-- the bound, or d where it is absent
abbrev pub end_or : Option ℤ → ℤ → ℤ
end_or None d = d
end_or (Some v) d = v

abbrev pub low_end : Item → ℤ
low_end i = end_or i.lower (neg_ℤ (pos farthest))

abbrev pub high_end : Item → ℤ
high_end i = end_or i.upper (pos farthest)

-- size and rate are weight and price without the sign of the weight
abbrev pub figure_of : Figure → Item → ℤ
figure_of Weight i = i.weight
figure_of Price i = i.price
figure_of Low i = low_end i
figure_of High i = high_end i
figure_of Size i = pos (nat_abs i.weight)
figure_of Rate i = times_sign i.weight i.price

-- ---- tests

-- worth its weight
abbrev pub live : ℤ → ℤ → Bool
live a c = cond (eqb (nat_abs a) 0) false (lt_z (pos 0) (times_sign a c))

abbrev pub is_integer : Mark → Bool
is_integer Integer = true
is_integer Continuous = false

-- nothing lies between the two bounds: they are one number, if they are in order
abbrev pub meet : Option ℤ → Option ℤ → Bool
meet None u = false
meet (Some l) None = false
meet (Some l) (Some u) = not (lt_z l u)

-- integer, or with only one amount
abbrev pub fixed : Item → Bool
fixed i = cond (is_integer i.mark) true (meet i.lower i.upper)

abbrev pub passes : Test → Item → Bool
passes Live i = live i.weight i.price
passes Level i = is_integer i.mark
passes Fixed i = fixed i

-- ---- keys

-- the bound where the item weighs least
abbrev pub light_bound : Item → Option ℤ
light_bound i = cond (lt_z i.weight (pos 0)) i.upper i.lower

-- of a bound where the item weighs least, and its weight
abbrev pub head_start : Option ℤ → ℤ → ℤ
head_start None a = pos (nat_abs a)
head_start (Some v) a = pos 0

abbrev pub key_item : ℤ → ℤ → Item
key_item a c = record { mark = Integer; weight = a; price = c; lower = None; upper = None }

-- different prices per weight differ by 1 / 1,000,000 or more, so that a head start of 1 / 2,000,000 parts only equals
abbrev pub filling_key : Item → Item
filling_key i = key_item (pos (nat_abs i.weight)) (pos 2000000 *ℤ times_sign i.weight i.price +ℤ head_start (light_bound i) i.weight)

abbrev pub reduced_price : ℤ → ℤ → Item → ℤ
reduced_price p q i = q *ℤ i.price -ℤ p *ℤ i.weight

-- what weighs nothing comes after what does
abbrev pub branching_price : ℤ → ℤ → Item → ℤ
branching_price p q i = cond (eqb (nat_abs i.weight) 0) (negsuc 0) (pos (nat_abs (reduced_price p q i)))

abbrev pub branching_key : ℤ → ℤ → Item → Item
branching_key p q i = cond (is_integer i.mark) (key_item (pos 1) (branching_price p q i)) (key_item (pos 0) (pos 0))

abbrev pub key_of : Key → Item → Item
key_of Filling i = filling_key i
key_of (Branching p q) i = branching_key p q i

-- ---- what their arithmetic asks

pub record SmallRatio (p q : ℤ) : Type 0 where
  pub price : Within 10000 p
  pub weight : Within 1000 q

abbrev pub SmallKey : Key → Type 0
SmallKey Filling = Unit {0}
SmallKey (Branching p q) = SmallRatio p q
