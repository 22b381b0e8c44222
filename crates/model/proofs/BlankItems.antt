-- Blank items, of weight 0, low and high, and price 0.
-- is_zero: a number of size 0. blank-nothing: a blank item weighs nothing and brings nothing.
use mathlib.Core.Bool.{Bool, true, false, cond}
use mathlib.Core.Path.{◌≡◌, refl}
use native.Mathlib.Omega.{arith}
use borrow.Author.Tests.{eqb-true}
use lib.Dec.{eqb}
use lib.IntN.{ℤ, pos, nat_abs}
use Rattle.arith.proofs.Integers.{split, zed}
use Rattle.arith.proofs.Parts.{impossible}
use Rattle.model.specs.declared.ModelItem.{ModelItem}
use Rattle.model.specs.declared.Sense.{Sense}
use Rattle.model.specs.declared.Sense.TheVariants.{Sure, Possible}
use Rattle.model.specs.Records.{weight_in, is_weightless, is_blank}

pub is_zero : (a : ℤ) → nat_abs a ≡ 0 → a ≡ pos 0
is_zero = split _ (λ a b. simp zed (omega arith))

both_hold : (a b : Bool) → cond a b false ≡ true → (a ≡ true) × (b ≡ true)
both_hold true b h = (refl, h)
both_hold false b h = absurd (impossible h)

pub blank-nothing : (i : ModelItem) → is_blank i ≡ true → ((s : Sense) → weight_in s i ≡ pos 0) × (i.price ≡ pos 0)
blank-nothing i h =
    let z = both_hold (is_weightless i) (eqb (nat_abs i.price) 0) h in
    let w = both_hold (eqb (nat_abs i.low) 0) (eqb (nat_abs i.high) 0) z.0 in
    (weight w.0 w.1, zero_is i.price z.1)
  where
    zero_is : (a : ℤ) → eqb (nat_abs a) 0 ≡ true → a ≡ pos 0
    zero_is a h = is_zero a (eqb-true (nat_abs a) 0 h)

    weight : eqb (nat_abs i.low) 0 ≡ true → eqb (nat_abs i.high) 0 ≡ true → (s : Sense) → weight_in s i ≡ pos 0
    weight a b Sure = zero_is i.high b
    weight a b Possible = zero_is i.low a
