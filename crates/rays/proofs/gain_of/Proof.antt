-- `rays::gain_of` meets its contract: no product is above ten million.
use mathlib.Core.Path.{◌≡◌}
use lib.Dec.{lit<}
use lib.IntN.{pos, neg_ℤ, ◌+ℤ◌, ◌-ℤ◌, ◌*ℤ◌}
use Prim.Native.Nat.{◌*◌}
use mir.Syntax.{w64}
use mir.Val.{SFits, to_z, of_z}
use mir.Facts.{to_z-of_z}
use Rattle.arith.specs.Within.{Within}
use Rattle.arith.proofs.Parts.{abs-within, within-neg, within-mul, within-add, within-sfits}
use Rattle.rays.specs.Directions.{gain}
use Rattle.rays.proofs.Bits.{read_back, negated}
use Rattle.rays.proofs.gain_of.Statement.{statement}
use Rattle.rays.proofs.gain_of.Tie as tie

module _ (c : tie.Start) where
  e-weight : Within 1000 c.args.e.weight
  e-weight = abs-within c.args.e.weight c.requires.1.weight-in

  e-price : Within 10000 c.args.e.price
  e-price = abs-within c.args.e.price c.requires.1.price-in

  d-weight : Within 1000 c.args.d.weight
  d-weight = abs-within c.args.d.weight c.requires.0.weight-in

  d-price : Within 10000 c.args.d.price
  d-price = abs-within c.args.d.price c.requires.0.price-in

  negation : Within 1000 (neg_ℤ c.args.e.weight)
  negation = within-neg c.args.e.weight e-weight

  -- what is read back from the bits of each number on the way
  there : to_z w64 (of_z w64 c.args.d.price) *ℤ to_z w64 (of_z w64 (pos 0 -ℤ to_z w64 (of_z w64 c.args.e.weight))) ≡ c.args.d.price *ℤ neg_ℤ
      c.args.e.weight
  there = rw (negated (lit< tt) e-weight, read_back (lit< tt) negation, read_back (lit< tt) d-price)

  here : to_z w64 (of_z w64 c.args.e.price) *ℤ to_z w64 (of_z w64 c.args.d.weight) ≡ c.args.e.price *ℤ c.args.d.weight
  here = rw (read_back (lit< tt) e-price, read_back (lit< tt) d-weight)

  there-in : Within (10000 * 1000) (c.args.d.price *ℤ neg_ℤ c.args.e.weight)
  there-in = within-mul d-price negation

  here_in : Within (10000 * 1000) (c.args.e.price *ℤ c.args.d.weight)
  here_in = within-mul e-price d-weight

  gain-fits : SFits w64 (gain c.args.d c.args.e)
  gain-fits = within-sfits (lit< tt) (within-add there-in here_in)

sub-result : tie.Need-overflow_sub-result
sub-result c = let s = c.before.before in rw (negated (lit< tt) (e-weight s)) (within-sfits (lit< tt) (negation s))

-- the moments that are spoken of below
abbrev start-of-known2 : tie.After-struct_known-2-1 → tie.Start
start-of-known2 c = c.before.before.before

abbrev start-of-told3 : tie.After-struct_told-3-1 → tie.Start
start-of-told3 c = start-of-known2 c.before.before.before

abbrev start : tie.After-struct_told-4-1 → tie.Start
start c = start-of-told3 c.before.before

mul-result : tie.Need-overflow_mul-result
mul-result c = let s = start-of-known2 c.before in rw (there s) (within-sfits (lit< tt) (there-in s))

mul-result-2 : tie.Need-overflow_mul-result-2
mul-result-2 c = let s = start c in rw (here s) (within-sfits (lit< tt) (here_in s))

-- the sum of the two products, read back
summed : (s : tie.Start) → to_z w64 (of_z w64 (to_z w64 (of_z w64 s.args.d.price) *ℤ to_z w64 (of_z w64 (pos 0 -ℤ to_z w64 (of_z w64 s.args.e.weight)))))
    +ℤ to_z w64 (of_z w64 (to_z w64 (of_z w64 s.args.e.price) *ℤ to_z w64 (of_z w64 s.args.d.weight))) ≡ gain s.args.d s.args.e
summed s = rw (there s, here s, read_back (lit< tt) (there-in s), read_back (lit< tt) (here_in s))

add-result : tie.Need-overflow_add-result
add-result c = let s = start c in rw (summed s) (gain-fits s)

returns : tie.Need-returns
returns c = let s = start c in rw (summed s) (to_z-of_z (gain-fits s))

pub gain_of_spec : {M : Type 1} → statement M
gain_of_spec = tie.close (tie.spec sub-result mul-result mul-result-2 add-result returns)
