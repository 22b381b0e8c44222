use Rattle.std.proofs.Common.{Some, ◌≡◌, ap, ap₂, ◌∙◌, pos, ◌-ℤ◌, w64, FitsSigned, to_z, of_z, lit<, to_z-of_z}
use lib.IntN.{neg_ℤ}
use Rattle.arith.specs.Gcd.{signed}
use Rattle.arith.proofs.Parts.{zero-less, abs-within, within-neg, within-sfits, within-back}
use Rattle.domination.proofs.Sizes.{signed-within}
use Rattle.domination.proofs.pairing.steps_of.Goals as goal

-- the steps, as the calls give them
first : (c : goal.After-with_sign-2) → to_z w64 (of_z w64 c.with_sign.result) ≡ signed c.args.x.weight c.args.give
first c =
    let e = rw (within-back {n = 1000} tt (abs-within _ c.requires.0.weight-in)) at c.with_sign.ensures in
    rw e (to_z-of_z (within-sfits (lit< tt) (signed-within c.args.x.weight c.args.give c.requires.1.1.0)))

negated : (c : goal.After-with_sign-2) → pos 0 -ℤ to_z w64 (of_z w64 c.with_sign-2.result) ≡ neg_ℤ (signed c.args.y.weight c.args.take)
negated c =
    let e = rw (within-back {n = 1000} tt (abs-within _ c.requires.1.0.weight-in)) at c.with_sign-2.ensures in
    rw (e, to_z-of_z (within-sfits {n = 1000} (lit< tt) (signed-within c.args.y.weight c.args.take c.requires.1.1.1)))
    (zero-less (signed c.args.y.weight c.args.take))

fits : (c : goal.After-with_sign-2) → FitsSigned w64 (neg_ℤ (signed c.args.y.weight c.args.take))
fits c = within-sfits {n = 1000} (lit< tt) (within-neg _ (signed-within c.args.y.weight c.args.take c.requires.1.1.1))

pub overflow_sub-result : goal.overflow_sub-result
overflow_sub-result c = rw (negated c) (fits c)

pub returns : goal.returns
returns c = ap₂ (λ r s. Some (r, s)) (first c) (ap (λ z. to_z w64 (of_z w64 z)) (negated c) ∙ to_z-of_z (fits c))
