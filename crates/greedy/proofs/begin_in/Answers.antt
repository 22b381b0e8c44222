use Rattle.std.proofs.Common.{◌≡◌, ◌∙◌, ◌+◌, ℕ, refl, ap₂, arith, add-one, ℤ, ◌+ℤ◌, ◌-ℤ◌, ◌*ℤ◌}
use Rattle.arith.proofs.Integers.{split3, zed}
use Rattle.arith.proofs.Parts.{within-sub, within_more, within-back}
use Rattle.greedy.specs.declared.Columns.{Columns}
use Rattle.greedy.specs.declared.Ends.{Ends}
use Rattle.greedy.specs.declared.Fill.{Fill}
use Rattle.greedy.specs.Fill.{by_item, weight_of, price_of, light_of, corner_weight, corner_worth, with_amount}
use Rattle.greedy.specs.Sized.{Sized}
use Rattle.greedy.proofs.Sizes.{light-within, corner-weight-within, corner-worth-within}
use Rattle.greedy.proofs.begin_in.Goals as goal

-- the first k items at their light ends
abbrev partly : Columns → Ends → ℕ → Fill
partly c e k = record { at = 0; room = c.capacity -ℤ corner_weight c e k; worth = corner_worth c e k }

more : (c : Columns) (e : Ends) (k : ℕ) → with_amount (partly c e k) (weight_of c k) (price_of c k) (light_of c e k) ≡ partly c e (k + 1)
more c e k = rw add-one (ap₂ (λ (r w : ℤ). record { at = 0; room = r; worth = w }) (take c.capacity (corner_weight c e k) (weight_of c k *ℤ light_of c e k))
    refl)
  where
    take : (x y z : ℤ) → (x -ℤ y) -ℤ z ≡ x -ℤ (y +ℤ z)
    take = split3 _ (λ a b c e f g. simp zed (omega arith))

pub with_amount-f-requires : goal.with_amount-f-requires
with_amount-f-requires c =
    let w : Columns = by_item c.args.weight.now c.args.price.now c.args.n c.args.capacity in
    let e : Ends = record { lo = c.args.lo.now; hi = c.args.hi.now } in
    let z : Sized w e = c.requires in
    let k = c.loop-k.k in
    let x = light-within w e z k in
    let amount = rw (
      within-back tt (z.columns.weights-in k),
      within-back tt (z.columns.prices-in k),
      within-back tt (z.ends.lo-in k),
      within-back tt (z.ends.hi-in k),
    ) at c.light_end-x.ensures in
    rw (within-back tt (z.columns.weights-in k), within-back tt (z.columns.prices-in k), amount, within-back tt x, c.loop-k.invariant, within-back tt z.columns.capacity-in) (
      z.columns.weights-in k,
      (
        z.columns.prices-in k,
        (
          x,
          (
            within_more (omega arith) (within-sub z.columns.capacity-in (corner-weight-within w e z k (omega (arith, z.columns.few)))),
            within_more (omega arith) (corner-worth-within w e z k (omega (arith, z.columns.few))),
          ),
        ),
      ),
    )

pub loop-k-preserved : goal.loop-k-preserved
loop-k-preserved c =
    let w : Columns = by_item c.args.weight.now c.args.price.now c.args.n c.args.capacity in
    let e : Ends = record { lo = c.args.lo.now; hi = c.args.hi.now } in
    let z : Sized w e = c.requires in
    let k = c.loop-k.k in
    let amount = rw (
      within-back tt (z.columns.weights-in k),
      within-back tt (z.columns.prices-in k),
      within-back tt (z.ends.lo-in k),
      within-back tt (z.ends.hi-in k),
    ) at c.light_end-x.ensures in
    let added = rw (
      within-back tt (z.columns.weights-in k),
      within-back tt (z.columns.prices-in k),
      amount,
      within-back tt (light-within w e z k),
      c.loop-k.invariant,
      within-back tt z.columns.capacity-in,
    ) at c.with_amount-f.ensures in
    rw (within-back tt z.columns.capacity-in) (added ∙ more w e k)
