use Rattle.std.proofs.Common.{◌≡◌, ◌∙◌, arith, lit<, ℤ, ◌-ℤ◌, ◌*ℤ◌, w64, to_z, of_z}
use Rattle.knapsack.specs.declared.Item.{Item}
use Rattle.knapsack.specs.Ranges.{ItemInRange}
use Rattle.arith.proofs.Parts.{within_more, within-back, within-sfits}
use Rattle.arith.proofs.Words.{back}
use Rattle.prepare.specs.Figures.{reduced_price, SmallRatio}
use Rattle.prepare.proofs.Ranges.{weight-within, price-within, gain-within, cost-within, reduced-within}
use Rattle.prepare.proofs.tables.reduced_price.Goals as goal

difference : (i : Item) (p q : ℤ) → ItemInRange i → SmallRatio p q
    → to_z w64 (of_z w64 (to_z w64 (of_z w64 q) *ℤ to_z w64 (of_z w64 i.price))) -ℤ to_z w64 (of_z w64 (to_z w64 (of_z w64 p) *ℤ to_z w64 (of_z w64 i.weight)))
    ≡ reduced_price p q i
difference i p q h r = rw (
  within-back tt r.weight,
  within-back tt r.price,
  within-back tt (price-within i h),
  within-back tt (weight-within i h),
  within-back tt (gain-within i h p q r),
  within-back tt (cost-within i h p q r),
)

pub overflow_sub-q : goal.overflow_sub-q
overflow_sub-q c =
    rw (difference c.args.i c.args.p c.args.q c.requires.0 c.requires.1) (within-sfits (lit< tt) (reduced-within c.args.i c.requires.0 c.args.p c.args.q c.requires.1))

pub absolute-requires : goal.absolute-requires
absolute-requires c =
    let w = reduced-within c.args.i c.requires.0 c.args.p c.args.q c.requires.1 in
    rw (difference c.args.i c.args.p c.args.q c.requires.0 c.requires.1, within-back tt w) (within_more (omega arith) w)

pub returns : goal.returns
returns c =
    let w = reduced-within c.args.i c.requires.0 c.args.p c.args.q c.requires.1 in
    back c.absolute.result c.absolute.type_inv ∙ (rw (difference c.args.i c.args.p c.args.q c.requires.0 c.requires.1, within-back tt w) at c.absolute.ensures)
