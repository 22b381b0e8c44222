use Rattle.std.proofs.Common.{◌≡◌, ◌∙◌, pos, w64, to_z, of_z}
use lib.IntN.{nat_abs}
use Rattle.arith.specs.Signs.{times_sign}
use Rattle.arith.proofs.Parts.{within-back}
use Rattle.arith.proofs.Words.{back}
use Rattle.prepare.specs.Figures.{light_bound, head_start}
use Rattle.prepare.proofs.Ranges.{weight-within, price-within, scaled-within, key-within}
use Rattle.prepare.proofs.tables.filling_key.Goals as goal

-- the three numbers that the key is made of
first : (c : goal.After-key_item) → to_z w64 (of_z w64 c.times_sign.result) ≡ times_sign c.args.i.weight c.args.i.price
first c = back c.times_sign.result c.times_sign.type_inv
    ∙ (rw (within-back tt (weight-within c.args.i c.requires), within-back tt (price-within c.args.i c.requires)) at c.times_sign.ensures)

second : (c : goal.After-key_item) → to_z w64 (of_z w64 c.head_start-t.result) ≡ head_start (light_bound c.args.i) c.args.i.weight
second c = back c.head_start-t.result c.head_start-t.type_inv
    ∙ (rw (within-back tt (weight-within c.args.i c.requires), c.light_bound.ensures) at c.head_start-t.ensures)

size : (c : goal.After-key_item) → to_z w64 (of_z w64 c.absolute.result) ≡ pos (nat_abs c.args.i.weight)
size c = back c.absolute.result c.absolute.type_inv ∙ (rw (within-back tt (weight-within c.args.i c.requires)) at c.absolute.ensures)

pub returns : goal.returns
returns c =
    let i = c.args.i in
    rw (size c, first c, within-back tt (scaled-within i c.requires), second c, within-back tt (key-within i c.requires)) at c.key_item.ensures
