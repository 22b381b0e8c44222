use Rattle.std.proofs.Common.{suc, ◌≡◌, ◌+◌, ◌*◌, ◌-◌, refl, sym, ◌∙◌, arith}
use native.Mathlib.Nat.{lt_of_lt_of_le}
use lib.Pow.{pow_mono}
use Rattle.lines.specs.Blocks.{block_of}
use Rattle.lines.proofs.Blocks.{block_more, block-lt}
use Rattle.lines.proofs.block.block_at.Goals as goal

pub loop-i-init : goal.loop-i-init
unfolding block_of
loop-i-init c = refl

pub with_byte-w-requires : goal.with_byte-w-requires
with_byte-w-requires c =
    let i = c.loop-i.i in
    rw c.loop-i.invariant
    (lt_of_lt_of_le (block-lt c.args.s.now c.type_inv.s (8 - i) (c.args.at + i) (omega arith)) (pow_mono {i = (8 - i) * 8} {j = 56} (omega arith)))

pub loop-i-preserved : goal.loop-i-preserved
loop-i-preserved c =
    let i = c.loop-i.i in
    let at = c.args.at in
    let n : 8 - (i - 1) ≡ suc (8 - i) = omega arith in
    let j : at + i ≡ suc (at + (i - 1)) = omega arith in
    let more = block_more c.args.s.now (at + (i - 1)) (8 - i) (omega arith) in
    let e = c.loop-i.invariant in
    c.with_byte-w.ensures ∙ rw (e, j, n) (sym more)
