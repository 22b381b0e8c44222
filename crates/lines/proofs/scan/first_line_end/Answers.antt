use Rattle.std.proofs.Common.{sym, ap, ◌∙◌, arith}
use Rattle.lines.specs.Blocks.{hits_in}
use Rattle.lines.proofs.Places.{end_none}
use Rattle.lines.proofs.Blocks.{end-hit, end-unhit}
use Rattle.lines.proofs.scan.first_line_end.Goals as goal

pub returns-then-s-from : goal.returns-then-s-from
returns-then-s-from c = sym (end_none _ _ (omega arith))

pub returns-then-m-ne0 : goal.returns-then-m-ne0
returns-then-m-ne0 c =
    let e = end-hit _ c.type_inv.s c.loop-at.at c.hits_of-m.result (omega arith) (c.hits_of-m.ensures ∙ ap (hits_in 8) c.block_at.ensures) c.if-m-ne0.true in
    sym (c.loop-at.invariant.1 ∙ e ∙ rw c.first_hit.ensures)

pub loop-at-preserved : goal.loop-at-preserved
loop-at-preserved c =
    let e = end-unhit _ c.type_inv.s c.loop-at.at c.hits_of-m.result (omega arith) (c.hits_of-m.ensures ∙ ap (hits_in 8) c.block_at.ensures) c.if-m-ne0.false in
    (omega arith, c.loop-at.invariant.1 ∙ e)
