use Rattle.std.proofs.Common.{refl, sym, ◌∙◌, add-one, arith}
use Rattle.lines.proofs.Places.{end-here, end_later, end_none}
use Rattle.lines.proofs.scan.line_end_in_tail.Goals as goal

pub loop-at-init : goal.loop-at-init
loop-at-init c = refl

pub returns-then-s-at-eq10 : goal.returns-then-s-at-eq10
returns-then-s-at-eq10 c = sym (c.loop-at.invariant ∙ end-here _ c.loop-at.at c.loop-at-test.true c.if-s-at-eq10.true)

pub loop-at-preserved : goal.loop-at-preserved
loop-at-preserved c = c.loop-at.invariant ∙ rw add-one (end_later _ c.loop-at.at c.loop-at-test.true c.if-s-at-eq10.false)

pub returns : goal.returns
returns c = sym (c.loop-at.invariant ∙ end_none _ c.loop-at.at (omega arith))
