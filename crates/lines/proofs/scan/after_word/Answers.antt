use Rattle.std.proofs.Common.{sym, ◌∙◌, add-one, arith}
use Rattle.lines.proofs.Places.{word_more, word-not, word-done}
use Rattle.lines.proofs.scan.after_word.Goals as goal

pub returns-in_err-at : goal.returns-in_err-at
returns-in_err-at c =
    let e = sym c.after_byte.ensures ∙ c.in_err-at.was in
    rw c.from_residual.ensures (sym (c.loop-i.invariant ∙ word-not _ _ c.loop-i.at c.loop-i.i c.loop-i-test.true e))

pub loop-i-preserved : goal.loop-i-preserved
loop-i-preserved c =
    c.loop-i.invariant ∙ rw add-one (word_more _ _ c.loop-i.at c.loop-i.i _ c.loop-i-test.true (sym c.after_byte.ensures ∙ c.in_ok-at.was))

pub returns : goal.returns
returns c = sym (c.loop-i.invariant ∙ word-done _ _ c.loop-i.at c.loop-i.i (omega arith))
