use Rattle.std.proofs.Common.{sym, ◌∙◌, get_or}
use Rattle.lines.proofs.Numerals.{reading-more, reading-done, run-stop, run_end, digit-same}
use Rattle.lines.proofs.number.digits_from.Goals as goal

pub loop-next-preserved : goal.loop-next-preserved
loop-next-preserved c = rw c.push-value.ensures (reading-more _ _ c.loop-next.value c.loop-next.next c.loop-next.invariant c.loop-next-test.true (sym (digit-same (get_or c.args.s.now c.loop-next.next 0)) ∙ sym c.is_ascii_digit.ensures.value ∙ c.if-is_ascii_digit.true))

pub returns-else-is_ascii_digit : goal.returns-else-is_ascii_digit
returns-else-is_ascii_digit c = reading-done _ _ _ _ c.loop-next.invariant (run-stop _ _ c.loop-next-test.true (sym (digit-same (get_or c.args.s.now c.loop-next.next 0)) ∙ sym c.is_ascii_digit.ensures.value ∙ c.if-is_ascii_digit.false))

pub returns-after-loop-next : goal.returns-after-loop-next
returns-after-loop-next c = reading-done _ _ _ _ c.loop-next.invariant (run_end _ _ c.loop-next-test.false)
