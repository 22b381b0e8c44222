use Rattle.std.proofs.Common.{sym, ◌∙◌, arith}
use Rattle.text.proofs.Buffers.{puts}
use Rattle.listing.proofs.put_answers.Goals as goal

pub returns : goal.returns
returns c =
    rw (sym c.is_refused.ensures ∙ c.if-is_refused.false) (puts (omega arith) c.put_answer-next.ensures c.put_answer.ensures)
