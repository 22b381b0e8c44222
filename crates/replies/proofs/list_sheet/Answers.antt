-- What was read is what the sheet gives.
use Rattle.std.proofs.Common.{subst}
use Rattle.replies.specs.Replies.{Answered}
use Rattle.sheet.specs.declared.Reading.{Reading}
use Rattle.replies.proofs.list_sheet.Goals as goal

pub returns : goal.returns
returns c =
    let a = c.answered.result in
    let is = c.read-r.ensures in
    record {
      answers = a;
      is_true = subst (λ (r : Reading). Answered r a) is c.answered.ensures;
      told_is = rw is at c.list_reply.ensures.value;
      left_is = rw is at c.list_reply.ensures.out_after;
    }
