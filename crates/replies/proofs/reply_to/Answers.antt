use Rattle.std.proofs.Common.{subst}
use Rattle.listing.specs.Printing.{printed_both}
use Rattle.replies.specs.Replies.{Answered}
use Rattle.sheet.specs.declared.Reading.{Reading}
use Rattle.text.specs.Buffer.{Shows}
use Rattle.replies.proofs.reply_to.Goals as goal

pub returns : goal.returns
returns c =
    let a = c.answered.result in
    let is = c.read-r.ensures in
    record {
      answers = a;
      is_true = subst (λ (r : Reading). Answered r a) is c.answered.ensures;
      shown = subst (λ (r : Reading). Shows (printed_both r.model.count a) c.text_of.result) is c.text_of.ensures;
    }
