-- `console::run_by` meets its contract: what was read, if it is whole, is handed on, and the reply to it is written.
use Rattle.std.proofs.Common.{◌≡◌, length, sym, ◌∙◌, arith}
use Rattle.streams.specs.Carrying.{is_whole}
use Rattle.console.proofs.Runs.{reply-inside, not-both}
use Rattle.console.proofs.run_by.Goals as goal

pub write_text-wrote-requires : goal.write_text-wrote-requires
write_text-wrote-requires g c = reply-inside c.args.program _ _ c.reply_of-text.ensures

pub returns-then-is_whole : goal.returns-then-is_whole
returns-then-is_whole g c =
    let r = c.read_sheet-read in
    let e : length r.new.buf ≡ 4097 = omega arith in
    record {
      space = e;
      carried = rw e at r.ensures.0;
      replies = λ h. (c.reply_of-text.ensures, c.write_text-wrote.ensures);
      silent = λ h. absurd (not-both (is_whole r.result 4097) (sym c.is_whole.ensures ∙ c.if-is_whole.true) h);
    }

pub returns : goal.returns
returns g c =
    let r = c.read_sheet-read in
    let e : length r.new.buf ≡ 4097 = omega arith in
    record {
      space = e;
      carried = rw e at r.ensures.0;
      replies = λ h. absurd (not-both (is_whole r.result 4097) h (sym c.is_whole.ensures ∙ c.if-is_whole.false));
      silent = λ h. c.begun-wrote.ensures;
    }
