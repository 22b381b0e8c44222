use Rattle.std.proofs.Common.{◌≡◌, sym, ◌∙◌, arith, false}
use Rattle.model.specs.Records.{bad_line, held, line_before, need_at}
use Rattle.model.proofs.NeedLines.{line-numbers}
use Rattle.model.proofs.Records.{row-clear}
use Rattle.model.specs.declared.refusals.Reason.TheVariants as refusal
use Rattle.model.proofs.check_need.Goals as goal

pub names_unfit-requires : goal.names_unfit-requires
names_unfit-requires c =
    let a = c.args in
    let e : bad_line (held a.m.count) (line_before a.m.needs a.j) (need_at a.m.needs a.j) ≡ false =
    sym (rw (c.line_before-before.ensures, c.held_of.ensures.0) at c.is_bad_line-is_bad.ensures) ∙ row-clear c.is_bad_line-is_bad.result refusal.ItemNumber (sym c.refuse_if.ensures ∙ c.in_ok-refuse_if.was) in
    let n = line-numbers (held a.m.count) (line_before a.m.needs a.j) (need_at a.m.needs a.j) e in
    let h = c.held_of.ensures in
    ((n.first-least, omega (arith, h.0, h.1, n.first-most)), (n.second-least, omega (arith, h.0, h.1, n.second-most)))
