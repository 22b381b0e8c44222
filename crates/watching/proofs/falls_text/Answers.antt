-- By the kind of the answer.
use Rattle.std.proofs.Common.{sym, subst, ◌∙◌}
use Rattle.planner.proofs.Exits.{kind-of}
use Rattle.text.specs.Buffer.{Shows}
use Rattle.watching.proofs.Watching.{watched-best, watched-other}
use Rattle.watching.proofs.falls_text.Goals as goal

pub returns-then-is_optimal : goal.returns-then-is_optimal
returns-then-is_optimal c =
    let e = kind-of c.args.w.answer.kind (sym c.is_optimal.ensures ∙ c.if-is_optimal.true) in
    subst (λ z. Shows z c.fall_lines.result) (sym (watched-best c.args.n c.args.w e)) (rw c.min.ensures at c.fall_lines.ensures)

pub returns-else-is_optimal : goal.returns-else-is_optimal
returns-else-is_optimal c =
    subst (λ z. Shows z c.text_one.result) (sym (watched-other c.args.n c.args.w (sym c.is_optimal.ensures ∙ c.if-is_optimal.false))) c.text_one.ensures
