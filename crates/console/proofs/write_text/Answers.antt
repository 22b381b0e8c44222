-- `console::write_text` meets its contract: the bytes handed on are as many as the text has.
use Rattle.std.proofs.Common.{ℕ, sym, subst}
use Rattle.streams.specs.Carrying.{Carried}
use Rattle.console.proofs.write_text.Goals as goal

pub returns-then-p-len : goal.returns-then-p-len
returns-then-p-len g c = subst (λ (n : ℕ). Carried n c.write_reply-p.result) (sym c.requires.1) c.write_reply-p.ensures

pub returns-else-p-len : goal.returns-else-p-len
returns-else-p-len g c = subst (λ (n : ℕ). Carried n c.write_reply-p.result) (sym c.requires.1) c.write_reply-p.ensures
