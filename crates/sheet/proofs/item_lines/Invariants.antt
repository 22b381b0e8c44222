use Rattle.std.proofs.Common.{◌≡◌, ◌+◌, ◌≤◌}
use Rattle.sheet.specs.Sections.{lines_of}
use Rattle.sheet.specs.Reading.{item_form_by}
use Rattle.sheet.proofs.item_lines.Given as goal

abbrev pub invariant-loop : goal.invariant-loop
invariant-loop l = (l.r.item ≤ l.fn.p.item + l.counter) × (l.r ≡ lines_of (item_form_by l.blanks) l.counter l.s l.fn.p)
