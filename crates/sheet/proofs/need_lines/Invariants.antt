use Rattle.std.proofs.Common.{◌≡◌, ◌+◌, ◌≤◌}
use Rattle.sheet.specs.Sections.{lines_of}
use Rattle.sheet.specs.Reading.{need_form}
use Rattle.sheet.proofs.Steps.{Few}
use Rattle.sheet.proofs.need_lines.Given as goal

abbrev pub invariant-loop : goal.invariant-loop
invariant-loop l = (l.r.item ≤ l.fn.p.item + l.counter) × Few l.r × (l.r ≡ lines_of need_form l.counter l.s l.fn.p)
