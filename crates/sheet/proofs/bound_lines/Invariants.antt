use Rattle.std.proofs.Common.{◌≡◌}
use Rattle.sheet.specs.Sections.{goes_on, lines_of}
use Rattle.sheet.specs.Reading.{bound_form}
use Rattle.sheet.proofs.bound_lines.Given as goal

-- the record so far is what the lines before gave
abbrev pub invariant-loop-k : goal.invariant-loop-k
invariant-loop-k l = goes_on l.to l.at l.k ≡ lines_of (bound_form l.side) l.k l.s (goes_on l.fn.m l.from 0)
