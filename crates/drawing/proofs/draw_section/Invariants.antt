use Rattle.std.proofs.Common.{◌≡◌}
use Rattle.drawing.specs.Drawing.{lines}
use Rattle.drawing.proofs.draw_section.Given as goal

abbrev pub invariant-loop-k : goal.invariant-loop-k
invariant-loop-k l = l.r ≡ lines l.section l.k l.fn.d
