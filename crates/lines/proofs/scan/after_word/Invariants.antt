use Rattle.std.proofs.Common.{◌≡◌, drop}
use Rattle.lines.specs.Places.{after_word}
use Rattle.lines.proofs.scan.after_word.Given as goal

abbrev pub invariant-loop-i : goal.invariant-loop-i
invariant-loop-i l = after_word l.s l.from l.w ≡ after_word l.s l.at (drop l.i l.w)
