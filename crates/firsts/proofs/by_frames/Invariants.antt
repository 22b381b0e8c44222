use Rattle.firsts.specs.Leading.{Led, LeadWrites}
use Rattle.firsts.proofs.by_frames.Given as goal

-- the frames before t are led
abbrev pub invariant-loop-t : goal.invariant-loop-t
invariant-loop-t l = Led l.s l.c l.l l.t l.b × LeadWrites l.c l.s.ends l.whole l.l l.t l.b.written
