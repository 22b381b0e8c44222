use Rattle.std.proofs.Common.{arith}
use Rattle.fillings.proofs.first_filling.Goals as goal

pub onward-requires : goal.onward-requires
onward-requires c = record { fair = c.requires.fair; sought = (c.leaps-s.ensures.sought, (c.leaps-s.ensures.few, omega arith)) }

pub returns : goal.returns
returns c =
    let f = c.leaps-s in
    let g = c.onward.ensures in
    record {
      few = omega (arith, g.few, f.ensures.few);
      writes = record { leapt = f.result; by-leaps = f.ensures; runs = g.writes };
      found = g.found;
      none = g.none;
    }
