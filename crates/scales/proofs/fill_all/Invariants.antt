use Rattle.scales.specs.Filled.{stage_items}
use Rattle.scales.proofs.Itemwise.{Itemwise}
use Rattle.scales.proofs.fill_all.Given as goal

abbrev pub invariant-loop-j : goal.invariant-loop-j
invariant-loop-j l = Itemwise l.s.cap l.s.rest (stage_items l.s l.ws l.us l.ts l.ls) l.whole l.n l.fn.cells l.cells l.live l.left l.written l.j
