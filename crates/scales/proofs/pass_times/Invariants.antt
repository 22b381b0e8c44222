use Rattle.scales.proofs.Timing.{Timing}
use Rattle.scales.proofs.pass_times.Given as goal

abbrev pub invariant-loop : goal.invariant-loop
invariant-loop l = Timing l.cap l.n l.d l.w l.a l.b l.rest l.heft l.fn.cells l.cells l.live l.left l.written l.counter
