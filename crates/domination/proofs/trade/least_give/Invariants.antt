use Rattle.std.proofs.Common.{◌≡◌, ◌-◌}
use Rattle.domination.specs.Trades.{serving, least_give}
use Rattle.domination.proofs.trade.least_give.Given as goal

-- counting on from r finds the same number
abbrev pub invariant-loop-r : goal.invariant-loop-r
invariant-loop-r l = serving (l.b - l.r) l.a l.b l.c l.d l.r ≡ least_give l.a l.b l.c l.d
