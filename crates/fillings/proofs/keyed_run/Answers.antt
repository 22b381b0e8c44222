use Rattle.std.proofs.Common.{subst, sym, arith}
use native.Mathlib.Nat.{mod-lt}
use Rattle.fillings.specs.Runs.{Grouped, Runs}
use Rattle.fillings.proofs.Asked.{gathers, base-some, free-later, ends-sooner}
use Rattle.fillings.proofs.Runs.{keyed-none, keyed-made}
use Rattle.fillings.proofs.keyed_run.Goals.{After-group_of-g}
use Rattle.fillings.proofs.keyed_run.Goals as goal

-- the group ends before the part that is free
grouped : (c : After-group_of-g) → Grouped c.args.r.wide c.args.from 16 c.args.left c.group_of-g.result
grouped c =
    let b = c.requires.begins in
    ends-sooner b.start (free-later b.start c.free_after-free.ensures) (omega (arith, c.min.ensures)) c.group_of-g.ensures

pub nonzero_rem-c : goal.nonzero_rem-c
nonzero_rem-c c = base-some c.group_of-g.ensures

pub nonzero_div-result : goal.nonzero_div-result
nonzero_div-result c = base-some c.group_of-g.ensures

pub decoded-requires : goal.decoded-requires
decoded-requires c =
    let b = c.requires.begins in (
      b.fair,
      (b.among, (gathers b.left≥1 b.start (grouped (goal.at.decoded-requires c).After-group_of-g), mod-lt c.least_keyed-c.result.least (base-some c.group_of-g.ensures))),
    )

pub returns-then-c-left-clause-runs : goal.returns-then-c-left-clause-runs
returns-then-c-left-clause-runs c =
    let a = c.args in
    subst (λ n. Runs a.p a.r a.capacity a.cap a.from n) (sym c.nothing.ensures)
    (keyed-none c.requires.begins (grouped (goal.at.returns-then-c-left-clause-runs c).After-group_of-g) c.least_keyed-c.ensures c.if-c-left.true)

pub returns-clause-runs : goal.returns-clause-runs
returns-clause-runs c =
    keyed-made c.requires.begins (grouped (goal.at.returns-clause-runs c).After-group_of-g) c.least_keyed-c.ensures c.if-c-left.false c.decoded.ensures
