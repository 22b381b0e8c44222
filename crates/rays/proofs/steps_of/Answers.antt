use Rattle.std.proofs.Common.{◌<◌, ◌*◌, arith, rules}
use Rattle.rays.specs.Directions.{steps_by}
use Rattle.rays.proofs.steps_of.Goals as goal

pub moved-requires : goal.moved-requires
moved-requires c =
    let h : c.in-Single.u < 2 * c.args.p.count = rw c.in-Single.is at c.requires.1 in
    (omega arith, search rules)

pub pair_steps-requires : goal.pair_steps-requires
pair_steps-requires c = (c.requires.0, rw c.in-Pair.is at c.requires.1)

pub returns-in-Single : goal.returns-in-Single
unfolding steps_by
returns-in-Single c = rw (c.in-Single.is, c.moved.ensures, c.no_steps.ensures)

pub returns-in-Pair : goal.returns-in-Pair
returns-in-Pair c = rw c.in-Pair.is c.pair_steps.ensures
