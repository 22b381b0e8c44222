use Rattle.std.proofs.Common.{◌≡◌, arith}
use Rattle.prepare.proofs.Tabling.{inverted-none, inverted-more}
use Rattle.prepare.proofs.tables.inverse.Goals as goal

pub loop-u-init : goal.loop-u-init
loop-u-init c = inverted-none c.args.n c.args.list

pub loop-u-preserved : goal.loop-u-preserved
loop-u-preserved c = inverted-more c.args.n c.args.list c.loop-u.u c.loop-u.to c.requires (omega arith) c.loop-u.invariant

pub returns : goal.returns
returns c = let e : c.loop-u.u ≡ c.args.n = omega arith in rw e at c.loop-u.invariant.so_far
