use Rattle.std.proofs.Common.{◌≡◌, ◌∙◌, arith}
use Rattle.arith.proofs.Words.{back}
use Rattle.prepare.specs.Figures.{figure_of}
use Rattle.prepare.specs.Tables.{listed}
use Rattle.prepare.proofs.Tabling.{filled_none, filled_more}
use Rattle.prepare.proofs.tables.table.Goals as goal

pub loop-u-init : goal.loop-u-init
loop-u-init c = filled_none c.args.n _

pub loop-u-preserved : goal.loop-u-preserved
loop-u-preserved c =
    filled_more c.args.n (λ v. figure_of c.args.f (listed c.args.p c.args.list v)) c.loop-u.u c.loop-u.to _ c.requires.few (omega arith)
    (back c.figure_of.result c.figure_of.type_inv ∙ c.figure_of.ensures) c.loop-u.invariant

pub returns : goal.returns
returns c = let e : c.loop-u.u ≡ c.args.n = omega arith in rw e at c.loop-u.invariant.so_far
