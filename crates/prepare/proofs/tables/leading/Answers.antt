use Rattle.std.proofs.Common.{◌≡◌, true, false, sym, ◌∙◌, arith}
use Rattle.prepare.proofs.Tabling.{passed_none, passed-more, passed-stop, passed-all}
use Rattle.prepare.proofs.tables.leading.Goals as goal

pub loop-u-init : goal.loop-u-init
loop-u-init c = passed_none _ _

pub returns-then-not-passes_test : goal.returns-then-not-passes_test
returns-then-not-passes_test c =
    let e : c.passes_test.result ≡ false = grind arith in
    passed-stop _ _ c.loop-u.u (sym c.passes_test.ensures ∙ e) c.loop-u.invariant

pub loop-u-preserved : goal.loop-u-preserved
loop-u-preserved c =
    let e : c.passes_test.result ≡ true = grind arith in
    passed-more _ _ c.loop-u.u (omega arith) (sym c.passes_test.ensures ∙ e) c.loop-u.invariant

pub returns : goal.returns
returns c = let e : c.loop-u.u ≡ c.args.p.count = omega arith in rw e at (passed-all _ _ c.loop-u.u (omega arith) c.loop-u.invariant)
