-- `streams::write_reply` meets its contract: each turn leads on, and leaves less to do.
use Rattle.std.proofs.Common.{sym, ◌∙◌, arith}
use Rattle.streams.specs.Carrying.{Turns}
use Rattle.streams.proofs.Carries.{going, turn_inside, turn-less}
use Rattle.streams.proofs.write_reply.Goals as goal

pub loop-output-init : goal.loop-output-init
loop-output-init g c = (rw c.begun-p.ensures (omega arith), Turns.first _ c.begun-p.ensures)

pub write_on-p-requires : goal.write_on-p-requires
write_on-p-requires g c =
    let l = c.loop-output in
    (l.invariant.0, (going l.p _ (sym c.goes_on.ensures ∙ c.loop-output-test.true)).1.1)

pub loop-output-smaller : goal.loop-output-smaller
loop-output-smaller g c = turn-less _ _ _ (sym c.goes_on.ensures ∙ c.loop-output-test.true) c.write_on-p.ensures

pub loop-output-preserved : goal.loop-output-preserved
loop-output-preserved g c =
    let l = c.loop-output in
    let due = sym c.goes_on.ensures ∙ c.loop-output-test.true in
    (turn_inside _ _ _ l.invariant.0 c.write_on-p.ensures, Turns.next _ _ l.invariant.1 due c.write_on-p.ensures)

pub returns : goal.returns
returns g c =
    let l = c.loop-output in
    record { inside = l.invariant.0; came = l.invariant.1; stops = sym c.goes_on.ensures ∙ c.loop-output-test.false }
