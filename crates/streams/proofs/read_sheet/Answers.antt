-- `streams::read_sheet` meets its contract: each turn leads on, and leaves less to do.
use Rattle.std.proofs.Common.{refl, sym, ◌∙◌, arith}
use Rattle.io.proofs.Counting.{prefix_len_of_le}
use Rattle.streams.specs.Carrying.{Turns}
use Rattle.streams.proofs.Carries.{going, turn_inside, turn-less}
use Rattle.streams.proofs.read_sheet.Goals as goal

pub loop-input-init : goal.loop-input-init
loop-input-init g c = (refl, (rw c.begun-p.ensures (omega arith), Turns.first _ c.begun-p.ensures))

pub read_on-p-requires : goal.read_on-p-requires
read_on-p-requires g c =
    let l = c.loop-input in
    (omega (arith, l.invariant.0, l.invariant.1.0), (going l.p _ (sym c.goes_on.ensures ∙ c.loop-input-test.true)).1.1)

pub loop-input-smaller : goal.loop-input-smaller
loop-input-smaller g c =
    let i = c.loop-input.invariant in
    let due = rw i.0 at (sym c.goes_on.ensures ∙ c.loop-input-test.true) in
    let taken = rw i.0 at c.read_on-p.ensures in
    turn-less _ _ _ due taken

pub loop-input-preserved : goal.loop-input-preserved
loop-input-preserved g c =
    let i = c.loop-input.invariant in
    let due = rw i.0 at (sym c.goes_on.ensures ∙ c.loop-input-test.true) in
    let taken = rw i.0 at c.read_on-p.ensures in
    (omega (arith, i.0), (turn_inside _ _ _ i.1.0 taken, Turns.next _ _ i.1.1 due taken))

pub returns : goal.returns
returns g c =
    let l = c.loop-input in
    let e = l.invariant.0 in
    let h = sym c.goes_on.ensures ∙ c.loop-input-test.false in
    (rw e (record { inside = l.invariant.1.0; came = l.invariant.1.1; stops = rw e at h }), prefix_len_of_le _ _ (omega (arith, e, l.invariant.1.0)))
