use Rattle.std.proofs.Common.{inl, inr, refl, arith, add-one}
use Rattle.search.specs.Steps.{Ran}
use Rattle.search.proofs.Finish.{underway-on}
use Rattle.search.proofs.run_for.Goals as goal

pub loop-k-init : goal.loop-k-init
unfolding Ran
loop-k-init c = record { underway = c.requires; ran = refl }

pub returns-then-t : goal.returns-then-t
returns-then-t c = record { count = c.loop-k._k; ran = c.loop-k.invariant.ran; few = omega arith; stops = inl c.if-t.true }

pub step-t-requires : goal.step-t-requires
step-t-requires c =
    let u = c.loop-k.invariant.underway in
    record { ready = u.ready; started = u.started; proper = u.good.proper; from_in = u.from_in; passed = u.passed }

pub loop-k-preserved : goal.loop-k-preserved
unfolding Ran
loop-k-preserved c = record {
  underway = underway-on c.args.s c.args.p c.loop-k.t c.step-t.result c.loop-k.invariant.underway c.if-t.false c.step-t.ensures;
  ran = rw add-one (c.loop-k.t, (c.loop-k.invariant.ran, (c.if-t.false, c.step-t.ensures)));
}

pub returns : goal.returns
returns c = record { count = c.loop-k._k; ran = c.loop-k.invariant.ran; few = omega arith; stops = inr (omega arith) }
