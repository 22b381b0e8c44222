use Rattle.std.proofs.Common.{◌≡◌, sym, ◌∙◌, arith}
use borrow.Author.Count.{below_more}
use Rattle.planner.proofs.Breaking.{need-in}
use Rattle.planner.proofs.first_broken.Goals as goal

pub breaks-requires : goal.breaks-requires
breaks-requires c = c.requires.places c.need_at.result (rw c.need_at.ensures (need-in c.args.ns c.loop-i.i (omega arith)))

pub returns-then-breaks : goal.returns-then-breaks
returns-then-breaks c = record {
  most = omega arith;
  kept = c.loop-i.invariant;
  broken = λ h. sym (rw c.need_at.ensures at c.breaks.ensures) ∙ c.if-breaks.true;
}

pub loop-i-preserved : goal.loop-i-preserved
loop-i-preserved c = below_more _ _ c.loop-i.invariant (sym (rw c.need_at.ensures at c.breaks.ensures) ∙ c.if-breaks.false)

pub returns : goal.returns
returns c =
    let e : c.loop-i.i ≡ c.args.ns.count = omega arith in
    record { most = omega arith; kept = rw e at c.loop-i.invariant; broken = λ h. absurd (omega arith) }
