use Rattle.std.proofs.Common.{◌≡◌, ◌∙◌, sym, arith}
use Rattle.arith.proofs.Parts.{impossible}
use Rattle.placed.proofs.Firstly.{lower-first, lower-step, lower-found}
use Rattle.placed.proofs.all_lower.Goals as goal

pub loop-k-init : goal.loop-k-init
loop-k-init c = lower-first c.args.p

pub returns-then-is_absent : goal.returns-then-is_absent
returns-then-is_absent c = record {
  all = λ e. absurd (impossible e);
  some = λ e. lower-found c.args.p c.loop-k.k c.loop-k-test.true (sym c.is_absent.ensures ∙ c.if-is_absent.true);
}

pub loop-k-preserved : goal.loop-k-preserved
loop-k-preserved c = lower-step c.args.p c.loop-k.k c.loop-k.invariant (sym c.is_absent.ensures ∙ c.if-is_absent.false)

pub returns : goal.returns
returns c =
    let at-end : c.loop-k.k ≡ c.args.p.count = omega arith in
    record { all = λ i. rw at-end at c.loop-k.invariant; some = λ i. absurd (impossible (sym i)) }
