use Rattle.std.proofs.Common.{sym, arith}
use borrow.Author.Count.{below_more}
use Rattle.arith.proofs.Parts.{impossible}
use Rattle.firsts.specs.Leading.{Held}
use Rattle.firsts.proofs.Known.{still-made, still-not}
use Rattle.firsts.proofs.all_still.Goals as goal

pub wholes-whole-requires : goal.wholes-whole-requires
wholes-whole-requires c = let r = c.requires in (r.few, λ d l. omega (arith, r.level_in d l, r.sized.columns.few))

pub is_loose-requires : goal.is_loose-requires
is_loose-requires c =
    let r = c.requires in
    (r.sized.ends, (omega (arith, r.sized.columns.few), r.in_order c.loop-j.j c.loop-j-test.true))

pub returns-then-is_loose : goal.returns-then-is_loose
returns-then-is_loose c = record {
  all = λ e. absurd (impossible e);
  some = λ e. still-not c.args.s c.wholes-whole.result c.wholes-whole.ensures c.loop-j.j c.loop-j-test.true (c.is_loose.ensures.1 c.if-is_loose.true);
}

pub loop-j-preserved : goal.loop-j-preserved
loop-j-preserved c =
    below_more (λ k. Held c.args.s.ends c.wholes-whole.result k) c.loop-j.j c.loop-j.invariant (c.is_loose.ensures.0 c.if-is_loose.false)

pub returns : goal.returns
returns c = record {
  all = λ e. still-made c.args.s c.wholes-whole.result c.wholes-whole.ensures (λ k i. c.loop-j.invariant k (omega (arith, i)));
  some = λ e. absurd (impossible (sym e));
}
