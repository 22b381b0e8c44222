use Rattle.std.proofs.Common.{sym, arith}
use borrow.Author.Count.{below_more}
use Rattle.arith.proofs.Parts.{impossible}
use Rattle.ceiling.specs.Frames.{Usable}
use Rattle.firsts.proofs.Places.{tied-sized, tied-ranked, tied-order}
use Rattle.firsts.proofs.cuts_some.Goals as goal

pub is_usable-requires : goal.is_usable-requires
is_usable-requires c =
    let a = c.args in
    (tied-sized a.s a.c c.requires, (tied-ranked a.s a.c c.requires, (tied-order a.s a.c c.requires, c.loop-u-test.true)))

pub returns-then-is_usable : goal.returns-then-is_usable
returns-then-is_usable c = record {
  some = λ e. record { frame = c.loop-u.u; below = c.loop-u-test.true; usable = c.is_usable.ensures.1 c.if-is_usable.true };
  none = λ e. absurd (impossible (sym e));
}

pub loop-u-preserved : goal.loop-u-preserved
loop-u-preserved c =
    below_more (λ u. Usable c.args.c c.args.s.ends c.args.whole u → ⊥) c.loop-u.u c.loop-u.invariant (c.is_usable.ensures.0 c.if-is_usable.false)

pub returns : goal.returns
returns c = record { some = λ e. absurd (impossible e); none = λ e k. c.loop-u.invariant k.frame (omega (arith, k.below)) k.usable }
