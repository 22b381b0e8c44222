use Rattle.std.proofs.Common.{refl, arith}
use mathlib.Core.Logic.{inl, inr}
use Rattle.firsts.proofs.Places.{tied-sized, tied-ranked, tied-order}
use Rattle.firsts.proofs.Leading.{led-skip}
use Rattle.firsts.proofs.considered.Goals as goal

pub is_usable-requires : goal.is_usable-requires
is_usable-requires c =
    let a = c.args in
    let y = c.requires.tying.0 in
    (tied-sized a.s a.c y, (tied-ranked a.s a.c y, (tied-order a.s a.c y, c.requires.t_lt_live.0)))

pub tried-requires : goal.tried-requires
tried-requires c = record {
  tying = c.requires.tying;
  t_le_live = (omega (arith, c.requires.t_lt_live.0), ((λ l. c.is_usable.ensures.1 c.if-is_usable.true), c.requires.t_lt_live.1));
}

pub returns-then-is_usable : goal.returns-then-is_usable
returns-then-is_usable c = record {
  led = c.tried.ensures.led;
  consider_writes = inl (c.is_usable.ensures.1 c.if-is_usable.true, c.tried.ensures.try_writes);
}

pub returns : goal.returns
returns c =
    let a = c.args in
    let p = c.requires.tying in
    let no = c.is_usable.ensures.0 c.if-is_usable.false in
    record {
      led = led-skip a.s a.c p.0 a.l p.1.0 a.t a.b p.1.1.1 a.whole p.1.1.0 c.requires.t_lt_live.0 no;
      consider_writes = inr (no, refl);
    }
