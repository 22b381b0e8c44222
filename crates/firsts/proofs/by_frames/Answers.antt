use Rattle.std.proofs.Common.{◌≡◌, ◌+◌, refl, sym, subst, arith, rules}
use mathlib.Core.Logic.{inl, inr}
use Rattle.greedy.specs.Fill.{at}
use Rattle.firsts.specs.Leading.{Tying, IsWorth, LossOf, begun, onward}
use Rattle.firsts.proofs.Worth.{worth-made}
use Rattle.firsts.proofs.Leading.{led-first, led-done, led-short}
use Rattle.firsts.proofs.by_frames.Goals as goal

pub filling_at-z-requires : goal.filling_at-z-requires
filling_at-z-requires c =
    let tying : Tying c.args.s c.tied-c.result = record {
      ready = c.requires.ready_setting.0;
      long = record { lo-long = search rules; hi-long = search rules };
      spanned = c.requires.ready_setting.1.0;
      tied = c.tied-c.ensures;
    } in
    (tying, c.requires.ready_setting.1.1.inside)

pub loss_of-l-requires : goal.loss_of-l-requires
loss_of-l-requires c =
    let tying : Tying c.args.s c.tied-c.result = record {
      ready = c.requires.ready_setting.0;
      long = record { lo-long = search rules; hi-long = search rules };
      spanned = c.requires.ready_setting.1.0;
      tied = c.tied-c.ensures;
    } in (
      tying,
      subst (λ v. IsWorth c.args.s c.tied-c.result v) (sym c.filling_at-z.ensures.value-is)
          (worth-made c.args.s c.tied-c.result tying (at c.args.x) c.requires.ready_setting.1.1),
    )

pub wholes-whole-requires : goal.wholes-whole-requires
wholes-whole-requires c = let r = c.requires.ready_setting.0 in (r.few, λ d l. omega (arith, r.level_in d l, r.sized.columns.few))

pub loop-t-init : goal.loop-t-init
loop-t-init c =
    let tying : Tying c.args.s c.tied-c.result = record {
      ready = c.requires.ready_setting.0;
      long = record { lo-long = search rules; hi-long = search rules };
      spanned = c.requires.ready_setting.1.0;
      tied = c.tied-c.ensures;
    } in
    let loss-is = subst (λ v. LossOf v c.loss_of-l.result) c.filling_at-z.ensures.value-is c.loss_of-l.ensures.1 in
    rw c.lead_of-b.ensures (
      led-first c.args.s c.tied-c.result tying (at c.args.x) c.requires.ready_setting.1.1 c.loss_of-l.result loss-is
          (record { point = c.filling_at-z.result.point; written = 0 }) c.filling_at-z.ensures.shows refl,
      begun,
    )

pub considered-b-requires : goal.considered-b-requires
considered-b-requires c =
    let tying : Tying c.args.s c.tied-c.result = record {
      ready = c.requires.ready_setting.0;
      long = record { lo-long = search rules; hi-long = search rules };
      spanned = c.requires.ready_setting.1.0;
      tied = c.tied-c.ensures;
    } in
    record {
      tying = (tying, (c.loss_of-l.ensures.0, (c.wholes-whole.ensures, c.loop-t.invariant.0)));
      t_lt_live = (c.loop-t-test.true, omega (arith, c.requires.in_bounds));
    }

pub loop-t-preserved : goal.loop-t-preserved
loop-t-preserved c = let r = c.considered-b.ensures in (r.led, onward _ _ _ c.loop-t.invariant.1 r.consider_writes)

pub cuts_some-requires : goal.cuts_some-requires
cuts_some-requires c = record {
  ready = c.requires.ready_setting.0;
  long = record { lo-long = search rules; hi-long = search rules };
  spanned = c.requires.ready_setting.1.0;
  tied = c.tied-c.ensures;
}

pub returns-then-cuts_some : goal.returns-then-cuts_some
returns-then-cuts_some c =
    let tying : Tying c.args.s c.tied-c.result = record {
      ready = c.requires.ready_setting.0;
      long = record { lo-long = search rules; hi-long = search rules };
      spanned = c.requires.ready_setting.1.0;
      tied = c.tied-c.ensures;
    } in
    let at-end : c.loop-t.t ≡ c.tied-c.result.live = omega arith in
    let i = rw at-end at c.loop-t.invariant in
    let some = c.cuts_some.ensures.some c.if-cuts_some.true in
    record {
      first_best = led-short c.args.s c.tied-c.result tying c.loss_of-l.result c.loop-t.b c.tied-c.result.live i.0 c.wholes-whole.result
          c.wholes-whole.ensures refl some;
      frames_write = record {
        cols = c.tied-c.result;
        tied = c.tied-c.ensures;
        loss = c.loss_of-l.result;
        losing = c.loss_of-l.ensures.0;
        loss-is = subst (λ v. LossOf v c.loss_of-l.result) c.filling_at-z.ensures.value-is c.loss_of-l.ensures.1;
        whole = c.wholes-whole.result;
        levelled = c.wholes-whole.ensures;
        sofar = c.loop-t.b.written;
        frames = i.1;
        last = inl (some, refl);
      };
    }

pub tried-requires : goal.tried-requires
tried-requires c =
    let tying : Tying c.args.s c.tied-c.result = record {
      ready = c.requires.ready_setting.0;
      long = record { lo-long = search rules; hi-long = search rules };
      spanned = c.requires.ready_setting.1.0;
      tied = c.tied-c.ensures;
    } in
    let at-end : c.loop-t.t ≡ c.tied-c.result.live = omega arith in
    let i = rw at-end at c.loop-t.invariant in
    record {
      tying = (tying, (c.loss_of-l.ensures.0, (c.wholes-whole.ensures, i.0)));
      t_le_live = (omega arith, ((λ h. absurd (omega arith)), omega (arith, c.requires.in_bounds)));
    }

pub returns : goal.returns
returns c =
    let tying : Tying c.args.s c.tied-c.result = record {
      ready = c.requires.ready_setting.0;
      long = record { lo-long = search rules; hi-long = search rules };
      spanned = c.requires.ready_setting.1.0;
      tied = c.tied-c.ensures;
    } in
    let at-end : c.loop-t.t ≡ c.tied-c.result.live = omega arith in
    let i = rw at-end at c.loop-t.invariant in
    record {
      first_best = led-done c.args.s c.tied-c.result tying c.loss_of-l.result c.tried.result (c.tied-c.result.live + 1) c.tried.ensures.led refl;
      frames_write = record {
        cols = c.tied-c.result;
        tied = c.tied-c.ensures;
        loss = c.loss_of-l.result;
        losing = c.loss_of-l.ensures.0;
        loss-is = subst (λ v. LossOf v c.loss_of-l.result) c.filling_at-z.ensures.value-is c.loss_of-l.ensures.1;
        whole = c.wholes-whole.result;
        levelled = c.wholes-whole.ensures;
        sofar = c.loop-t.b.written;
        frames = i.1;
        last = inr (c.cuts_some.ensures.none c.if-cuts_some.false, c.tried.ensures.try_writes);
      };
    }
