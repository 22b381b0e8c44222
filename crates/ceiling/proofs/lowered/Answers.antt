use Rattle.std.proofs.Common.{◌≡◌, Some, true, refl, sym, subst, ◌+◌, ◌*◌, ◌-◌, ◌/◌, ◌≤◌, ◌<◌, arith}
use mathlib.Core.Logic.{inl, inr}
use Rattle.arith.proofs.Parts.{within-back}
use Rattle.ceiling.specs.Least.{ByLeast, FrameWrites, Lowered, LowerWrites}
use Rattle.ceiling.specs.declared.Least.{Least}
use Rattle.ceiling.proofs.Framing.{scale_in, cap-small, cap-least, below-cap, lowered-counted, lowered-new, lowered-old}
use Rattle.ceiling.proofs.lowered.Goals.{After-scale_of-scale, After-frame_floor-r}
use Rattle.ceiling.proofs.lowered.Goals as goal

scale_small : (c : After-scale_of-scale) → (1 ≤ c.scale_of-scale.result) × (c.scale_of-scale.result ≤ 1000)
scale_small c = rw c.scale_of-scale.ensures (scale_in c.args.cols c.args.t c.requires.ready.0.sized.columns)

small : (c : After-scale_of-scale) → let b = c.args.best.lost in c.scale_of-scale.result * b.num + (b.den - 1) ≤ 10000000000999
small c = let b = c.args.best.lost in cap-small c.scale_of-scale.result b.num b.den (scale_small c).1 c.requires.counted.0

capped : (c : After-scale_of-scale) → let b = c.args.best.lost in (c.scale_of-scale.result * b.num + (b.den - 1)) / b.den ≤ 10000000000
capped c = let b = c.args.best.lost in cap-least c.scale_of-scale.result b.num b.den (scale_small c).1 c.requires.counted.0

pub overflow_mul-cap : goal.overflow_mul-cap
overflow_mul-cap c = omega (arith, small (goal.at.overflow_mul-cap c).After-scale_of-scale)

pub overflow_sub-cap : goal.overflow_sub-cap
overflow_sub-cap c = c.requires.counted.0.some

pub overflow_add-cap : goal.overflow_add-cap
overflow_add-cap c = omega (arith, small (goal.at.overflow_add-cap c).After-scale_of-scale)

pub nonzero_div-cap : goal.nonzero_div-cap
nonzero_div-cap c = c.requires.counted.0.some

pub frame_floor-r-requires : goal.frame_floor-r-requires
frame_floor-r-requires c =
    rw (within-back tt c.requires.ready.1.1.0) (record {
      ready = c.requires.ready;
      roomy = record { cap-in = capped (goal.at.frame_floor-r-requires c).After-scale_of-scale; long = c.requires.counted.1.1 };
    })

pub overflow_add-written : goal.overflow_add-written
overflow_add-written c = omega (arith, c.requires.counted.1.0, c.frame_floor-r.ensures.few)

-- what the frame adds
more : (f : After-frame_floor-r) → let a = f.args in (r : Least) → r.written ≡ a.best.written + f.frame_floor-r.result.written →
    LowerWrites a.p a.q a.cols a.ends a.whole a.t a.best r
more f r e =
    let a = f.args in
    let n = f.frame_floor-r.result.written in
    record {
      more = n;
      frame = subst (λ x. FrameWrites ByLeast a.p a.q a.cols a.ends a.whole a.t ((x * a.best.lost.num + (a.best.lost.den - 1))
          / a.best.lost.den) n) f.scale_of-scale.ensures f.frame_floor-r.ensures.writes;
      sum = e;
    }

pub returns-then-r-cap : goal.returns-then-r-cap
returns-then-r-cap c =
    let at = goal.at.returns-then-r-cap c in
    let a = c.args in
    let n = a.best.lost.num in
    let d = a.best.lost.den in
    let f = c.frame_floor-r in
    let i = c.scale_of-scale.ensures in
    let z = scale_in a.cols a.t c.requires.ready.0.sized.columns in
    let under = subst (λ x. f.result.least < (x * n + (d - 1)) / d) i c.if-r-cap.true in
    let less = below-cap a.p a.q a.cols a.ends a.whole a.t n d f.result.least c.requires.counted.0 f.ensures.floor under in
    subst (λ x. Lowered a.p a.q a.cols a.ends a.whole a.t a.best
    (record {
      lost = record { num = f.result.least; den = x };
      shown = Some (record { at = a.t; place = f.result.place });
      any = true;
      written = a.best.written + f.result.written;
    }))
    (sym i)
    (record {
      counted = lowered-counted a.p a.q a.cols a.ends a.whole a.t n d f.result.least c.requires.counted.0 f.ensures.floor z under;
      lower = omega (arith, less);
      bound = lowered-new a.p a.q a.cols a.ends a.whole a.t n d f.result.least c.requires.counted.0 f.ensures.floor;
      exact = inr (record {
        place = f.result.place;
        shown-is = refl;
        den-is = refl;
        deep = omega (arith, c.if-r-cap.true, capped at.After-scale_of-scale);
        floor = f.ensures.floor;
        first = f.ensures.first c.if-r-cap.true;
      });
      any = refl;
      few = omega (arith, f.ensures.few);
      writes = more at.After-frame_floor-r _ refl;
    })

pub returns : goal.returns
returns c =
    let a = c.args in
    let n = a.best.lost.num in
    let d = a.best.lost.den in
    let f = c.frame_floor-r in
    record {
      counted = c.requires.counted.0;
      lower = omega arith;
      bound = lowered-old a.p a.q a.cols a.ends a.whole a.t n d f.result.least c.requires.counted.0 f.ensures.floor
          (subst (λ x. (x * n + (d - 1)) / d ≤ f.result.least) c.scale_of-scale.ensures (omega (arith, c.if-r-cap.false)));
      exact = inl (refl, refl);
      any = refl;
      few = omega (arith, f.ensures.few);
      writes = more (goal.at.returns c).After-frame_floor-r _ refl;
    }
