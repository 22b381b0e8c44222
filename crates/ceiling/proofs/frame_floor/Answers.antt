use Rattle.std.proofs.Common.{◌*◌, ◌≤◌, arith}
use Rattle.fillings.specs.Ranges.{num}
use Rattle.ceiling.specs.Least.{beyond, within}
use Rattle.ceiling.proofs.Framing.{frame-scale, frame-sized, frame-modest, frame-cut, frame-narrow, of-floor, own_first, past, still}
use Rattle.ceiling.proofs.Rooms.{floor-zero}
use Rattle.ceiling.proofs.frame_floor.Goals.{Else-cap-scale}
use Rattle.ceiling.proofs.frame_floor.Goals as goal

-- where the frame itself loses no more than the cap
off : (c : Else-cap-scale) → c.frame_of-f.result.scale * c.frame_of-f.result.less ≤ c.args.cap
off c = let f = c.frame_of-f in still c.args.cap f.result.scale f.result.less (frame-scale f.ensures c.requires.ready.0).0
    (λ h. omega (arith, c.if-cap-scale.false))

pub nonzero_div-cap : goal.nonzero_div-cap
nonzero_div-cap c = (frame-scale c.frame_of-f.ensures c.requires.ready.0).0

pub returns-then-cap-scale : goal.returns-then-cap-scale
returns-then-cap-scale c =
    let a = c.args in
    let f = c.frame_of-f in
    let u = c.capped.ensures in
    let z = c.requires.ready.0 in
    let over = past a.cap f.result.scale f.result.less (frame-scale f.ensures z).0 c.if-cap-scale.true in
    record {
      few = omega (arith, u.1);
      writes = rw u.1 (beyond f.result f.ensures over);
      capped = omega (arith, u.0);
      floor = rw u.0 (of-floor f.ensures z 0 a.cap (floor-zero a.p a.q a.cols f.result.ends f.result.scale f.result.cut) (omega (arith, over)));
      first = λ i. absurd (omega (arith, u.0));
    }

pub overflow_mul-off : goal.overflow_mul-off
overflow_mul-off c = omega (arith, off (goal.at.overflow_mul-off c).Else-cap-scale, c.requires.roomy.cap-in)

pub overflow_sub-left : goal.overflow_sub-left
overflow_sub-left c = off (goal.at.overflow_sub-left c).Else-cap-scale

pub floor_of-c-requires : goal.floor_of-c-requires
floor_of-c-requires c =
    let f = c.frame_of-f.ensures in
    let z = c.requires.ready.0 in
    record {
      sized = (frame-sized f z, (frame-modest f z, (frame-cut f z, f.ends-are.ordered)));
      roomy = (record { cap-in = omega (arith, c.requires.roomy.cap-in); long = c.requires.roomy.long }, frame-narrow f z c.requires.ready.1.1.1);
    }

pub made-requires : goal.made-requires
made-requires c = (frame-sized c.frame_of-f.ensures c.requires.ready.0, c.floor_of-c.ensures.small c.if-c-left.true)

pub returns-then-c-left : goal.returns-then-c-left
returns-then-c-left c =
    let f = c.frame_of-f in
    let z = c.requires.ready.0 in
    let r = c.floor_of-c in
    let o = off (goal.at.returns-then-c-left c).Else-cap-scale in
    record {
      few = r.ensures.few;
      writes = within f.result r.result.written f.ensures o r.ensures.writes;
      capped = omega (arith, o, r.ensures.capped);
      floor = of-floor f.ensures z r.result.least _ r.ensures.floor (omega arith);
      first = λ i. own_first f.ensures z _ r.result.least (omega arith) (num r.result.amounts) c.made.result
          (r.ensures.found c.if-c-left.true) c.made.ensures.each;
    }

pub returns : goal.returns
returns c =
    let a = c.args in
    let f = c.frame_of-f in
    let r = c.floor_of-c in
    let u = c.capped-2.ensures in
    let o = off (goal.at.returns c).Else-cap-scale in
    record {
      few = omega (arith, u.1, r.ensures.few);
      writes = rw u.1 (within f.result r.result.written f.ensures o r.ensures.writes);
      capped = omega (arith, u.0);
      floor = rw u.0 (of-floor f.ensures c.requires.ready.0 r.result.least a.cap r.ensures.floor (omega (arith, o, c.if-c-left.false)));
      first = λ i. absurd (omega (arith, u.0));
    }
