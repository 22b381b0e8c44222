use Rattle.std.proofs.Common.{arith}
use Rattle.ceiling.specs.Least.{fit, unfit}
use Rattle.ceiling.proofs.Lists.{pieces-fair, pieces-few, pieces-keyable}
use Rattle.ceiling.proofs.Bounded.{bounds-loss}
use Rattle.ceiling.proofs.Order.{first-point}
use Rattle.ceiling.proofs.Rooms.{roomless}
use Rattle.ceiling.proofs.floor_of.Goals as goal

pub least_filling-requires : goal.least_filling-requires
least_filling-requires c =
    let z = c.requires.sized in
    let roomy = c.requires.roomy in
    let ps = c.pieces_of-ps.ensures in
    let cap = roomy.0 in
    record {
      fair = (
        pieces-fair ps z.0 z.1.0.scale_in (c.room_of.ensures.small c.in-Some.room c.in-Some.is),
        (omega (arith, cap.cap-in), pieces-keyable ps z.0.ends roomy.1 c.args.cap cap.cap-in),
      );
      in_bounds = cap.long;
    }

pub returns-in-Some : goal.returns-in-Some
returns-in-Some c =
    let a = c.args in
    let z = c.requires.sized in
    let room = c.in-Some.room in
    let left-is = c.room_of.ensures.left_is room c.in-Some.is in
    let ps = c.pieces_of-ps in
    let r = c.least_filling in
    record {
      few = r.ensures.few;
      writes = fit room r.result.written ps.result left-is ps.ensures r.ensures.writes;
      capped = r.ensures.least.capped;
      floor = record {
        floor = λ N pt. bounds-loss a.p a.q a.cols a.ends a.scale a.cut z.0.columns.few z.1.0.scale≥1 z.1.1.0 N
            pt room left-is ps.result ps.ensures r.result.least r.ensures.least.bounds;
      };
      found = λ i. first-point a.p a.q a.cols a.ends a.scale a.cut z.0.columns.few z.1.0.scale≥1 z.1.1.0 z.1.1.1
          room left-is ps.result ps.ensures r.result.least r.result.amounts (r.ensures.found i);
      small = λ i. pieces-few ps.ensures z.0.ends c.requires.roomy.1 (r.ensures.found i);
    }

pub returns-in-None : goal.returns-in-None
returns-in-None c =
    let a = c.args in
    let u = c.unfilled.ensures in
    let none = c.room_of.ensures.none c.in-None.is in
    record {
      few = omega (arith, u.1);
      writes = rw u.1 (unfit none);
      capped = omega (arith, u.0);
      floor = rw u.0 (roomless a.p a.q a.cols a.ends a.scale a.cut a.cap c.requires.sized.1.0.scale≥1 none);
      found = λ i. absurd (omega (arith, u.0));
      small = λ i. absurd (omega (arith, u.0));
    }
