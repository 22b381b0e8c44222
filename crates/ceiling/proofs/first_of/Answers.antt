use Rattle.std.proofs.Common.{◌≡◌, List, None, Some, ◌∙◌, ◌+◌, ◌-◌, ℕ, sym, arith, subst, ℤ, pos, ◌≤ℤ◌, ◌<ℤ◌}
use Rattle.arith.proofs.Integers.{split, zed}
use Rattle.fillings.specs.Foremost.{FirstAt}
use Rattle.ceiling.specs.Least.{fit, unfit}
use Rattle.ceiling.proofs.Lists.{pieces-fair, pieces-few, pieces-keyable}
use Rattle.ceiling.proofs.Order.{floor-bounds, first-none, first-point}
use Rattle.ceiling.proofs.Rooms.{roomless}
use Rattle.ceiling.proofs.first_of.Goals as goal

above : (n : ℕ) (x : ℤ) → pos (n + 1) ≤ℤ x → pos n <ℤ x
above n = split _ (λ a b. simp zed (omega arith))

pub first_filling-requires : goal.first_filling-requires
first_filling-requires c =
    let a = c.args in
    let z = c.requires.sized in
    let n = c.requires.narrow in
    let room = c.in-Some.room in
    let ps = c.pieces_of-ps in
    let bound = floor-bounds a.p a.q a.cols a.ends a.scale a.cut z.0.columns.few z.1.0.scale≥1 z.1.1.0 z.1.1.1
    room (c.room_of.ensures.left_is room c.in-Some.is) ps.result ps.ensures a.r n.1.1 in
    record {
      fair = (
        pieces-fair ps.ensures z.0 z.1.0.scale_in (c.room_of.ensures.small room c.in-Some.is),
        (
          omega arith,
          (omega (arith, n.1.0), (pieces-keyable ps.ensures z.0.ends n.0 (a.r + 1) (omega (arith, n.1.0)), λ y w f. omega (arith, bound y w f))),
        ),
      );
      in_bounds = c.requires.in_bounds;
    }

pub returns-in-Some : goal.returns-in-Some
returns-in-Some c =
    let a = c.args in
    let z = c.requires.sized in
    let room = c.in-Some.room in
    let left-is = c.room_of.ensures.left_is room c.in-Some.is in
    let ps = c.pieces_of-ps in
    let r = c.first_filling in
    let same : (a.r + 1) - 1 ≡ a.r = omega arith in
    record {
      few = r.ensures.few;
      writes = fit room r.result.written ps.result left-is ps.ensures r.ensures.writes;
      found = λ v i. first-point a.p a.q a.cols a.ends a.scale a.cut z.0.columns.few z.1.0.scale≥1 z.1.1.0 z.1.1.1
          room left-is ps.result ps.ensures a.r v (subst (λ n. FirstAt ps.result room n v) same (r.ensures.found v i));
      small = λ v i. pieces-few ps.ensures z.0.ends c.requires.narrow.0 (r.ensures.found v i);
      none = λ i. first-none a.p a.q a.cols a.ends a.scale a.cut z.0.columns.few z.1.0.scale≥1 z.1.1.0 z.1.1.1
          room left-is ps.result ps.ensures a.r (r.ensures.none i);
    }

empty : {v : List ℕ} → None ≡ Some v → ⊥
empty e = let z : ◌≡◌ {A = ℕ} 0 1 = cc in omega arith

pub returns-in-None : goal.returns-in-None
returns-in-None c =
    let a = c.args in
    let n = c.nowhere.ensures in
    let none = c.room_of.ensures.none c.in-None.is in
    record {
      few = omega (arith, n.1);
      writes = rw n.1 (unfit none);
      found = λ v i. absurd (empty (sym n.0 ∙ i));
      small = λ v i. absurd (empty (sym n.0 ∙ i));
      none = λ i M pt. above a.r _ ((roomless a.p a.q a.cols a.ends a.scale a.cut (a.r + 1) c.requires.sized.1.0.scale≥1 none).floor M pt);
    }
