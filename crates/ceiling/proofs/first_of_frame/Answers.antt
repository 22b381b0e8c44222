use Rattle.std.proofs.Common.{◌≡◌, ◌∙◌, sym, ℕ, ℤ, List, None, Some, subst, ◌*◌, ◌≤◌, arith}
use Rattle.fillings.specs.Ranges.{num}
use Rattle.ceiling.specs.Least.{FirstIn, beyond, within}
use Rattle.ceiling.proofs.Framing.{frame-scale, frame-sized, frame-modest, frame-cut, frame-narrow, own-floor, own-none, own-later, own_first}
use Rattle.ceiling.proofs.Framing.{past, still}
use Rattle.ceiling.proofs.first_of_frame.Goals.{Else-r-scale}
use Rattle.ceiling.proofs.first_of_frame.Goals as goal

unseen : {v : List ℤ} → None ≡ Some v → ⊥
unseen e = let z : ◌≡◌ {A = ℕ} 0 1 = cc in omega arith

own : {u v : List ℤ} → Some u ≡ Some v → u ≡ v
own e = cc

-- where the frame itself loses no more than is asked for
off : (c : Else-r-scale) → c.frame_of-f.result.scale * c.frame_of-f.result.less ≤ c.args.r
off c = let f = c.frame_of-f in still c.args.r f.result.scale f.result.less (frame-scale f.ensures c.requires.ready.0).0
    (λ h. omega (arith, c.if-r-scale.false))

pub nonzero_div-r : goal.nonzero_div-r
nonzero_div-r c = (frame-scale c.frame_of-f.ensures c.requires.ready.0).0

pub returns-then-r-scale : goal.returns-then-r-scale
returns-then-r-scale c =
    let a = c.args in
    let f = c.frame_of-f in
    let z = c.requires.ready.0 in
    let u = c.unseen.ensures in
    let over = past a.r f.result.scale f.result.less (frame-scale f.ensures z).0 c.if-r-scale.true in
    record {
      few = omega (arith, u.1);
      writes = rw u.1 (beyond f.result f.ensures over);
      found = λ v i. absurd (unseen (sym u.0 ∙ i));
      none = λ i. own-none f.ensures z a.r over;
    }

pub overflow_mul-off : goal.overflow_mul-off
overflow_mul-off c = omega (arith, off (goal.at.overflow_mul-off c).Else-r-scale, c.requires.r_bound.0)

pub overflow_sub-r : goal.overflow_sub-r
overflow_sub-r c = off (goal.at.overflow_sub-r c).Else-r-scale

pub first_of-s-requires : goal.first_of-s-requires
first_of-s-requires c =
    let f = c.frame_of-f.ensures in
    let z = c.requires.ready.0 in
    let b = c.requires.r_bound in
    let o = off (goal.at.first_of-s-requires c).Else-r-scale in
    record {
      sized = (frame-sized f z, (frame-modest f z, (frame-cut f z, f.ends-are.ordered)));
      narrow = (frame-narrow f z c.requires.ready.1.1.1, (omega (arith, b.0), own-floor f z c.args.r o b.1.0));
      in_bounds = b.1.1;
    }

pub made-requires : goal.made-requires
made-requires c = (frame-sized c.frame_of-f.ensures c.requires.ready.0, c.first_of-s.ensures.small c.in-Some.ys c.in-Some.is)

pub returns-in-Some : goal.returns-in-Some
returns-in-Some c =
    let a = c.args in
    let f = c.frame_of-f in
    let z = c.requires.ready.0 in
    let g = c.first_of-s in
    let o = off (goal.at.returns-in-Some c).Else-r-scale in
    record {
      few = g.ensures.few;
      writes = within f.result g.result.written f.ensures o g.ensures.writes;
      found = λ v i. subst (FirstIn a.p a.q a.cols a.ends a.whole a.t a.r) (own i)
          (own_first f.ensures z a.r _ (omega (arith, o)) (num c.in-Some.ys) c.made.result
          (g.ensures.found c.in-Some.ys c.in-Some.is) c.made.ensures.each);
      none = λ i. absurd (unseen (sym i));
    }

pub returns-in-None : goal.returns-in-None
returns-in-None c =
    let a = c.args in
    let f = c.frame_of-f in
    let g = c.first_of-s in
    let u = c.unseen-in-None.ensures in
    let o = off (goal.at.returns-in-None c).Else-r-scale in
    record {
      few = omega (arith, u.1, g.ensures.few);
      writes = rw u.1 (within f.result g.result.written f.ensures o g.ensures.writes);
      found = λ v i. absurd (unseen (sym u.0 ∙ i));
      none = λ i. own-later f.ensures c.requires.ready.0 a.r o (g.ensures.none c.in-None.is);
    }
