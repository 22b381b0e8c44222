use Rattle.std.proofs.Common.{◌≡◌, ◌-◌, ◌+◌, sym, ap, ◌∙◌, w64, to_z, of_z, arith, to_z-of_z}
use Rattle.arith.proofs.Parts.{within-back, within_more, within-sub}
use Rattle.arith.proofs.Words.{yes_lt}
use Rattle.lattice.specs.Lattice.{Starts, lower, verdict, barren_from, barren_by, tries}
use Rattle.lattice.proofs.Descent.{whole, rung}
use Rattle.lattice.proofs.Ranges.{first-weight, first-worth}
use Rattle.lattice.proofs.barren.Goals as goal

pub loop-k-init : goal.loop-k-init
loop-k-init c =
    let e = rw (within-back tt c.requires.1.1) at c.first_rung-r.ensures in
    let p = rw (within-back tt c.requires.0.stride-in) at c.if-l-gt0.true in
    let s : Starts c.args.l c.args.room = record { tame = c.requires.0; stride≥1 = yes_lt p; room_in = c.requires.1.1 } in
    record {
      same = ap (barren_from tries c.args.l c.args.f (to_z w64 (of_z w64 c.args.b))) (sym c.first_rung-r.ensures);
      weight-in = rw e (first-weight c.args.l c.args.room s);
      worth-in = rw e (first-worth c.args.l c.args.room s);
    }

pub returns-in-Some : goal.returns-in-Some
returns-in-Some c =
    let a = c.args in
    let k = c.loop-k._k in
    let p = rw (within-back tt c.requires.0.stride-in) at c.if-l-gt0.true in
    let b = to_z w64 (of_z w64 a.b) in
    let j = sym c.judge.ensures ∙ c.in-Some.is in
    let below = barren_from (tries - (k + 1)) a.l a.f b (lower a.l c.loop-k.r) in
    rw (whole a.l a.f a.room a.b p) (rw (to_z-of_z c.ranges.b, to_z-of_z c.ranges.room)
    at (sym (c.loop-k.invariant.same ∙ rung k a.l a.f b c.loop-k.r (omega arith) ∙ ap (λ y. verdict y below) j)))

pub loop-k-preserved : goal.loop-k-preserved
loop-k-preserved c =
    let a = c.args in
    let k = c.loop-k._k in
    let b = to_z w64 (of_z w64 a.b) in
    let j = sym c.judge.ensures ∙ c.in_default.is in
    let below = barren_from (tries - (k + 1)) a.l a.f b (lower a.l c.loop-k.r) in
    record {
      same = rw c.less_stride-r.ensures (c.loop-k.invariant.same ∙ rung k a.l a.f b c.loop-k.r (omega arith) ∙ ap (λ y. verdict y below) j);
      weight-in = rw c.less_stride-r.ensures (within_more (omega arith) (within-sub c.loop-k.invariant.weight-in c.requires.0.stride-in));
      worth-in = rw c.less_stride-r.ensures (within_more (omega arith) (within-sub c.loop-k.invariant.worth-in c.requires.0.slant-in));
    }

pub returns-after-loop-k : goal.returns-after-loop-k
unfolding barren_from
returns-after-loop-k c =
    let a = c.args in
    let p = rw (within-back tt c.requires.0.stride-in) at c.if-l-gt0.true in
    let none : tries - c.loop-k._k ≡ 0 = omega arith in
    rw (whole a.l a.f a.room a.b p) (rw (to_z-of_z c.ranges.b, to_z-of_z c.ranges.room)
    at (sym (c.loop-k.invariant.same ∙ ap (λ n. barren_from n a.l a.f (to_z w64 (of_z w64 a.b)) c.loop-k.r) none)))

pub returns-else-l-gt0 : goal.returns-else-l-gt0
unfolding barren_by
returns-else-l-gt0 c = let t = rw (within-back tt c.requires.0.stride-in) at c.if-l-gt0.false in rw t
