use Rattle.std.proofs.Common.{◌≡◌, ◌+◌, ◌*◌, ◌≤◌, arith}
use native.Mathlib.Nat.{mul-le-mul_right}
use Rattle.scales.proofs.Timing.{timing-first, timing-room, timing-step}
use Rattle.scales.proofs.pass_times.Goals as goal

pub loop-init : goal.loop-init
loop-init c = timing-first c.requires.shown.below

pub overflow_sub-left : goal.overflow_sub-left
overflow_sub-left c = (timing-room (omega arith) c.requires.d_bound.1.0 c.loop.invariant).heavy

pub overflow_add-live : goal.overflow_add-live
overflow_add-live c = omega (arith, (timing-room (omega arith) c.requires.d_bound.1.0 c.loop.invariant).room)

pub up_to-to-requires : goal.up_to-to-requires
up_to-to-requires c = omega (arith, (timing-room (omega arith) c.requires.d_bound.1.0 c.loop.invariant).room)

pub down_to-from-requires : goal.down_to-from-requires
down_to-from-requires c = omega (arith, (timing-room (omega arith) c.requires.d_bound.1.0 c.loop.invariant).room)

pub pass_over-requires-clause-shown : goal.pass_over-requires-clause-shown
pass_over-requires-clause-shown c =
    let i = c.loop.invariant in
    let r = timing-room (omega arith) c.requires.d_bound.1.0 i in
    record { room = omega (arith, i.shows.same, r.room); below = i.shows.below }

pub pass_over-requires-clause-from_le_n : goal.pass_over-requires-clause-from_le_n
pass_over-requires-clause-from_le_n c =
    let r = timing-room (omega arith) c.requires.d_bound.1.0 c.loop.invariant in
    (omega arith, (omega arith, omega (arith, r.room)))

pub overflow_add-written : goal.overflow_add-written
overflow_add-written c =
    let a = c.args in
    let r = timing-room (omega arith) c.requires.d_bound.1.0 c.loop.invariant in
    let most : a.d * (a.n + a.d * a.w) ≤ 2 * (a.n + a.d * a.w) = mul-le-mul_right (a.n + a.d * a.w) (omega arith) in
    omega (arith, r.few, r.room)

pub loop-preserved : goal.loop-preserved
loop-preserved c =
    let i = c.loop.invariant in
    timing-step c.down_to-from.result c.up_to-to.result (omega arith) (timing-room (omega arith) c.requires.d_bound.1.0 i).heavy c.down_to-from.ensures c.up_to-to.ensures
    c.pass_over.ensures i

pub returns : goal.returns
returns c =
    let i = c.loop.invariant in
    let e : c.loop.counter ≡ c.args.d = omega arith in
    record { n_value = (rw e at i.lives, (rw e at i.counted, let h = rw e at i.hefts in omega arith)); shows = rw e at i.shows }
