use Rattle.std.proofs.Common.{◌≡◌, ℕ, suc, ◌+◌, ◌*◌, ◌≤◌, length, get_or, refl, arith}
use native.Mathlib.Nat.{div-le_self}
use Rattle.scales.specs.Digits.{digit}
use Rattle.scales.specs.Filling.{sum}
use Rattle.scales.specs.Filled.{stage_items}
use Rattle.scales.proofs.Sums.{sum_more, sum_mono}
use Rattle.scales.proofs.Counts.{live-most, fill-most, pass-most}
use Rattle.scales.proofs.Itemwise.{itemwise-first, itemwise-heavy, itemwise-step}
use Rattle.scales.proofs.fill_all.Goals.{In-loop-j}
use Rattle.scales.proofs.fill_all.Goals as goal

-- what is live, before the digit of item j
lives : (c : In-loop-j) → c.loop-j.live ≤ c.args.n + 2 * sum c.loop-j.j (λ k. get_or c.args.ws.now k 0)
lives c =
    let a = c.args in
    let j = c.loop-j.j in
    let I = stage_items a.s a.ws.now a.us.now a.ts.now a.ls.now in
    let lighter = sum_mono j I.weight (λ k. get_or a.ws.now k 0) (λ k l. div-le_self (get_or a.ws.now k 0) a.s.divisor) in
    omega (arith, c.loop-j.invariant.lives, live-most I j a.n a.s.rest)

pub loop-j-init : goal.loop-j-init
loop-j-init c = itemwise-first c.requires.shown.below

pub fill_item-f-requires-clause-shown : goal.fill_item-f-requires-clause-shown
fill_item-f-requires-clause-shown c =
    let a = c.args in
    let i = c.loop-j.invariant in
    let more = sum_more c.loop-j.j (length a.ws.now) (λ k. get_or a.ws.now k 0) (omega arith) in
    record { room = omega (arith, i.shows.same, lives (goal.at.fill_item-f-requires-clause-shown c).In-loop-j); below = i.shows.below }

pub fill_item-f-requires-clause-divisor_bound : goal.fill_item-f-requires-clause-divisor_bound
fill_item-f-requires-clause-divisor_bound c = itemwise-heavy (omega arith) c.requires.whole_value c.loop-j.invariant

pub fill_item-f-requires-clause-j_in_bounds_2 : goal.fill_item-f-requires-clause-j_in_bounds_2
fill_item-f-requires-clause-j_in_bounds_2 c =
    let a = c.args in
    let more = sum_more (suc c.loop-j.j) (length a.ws.now) (λ k. get_or a.ws.now k 0) (omega arith) in
    let live = lives (goal.at.fill_item-f-requires-clause-j_in_bounds_2 c).In-loop-j in
    (omega (arith, c.loop-j.invariant.shows.same, live), omega (arith, live))

pub overflow_add-written : goal.overflow_add-written
overflow_add-written c =
    let a = c.args in
    let l = c.loop-j in
    let I = stage_items a.s a.ws.now a.us.now a.ts.now a.ls.now in
    let ws : ℕ → ℕ = λ k. get_or a.ws.now k 0 in
    let more = sum_more (suc l.j) (length a.ws.now) ws (omega arith) in
    let lighter = sum_mono l.j I.weight ws (λ k m. div-le_self (ws k) a.s.divisor) in
    let here = fill-most I l.j a.n a.s.rest a.whole 65536 (omega arith) in
    let one = pass-most (digit (I.range l.j)) (I.weight l.j) l.live a.s.rest l.left (omega arith) in
    let light = div-le_self (ws l.j) a.s.divisor in
    let few = c.requires.listed.0.few in
    omega (arith, l.invariant.counted, c.fill_item-f.ensures.written, lives (goal.at.overflow_add-written c).In-loop-j)

pub loop-j-preserved : goal.loop-j-preserved
loop-j-preserved c =
    itemwise-step c.args.s c.fill_item-f.result refl refl (omega arith) (itemwise-heavy (omega arith) c.requires.whole_value c.loop-j.invariant)
    c.fill_item-f.ensures c.loop-j.invariant

pub returns : goal.returns
returns c =
    let i = c.loop-j.invariant in
    let e : c.loop-j.j ≡ length c.args.ws.now = omega arith in
    record { live = rw e at i.lives; written = rw e at i.counted; heft = rw e at i.hefts; shows = rw e at i.shows }
