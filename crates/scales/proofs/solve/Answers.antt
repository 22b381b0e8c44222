use Rattle.std.proofs.Common.{◌≡◌, ℕ, ◌+◌, ◌*◌, ◌≤◌, ◌<◌, ◌%◌, length, get_or, refl, sym, ◌∙◌, subst, arith}
use native.Mathlib.Nat.{mod-lt, mul-le-mul_right, div-le_self}
use Rattle.scales.specs.declared.Live.{Live}
use Rattle.scales.specs.declared.Stage.{Stage}
use Rattle.scales.specs.Filling.{Items, shared, scaled, items_of}
use Rattle.scales.specs.Lent.{total}
use Rattle.scales.specs.Counts.{live_at, fill_cells, thin_of}
use Rattle.scales.proofs.Sums.{sum_mono}
use Rattle.scales.proofs.Shared.{shared-pos, shared-most}
use Rattle.scales.proofs.Counts.{live-most, fill-most, thin-most}
use Rattle.scales.proofs.Scaling.{scaling-first, scaling-step, scaling-done, written_small, written-done}
use Rattle.scales.proofs.solve.Goals.{In-loop-i}
use Rattle.scales.proofs.solve.Goals as goal

-- the scale in the words of its items
abbrev items : In-loop-i → Items
items c = scaled c.args.cap c.loop-i.i c.loop-i.divisor (items_of c.args.ws.now c.args.us.now c.args.ts.now c.args.ls.now)

-- cells are there for what is live after the digits
live : (c : In-loop-i) (k : ℕ) → k ≡ live_at (items c) (length c.args.ws.now) c.loop-i.n c.loop-i.rest → k ≤ 4 * total c.args.ws.now + 1
live c k e =
    let ws = c.args.ws.now in
    let lighter = sum_mono (length ws) (items c).weight (λ j. get_or ws j 0) (λ j l. div-le_self (get_or ws j 0) c.loop-i.divisor) in
    omega (arith, live-most (items c) (length ws) c.loop-i.n c.loop-i.rest, c.loop-i.invariant.few)

-- what is shared is no 0, and small
some : (c : In-loop-i) (g : ℕ) → g ≡ shared (items c) → 0 < g
some c g e = rw e (shared-pos (items c))

most : (c : In-loop-i) (g : ℕ) → g ≡ shared (items c) → c.loop-i.divisor * g ≤ total c.args.ws.now + 1
most c g e =
    let a = c.args in
    subst (λ g. c.loop-i.divisor * g ≤ total a.ws.now + 1) (sym e) (shared-most a.cap c.loop-i.i c.loop-i.divisor (total a.ws.now)
    (items_of a.ws.now a.us.now a.ts.now a.ls.now) c.loop-i.invariant.bounded (omega arith))

alone : (c : In-loop-i) (g : ℕ) → g ≡ shared (items c) → g ≤ total c.args.ws.now + 1
alone c g e = omega (arith, most c g e, mul-le-mul_right g c.loop-i.invariant.positive)

-- what is written so far and at this scale
fits : (c : In-loop-i) (f : Live) (g m : ℕ) → g ≡ shared (items c) → f.n ≡ live_at (items c) (length c.args.ws.now) c.loop-i.n c.loop-i.rest →
    f.written ≡ fill_cells (items c) (length c.args.ws.now) c.loop-i.n c.loop-i.rest c.loop-i.left → m ≡ thin_of f.n (2 * g) (c.loop-i.rest % (2 * g)) →
    c.loop-i.written + (f.written + m) ≤ 20000000000
fits c f g m e lives writes kept =
    let l = c.loop-i in
    let ws = c.args.ws.now in
    let light : 4 * total ws < 65536 = c.requires.listed.0.light in
    let few : length ws ≤ 17 = c.requires.listed.0.few in
    let lighter = sum_mono (length ws) (items c).weight (λ j. get_or ws j 0) (λ j k. div-le_self (get_or ws j 0) l.divisor) in
    let here = fill-most (items c) (length ws) l.n l.rest l.left 65536 (omega (arith, l.invariant.few)) in
    let thinned = thin-most f.n (total ws) (2 * g) (l.rest % (2 * g)) (omega (arith, some c g e)) (live c f.n lives) in
    let so_far = written_small c.requires.listed.1 few light (omega arith) l.invariant in
    omega arith

pub loop-i-init : goal.loop-i-init
loop-i-init c = rw c.heft_of-left.ensures (scaling-first c.args.cells.now (omega arith) refl)

pub overflow_mul-stride : goal.overflow_mul-stride
overflow_mul-stride c = omega (arith, alone (goal.at.overflow_mul-stride c).In-loop-i c.shared_of-g.result (c.shared_of-g.ensures c.args.cap c.args.ts.now c.args.ls.now), c.requires.listed.0.light)

pub nonzero_rem-rest : goal.nonzero_rem-rest
nonzero_rem-rest c = omega (arith, some (goal.at.nonzero_rem-rest c).In-loop-i c.shared_of-g.result (c.shared_of-g.ensures c.args.cap c.args.ts.now c.args.ls.now))

pub thin_cells-n-requires : goal.thin_cells-n-requires
thin_cells-n-requires c =
    let h = (goal.at.thin_cells-n-requires c).In-loop-i in
    let e = c.shared_of-g.ensures c.args.cap c.args.ts.now c.args.ls.now in
    let f = c.fill_all-f in
    let g = 2 * c.shared_of-g.result in
    let light = c.requires.listed.0.light in
    let lives = live h f.result.n f.ensures.live in
    let part : c.loop-i.rest % g < g = mod-lt c.loop-i.rest (omega (arith, some h c.shared_of-g.result e)) in
    (omega (arith, f.ensures.shows.same, c.loop-i.invariant.same), (part, omega (arith, alone h c.shared_of-g.result e)))

pub overflow_add-written : goal.overflow_add-written
overflow_add-written c =
    let f = c.fill_all-f in
    omega (
      arith,
      fits (goal.at.overflow_add-written c).In-loop-i f.result c.shared_of-g.result c.thin_cells-n.result
          (c.shared_of-g.ensures c.args.cap c.args.ts.now c.args.ls.now) f.ensures.live f.ensures.written c.thin_cells-n.ensures.value,
    )

pub overflow_add-written-in-loop-i : goal.overflow_add-written-in-loop-i
overflow_add-written-in-loop-i c =
    let f = c.fill_all-f in
    omega (
      arith,
      fits (goal.at.overflow_add-written-in-loop-i c).In-loop-i f.result c.shared_of-g.result c.thin_cells-n.result
          (c.shared_of-g.ensures c.args.cap c.args.ts.now c.args.ls.now) f.ensures.live f.ensures.written c.thin_cells-n.ensures.value,
    )

pub nonzero_div-left : goal.nonzero_div-left
nonzero_div-left c = omega (arith, some (goal.at.nonzero_div-left c).In-loop-i c.shared_of-g.result (c.shared_of-g.ensures c.args.cap c.args.ts.now c.args.ls.now))

pub nonzero_div-rest : goal.nonzero_div-rest
nonzero_div-rest c = omega (arith, some (goal.at.nonzero_div-rest c).In-loop-i c.shared_of-g.result (c.shared_of-g.ensures c.args.cap c.args.ts.now c.args.ls.now))

pub overflow_mul-divisor : goal.overflow_mul-divisor
overflow_mul-divisor c = omega (arith, most (goal.at.overflow_mul-divisor c).In-loop-i c.shared_of-g.result (c.shared_of-g.ensures c.args.cap c.args.ts.now c.args.ls.now), c.requires.listed.0.light)

pub loop-i-preserved : goal.loop-i-preserved
loop-i-preserved c =
    let l = c.loop-i in
    let t = c.thin_cells-n in
    let s : Stage = record { i = l.i; divisor = l.divisor; cap = c.args.cap; rest = l.rest } in
    scaling-step s c.fill_all-f.result c.shared_of-g.result t.result refl refl (omega arith) (omega arith)
    (c.shared_of-g.ensures c.args.cap c.args.ts.now c.args.ls.now) t.ensures.value c.fill_all-f.ensures
    t.ensures.cells_len_unchanged.0 t.ensures.cells_len_unchanged.1 l.invariant

pub returns-clause-least_value : goal.returns-clause-least_value
returns-clause-least_value c = c.look.ensures ∙ scaling-done (omega arith) c.loop-i.invariant

pub returns-clause-written_value : goal.returns-clause-written_value
returns-clause-written_value c = written-done (omega arith) c.loop-i.invariant
