-- `ranging::fall_of` meets its contract: the span begins with all falls and ends with one.
use mathlib.Core.Path.{◌≡◌, sym, subst}
use Prim.Native.Nat.{◌+◌, ◌-◌, ◌≤◌, ◌<◌, ◌^◌}
use native.Mathlib.Omega.{arith}
use lib.Signed.{mag}
use borrow.Author.Rules.{rules}
use Rattle.arith.proofs.Words.{back}
use Rattle.knapsack.specs.Meaning.{amount_at}
use Rattle.knapsack.specs.Ranges.{item_at}
use Rattle.ranging.specs.Ranging.{deepest}
use Rattle.ranging.specs.Searching.{Spans}
use Rattle.ranging.proofs.Lowering.{deepest-most, shown-good, low-stays, span-first, span_none, span-found}
use Rattle.ranging.proofs.fall_of.Statement.{statement}
use Rattle.ranging.proofs.fall_of.Tie as tie

abbrev invariant-loop : tie.invariant-loop-s
invariant-loop ns a k p most s₀ s = (most ≡ deepest (item_at p k).price) × Spans p ns a k s

abbrev decreases-loop : tie.decreases-loop-s
decreases-loop ns a k p most s₀ s = s.high - s.low

-- ---- the moments that are spoken of below

abbrev start : tie.After-struct_told-1 invariant-loop decreases-loop → tie.Start invariant-loop decreases-loop
start c = c.before.before.before.before.before

abbrev told : tie.After-deepest-most invariant-loop decreases-loop → tie.Start invariant-loop decreases-loop
told c = start c.before

mul-i : tie.Need-offset_bounds-p-k invariant-loop decreases-loop
mul-i c = omega (arith, c.requires.1, c.requires.0.needed.figures.few-items)

element-copy-out-i : tie.Need-bounds-p-k invariant-loop decreases-loop
element-copy-out-i c = omega (arith, c.requires.1, c.requires.0.needed.figures.few-items)

stands-low-requires : tie.Need-stands_low-requires invariant-loop decreases-loop
stands-low-requires c κs =
    let s = c.before.before in
    let h = s.requires.0 in
    let f = h.needed.figures in (
      omega (arith, s.requires.1, f.few-items),
      (
        (f.items-in s.args.k s.requires.1).lower_in,
        shown-good s.args.p (amount_at s.args.a) s.args.k f h.best.shown s.requires.1,
      ),
    )

returns : tie.Need-returns-then-stands_low invariant-loop decreases-loop
returns c =
    let l = c.before in
    let s = l.before.before.before in
    let a = s.args in
    low-stays a.p a.ns a.a a.k s.requires.0 s.requires.1 (l.stands_low.ensures c.if-stands_low.true)

deepest-requires : tie.Need-deepest-most-requires invariant-loop decreases-loop
deepest-requires c κs =
    let s = start c in
    let i = item_at s.args.p s.args.k in
    let h : mag i.price < 2 ^ 63 = search rules in
    rw (back i.price h) (s.requires.0.needed.figures.items-in s.args.k s.requires.1).price-in

deep_is : (c : tie.After-deepest-most invariant-loop decreases-loop) → let s = told c in c.deepest-most.result ≡ deepest (item_at s.args.p s.args.k).price
deep_is c =
    let s = told c in
    let i = item_at s.args.p s.args.k in
    let h : mag i.price < 2 ^ 63 = search rules in
    rw (back i.price h) at c.deepest-most.ensures

few : (c : tie.After-deepest-most invariant-loop decreases-loop) → let s = told c in deepest (item_at s.args.p s.args.k).price ≤ 20000
few c =
    let s = told c in
    deepest-most (item_at s.args.p s.args.k).price (s.requires.0.needed.figures.items-in s.args.k s.requires.1).price-in

add-t16 : tie.Need-overflow_add-s invariant-loop decreases-loop
add-t16 c = record { fits = omega (arith, few c, deep_is c) }

loop-holds : tie.Need-loop-s-init invariant-loop decreases-loop
loop-holds c =
    let a = (told c).args in
    let h = (told c).requires in (
      deep_is c,
      subst (λ n. Spans a.p a.ns a.a a.k (record { low = 0; high = n + 1; leaps = 6 })) (sym (deep_is c))
          (span-first a.p a.ns a.a a.k h.0 h.1 6),
    )

add-if2 : tie.Need-overflow_add-s-in-loop-s invariant-loop decreases-loop
add-if2 c =
    let l = c.before in
    record { fits = omega (arith, few l.before, l.loop-s.invariant.1.order, l.loop-s.invariant.1.most) }

narrowed-requires : tie.Need-narrowed-s-requires invariant-loop decreases-loop
narrowed-requires c κs =
    let l = c.before.before.before in
    ((told l.before).requires, (l.loop-s.invariant.1, omega arith))

loop-less : tie.Need-loop-s-smaller invariant-loop decreases-loop
loop-less c = omega (arith, c.narrowed-s.ensures.less)

loop-again : tie.Need-loop-s-preserved invariant-loop decreases-loop
loop-again c = (c.loop-s.invariant.0, c.narrowed-s.ensures.spans)

returns-2 : tie.Need-returns-then-most-s invariant-loop decreases-loop
returns-2 c =
    let l = c.before.before.before.before.before in
    let s = told l.before in
    let a = s.args in
    span_none a.p a.ns a.a a.k s.requires.0 s.requires.1 l.loop-s.s l.loop-s.invariant.1 (omega arith) (omega (arith, l.loop-s.invariant.0))

returns-3 : tie.Need-returns-else-most-s invariant-loop decreases-loop
returns-3 c =
    let l = c.before.before.before.before.before in
    let s = told l.before in
    let a = s.args in
    span-found a.p a.ns a.a a.k s.requires.0 s.requires.1 l.loop-s.s l.loop-s.invariant.1 (omega arith) (omega (arith, l.loop-s.invariant.0))

pub fall_of_spec : {M : Type 1} → statement M
fall_of_spec =
    tie.close
    (tie.spec
    invariant-loop
    decreases-loop
    mul-i
    element-copy-out-i
    stands-low-requires
    returns
    deepest-requires
    add-t16
    loop-holds
    add-if2
    narrowed-requires
    loop-less
    loop-again
    returns-2
    returns-3)
