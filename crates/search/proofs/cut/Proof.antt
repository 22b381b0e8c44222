-- `search::cut` meets its contract: the tests are those of the definition, in its order.
use mathlib.Core.Path.{◌≡◌, sym, ap, ◌∙◌, subst}
use mathlib.Core.Bool.{false}
use Prim.Native.Nat.{◌<◌}
use native.Mathlib.Omega.{arith}
use lib.IntN.{ℤ, pos}
use lib.Signed.{lt_z}
use borrow.Author.Tests.{lt-ltb, le-ltb}
use Rattle.arith.specs.Within.{Within}
use Rattle.arith.proofs.Parts.{within-back, within_more, within-sub}
use Rattle.greedy.specs.declared.Fill.{Fill}
use Rattle.greedy.specs.Fill.{fill}
use Rattle.lattice.specs.Lattice.{barren_by}
use Rattle.greedy.specs.Sized.{SizedFill}
use Rattle.greedy.proofs.Sizes.{cond-within, fill-sized}
use Rattle.search.specs.Ahead.{corner_sooner, ahead_by, Comparable}
use Rattle.search.specs.Search.{slope_of, sparse_by, threshold_at, threshold_by, cut_by}
use Rattle.search.proofs.Slopes.{steep}
use borrow.Author.Rules.{rules}
use Rattle.search.proofs.cut.Statement.{statement}
use Rattle.search.proofs.cut.Tie as tie

fill-up-requires : tie.Need-fill_up-f-requires
fill-up-requires c κs = search rules

sized : (s : tie.Start) → SizedFill s.args.c (fill s.args.c s.args.e)
sized s = fill-sized s.args.c s.args.e s.requires.0.sized

-- the moments that are spoken of below
abbrev after-fill-up : tie.Else-f-lt0 → tie.After-fill_up-f
after-fill-up c = c.before.before.before

abbrev start-of-else1 : tie.Else-f-lt0 → tie.Start
start-of-else1 c = (after-fill-up c).before

returns : tie.Need-returns-then-f-lt0
unfolding cut_by
returns c =
    let a = c.before.before.before in
    let t = rw (a.fill_up-f.ensures, within-back tt (sized a.before).room_in) at c.if-f-lt0.true in
    rw t

not-empty : (c : tie.Else-f-lt0) → lt_z (fill (start-of-else1 c).args.c (start-of-else1 c).args.e).room (pos 0) ≡ false
not-empty c = rw ((after-fill-up c).fill_up-f.ensures, within-back tt (sized (start-of-else1 c)).room_in) at c.if-f-lt0.false

is-ahead-requires : tie.Need-is_ahead-requires
is-ahead-requires c κs =
    let a = after-fill-up c.before in
    let s = a.before in
    (s.requires.0.sized, (rw a.fill_up-f.ensures (sized s), s.requires.0.proper c.if-best.true))

-- where an incumbent was compared with
abbrev compared : tie.After-is_ahead → tie.Then-best
compared c = c.before

abbrev Else1-of : tie.After-is_ahead → tie.Else-f-lt0
Else1-of c = (compared c).before

abbrev Start-of : tie.After-is_ahead → tie.Start
Start-of c = start-of-else1 (Else1-of c)

ahead-is : (c : tie.After-is_ahead) → c.is_ahead.result ≡ ahead_by (Start-of c).args.c (Start-of c).args.e
    (fill (Start-of c).args.c (Start-of c).args.e)
    (Start-of c).args.best
ahead-is c = rw (after-fill-up (Else1-of c)).fill_up-f.ensures at c.is_ahead.ensures

-- the filling ended at a live rank
abbrev asked : tie.Then-u-n → tie.After-is_ahead
asked c = c.before.before.before

rank<16 : (c : tie.Then-u-n) → (after-fill-up (Else1-of (asked c))).fill_up-f.result.at < 16
rank<16 c = omega (arith, c.if-u-n.true, (Start-of (asked c)).requires.0.sized.columns.live-few)

mul-s : tie.Need-offset_bounds-c-u
mul-s c = record { fits = omega (arith, rank<16 c) }

element-copy-out-s : tie.Need-bounds-c-u
element-copy-out-s c = rank<16 c

mul-p : tie.Need-offset_bounds-c-u-then-u-n
mul-p c = record { fits = omega (arith, rank<16 c.before) }

element-copy-out-p : tie.Need-bounds-c-u-then-u-n
element-copy-out-p c = rank<16 c.before

-- where the ends and the point are lent
abbrev lent : tie.After-struct_told-then-u-n-1 → tie.Then-u-n
lent c = c.before.before.before.before.before

abbrev start-of-lent : tie.After-struct_told-then-u-n-1 → tie.Start
start-of-lent c = Start-of (asked (lent c))

-- the incumbent can be compared
own : (c : tie.After-struct_told-then-u-n-1) → Comparable (start-of-lent c).args.best
own c = (start-of-lent c).requires.0.proper (compared (asked (lent c))).if-best.true

threshold-requires : tie.Need-threshold-w-requires
threshold-requires c κs =
    let z = (start-of-lent c).requires.0.sized in
    let p = own c in
    rw (within-back tt p.whole_in) (z.columns.few, (p.proper.few, (z.ends.lo-in, p.whole_in)))

-- what the lattice is asked for
abbrev W : tie.After-threshold-w → ℤ
W c = let s = start-of-lent c.before in threshold_by s.args.c s.args.e s.args.best

threshold-is : (c : tie.After-threshold-w) → c.threshold-w.result ≡ W c
threshold-is c = rw (within-back tt (own c.before).whole_in) at c.threshold-w.ensures

threshold-in : (c : tie.After-threshold-w) → Within 201000000000000001 (W c)
unfolding threshold_at
threshold-in c =
    let w = (own c.before).whole_in in
    let s = start-of-lent c.before in
    cond-within (corner_sooner s.args.e.lo s.args.best.point s.args.c.count s.args.best.value.parts)
    (within-sub w one) (within_more (omega arith) w)
  where
    one : Within 1 (pos 1)
    one = record { above = omega arith; below = omega arith }

sparse-requires : tie.Need-sparse-requires
sparse-requires c κs =
    let h = lent c.before in
    let g = after-fill-up (Else1-of (asked h)) in
    let s = g.before in
    let z : SizedFill s.args.c g.fill_up-f.result = subst (λ f. SizedFill s.args.c f) (sym g.fill_up-f.ensures) (sized s) in
    let u = g.fill_up-f.result.at in
    rw (within-back tt (z.columns.sizes-in u), within-back tt (z.columns.rates-in u), threshold-is c, within-back tt (threshold-in c))
    (record {
      steep = steep s.args.c g.fill_up-f.result s.requires.0.tied s.requires.0.rated z h.if-u-n.true;
      room_in = z.room_in;
      tame = s.requires.1;
      whole_in = threshold-in c;
    })

returns-2 : tie.Need-returns-then-u-n
unfolding cut_by sparse_by
returns-2 c =
    let w = c.before in
    let h = lent w.before in
    let a = asked h in
    let g = after-fill-up (Else1-of a) in
    let s = g.before in
    let u = g.fill_up-f.result.at in
    let z = s.requires.0.sized.columns in
    let l = subst (λ (f : Fill). f.at < s.args.c.live) g.fill_up-f.ensures h.if-u-n.true in
    let t = sym (ahead-is a) ∙ h.if-is_ahead.true in
    let e = rw (within-back tt (z.sizes-in u), within-back tt (z.rates-in u), threshold-is w, within-back tt (threshold-in w)) at c.sparse.ensures in
    rw (not-empty (Else1-of a), t, (compared a).if-best.true, lt-ltb _ _ l)
    (e ∙ ap (λ (f : Fill). barren_by s.args.l (slope_of s.args.c f) f.room (W w)) g.fill_up-f.ensures)

returns-3 : tie.Need-returns-then-is_ahead
unfolding cut_by sparse_by
returns-3 c =
    let a = c.before.before.before in
    let g = after-fill-up (Else1-of a) in
    let l = rw g.fill_up-f.ensures at c.if-u-n.false in
    let t = sym (ahead-is a) ∙ c.if-is_ahead.true in
    rw (not-empty (Else1-of a), t, (compared a).if-best.true, le-ltb _ _ l)

returns-4 : tie.Need-returns-then-best
unfolding cut_by
returns-4 c =
    let a = c.before in
    let t = sym (ahead-is a) ∙ c.if-is_ahead.false in
    rw (not-empty (Else1-of a), t, (compared a).if-best.true)

returns-5 : tie.Need-returns
unfolding cut_by
returns-5 c = rw (not-empty c.before, c.if-best.false)

pub cut_spec : {M : Type 1} → statement M
cut_spec =
    tie.close
    (tie.spec
    fill-up-requires
    returns
    is-ahead-requires
    mul-s
    element-copy-out-s
    mul-p
    element-copy-out-p
    threshold-requires
    sparse-requires
    returns-2
    returns-3
    returns-4
    returns-5)
