use Rattle.std.proofs.Common.{◌≡◌, ℕ, ◌≤◌, ℤ, pos, ◌*ℤ◌, refl, sym, ap₂, ◌∙◌, List, w64, to_z, of_z, arith, to_z-of_z}
use lib.Dec.{lit<}
use mir.Facts.{to_z_pos}
use mir.Val.{SFits}
use Rattle.arith.specs.Limits.{farthest}
use Rattle.arith.specs.Within.{Within}
use Rattle.arith.proofs.Parts.{within-sfits, within-back, within-mul}
use Rattle.greedy.specs.Fill.{at}
use Rattle.search.proofs.Orders.{sooner-next, sooner-none}
use Rattle.search.proofs.ahead.is_corner_sooner.Goals as goal

pub loop-k-init : goal.loop-k-init
loop-k-init c = (c.args.n, (omega arith, refl))

-- the corner over the point's divisor
module _ (lo : List ℤ) (d k : ℕ) (h : d ≤ 1000) (l : Within farthest (at lo k)) where
  left-within : Within 300000000000 (at lo k *ℤ pos d)
  left-within = within-mul l (record { above = h; below = omega arith })

  left_is : to_z w64 (of_z w64 (at lo k)) *ℤ to_z w64 d ≡ at lo k *ℤ pos d
  left_is = ap₂ (λ (x y : ℤ). x *ℤ y) (within-back tt l) (to_z_pos w64 (omega arith))

pub overflow_cast-left : goal.overflow_cast-left
overflow_cast-left c = within-sfits {n = 1000} (lit< tt) (record { above = c.requires.1.0; below = omega arith })

pub overflow_mul-left : goal.overflow_mul-left
overflow_mul-left c =
    let k = c.loop-k.k in
    let l = c.requires.1.1 k in
    rw (left_is c.args.lo.now c.args.d k c.requires.1.0 l) (within-sfits (lit< tt) (left-within c.args.lo.now c.args.d k c.requires.1.0 l))

pub returns-then-left-right : goal.returns-then-left-right
returns-then-left-right c =
    let k = c.loop-k.k in
    let a = c.args.lo.now in
    let d = c.args.d in
    let l = c.requires.1.1 k in
    let f : SFits w64 (at c.args.y.now k) = record { sfits = omega arith } in
    let v = c.loop-k.invariant in
    let t = rw (left_is a d k c.requires.1.0 l, within-back tt (left-within a d k c.requires.1.0 l), to_z-of_z f) at c.if-left-right.true in
    let w = sooner-next v.0 k c.args.n (λ k. at a k *ℤ pos d) (at c.args.y.now) v.1.0 (omega arith) in
    sym (v.1.1 ∙ w.1.1 ∙ rw t refl)

pub returns-then-right-left : goal.returns-then-right-left
returns-then-right-left c =
    let k = c.loop-k.k in
    let a = c.args.lo.now in
    let d = c.args.d in
    let l = c.requires.1.1 k in
    let f : SFits w64 (at c.args.y.now k) = record { sfits = omega arith } in
    let v = c.loop-k.invariant in
    let t = rw (left_is a d k c.requires.1.0 l, within-back tt (left-within a d k c.requires.1.0 l), to_z-of_z f) at c.if-left-right.false in
    let u = rw (left_is a d k c.requires.1.0 l, within-back tt (left-within a d k c.requires.1.0 l), to_z-of_z f) at c.if-right-left.true in
    let w = sooner-next v.0 k c.args.n (λ k. at a k *ℤ pos d) (at c.args.y.now) v.1.0 (omega arith) in
    sym (v.1.1 ∙ w.1.1 ∙ rw (t, u) refl)

pub loop-k-preserved : goal.loop-k-preserved
loop-k-preserved c =
    let k = c.loop-k.k in
    let a = c.args.lo.now in
    let d = c.args.d in
    let l = c.requires.1.1 k in
    let f : SFits w64 (at c.args.y.now k) = record { sfits = omega arith } in
    let v = c.loop-k.invariant in
    let t = rw (left_is a d k c.requires.1.0 l, within-back tt (left-within a d k c.requires.1.0 l), to_z-of_z f) at c.if-left-right.false in
    let u = rw (left_is a d k c.requires.1.0 l, within-back tt (left-within a d k c.requires.1.0 l), to_z-of_z f) at c.if-right-left.false in
    let w = sooner-next v.0 k c.args.n (λ k. at a k *ℤ pos d) (at c.args.y.now) v.1.0 (omega arith) in
    (w.0, (w.1.0, v.1.1 ∙ w.1.1 ∙ rw (t, u) refl))

pub returns : goal.returns
returns c = let v = c.loop-k.invariant in sym (v.1.1 ∙ sooner-none v.0 c.loop-k.k _ _ (omega (arith, v.1.0)))
