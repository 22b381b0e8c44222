use Rattle.std.proofs.Common.{◌≡◌, ℕ, ◌+◌, true, false, cond, ℤ, pos, ◌*ℤ◌, refl, sym, ap₂, ◌∙◌, w64, to_z, of_z, arith}
use lib.Dec.{lit<}
use lib.Signed.{lt_z}
use mir.Facts.{to_z_pos}
use Rattle.arith.specs.Within.{Within}
use Rattle.arith.proofs.Parts.{within-sfits, within-back, within-mul}
use Rattle.arith.proofs.Words.{back}
use Rattle.greedy.specs.Fill.{at, numerator}
use Rattle.greedy.proofs.Numerators.{numerator-within}
use Rattle.search.specs.Ahead.{sooner}
use Rattle.search.proofs.Orders.{sooner-next, sooner-none}
use Rattle.search.proofs.ahead.is_sooner.Goals.{After-amount_over-x}
use Rattle.search.proofs.ahead.is_sooner.Goals as goal

pub loop-k-init : goal.loop-k-init
loop-k-init c = (c.args.n, (omega arith, refl))

pub amount_over-x-requires : goal.amount_over-x-requires
amount_over-x-requires c =
    let p = c.requires.0 in
    let l = p.sized.ends.lo-in c.loop-k.k in
    let h = p.sized.ends.hi-in c.loop-k.k in
    rw (within-back tt l, within-back tt h) (l, (h, (p.filled.room_in, p.few)))

-- both amounts over the product of the divisors
abbrev X : After-amount_over-x → ℕ → ℤ
X c k = numerator c.args.c c.args.e c.args.f c.args.q k *ℤ pos c.args.d

abbrev Y : After-amount_over-x → ℕ → ℤ
Y c k = at c.args.y k *ℤ pos c.args.q

module _ (c : After-amount_over-x) where
  left-within : Within 20300000000000000 (X c c.loop-k.k)
  left-within =
      let p = c.requires.0 in
      within-mul (numerator-within c.args.c c.args.e c.args.f c.args.q c.loop-k.k
      (record { sized = p.sized; filled = p.filled; few = p.few; item_in = omega (arith, c.requires.1.0) }))
      (record { above = c.requires.1.1.0; below = omega arith })

  right-within : Within 20300000000000000 (Y c c.loop-k.k)
  right-within = within-mul (c.requires.1.1.1 c.loop-k.k) (record { above = c.requires.0.few; below = omega arith })

  left_is : to_z w64 (of_z w64 c.amount_over-x.result) *ℤ to_z w64 c.args.d ≡ X c c.loop-k.k
  left_is =
      let z = c.requires.0.sized in
      let k = c.loop-k.k in
      let e = rw (
        within-back tt (z.columns.weights-in k),
        within-back tt (z.columns.prices-in k),
        within-back tt (z.ends.lo-in k),
        within-back tt (z.ends.hi-in k),
      ) at c.amount_over-x.ensures in
      ap₂ (λ (x y : ℤ). x *ℤ y) (back c.amount_over-x.result c.amount_over-x.type_inv ∙ e) (to_z_pos w64 (omega (arith, c.requires.1.1.0)))

  right_is : to_z w64 (of_z w64 (at c.args.y c.loop-k.k)) *ℤ to_z w64 c.args.q ≡ Y c c.loop-k.k
  right_is = ap₂ (λ (x y : ℤ). x *ℤ y) (within-back tt (c.requires.1.1.1 c.loop-k.k)) (to_z_pos w64 (omega (arith, c.requires.0.few)))

  next : (j : ℕ) × ((j + (c.loop-k.k + 1) ≡ c.args.n) × (sooner c.args.n 0 (X c) (Y c) ≡
      cond (lt_z (X c c.loop-k.k) (Y c c.loop-k.k)) true
      (cond (lt_z (Y c c.loop-k.k) (X c c.loop-k.k)) false (sooner j (c.loop-k.k + 1) (X c) (Y c)))))
  next =
      let v = c.loop-k.invariant in
      let w = sooner-next v.0 c.loop-k.k c.args.n (X c) (Y c) v.1.0 (omega arith) in
      (w.0, (w.1.0, v.1.1 ∙ w.1.1))

pub overflow_cast-left : goal.overflow_cast-left
overflow_cast-left c = within-sfits {n = 1000} (lit< tt) (record { above = c.requires.1.1.0; below = omega arith })

pub overflow_mul-left : goal.overflow_mul-left
overflow_mul-left c = let a = (goal.at.overflow_mul-left c).After-amount_over-x in rw (left_is a) (within-sfits (lit< tt) (left-within a))

pub overflow_cast-right : goal.overflow_cast-right
overflow_cast-right c = within-sfits {n = 1000} (lit< tt) (record { above = c.requires.0.few; below = omega arith })

pub overflow_mul-right : goal.overflow_mul-right
overflow_mul-right c = let a = (goal.at.overflow_mul-right c).After-amount_over-x in rw (right_is a) (within-sfits (lit< tt) (right-within a))

pub returns-then-left-right : goal.returns-then-left-right
returns-then-left-right c =
    let a = (goal.at.returns-then-left-right c).After-amount_over-x in
    let t = rw (left_is a, right_is a, within-back tt (left-within a), within-back tt (right-within a)) at c.if-left-right.true in
    sym ((next a).1.1 ∙ rw t refl)

pub returns-then-right-left : goal.returns-then-right-left
returns-then-right-left c =
    let a = (goal.at.returns-then-right-left c).After-amount_over-x in
    let t = rw (left_is a, right_is a, within-back tt (left-within a), within-back tt (right-within a)) at c.if-left-right.false in
    let u = rw (left_is a, right_is a, within-back tt (left-within a), within-back tt (right-within a)) at c.if-right-left.true in
    sym ((next a).1.1 ∙ rw (t, u) refl)

pub loop-k-preserved : goal.loop-k-preserved
loop-k-preserved c =
    let a = (goal.at.loop-k-preserved c).After-amount_over-x in
    let t = rw (left_is a, right_is a, within-back tt (left-within a), within-back tt (right-within a)) at c.if-left-right.false in
    let u = rw (left_is a, right_is a, within-back tt (left-within a), within-back tt (right-within a)) at c.if-right-left.false in
    let w = next a in
    (w.0, (w.1.0, w.1.1 ∙ rw (t, u) refl))

pub returns : goal.returns
returns c = let v = c.loop-k.invariant in sym (v.1.1 ∙ sooner-none v.0 c.loop-k.k _ _ (omega (arith, v.1.0)))
