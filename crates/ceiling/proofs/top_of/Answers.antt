use Rattle.std.proofs.Common.{◌≡◌, ◌∙◌, refl, arith, add-one, ℤ, pos, ◌+ℤ◌, ◌*ℤ◌}
use Rattle.arith.specs.Sum.{sum}
use Rattle.arith.proofs.Integers.{split3, zed}
use Rattle.arith.proofs.Parts.{within-back}
use Rattle.arith.proofs.Words.{back}
use Rattle.ceiling.specs.Loss.{score_of, good_of, top_of}
use Rattle.ceiling.proofs.Ranges.{score-in, good-in, top_in}
use Rattle.ceiling.proofs.top_of.Goals as goal

more : (x y z : ℤ) → (x +ℤ y) +ℤ z ≡ x +ℤ (y +ℤ z)
more = split3 _ (λ a b c e f g. simp zed (omega arith))

pub with_term-t-requires : goal.with_term-t-requires
with_term-t-requires c =
    let a = c.args in
    let r = c.requires in
    let k = c.loop-k.k in
    rw (
      back c.score_at.result c.score_at.type_inv,
      back c.good_at.result c.good_at.type_inv,
      c.loop-k.invariant,
      c.score_at.ensures.0,
      c.good_at.ensures,
    ) (
      top_in a.cols a.ends a.p a.q r.0 r.1.0 r.1.1 k (omega (arith, r.0.columns.few)),
      (score-in a.cols a.ends a.p a.q r.0 r.1.0 r.1.1 k, good-in a.cols a.ends a.p a.q r.0 r.1.0 r.1.1 k),
    )

pub loop-k-preserved : goal.loop-k-preserved
loop-k-preserved c =
    let a = c.args in
    rw add-one ((rw (
      back c.score_at.result c.score_at.type_inv,
      back c.good_at.result c.good_at.type_inv,
      c.score_at.ensures.0,
      c.good_at.ensures,
      c.loop-k.invariant,
    ) at c.with_term-t.ensures) ∙ more (pos a.p *ℤ a.cols.capacity) (sum c.loop-k.k (λ j. score_of a.p a.q a.cols j *ℤ good_of a.p a.q a.cols a.ends j)) _)

pub returns : goal.returns
unfolding top_of
returns c =
    let a = c.args in
    let at-end : c.loop-k.k ≡ a.cols.count = omega arith in
    let w = top_in a.cols a.ends a.p a.q c.requires.0 c.requires.1.0 c.requires.1.1 a.cols.count c.requires.0.columns.few in
    rw (rw at-end at c.loop-k.invariant, within-back tt w) (refl, w)
