use Rattle.std.proofs.Common.{◌≡◌, ◌∙◌, sym, arith, ℤ, ◌<ℤ◌}
use Rattle.arith.proofs.Integers.{split2, zed, ≤ℤ-antisym}
use Rattle.arith.proofs.Parts.{impossible, within-back}
use Rattle.arith.proofs.Words.{yes_lt, no_lt}
use Rattle.firsts.proofs.is_loose.Goals as goal

apart : (x y : ℤ) → x <ℤ y → x ≡ y → ⊥
apart = split2 _ (λ a b c e. simp zed (omega arith))

pub returns-then-whole-k : goal.returns-then-whole-k
returns-then-whole-k c = (λ i o. absurd (impossible (sym o ∙ c.if-whole-k.true)), λ i h. impossible i)

pub returns : goal.returns
returns c =
    let z = c.requires.0 in
    let k = c.args.k in
    rw (within-back tt (z.lo-in k), within-back tt (z.hi-in k)) (
      λ i o. ≤ℤ-antisym c.requires.1.1 (no_lt i),
      λ i g. apart _ _ (yes_lt i) (g c.if-whole-k.false),
    )
