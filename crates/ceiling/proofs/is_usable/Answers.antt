use Rattle.std.proofs.Common.{◌≡◌, arith, ℤ, ◌<ℤ◌}
use Rattle.arith.proofs.Integers.{split2, zed, ≤ℤ-antisym}
use Rattle.arith.proofs.Parts.{within-back}
use Rattle.arith.proofs.Words.{yes_lt, no_lt}
use Rattle.greedy.specs.Fill.{item_of}
use Rattle.ceiling.proofs.is_usable.Goals as goal

apart : (x y : ℤ) → x <ℤ y → x ≡ y → ⊥
apart = split2 _ (λ a b c e. simp zed (omega arith))

pub returns : goal.returns
returns c =
    let k = item_of c.args.cols c.args.t in
    let z = c.requires.0.ends in
    let ranked = c.requires.1.0 in
    rw (within-back tt (z.lo-in k), within-back tt (z.hi-in k)) (
      λ i u. u.free (≤ℤ-antisym (c.requires.1.1.0 k (ranked.item_in c.args.t (omega (arith, ranked.live_in)))) (no_lt i)),
      λ i. record { loose = c.if-whole-k.false; free = apart _ _ (yes_lt i) },
    )
