use Rattle.std.proofs.Common.{refl}
use Rattle.arith.proofs.Parts.{within-back}
use Rattle.arith.proofs.Words.{back}
use Rattle.greedy.specs.Fill.{weight_of, price_of}
use Rattle.ceiling.proofs.Ranges.{score-within}
use Rattle.ceiling.proofs.score_at.Goals as goal

pub returns : goal.returns
returns c =
    let k = c.args.k in
    let z = c.requires.0 in
    let score = rw (within-back tt (z.weights-in k), within-back tt (z.prices-in k)) at c.score.ensures in
    rw (back c.score.result c.score.type_inv, score) (
      refl,
      score-within c.args.p c.args.q (weight_of c.args.cols k) (price_of c.args.cols k) c.requires.1.0 c.requires.1.1.0 (z.weights-in k) (z.prices-in k),
    )
