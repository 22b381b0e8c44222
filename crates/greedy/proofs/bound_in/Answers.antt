use Rattle.std.proofs.Common.{◌∙◌, ap₂}
use borrow.Author.Tests.{lt-ltb, le-ltb}
use Rattle.arith.proofs.Parts.{within-back}
use Rattle.greedy.specs.Fill.{shared_by, bound}
use Rattle.greedy.proofs.bound_in.Goals as goal

pub returns-then-u-live : goal.returns-then-u-live
unfolding bound
returns-then-u-live c =
    let z = c.requires.columns in
    let u = c.args.f.at in
    let size = rw (within-back tt (z.sizes-in u)) at c.magnitude.ensures in
    let rate = rw (within-back tt (z.rates-in u)) at c.magnitude-then-u-live.ensures in
    rw (lt-ltb _ _ c.if-u-live.true) (c.share.ensures ∙ ap₂ (shared_by c.args.f) size rate)

pub returns : goal.returns
unfolding bound
returns c = rw (le-ltb _ _ c.if-u-live.false, within-back tt c.requires.worth-in)
