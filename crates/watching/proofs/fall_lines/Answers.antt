-- The lines are read back from the start of the space.
use Rattle.std.proofs.Common.{ℕ, get_or, arith}
use Rattle.ordering.proofs.Insertion.{sorted-at}
use Rattle.text.proofs.Buffers.{shows}
use Rattle.watching.specs.Watching.{fall_item, watch_order}
use Rattle.watching.proofs.Watching.{lines-cong, put_as}
use Rattle.watching.proofs.fall_lines.Goals as goal

pub returns : goal.returns
returns c =
    let n = c.args.n in
    let f : ℕ → ℕ = λ k. get_or c.args.of k 0 in
    let o = c.fall_order-order in
    let same = lines-cong f (λ u. get_or o.result.at u 0) (watch_order f n) n (sorted-at (λ k. fall_item (f k)) n o.result.at o.ensures) in
    let put = put_as same c.put_falls-len.ensures in
    shows (omega (arith, put.short, put.next)) put
