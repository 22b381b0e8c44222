use Rattle.std.proofs.Common.{suc, ◌*◌, length, get_or, arith}
use Rattle.scales.proofs.Sums.{sum_more}
use Rattle.scales.proofs.heft_of.Goals as goal

pub overflow_mul-sum : goal.overflow_mul-sum
overflow_mul-sum c =
    let ws = c.args.ws.now in
    omega (arith, sum_more (suc c.loop-j.j) (length ws) (λ k. get_or ws k 0 * get_or c.args.us.now k 0) (omega arith))

pub overflow_add-sum : goal.overflow_add-sum
overflow_add-sum c =
    let ws = c.args.ws.now in
    omega (arith, sum_more (suc c.loop-j.j) (length ws) (λ k. get_or ws k 0 * get_or c.args.us.now k 0) (omega arith))
