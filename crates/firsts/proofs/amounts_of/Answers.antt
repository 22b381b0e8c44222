use Rattle.std.proofs.Common.{arith}
use Rattle.firsts.proofs.amounts_of.Goals as goal

pub wholes-whole-requires : goal.wholes-whole-requires
wholes-whole-requires c = let r = c.requires.0 in (r.few, λ d l. omega (arith, r.level_in d l, r.sized.columns.few))

pub returns : goal.returns
returns c = record { whole = c.wholes-whole.result; levelled = c.wholes-whole.ensures; amounts = c.amounts.ensures }
