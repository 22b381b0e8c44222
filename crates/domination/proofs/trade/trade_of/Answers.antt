use Rattle.std.proofs.Common.{arith, ◌≤◌}
use Rattle.domination.specs.Trades.{Sizes}
use Rattle.domination.proofs.Sizes.{sizes, trade_small}
use Rattle.domination.proofs.trade.trade_of.Goals as goal

pub partner_of-requires : goal.partner_of-requires
partner_of-requires c =
    let z : Sizes c.size_of-s.result.weight c.size_of-t.result.weight c.size_of-s.result.price c.size_of-t.result.price =
    rw (c.size_of-s.ensures, c.size_of-t.ensures) (sizes c.requires)
    in
    let g : c.least_give-give.result ≤ 1000 =
    rw (c.least_give-give.ensures, c.size_of-s.ensures, c.size_of-t.ensures) (trade_small c.requires).0
    in
    omega (arith, z, g)
