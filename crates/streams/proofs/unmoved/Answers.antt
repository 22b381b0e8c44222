-- `streams::unmoved` meets its contract: a turn that fails was interrupted, or has failed.
use Rattle.std.proofs.Common.{◌≡◌, ◌+◌, ◌-◌, refl, arith}
use Rattle.streams.specs.Carrying.{Turn}
use Rattle.streams.proofs.unmoved.Goals as goal

pub returns-then-eq : goal.returns-then-eq
returns-then-eq c =
    let l = c.args.p.left in
    let h : l ≡ (l - 1) + 1 = omega arith in
    Turn.interrupted (l - 1) h refl
