use Rattle.std.proofs.Common.{sym, ◌∙◌}
use Rattle.feasibility.proofs.Divisor.{good-iff, good-amount}
use Rattle.feasibility.proofs.join.Goals as goal

pub is_whole-requires : goal.is_whole-requires
is_whole-requires c =
    good-amount c.args.i c.args.x c.requires ((good-iff c.args.i c.args.x).0 (sym c.is_bad_amount.ensures ∙ c.if-is_bad_amount.false))
