-- `streams::moved` meets its contract: a turn that moves bytes is a piece, and one that moves none has come to the end.
use Rattle.std.proofs.Common.{refl, arith}
use Rattle.streams.specs.Carrying.{Turn}
use Rattle.streams.proofs.moved.Goals as goal

pub returns : goal.returns
returns c = Turn.piece c.args.n (omega arith) (omega arith) refl
