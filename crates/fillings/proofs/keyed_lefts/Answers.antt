use Rattle.std.proofs.Common.{rules}
use Rattle.residues.proofs.Lists.{made-from_fn}
use Rattle.fillings.proofs.keyed_lefts.Goals as goal

pub returns : goal.returns
returns c = made-from_fn _ _ _ (λ k y f' h. search rules) c.from_fn.ensures.items
