use Rattle.std.proofs.Common.{rules}
use Rattle.residues.proofs.Lists.{made-from_fn}
use Rattle.fillings.proofs.fixed.Goals as goal

pub returns : goal.returns
returns c = record {
  lows = made-from_fn _ _ _ (λ k y f' h. search rules) c.from_fn.ensures.items;
  wides = made-from_fn _ _ _ (λ k y f' h. search rules) c.from_fn-2.ensures.items;
}
