-- The two replies to one record: paper 02, request 11.
--   SensePair k l        a sure reply of kind k and a possible one of kind l can stand side by side
--   SureAtMost a b       of a sure reply a and a possible one b: their kinds can, and where both are best the sure value is no greater
use Rattle.std.specs.Prelude.{◌≡◌}
use Rattle.arith.specs.Fractions.{◌≤ᶠ◌}
use Rattle.knapsack.specs.Demands.{shown_value}
use Rattle.knapsack.specs.declared.Answer.{Answer}
use Rattle.knapsack.specs.declared.Kind.{Kind}
use Rattle.knapsack.specs.declared.Kind.TheVariants.{Optimal, Infeasible, Unbounded}

pub data SensePair : Kind → Kind → Type 0 where
  both-best : SensePair Optimal Optimal
  best-unbounded : SensePair Optimal Unbounded
  both-infeasible : SensePair Infeasible Infeasible
  infeasible-best : SensePair Infeasible Optimal
  infeasible-unbounded : SensePair Infeasible Unbounded
  both-unbounded : SensePair Unbounded Unbounded

pub record SureAtMost (a b : Answer) : Type 0 where
  pub kinds : SensePair a.kind b.kind
  pub values : a.kind ≡ Optimal → b.kind ≡ Optimal → shown_value a ≤ᶠ shown_value b
