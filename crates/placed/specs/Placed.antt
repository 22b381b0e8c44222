-- The first best point of a problem, as an answer shows it.
--   HasLower p b        b says whether every item has a lower bound
--   Showable p s P a    a is an optimal answer of p; s is p prepared, and an optimal point of its box has the integer amounts P
--   ShownWrites p first n   n cells are written for the first point of p, by its own setting and an optimal place of that, which is known to come first
--                       or not; none where a lower bound lacks
--   FirstShown p known r    r is an optimal answer of p, by the point that comes first where every item has a lower bound
use Rattle.std.specs.Prelude.{◌≡◌, Bool, true, false, ℕ, ℤ}
use Rattle.ceiling.specs.Sizes.{Spanned}
use Rattle.firsts.specs.Leading.{OptimalAt, PointWrites}
use Rattle.knapsack.specs.Meaning.{instance_of, ShownOptimal, AllLower, ShownFirst}
use Rattle.knapsack.specs.Ranges.{InRange}
use Rattle.knapsack.specs.declared.Answer.{Answer}
use Rattle.knapsack.specs.declared.Kind.TheVariants as kind
use Rattle.knapsack.specs.declared.Problem.{Problem}
use Rattle.knapsack.proofs.Reach.{NoRay}
use Rattle.prepare.specs.Narrowing.{span_of}
use Rattle.prepare.specs.Prepared.{PreparedAt}
use Rattle.setting.specs.declared.Setting.{Setting}
use Rattle.placed.specs.declared.Placed.{Placed}

pub record HasLower (p : Problem) (b : Bool) : Type 0 where
  pub all : b ≡ true → AllLower (instance_of p)
  pub some : b ≡ false → ¬ AllLower (instance_of p)

pub record Showable (p : Problem) (s : Setting) (P : ℕ → ℤ) (a : Answer) : Type 0 where
  pub range : InRange p
  pub prepared : PreparedAt (span_of p) p s
  pub spanned : Spanned s.cols s.ends
  pub no-ray : NoRay (instance_of p)
  pub optimal-at : OptimalAt s P
  pub kind-is : a.kind ≡ kind.Optimal
  pub shown : ShownOptimal (instance_of p) a

pub data ShownWrites (p : Problem) (first : Bool) : ℕ → Type 0 where
  kept : ¬ AllLower (instance_of p) → ShownWrites p first 0
  placed : (s : Setting) (P : ℕ → ℤ) (n : ℕ) → AllLower (instance_of p) → PreparedAt (span_of p) p s → OptimalAt s P → PointWrites s P first n →
      ShownWrites p first n

pub record FirstShown (p : Problem) (known : Bool) (r : Placed) : Type 0 where
  pub kind-is : r.answer.kind ≡ kind.Optimal
  pub shown : ShownOptimal (instance_of p) r.answer
  pub first : ShownFirst (instance_of p) r.answer
  pub writes : ShownWrites p known r.cells
