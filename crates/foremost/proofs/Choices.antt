-- The first best point of a box by its fillings: one for each choice of the integer amounts.
--   Choice c e marks f       the ends f fix every integer item within the ends e, and leave the continuous items'
-- completion-choice: every feasible point has one, its completion.
-- foremost-of-choices: a feasible point that leads every filling with room is the first best point of the box.
use mathlib.Core.Path.{◌≡◌}
use Prim.Native.Nat.{ℕ, ◌≤◌, ◌<◌}
use lib.IntN.{ℤ, pos}
use lib.Signed.{◌≤ℤ◌}
use Rattle.greedy.specs.declared.Columns.{Columns}
use Rattle.greedy.specs.declared.Ends.{Ends}
use Rattle.greedy.specs.Fill.{at, fill}
use Rattle.greedy.proofs.Relaxed.{box_of, InOrder}
use Rattle.knapsack.proofs.Common.{valueᴰ, Feasibleᴰ}
use Rattle.knapsack.specs.declared.Mark.{Mark}
use Rattle.knapsack.specs.declared.Mark.TheVariants.{Integer, Continuous}
use Rattle.foremost.proofs.Foremost.{Foremostᴰ}
use Rattle.foremost.proofs.Leads.{Leads, leads-trans, leads-foremost}
use Rattle.foremost.specs.Tied.{Tied}
use Rattle.foremost.proofs.Filling.{parts, filling}
use Rattle.foremost.proofs.Covering.{Completion, covering, pin-low, pin-high, pin-loose}

pub record Choice (c : Columns) (e : Ends) (marks : ℕ → Mark) (f : Ends) : Type 0 where
  pub fixed : (k : ℕ) → k < c.count → marks k ≡ Integer → at f.lo k ≡ at f.hi k
  pub low : (k : ℕ) → k < c.count → at e.lo k ≤ℤ at f.lo k
  pub high : (k : ℕ) → k < c.count → at f.hi k ≤ℤ at e.hi k
  pub loose : (k : ℕ) → k < c.count → marks k ≡ Continuous → (at f.lo k ≡ at e.lo k) × (at f.hi k ≡ at e.hi k)

-- the ends of a completion are a choice
pub completion-choice : (c : Columns) (e : Ends) (marks : ℕ → Mark) (D : ℕ) (N : ℕ → ℤ) → 1 ≤ D → Feasibleᴰ (box_of c e marks) D N
    → (v : Completion c e marks D N) → Choice c e marks v.ends
completion-choice c e marks D N d q v = record {
  fixed = v.settled;
  low = λ k l. pin-low D d (v.pinned k l) (q.keeps k l).above;
  high = λ k l. pin-high D d (v.pinned k l) (q.keeps k l).below;
  loose = λ k l m. pin-loose (v.pinned k l) m;
}

module _ (c : Columns) (e : Ends) (marks : ℕ → Mark) (o : Tied c) (b : InOrder c e) (F : ℕ) (F≥1 : 1 ≤ F) (Z : ℕ → ℤ) (p : Feasibleᴰ (box_of c e marks) F Z)
    (leads : (f : Ends) → Choice c e marks f → pos 0 ≤ℤ (fill c f).room → Leads (valueᴰ (box_of c e marks)) c.count F Z (parts c f) (filling c f)) where
  pub foremost-of-choices : Foremostᴰ (box_of c e marks) F Z
  foremost-of-choices = leads-foremost (box_of c e marks) F Z p (λ D N d q. by D N d q (covering c e marks o b D d N q))
    where
      by : (D : ℕ) (N : ℕ → ℤ) → 1 ≤ D → Feasibleᴰ (box_of c e marks) D N → Completion c e marks D N → Leads (valueᴰ (box_of c e marks)) c.count F Z D N
      by D N d q v = leads-trans (valueᴰ (box_of c e marks)) c.count (filling c v.ends) N Z d v.divisor F≥1
          (leads v.ends (completion-choice c e marks D N d q v) v.room) v.leads
