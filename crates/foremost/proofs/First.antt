-- The planner's first best point. End theorems: first-point, first-is-foremost, tied-closes.
--   Closes R s c e marks   the box of the columns c and the ends e is s with item k's absent bounds at ±R k
--   FirstAt s c e marks f  the filling of f is the first best point of s, within the box, and worth its bound
-- tied-closes: putting the columns into the order of Tied leaves the box.
-- first-point: where s has no ray and every lower bound is present, the first best point of the box is that of s.
-- first-is-foremost: so what shows it is Optimal and Foremost.
use mathlib.Core.Path.{◌≡◌, sym, ◌∙◌, subst}
use mathlib.Core.Logic.{◌↔◌}
use mathlib.Core.List.{List}
use Prim.Native.Nat.{ℕ, ◌≤◌, ◌<◌}
use lib.IntN.{ℤ, pos}
use lib.Signed.{◌≤ℤ◌}
use Rattle.arith.proofs.Mixes.{over}
use Rattle.greedy.specs.declared.Columns.{Columns}
use Rattle.greedy.specs.declared.Ends.{Ends}
use Rattle.greedy.specs.Fill.{at, fill, bound}
use Rattle.greedy.proofs.Relaxed.{box_of, InOrder}
use Rattle.knapsack.proofs.Bridge.{Reads}
use Rattle.knapsack.proofs.Common.{valueᴰ, Feasibleᴰ}
use Rattle.knapsack.proofs.Reach.{NoRay, RangesAt, Reaches, shut_at}
use Rattle.knapsack.specs.Meaning.{Instance, Point, Optimal, Foremost, AllLower}
use Rattle.std.specs.Prelude.{Some}
use Rattle.knapsack.specs.declared.Mark.{Mark}
use Rattle.foremost.specs.Order.{TiedOf}
use Rattle.foremost.specs.Tied.{Tied, Rated}
use Rattle.foremost.proofs.Foremost.{Foremostᴰ, foremost-alike}
use Rattle.foremost.proofs.Shut.{reach-foremost}
use Rattle.foremost.proofs.Filling.{parts, filling}
use Rattle.foremost.proofs.Worth.{filling-worth}
use Rattle.foremost.proofs.Choices.{Choice}
use Rattle.foremost.proofs.Frames.{choice-parts}
use Rattle.foremost.proofs.Points.{bridge-foremost}

pub record Closes (R : ℕ → ℕ) (s : Instance) (c : Columns) (e : Ends) (marks : ℕ → Mark) : Type 0 where
  pub order : InOrder c e
  pub count : c.count ≡ s.count
  pub same : (D : ℕ) (N : ℕ → ℤ) → (Feasibleᴰ (box_of c e marks) D N ↔ Feasibleᴰ (shut_at R s) D N) × (valueᴰ (box_of c e marks) N ≡ valueᴰ (shut_at R s) N)

pub record FirstAt (s : Instance) (c : Columns) (e : Ends) (marks : ℕ → Mark) (f : Ends) : Type 0 where
  pub divisor : 1 ≤ parts c f
  pub room : pos 0 ≤ℤ (fill c f).room
  pub foremost : Foremostᴰ s (parts c f) (filling c f)
  pub inside : Feasibleᴰ (box_of c e marks) (parts c f) (filling c f)
  pub worth : valueᴰ s (filling c f) ≡ over (bound c (fill c f))

-- ---- the order of filling plays no part in what the box is

pub tied-box : (c r : Columns) (e : Ends) (marks : ℕ → Mark) → TiedOf c r → box_of r e marks ≡ box_of c e marks
tied-box c r e marks t = go r.weight r.price r.count r.capacity t.weight t.price t.count t.capacity
  where
    box_by : List ℤ → List ℤ → ℕ → ℤ → Instance
    box_by w p n b = record {
      capacity = b;
      count = n;
      item = λ k. record { mark = marks k; weight = at w k; price = at p k; lower = Some (at e.lo k); upper = Some (at e.hi k) };
    }

    go : (w p : List ℤ) (n : ℕ) (b : ℤ) → w ≡ c.weight → p ≡ c.price → n ≡ c.count → b ≡ c.capacity
        → box_by w p n b ≡ box_by c.weight c.price c.count c.capacity
    go w p n b hw hp hn hb = cc

pub tied-closes : {R : ℕ → ℕ} (s : Instance) (c r : Columns) (e : Ends) (marks : ℕ → Mark) → TiedOf c r → Closes R s c e marks → Closes R s r e marks
tied-closes {R} s c r e marks t h = record {
  order = λ k l. h.order k (subst (λ n. k < n) t.count l);
  count = t.count ∙ h.count;
  same = λ D N. subst (λ b. (Feasibleᴰ b D N ↔ Feasibleᴰ (shut_at R s) D N) × (valueᴰ b N ≡ valueᴰ (shut_at R s) N)) (sym (tied-box c r e marks t)) (h.same D N);
}

-- ---- the theorem

module _ {A : ℕ} {B : ℕ → ℕ} {C : ℕ} {R : ℕ → ℕ} (s : Instance) (g : RangesAt A B C s) (reach : Reaches A B C s R) (nr : NoRay s) (low : AllLower s)
    (c : Columns) (e : Ends) (marks : ℕ → Mark) (o : Tied c) (rated : Rated c) (h : Closes R s c e marks) (f : Ends) (ch : Choice c e marks f)
    (has_room : pos 0 ≤ℤ (fill c f).room) (in-box : Foremostᴰ (box_of c e marks) (parts c f) (filling c f)) where
  some-parts : 1 ≤ parts c f
  some-parts = choice-parts c e marks h.order f ch o has_room

  pub first-point : FirstAt s c e marks f
  first-point = record {
    divisor = some-parts;
    room = has_room;
    foremost = reach-foremost s g reach nr low (parts c f) some-parts (filling c f)
        (foremost-alike (box_of c e marks) (shut_at R s) h.count (λ D N. (h.same D N).0.0) (λ D N. (h.same D N).0.1) (λ N. (h.same 1 N).1) (parts c f)
        (filling c f) in-box);
    inside = in-box.optimal.feasible;
    worth = sym (h.same 1 (filling c f)).1 ∙ filling-worth c f marks o rated has_room;
  }

pub first-is-foremost : (s : Instance) (c : Columns) (e : Ends) (marks : ℕ → Mark) (f : Ends) → FirstAt s c e marks f
    → (x : Point) → Reads s (parts c f) x (filling c f) → Optimal s x × Foremost s x
first-is-foremost s c e marks f h x r = bridge-foremost s (parts c f) x (filling c f) h.divisor r h.foremost
