-- Where levels start, and the order of places that follows.
--   order_of s        the order of places
-- start-in: a start lies within its level's ends. start-cong: it hangs on the levels above alone.
-- order-laws: what the order of places asks of starts.
use mathlib.Core.Path.{◌≡◌, ap, subst}
use Prim.Native.Nat.{ℕ, ◌<◌}
use native.Mathlib.Omega.{arith}
use lib.IntN.{ℤ}
use lib.Signed.{◌≤ℤ◌}
use Rattle.arith.specs.Sum.{Each}
use Rattle.knapsack.specs.declared.Mark.TheVariants.{Integer}
use Rattle.foremost.proofs.Slope.{tied-start}
use Rattle.greedy.specs.declared.Ends.{Ends}
use Rattle.greedy.specs.Fill.{at, fill, start}
use Rattle.places.proofs.Places.{Order, Laws}
use Rattle.setting.specs.declared.Setting.{Setting}
use Rattle.setting.specs.Box.{level_at, fixed_by, Long}
use Rattle.search.specs.Tying.{ReadyTied}
use Rattle.setting.proofs.Boxes.{fixed-cong}
use Rattle.search.specs.Search.{start_by}
use Rattle.search.proofs.Boxes.{own_tied, own_in, fixed-order, fixed-own}

abbrev pub order_of : Setting → Order
order_of s = record { m = s.levels; lo = at s.low; hi = at s.high; start = start_by s }

module _ (s : Setting) (r : ReadyTied s) (long : Long s.ends) where
  pub start-in : (P : ℕ → ℤ) (d : ℕ) → d < s.levels → (at s.low d ≤ℤ start_by s P d) × (start_by s P d ≤ℤ at s.high d)
  unfolding start_by
  start-in P d l =
      let h = tied-start s.cols (fixed_by s P d) (λ k. Integer) (own_tied s r) (fixed-order s r long P d (omega arith)) (level_at s d) (own_in s r d l) in
      let own = fixed-own s r long P d l in (
        subst (λ z. z ≤ℤ start s.cols (fixed_by s P d) (fill s.cols (fixed_by s P d)) (level_at s d)) own.0 h.0,
        subst (λ z. start s.cols (fixed_by s P d) (fill s.cols (fixed_by s P d)) (level_at s d) ≤ℤ z) own.1 h.1,
      )

pub start-cong : (s : Setting) (P Q : ℕ → ℤ) (d : ℕ) → Each d (λ k. P k ≡ Q k) → start_by s P d ≡ start_by s Q d
unfolding start_by
start-cong s P Q d h = ap (λ (e : Ends). start s.cols e (fill s.cols e) (level_at s d)) (fixed-cong s P Q d h)

pub order-laws : (s : Setting) → ReadyTied s → Long s.ends → Laws (order_of s)
order-laws s r long = record { by-prefix = λ P Q d h. start-cong s P Q d h; inside = λ P d l b. start-in s r long P d l }
