-- How the code's moves carry the search on.
-- carry-here, carry-on, carry-end: the walk up the levels, as the loop has it.
--   Settles t w P S   all that the verdict w covers is settled
--   Goes t S P r      a step's end, or that the invariant holds at the new place and the measure fell
use mathlib.Core.Path.{◌≡◌, refl, ap}
use Rattle.std.specs.Prelude.{Option, None, Some}
use Prim.Native.Nat.{ℕ, zero, suc, ◌-◌, ◌≤◌, ◌<◌}
use native.Mathlib.Numerals.{sub-one}
use native.Mathlib.Omega.{arith}
use lib.IntN.{ℤ}
use Rattle.arith.specs.Sum.{Each}
use Rattle.places.specs.declared.Settled.{Settled}
use Rattle.places.specs.declared.Settled.TheVariants.{Run, Prefix}
use Rattle.places.specs.Moves.{next_value, or_else, carry, SettledIn, past_of}
use Rattle.places.proofs.Places.{Place, Order, Laws, Box, Agree, Moved, Covers, All, Leaves, Sound, carry-cong, segment-cong, past_prefix, past_run, μ}
use Rattle.places.proofs.Places.{skip-prefix, skip-run, carry-sound, run_sound, move-falls}
use Rattle.places.proofs.Places.{Run as RunOf}

-- ---- how the walk up the levels goes, as the loop has it

-- level j - 1 has a next amount v
pub carry-here : (lo hi s x : ℕ → ℤ) (j : ℕ) (v : ℤ) → 0 < j → next_value (lo (j - 1)) (hi (j - 1)) (s (j - 1)) (x (j - 1)) ≡ Some v
    → carry lo hi s x j ≡ Some (j - 1, v)
unfolding carry
carry-here lo hi s x zero v l e = absurd (omega arith)
carry-here lo hi s x (suc i) v l e = rw (sub-one (suc i)) (ap (λ o. or_else o i (carry lo hi s x i)) (rw (sub-one (suc i)) at e))

-- level j - 1 has none
pub carry-on : (lo hi s x : ℕ → ℤ) (j : ℕ) → 0 < j → next_value (lo (j - 1)) (hi (j - 1)) (s (j - 1)) (x (j - 1)) ≡ None
    → carry lo hi s x j ≡ carry lo hi s x (j - 1)
unfolding carry
carry-on lo hi s x zero l e = absurd (omega arith)
carry-on lo hi s x (suc i) l e = rw (sub-one (suc i)) (ap (λ o. or_else o i (carry lo hi s x i)) (rw (sub-one (suc i)) at e))

pub carry-end : (lo hi s x : ℕ → ℤ) → carry lo hi s x 0 ≡ None
unfolding carry
carry-end lo hi s x = refl

-- ---- the moves look at the levels of the verdict alone

pub past-cong : (w : Settled) (m : ℕ) (lo hi s s' x : ℕ → ℤ) → SettledIn m w → Each m (λ k. s k ≡ s' k) → past_of w lo hi s x ≡ past_of w lo hi s' x
past-cong (Run d) m lo hi s s' x l h = segment-cong lo hi s s' x x d (λ k o. (h k (omega arith), refl))
past-cong (Prefix n) m lo hi s s' x l h = carry-cong lo hi s s' x x n (λ k o. (h k (omega arith), refl))

-- ---- what a step does to the search's invariant

abbrev pub Settles : Order → Settled → Place → (Place → Type 0) → Type 0
Settles t (Run d) P S = (y : Place) → Box t t.m y → RunOf t d P y → S y
Settles t (Prefix n) P S = (y : Place) → Box t t.m y → Agree n P y → S y

-- where a step went from P: nowhere, or to P'
abbrev pub Goes : Order → (Place → Type 0) → Place → Option (ℕ × ℤ) → Place → Type 0
Goes t S P None P' = All t S
Goes t S P (Some q) P' = Moved t P q.0 q.1 P' → Covers t S P' × Box t t.m P' × (μ t P' < μ t P)

module _ {t : Order} (law : Laws t) (S : Place → Type 0) (P : Place) (box : Box t t.m P) (P' : Place) where
  goes : (n : ℕ) → n ≤ t.m → (o : Option (ℕ × ℤ)) → Sound t n P o → Leaves t S P o → Goes t S P o P'
  goes n l None sd lv = lv
  goes n l (Some q) sd lv = λ mv. let f = move-falls law P box n l q sd P' mv in (lv P' mv, f.0, f.1)

  pub step-goes : (w : Settled) → SettledIn t.m w → Settles t w P S → Covers t S P → Goes t S P (past_of w t.lo t.hi (t.start P) P) P'
  step-goes (Run d) l s c = goes (suc d) l (past_run t d P) (run_sound law P box d l) (skip-run law S P d l s c)
  step-goes (Prefix n) l s c = goes n l (past_prefix t n P) (carry-sound law P box n l) (skip-prefix law S P n l s c)
