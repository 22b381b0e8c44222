-- A filling on its way.
--   Filling c e f    where the filling is: how far, how large its numbers are, and that what is left from here is the filling
-- begin-filling, more-filling: at its begin, and after a rank that fits. filling-short, filling-through: where it ends.
use mathlib.Core.Path.{◌≡◌, refl, sym, ap, ◌∙◌}
use mathlib.Core.Bool.{Bool, true, false}
use Prim.Native.Nat.{ℕ, zero, suc, ◌+◌, ◌*◌, ◌-◌, ◌≤◌, ◌<◌}
use native.Mathlib.Omega.{arith}
use lib.Signed.{lt_z}
use lib.IntN.{ℤ, ◌*ℤ◌}
use Rattle.std.specs.Prelude.{None, Some}
use Rattle.arith.specs.Within.{Within}
use Rattle.arith.proofs.Parts.{within-add, within-sub, within_more, within-mul}
use Rattle.greedy.specs.declared.Columns.{Columns}
use Rattle.greedy.specs.declared.Ends.{Ends}
use Rattle.greedy.specs.declared.Fill.{Fill}
use Rattle.greedy.specs.Fill.{at, width, begun, raised, raised_by, raise_by, fill_from}
use Rattle.greedy.specs.Sized.{Sized}
use Rattle.greedy.proofs.Sizes.{corner-weight-within, corner-worth-within, width-within}

pub record Filling (c : Columns) (e : Ends) (f : Fill) : Type 0 where
  pub rank-in : f.at ≤ c.live
  pub room_in : Within (5000000000000 + f.at * 600000000000) f.room
  pub worth-in : Within (48000000000000 + f.at * 6000000000000) f.worth
  pub rest : fill_from c e (c.live - f.at) f ≡ fill_from c e c.live (begun c e)

-- a rank that fits, and one that does not
pub raise-fits : (f g : Fill) (a p w : ℤ) → raise_by f a p w ≡ Some g → (lt_z f.room (a *ℤ w) ≡ false) × (g ≡ raised_by f a p w)
raise-fits f g a p w h = go (lt_z f.room (a *ℤ w)) refl
  where
    go : (b : Bool) → lt_z f.room (a *ℤ w) ≡ b → (lt_z f.room (a *ℤ w) ≡ false) × (g ≡ raised_by f a p w)
    go true e = let k = rw e at h in absurd (cc)
    go false e = let k = rw e at h in (e, cc)

pub raise-stops : (f : Fill) (a p w : ℤ) → raise_by f a p w ≡ None → lt_z f.room (a *ℤ w) ≡ true
raise-stops f a p w h = go (lt_z f.room (a *ℤ w)) refl
  where
    go : (b : Bool) → lt_z f.room (a *ℤ w) ≡ b → lt_z f.room (a *ℤ w) ≡ true
    go true e = e
    go false e = let k = rw e at h in absurd (cc)

module _ (c : Columns) (e : Ends) where
  pub begin-filling : Sized c e → Filling c e (begun c e)
  begin-filling z = record {
    rank-in = omega arith;
    room_in = within_more (omega arith) (within-sub z.columns.capacity-in (corner-weight-within c e z c.count z.columns.few));
    worth-in = within_more (omega arith) (corner-worth-within c e z c.count z.columns.few);
    rest = ap (λ n. fill_from c e n (begun c e)) (omega arith);
  }

  raise-once : (n : ℕ) (f : Fill) → lt_z f.room (at c.size f.at *ℤ width c e f.at) ≡ false → fill_from c e (suc n) f ≡ fill_from c e n (raised c e f)
  unfolding fill_from
  raise-once n f h = rw h

  stop-once : (n : ℕ) (f : Fill) → lt_z f.room (at c.size f.at *ℤ width c e f.at) ≡ true → fill_from c e n f ≡ f
  unfolding fill_from
  stop-once zero f h = refl
  stop-once (suc n) f h = rw h

  -- one turn of what is left
  raise-left : (f : Fill) → f.at < c.live → lt_z f.room (at c.size f.at *ℤ width c e f.at) ≡ false
      → fill_from c e (c.live - f.at) f ≡ fill_from c e (c.live - (f.at + 1)) (raised c e f)
  raise-left f l h = ap (λ n. fill_from c e n f) (apart c.live f.at l) ∙ raise-once (c.live - (f.at + 1)) f h
    where
      apart : (m k : ℕ) → k < m → m - k ≡ suc (m - (k + 1))
      apart m k l = omega arith

  pub more-filling : (f g : Fill) → Sized c e → f.at < c.live → raise_by f (at c.size f.at) (at c.rate f.at) (width c e f.at) ≡ Some g
      → Filling c e f → (g.at ≡ f.at + 1) × Filling c e g
  more-filling f g z l h i =
      let r = raise-fits f g (at c.size f.at) (at c.rate f.at) (width c e f.at) h in
      rw r.1 (
        refl,
        record {
          rank-in = omega arith;
          room_in = within_more (omega arith) (within-sub i.room_in (within-mul (z.columns.sizes-in f.at) (width-within c e z f.at)));
          worth-in = within_more (omega arith) (within-add i.worth-in (within-mul (z.columns.rates-in f.at) (width-within c e z f.at)));
          rest = sym (raise-left f l r.0) ∙ i.rest;
        },
      )

  pub filling-short : (f : Fill) → raise_by f (at c.size f.at) (at c.rate f.at) (width c e f.at) ≡ None → Filling c e f
      → f ≡ fill_from c e c.live (begun c e)
  filling-short f h i = sym (stop-once (c.live - f.at) f (raise-stops f (at c.size f.at) (at c.rate f.at) (width c e f.at) h)) ∙ i.rest

  pub filling-through : (f : Fill) → c.live ≤ f.at → Filling c e f → f ≡ fill_from c e c.live (begun c e)
  unfolding fill_from
  filling-through f h i = sym (ap (λ n. fill_from c e n f) (nothing c.live f.at h)) ∙ i.rest
    where
      nothing : (m k : ℕ) → m ≤ k → m - k ≡ 0
      nothing m k h = omega arith
