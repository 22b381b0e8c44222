-- Laws of directions and of the scan.
-- direction-in: the figures of a direction are in range.
-- first_past, first-here: a loop that looks for the first ray, at a place that holds none and at one that holds one.
-- first-none, first-each: what the first ray of a row says of the row, and the row of it.
--   Tested p r      what the scan's tests say of the ray that it found
-- tested: they hold of it.  no-ray: where it found none, there is none.
use mathlib.Core.Path.{◌≡◌, refl, ap, ◌∙◌, subst}
use mathlib.Core.Bool.{Bool, true, false, cond}
use mathlib.Core.Logic.{◌⊎◌, inl, inr}
use Prim.Native.Nat.{ℕ, zero, suc, ◌+◌, ◌*◌, ◌/◌, ◌%◌, ◌<◌}
use native.Mathlib.Numerals.{add-one}
use native.Mathlib.Omega.{arith}
use native.Mathlib.Decide.{ℕ_discrete}
use lib.IntN.{ℤ, pos, nat_abs}
use lib.Signed.{◌≤ℤ◌, ◌<ℤ◌, lt_z}
use borrow.Author.Tests.{eq-eqb, ne_eqb}
use Rattle.std.specs.Prelude.{Option, None, Some}
use Rattle.arith.proofs.Integers.{nat_abs-neg, ≤ℤ-or-<}
use Rattle.arith.proofs.Parts.{impossible}
use Rattle.arith.proofs.Words.{no_lt, yes_lt, le-no, lt_yes}
use Rattle.knapsack.specs.declared.Problem.{Problem}
use Rattle.knapsack.specs.declared.Item.{Item}
use Rattle.knapsack.specs.Ranges.{item_at, ItemInRange, InRange}
use Rattle.knapsack.specs.Meaning.{instance_of}
use Rattle.knapsack.proofs.Reach.{Way, fore, aft, turn, Free, NoRay}
use Rattle.rays.specs.declared.Direction.{Direction}
use Rattle.rays.specs.declared.Ray.{Ray}
use Rattle.rays.specs.declared.Ray.TheVariants.{Single, Pair}
use Rattle.knapsack.specs.Items.{is_absent}
use Rattle.rays.specs.Directions.{way_of, stop, along, direction_of, DirectionInRange, gains, gain, pays, or_else, first, first_of, partner_at, ray_as}
use Rattle.rays.specs.Directions.{ray_from, ray_of, Directs}

-- ---- directions

pub turn-size : (w : Way) (z : ℤ) → nat_abs (turn w z) ≡ nat_abs z
turn-size fore z = refl
turn-size aft z = nat_abs-neg z

along-in : (w : Way) (i : Item) → ItemInRange i → DirectionInRange (along w i)
along-in w i h = record { weight-in = rw (turn-size w i.weight) h.weight-in; price-in = rw (turn-size w i.price) h.price-in }

pub direction-in : (p : Problem) (u : ℕ) → InRange p → u < 2 * p.count → DirectionInRange (direction_of p u)
unfolding direction_of
direction-in p u h l = along-in (way_of u) (item_at p (u / 2)) (h.items-in (u / 2) (omega arith))

-- the number of item k going a way
number : Way → ℕ → ℕ
number fore k = 2 * k
number aft k = 2 * k + 1

number_in : (w : Way) (k n : ℕ) → k < n → number w k < 2 * n
unfolding number
number_in fore k n l = omega arith
number_in aft k n l = omega arith

numbered : (p : Problem) (w : Way) (k : ℕ) → direction_of p (number w k) ≡ along w (item_at p k)
unfolding number direction_of
numbered p fore k =
    let e : 2 * k / 2 ≡ k = omega arith in
    rw (eq-eqb (2 * k % 2) 0 (omega arith), e)
numbered p aft k =
    let e : (2 * k + 1) / 2 ≡ k = omega arith in
    rw (ne_eqb ((2 * k + 1) % 2) 0 (omega arith), e)

free-yes : (w : Way) (i : Item) → Free w i → is_absent (stop w i) ≡ true
free-yes fore i h = ap is_absent h
free-yes aft i h = ap is_absent h

pub free-then : (w : Way) (i : Item) → is_absent (stop w i) ≡ true → Free w i
free-then w i h = go w (stop w i) refl h
  where
    is-absent : (b : Option ℤ) → is_absent b ≡ true → b ≡ None
    is-absent None e = refl
    is-absent (Some b) e = absurd (impossible e)

    go : (w : Way) (b : Option ℤ) → stop w i ≡ b → is_absent b ≡ true → Free w i
    go fore b e k = e ∙ is-absent b k
    go aft b e k = e ∙ is-absent b k

-- ---- the first ray

-- place k, after places that hold none
pub first_past : (k : ℕ) (f : ℕ → Option Ray) → first k f ≡ None → f k ≡ None → first (k + 1) f ≡ None
unfolding first
first_past k f h e = rw (add-one, h, e)

pub first-here : (n k : ℕ) (f : ℕ → Option Ray) (r : Ray) → k < n → first k f ≡ None → f k ≡ Some r → first n f ≡ Some r
unfolding first
first-here zero k f r l h e = absurd (omega arith)
first-here (suc n) k f r l h e = go (ℕ_discrete k n) (λ m. first-here n k f r m h e)
  where
    go : Dec (k ≡ n) → (k < n → first n f ≡ Some r) → or_else (first n f) (f n) ≡ Some r
    go (yes d) ih = rw (← d, h) e
    go (no d) ih = rw (ih (omega arith))

first-none : (n : ℕ) (f : ℕ → Option Ray) → first n f ≡ None → (k : ℕ) → k < n → f k ≡ None
unfolding first
first-none zero f h k l = absurd (omega arith)
first-none (suc n) f h k l = go (ℕ_discrete k n) (either (first n f) (f n) h) (λ e m. first-none n f e k m)
  where
    either : (r s : Option Ray) → or_else r s ≡ None → (r ≡ None) × (s ≡ None)
    either None s e = (refl, e)
    either (Some r) s e = absurd (let z : ◌≡◌ {A = ℕ} 0 1 = cc in omega arith)

    go : Dec (k ≡ n) → (first n f ≡ None) × (f n ≡ None) → (first n f ≡ None → k < n → f k ≡ None) → f k ≡ None
    go (yes d) e ih = rw d e.1
    go (no d) e ih = ih e.0 (omega arith)

first-each : (P : Option Ray → Type 0) (n : ℕ) (f : ℕ → Option Ray) → P None → ((k : ℕ) → k < n → P (f k)) → P (first n f)
unfolding first
first-each P zero f h all = h
first-each P (suc n) f h all = either (first n f) (f n) (first-each P n f h (λ k l. all k (omega arith))) (all n (omega arith))
  where
    either : (r s : Option Ray) → P r → P s → P (or_else r s)
    either None s p q = q
    either (Some r) s p q = p

-- ---- what was found

pub record Alone (p : Problem) (u : ℕ) : Type 0 where
  pub u-in : u < 2 * p.count
  pub gaining : gains (direction_of p u) ≡ true
  pub light : (direction_of p u).weight ≤ℤ pos 0

pub record Together (p : Problem) (u w : ℕ) : Type 0 where
  pub u-in : u < 2 * p.count
  pub w-in : w < 2 * p.count
  pub gaining : gains (direction_of p u) ≡ true
  pub heavy : pos 0 <ℤ (direction_of p u).weight
  pub paying : pays (direction_of p u) (direction_of p w) ≡ true

abbrev pub Tested : Problem → Option Ray → Type 0
Tested p None = Unit {0}
Tested p (Some (Single u)) = Alone p u
Tested p (Some (Pair u w)) = Together p u w

tested-from : (p : Problem) (u : ℕ) → u < 2 * p.count → Tested p (ray_from p u)
unfolding ray_from
tested-from p u l = go (gains (direction_of p u)) (lt_z (pos 0) (direction_of p u).weight) refl refl
  where
    with-one : gains (direction_of p u) ≡ true → pos 0 <ℤ (direction_of p u).weight → (w : ℕ) → w < 2 * p.count → (a : Bool)
        → pays (direction_of p u) (direction_of p w) ≡ a → Tested p (cond a (Some (Pair u w)) None)
    with-one g h w m true e = record { u-in = l; w-in = m; gaining = g; heavy = h; paying = e }
    with-one g h w m false e = tt

    go : (a b : Bool) → gains (direction_of p u) ≡ a → lt_z (pos 0) (direction_of p u).weight ≡ b
        → Tested p (cond a (cond b (first_of p (partner_at p u (direction_of p u))) (Some (Single u))) None)
    go true true g h = first-each (Tested p) (2 * p.count) (partner_at p u (direction_of p u)) tt
        (λ w m. with-one g (yes_lt h) w m (pays (direction_of p u) (direction_of p w)) refl)
    go true false g h = record { u-in = l; gaining = g; light = no_lt h }
    go false b g h = tt

pub tested : (p : Problem) → Tested p (ray_of p)
unfolding ray_of
tested p = first-each (Tested p) (2 * p.count) (ray_from p) tt (tested-from p)

pub tested-directs : (p : Problem) (r : Ray) → Tested p (Some r) → Directs p r
tested-directs p (Single u) t = t.u-in
tested-directs p (Pair u w) t = (t.u-in, t.w-in)

-- ---- where none was found

pub gains-says : (d : Direction) → gains d ≡ true → (d.free ≡ true) × (pos 0 <ℤ d.price)
unfolding gains
gains-says d h = go d.free refl h
  where
    go : (a : Bool) → d.free ≡ a → cond a (lt_z (pos 0) d.price) false ≡ true → (d.free ≡ true) × (pos 0 <ℤ d.price)
    go true e k = (e, yes_lt k)
    go false e k = absurd (impossible k)

pub pays-says : (d e : Direction) → pays d e ≡ true → (e.free ≡ true) × (e.weight <ℤ pos 0) × (pos 0 <ℤ gain d e)
unfolding pays
pays-says d e h = go e.free (lt_z e.weight (pos 0)) refl refl h
  where
    go : (a b : Bool) → e.free ≡ a → lt_z e.weight (pos 0) ≡ b → cond a (cond b (lt_z (pos 0) (gain d e)) false) false ≡ true → (e.free ≡ true)
        × (e.weight <ℤ pos 0) × (pos 0 <ℤ gain d e)
    go true true f l k = (f, yes_lt l, yes_lt k)
    go true false f l k = absurd (impossible k)
    go false b f l k = absurd (impossible k)

gains-yes : (d : Direction) → d.free ≡ true → pos 0 <ℤ d.price → gains d ≡ true
unfolding gains
gains-yes d f h = rw (f, lt_yes h)

module _ (p : Problem) (u : ℕ) (d : Direction) (h : ray_as p u d ≡ None) (free : d.free ≡ true) where
  no-gain : d.weight ≤ℤ pos 0 → d.price ≤ℤ pos 0
  no-gain light = go (≤ℤ-or-< d.price (pos 0))
    where
      found : pos 0 <ℤ d.price → ray_as p u d ≡ Some (Single u)
      found k = rw (gains-yes d free k, le-no light)

      go : (d.price ≤ℤ pos 0) ⊎ (pos 0 <ℤ d.price) → d.price ≤ℤ pos 0
      go (inl k) = k
      go (inr k) = absurd (let z : ◌≡◌ {A = ℕ} 0 1 = cc (found k) in omega arith)

  no-partner : pos 0 <ℤ d.weight → pos 0 <ℤ d.price → first_of p (partner_at p u d) ≡ None
  no-partner heavy k = rw (gains-yes d free k, lt_yes heavy) at h

no-pay : (u w : ℕ) (d e : Direction) → cond (pays d e) (Some (Pair u w)) None ≡ None → e.free ≡ true → e.weight <ℤ pos 0 → gain d e ≤ℤ pos 0
unfolding pays
no-pay u w d e h free light = go (≤ℤ-or-< (gain d e) (pos 0))
  where
    found : pos 0 <ℤ gain d e → cond (pays d e) (Some (Pair u w)) None ≡ Some (Pair u w)
    found k = rw (free, lt_yes light, lt_yes k)

    go : (gain d e ≤ℤ pos 0) ⊎ (pos 0 <ℤ gain d e) → gain d e ≤ℤ pos 0
    go (inl k) = k
    go (inr k) = absurd (let z : ◌≡◌ {A = ℕ} 0 1 = cc (found k) in omega arith)

pub no-ray : (p : Problem) → ray_of p ≡ None → NoRay (instance_of p)
unfolding ray_of ray_from
no-ray p h = record {
  one = λ k l w f. no-gain p (number w k) (along w (item_at p k)) (from w k l) (free-yes w (item_at p k) f);
  two = λ i j l m v w f g heavy worth light.
      let e = first-none (2 * p.count) _ (no-partner p (number v i) (along v (item_at p i)) (from v i l) (free-yes v (item_at p i) f) heavy worth) (number w j)
      (number_in w j p.count m) in
      no-pay (number v i) (number w j) (along v (item_at p i)) (along w (item_at p j)) (rw (numbered p w j) at e) (free-yes w (item_at p j) g) light;
}
  where
    from : (w : Way) (k : ℕ) → k < p.count → ray_as p (number w k) (along w (item_at p k)) ≡ None
    from w k l = subst (λ d. ray_as p (number w k) d ≡ None) (numbered p w k) (first-none (2 * p.count) (ray_from p) h (number w k) (number_in w k p.count l))
