-- Why a barren lattice holds nothing better: barren-true.
use mathlib.Core.Path.{◌≡◌, refl, sym, ap, ◌∙◌, subst}
use mathlib.Core.Bool.{Bool, true, false, cond}
use mathlib.Core.Logic.{◌⊎◌, inl, inr}
use Prim.Native.Nat.{ℕ, zero, suc, ◌+◌, ◌-◌, ◌<◌}
use native.Mathlib.Nat.{mul-le-mul_left}
use native.Mathlib.Omega.{arith}
use lib.IntN.{ℤ, pos, negsuc, ◌+ℤ◌, ◌-ℤ◌, ◌*ℤ◌}
use lib.Signed.{lt_z, ◌≤ℤ◌, ◌<ℤ◌}
use Rattle.arith.specs.Division.{floor_div}
use Rattle.arith.proofs.Integers.{split, split2, split3, split4, zed, ≤ℤ-trans, ≤ℤ-antisym, ≤ℤ-or-<, *ℤ-nonneg, ≤ℤ-diff, diff-≤ℤ}
use Rattle.arith.proofs.Parts.{impossible, lt-le}
use Rattle.arith.proofs.Rounding.{floor-most}
use Rattle.arith.proofs.Words.{yes_lt, no_lt}
use Rattle.lattice.specs.declared.Lattice.{Lattice}
use Rattle.lattice.specs.declared.Change.{Change}
use Rattle.lattice.specs.declared.Slope.{Slope}
use Rattle.std.specs.Prelude.{None, Some}
use Rattle.lattice.specs.Lattice.{On, Tame, Steep, height_of, highest_of, judged, lower, first_rung, verdict, barren_from, barren_by, tries}

-- a product of what is not below 0
grows : (r a s t : ℤ) → pos 0 ≤ℤ r → pos 0 ≤ℤ a → t ≤ℤ s → (r *ℤ (a *ℤ t)) ≤ℤ (r *ℤ (a *ℤ s))
grows r a s t h k m =
    diff-≤ℤ (r *ℤ (a *ℤ s)) (r *ℤ (a *ℤ t)) (subst (λ z. pos 0 ≤ℤ z) (apart r a s t) (*ℤ-nonneg (r *ℤ a) (s -ℤ t) (*ℤ-nonneg r a h k) (≤ℤ-diff s t m)))
  where
    apart : (r a s t : ℤ) → (r *ℤ a) *ℤ (s -ℤ t) ≡ r *ℤ (a *ℤ s) -ℤ r *ℤ (a *ℤ t)
    apart = split4 _ (λ a b c e f g h i. simp zed (omega arith))

module _ (l : Lattice) (t : Tame l) (up : pos 0 ≤ℤ l.stride) (f : Slope) (st : Steep f) (b : ℤ) where
  -- what the slope allows at a or below is at most the height at w
  below-height : (w a c : ℤ) → (f.rate *ℤ a) ≤ℤ (f.rate *ℤ w) → (f.size *ℤ c) ≤ℤ (f.rate *ℤ a) → c ≤ℤ height_of f w
  below-height w a c h k = floor-most (f.rate *ℤ w) f.size c st.size≥1 (≤ℤ-trans k h)

  -- a worth on the lattice that is at most h is at most the highest one
  below-highest : (s u v h : ℤ) → (l.slant *ℤ s +ℤ l.gap *ℤ v) ≤ℤ h → (l.slant *ℤ s +ℤ l.gap *ℤ v) ≤ℤ highest_of l (l.slant *ℤ s +ℤ l.gap *ℤ u) h
  below-highest s u v h k =
      let base = l.slant *ℤ s +ℤ l.gap *ℤ u in
      let q = floor-most (h -ℤ base) l.gap (v -ℤ u) t.gap≥1 (take (l.slant *ℤ s) l.gap u v h k) in
      subst (λ z. z ≤ℤ highest_of l base h) (put (l.slant *ℤ s) l.gap u v)
      (raise base l.gap (v -ℤ u) (floor_div (h -ℤ base) l.gap) (lt-le t.gap≥1) q)
    where
      take : (x g u v h : ℤ) → (x +ℤ g *ℤ v) ≤ℤ h → (g *ℤ (v -ℤ u)) ≤ℤ (h -ℤ (x +ℤ g *ℤ u))
      take x g u v h k = subst (λ z. z ≤ℤ (h -ℤ (x +ℤ g *ℤ u))) (sym (deal x g u v)) (less (x +ℤ g *ℤ v) h (x +ℤ g *ℤ u) k)
        where
          deal : (x g u v : ℤ) → g *ℤ (v -ℤ u) ≡ (x +ℤ g *ℤ v) -ℤ (x +ℤ g *ℤ u)
          deal = split4 _ (λ a b c e f g h i. simp zed (omega arith))

          less : (y h z : ℤ) → y ≤ℤ h → (y -ℤ z) ≤ℤ (h -ℤ z)
          less = split3 _ (λ a b c e f g. simp zed (omega arith))

      put : (x g u v : ℤ) → (x +ℤ g *ℤ u) +ℤ g *ℤ (v -ℤ u) ≡ x +ℤ g *ℤ v
      put = split4 _ (λ a b c e f g h i. simp zed (omega arith))

      raise : (y g p q : ℤ) → pos 0 ≤ℤ g → p ≤ℤ q → (y +ℤ g *ℤ p) ≤ℤ (y +ℤ g *ℤ q)
      raise y g p q h k = add y (g *ℤ p) (g *ℤ q) (times g p q h k)
        where
          add : (y u v : ℤ) → u ≤ℤ v → (y +ℤ u) ≤ℤ (y +ℤ v)
          add = split3 _ (λ a b c e f g. simp zed (omega arith))

          times : (g p q : ℤ) → pos 0 ≤ℤ g → p ≤ℤ q → (g *ℤ p) ≤ℤ (g *ℤ q)
          times (pos n) p q h k = often p q k
            where
              often : (p q : ℤ) → p ≤ℤ q → (pos n *ℤ p) ≤ℤ (pos n *ℤ q)
              often = split2 _ (λ a b c e. simp zed (λ k. omega (arith, mul-le-mul_left n k)))
          times (negsuc n) p q h k = absurd h.le

  at_most : (x y : ℤ) → x ≤ℤ y → (f.worth +ℤ y) ≤ℤ b → (f.worth +ℤ x) ≤ℤ b
  at_most x y h k = go f.worth x y b h k
    where
      go : (w x y b : ℤ) → x ≤ℤ y → (w +ℤ y) ≤ℤ b → (w +ℤ x) ≤ℤ b
      go = split4 _ (λ a b c e f g h i. simp zed (omega arith))

  -- from r on down, nothing above b
  pub descended : (n : ℕ) (r : Change) (o : On l r.weight r.worth) → barren_from n l f b r ≡ true → (a c : ℤ) (q : On l a c) → q.strides ≤ℤ o.strides
      → (f.size *ℤ c) ≤ℤ (f.rate *ℤ a) → (f.worth +ℤ c) ≤ℤ b
  unfolding barren_from judged
  descended zero r o h a c q m k = absurd (impossible h)
  descended (suc n) r o h a c q m k =
      go (lt_z b (f.worth +ℤ height_of f r.weight)) refl (lt_z b (f.worth +ℤ highest_of l r.worth (height_of f r.weight))) refl h
      (λ o' h' m'. descended n (lower l r) o' h' a c q m' k)
    where
      higher : (f.rate *ℤ a) ≤ℤ (f.rate *ℤ r.weight)
      higher = rw (q.weight_is, o.weight_is) (grows f.rate l.stride o.strides q.strides st.rate≥0 up m)

      allowed : c ≤ℤ height_of f r.weight
      allowed = below-height r.weight a c higher k

      -- at r itself
      here : q.strides ≡ o.strides → c ≤ℤ highest_of l r.worth (height_of f r.weight)
      here e =
          let w : c ≡ l.slant *ℤ o.strides +ℤ l.gap *ℤ q.gaps = q.worth-is ∙ ap (λ z. l.slant *ℤ z +ℤ l.gap *ℤ q.gaps) e in
          subst (λ z. z ≤ℤ highest_of l r.worth (height_of f r.weight)) (sym w)
          (subst (λ z. (l.slant *ℤ o.strides +ℤ l.gap *ℤ q.gaps) ≤ℤ highest_of l z (height_of f r.weight)) (sym o.worth-is)
          (below-highest o.strides o.gaps q.gaps (height_of f r.weight) (subst (λ z. z ≤ℤ height_of f r.weight) w allowed)))

      next : On l (lower l r).weight (lower l r).worth
      next = record {
        strides = o.strides -ℤ pos 1;
        gaps = o.gaps;
        weight_is = ap (λ z. z -ℤ l.stride) o.weight_is ∙ one l.stride o.strides;
        worth-is = ap (λ z. z -ℤ l.slant) o.worth-is ∙ one' l.slant o.strides (l.gap *ℤ o.gaps);
      }
        where
          one : (x y : ℤ) → x *ℤ y -ℤ x ≡ x *ℤ (y -ℤ pos 1)
          one = split2 _ (λ a b c e. simp zed (omega arith))

          one' : (x y z : ℤ) → (x *ℤ y +ℤ z) -ℤ x ≡ x *ℤ (y -ℤ pos 1) +ℤ z
          one' = split3 _ (λ a b c e f g. simp zed (omega arith))

      lesser : (x y : ℤ) → x <ℤ y → x ≤ℤ (y -ℤ pos 1)
      lesser = split2 _ (λ a b c e. simp zed (omega arith))

      go : (t : Bool) → lt_z b (f.worth +ℤ height_of f r.weight) ≡ t → (v : Bool) → lt_z b (f.worth +ℤ highest_of l r.worth (height_of f r.weight)) ≡ v
          → verdict (cond t (cond v (Some false) None) (Some true)) (barren_from n l f b (lower l r)) ≡ true
          → ((o' : On l (lower l r).weight (lower l r).worth) → barren_from n l f b (lower l r) ≡ true → q.strides ≤ℤ o'.strides → (f.worth +ℤ c) ≤ℤ b)
          → (f.worth +ℤ c) ≤ℤ b
      go false e v e' h ih = at_most c (height_of f r.weight) allowed (no_lt e)
      go true e true e' h ih = absurd (impossible h)
      go true e false e' h ih = split_at (≤ℤ-or-< o.strides q.strides)
        where
          split_at : (o.strides ≤ℤ q.strides) ⊎ (q.strides <ℤ o.strides) → (f.worth +ℤ c) ≤ℤ b
          split_at (inl g) = at_most c (highest_of l r.worth (height_of f r.weight)) (here (≤ℤ-antisym m g)) (no_lt e')
          split_at (inr g) = ih next h (lesser q.strides o.strides g)

-- the first rung is on the lattice, at the most strides that the room allows
module _ (l : Lattice) (room : ℤ) where
  first_on : On l (first_rung l room).weight (first_rung l room).worth
  first_on = record {
    strides = floor_div room l.stride;
    gaps = pos 0 -ℤ l.slant *ℤ floor_div (floor_div room l.stride) l.gap;
    weight_is = refl;
    worth-is = deal l.slant (floor_div room l.stride) l.gap (floor_div (floor_div room l.stride) l.gap);
  }
    where
      deal : (x s g q : ℤ) → x *ℤ (s -ℤ g *ℤ q) ≡ x *ℤ s +ℤ g *ℤ (pos 0 -ℤ x *ℤ q)
      deal = split4 _ (λ a b c e f g h i. simp zed (omega arith))

  -- nothing on the lattice within the room and the slope is above b
  pub barren-true : Tame l → (f : Slope) → Steep f → (b : ℤ) → barren_by l f room b ≡ true → (a c : ℤ) → On l a c → a ≤ℤ room → (f.size *ℤ c) ≤ℤ (f.rate *ℤ a)
      → (f.worth +ℤ c) ≤ℤ b
  unfolding barren_by first_on
  barren-true t f st b h a c q m k = go (lt_z (pos 0) l.stride) refl h
    where
      go : (v : Bool) → lt_z (pos 0) l.stride ≡ v → cond v (barren_from tries l f b (first_rung l room)) false ≡ true → (f.worth +ℤ c) ≤ℤ b
      go false e h = absurd (impossible h)
      go true e h = descended l t (lt-le (yes_lt e)) f st b tries (first_rung l room) first_on h a c q
          (floor-most room l.stride q.strides (yes_lt e) (subst (λ z. z ≤ℤ room) q.weight_is m)) k

-- the whole descent, where something is known
pub whole : (l : Lattice) (f : Slope) (room b : ℤ) → lt_z (pos 0) l.stride ≡ true → barren_by l f room b ≡ barren_from tries l f b (first_rung l room)
unfolding barren_by
whole l f room b h = rw h

-- a rung, where k are passed, and what is below it
pub rung : (k : ℕ) (l : Lattice) (f : Slope) (b : ℤ) (r : Change) → k < tries
    → barren_from (tries - k) l f b r ≡ verdict (judged l f b r) (barren_from (tries - (k + 1)) l f b (lower l r))
unfolding barren_from
rung k l f b r h = ap (λ n. barren_from n l f b r) one
  where
    one : tries - k ≡ suc (tries - (k + 1))
    one = omega arith

-- only a lattice that is known is barren
pub known : (l : Lattice) (f : Slope) (room b : ℤ) → barren_by l f room b ≡ true → l.stride ≡ pos 0 → ⊥
unfolding barren_by
known l f room b h z = go (lt_z (pos 0) l.stride) refl h
  where
    above : (x : ℤ) → pos 0 <ℤ x → x ≡ pos 0 → ⊥
    above = split _ (λ a b. simp zed (omega arith))

    go : (v : Bool) → lt_z (pos 0) l.stride ≡ v → cond v (barren_from tries l f b (first_rung l room)) false ≡ true → ⊥
    go true e h = above l.stride (yes_lt e) z
    go false e h = impossible h
