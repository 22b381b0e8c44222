-- The changes on a lattice: on-zero, on-add, on-scale, and sums of whole amounts over a divisor (Lies, sum_lies).
--   Lies l D w v    w / D and v / D are a change on the lattice
use mathlib.Core.Path.{◌≡◌, refl, ap₂, ◌∙◌}
use Prim.Native.Nat.{ℕ, zero, suc}
use native.Mathlib.Omega.{arith}
use lib.IntN.{ℤ, pos, ◌+ℤ◌, ◌*ℤ◌}
use Rattle.arith.specs.Sum.{sum, Each}
use Rattle.arith.proofs.Integers.{split, split2, split3, split4, zed}
use Rattle.lattice.specs.declared.Lattice.{Lattice}
use Rattle.lattice.specs.Lattice.{On}

module _ (l : Lattice) where
  pub on-zero : On l (pos 0) (pos 0)
  on-zero = record { strides = pos 0; gaps = pos 0; weight_is = none l.stride; worth-is = none' l.slant l.gap }
    where
      none : (x : ℤ) → pos 0 ≡ x *ℤ pos 0
      none = split _ (λ a b. simp zed (omega arith))

      none' : (x y : ℤ) → pos 0 ≡ x *ℤ pos 0 +ℤ y *ℤ pos 0
      none' = split2 _ (λ a b c e. simp zed (omega arith))

  pub on-add : {a c a' c' : ℤ} → On l a c → On l a' c' → On l (a +ℤ a') (c +ℤ c')
  on-add o o' = record {
    strides = o.strides +ℤ o'.strides;
    gaps = o.gaps +ℤ o'.gaps;
    weight_is = ap₂ ◌+ℤ◌ o.weight_is o'.weight_is ∙ join l.stride o.strides o'.strides;
    worth-is = ap₂ ◌+ℤ◌ o.worth-is o'.worth-is ∙ deal (l.slant *ℤ o.strides) (l.gap *ℤ o.gaps) (l.slant *ℤ o'.strides) (l.gap *ℤ o'.gaps)
        ∙ ap₂ ◌+ℤ◌ (join l.slant o.strides o'.strides) (join l.gap o.gaps o'.gaps);
  }
    where
      join : (x y z : ℤ) → x *ℤ y +ℤ x *ℤ z ≡ x *ℤ (y +ℤ z)
      join = split3 _ (λ a b c e f g. simp zed (omega arith))

      deal : (x y z w : ℤ) → (x +ℤ y) +ℤ (z +ℤ w) ≡ (x +ℤ z) +ℤ (y +ℤ w)
      deal = split4 _ (λ a b c e f g h i. simp zed (omega arith))

  pub on-scale : {a c : ℤ} → On l a c → (z : ℤ) → On l (a *ℤ z) (c *ℤ z)
  on-scale o z = record {
    strides = o.strides *ℤ z;
    gaps = o.gaps *ℤ z;
    weight_is = ap₂ ◌*ℤ◌ o.weight_is refl ∙ out l.stride o.strides z;
    worth-is = ap₂ ◌*ℤ◌ o.worth-is refl ∙ spread (l.slant *ℤ o.strides) (l.gap *ℤ o.gaps) z
        ∙ ap₂ ◌+ℤ◌ (out l.slant o.strides z) (out l.gap o.gaps z);
  }
    where
      out : (x y z : ℤ) → (x *ℤ y) *ℤ z ≡ x *ℤ (y *ℤ z)
      out = split3 _ (λ a b c e f g. simp zed (omega arith))

      spread : (x y z : ℤ) → (x +ℤ y) *ℤ z ≡ x *ℤ z +ℤ y *ℤ z
      spread = split3 _ (λ a b c e f g. simp zed (omega arith))

  pub record Lies (D : ℕ) (w v : ℤ) : Type 0 where
    pub weight : ℤ
    pub worth : ℤ
    pub on : On l weight worth
    pub weight_is : w ≡ weight *ℤ pos D
    pub worth-is : v ≡ worth *ℤ pos D

  pub sum_lies : (n D : ℕ) (f g : ℕ → ℤ) → Each n (λ k. Lies D (f k) (g k)) → Lies D (sum n f) (sum n g)
  sum_lies zero D f g h = record { weight = pos 0; worth = pos 0; on = on-zero; weight_is = none; worth-is = none }
    where
      none : pos 0 ≡ pos 0 *ℤ pos D
      none = simp zed (omega arith)
  sum_lies (suc n) D f g h =
      let u = sum_lies n D f g (λ k m. h k (omega arith)) in
      let v = h n (omega arith) in
      record {
        weight = u.weight +ℤ v.weight;
        worth = u.worth +ℤ v.worth;
        on = on-add u.on v.on;
        weight_is = ap₂ ◌+ℤ◌ u.weight_is v.weight_is ∙ join u.weight v.weight;
        worth-is = ap₂ ◌+ℤ◌ u.worth-is v.worth-is ∙ join u.worth v.worth;
      }
    where
      join : (x y : ℤ) → x *ℤ pos D +ℤ y *ℤ pos D ≡ (x +ℤ y) *ℤ pos D
      join = split2 _ (λ a b c e. simp zed (omega arith))
