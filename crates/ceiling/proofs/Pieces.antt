-- An amount as a number of pieces: it is no more than there are, it weighs what the amount does, and it costs at most what the amount loses.
use mathlib.Core.Path.{◌≡◌, refl, sym, ap, ap₂, ◌∙◌}
use mathlib.Core.Bool.{Bool, true, false, cond, not}
use Prim.Native.Nat.{ℕ, zero, suc, ◌+◌, ◌*◌, ◌-◌, ◌≤◌}
use native.Mathlib.Omega.{arith}
use native.Mathlib.Nat.{le_of_mul-le-mul_right}
use lib.IntN.{ℤ, pos, negsuc, neg_ℤ, nat_abs, ◌+ℤ◌, ◌-ℤ◌, ◌*ℤ◌}
use lib.Signed.{◌≤ℤ◌, ◌<ℤ◌, lt_z}
use Rattle.arith.proofs.Integers.{split2, split3, zed, nat_abs-times}
use Rattle.arith.proofs.Words.{yes_lt, no_lt}
use Rattle.ceiling.specs.Loss.{good_end}
use Rattle.ceiling.specs.Pieces.{foot_by, size_by, span_by, heavy_by, taken_by, left_by, amount_by}

pub abs-pos : (z : ℤ) → pos 0 ≤ℤ z → z ≡ pos (nat_abs z)
abs-pos (pos n) h = refl
abs-pos (negsuc n) h = absurd h.le

neg-case : (z : ℤ) → z ≤ℤ pos 0 → z ≡ neg_ℤ (pos (nat_abs z))
neg-case (pos zero) h = refl
neg-case (pos (suc n)) h = absurd (above h)
  where
    above : pos (suc n) ≤ℤ pos 0 → ⊥
    above = simp zed (omega arith)
neg-case (negsuc n) h = refl

weak : (x y : ℤ) → x <ℤ y → x ≤ℤ y
weak = split2 _ (λ a b c e. simp zed (omega arith))

-- how far x is from the foot and from the other end, what it weighs, and what it loses
pub record Apart (E : ℕ) (a r l u x : ℤ) : Type 0 where
  pub far : ℕ
  pub rest : ℕ
  pub both : far + rest ≡ nat_abs (u -ℤ l) * E
  pub weigh : a *ℤ x -ℤ (a *ℤ foot_by a l u) *ℤ pos E ≡ pos (nat_abs a * far)
  pub lose : r *ℤ (good_end r l u *ℤ pos E -ℤ x) ≡ pos (nat_abs r * cond (heavy_by a r) rest far)
  pub even : (z : ℤ) → x ≡ z *ℤ pos E → (y : ℕ) × (far ≡ y * E)
  pub x-is : x ≡ cond (lt_z a (pos 0)) (u *ℤ pos E -ℤ pos far) (l *ℤ pos E +ℤ pos far)
  pub far-is : (f : ℕ) → x ≡ cond (lt_z a (pos 0)) (u *ℤ pos E -ℤ pos f) (l *ℤ pos E +ℤ pos f) → far ≡ f

module _ (E : ℕ) (l u x : ℤ) (low : (l *ℤ pos E) ≤ℤ x) (high : x ≤ℤ (u *ℤ pos E)) (E≥1 : 1 ≤ E) where
  d : ℕ
  d = nat_abs (x -ℤ l *ℤ pos E)

  g : ℕ
  g = nat_abs (u *ℤ pos E -ℤ x)

  w : ℕ
  w = nat_abs (u -ℤ l)

  d-is : x -ℤ l *ℤ pos E ≡ pos d
  unfolding d
  d-is = abs-pos _ (gap (l *ℤ pos E) x low)
    where
      gap : (x y : ℤ) → x ≤ℤ y → pos 0 ≤ℤ (y -ℤ x)
      gap = split2 _ (λ a b c e. simp zed (omega arith))

  g-is : u *ℤ pos E -ℤ x ≡ pos g
  unfolding g
  g-is = abs-pos _ (gap x (u *ℤ pos E) high)
    where
      gap : (x y : ℤ) → x ≤ℤ y → pos 0 ≤ℤ (y -ℤ x)
      gap = split2 _ (λ a b c e. simp zed (omega arith))

  both_is : d + g ≡ nat_abs (u -ℤ l) * E
  both_is = go (x -ℤ l *ℤ pos E) (u *ℤ pos E -ℤ x) ((u -ℤ l) *ℤ pos E) d g (nat_abs (u -ℤ l) * E) d-is g-is
      (abs-pos ((u -ℤ l) *ℤ pos E) nonneg ∙ ap pos (nat_abs-times (u -ℤ l) E)) (add x l u)
    where
      add : (x l u : ℤ) → (x -ℤ l *ℤ pos E) +ℤ (u *ℤ pos E -ℤ x) ≡ (u -ℤ l) *ℤ pos E
      add = split3 _ (λ a b c e f g. simp zed (omega arith))

      nonneg : pos 0 ≤ℤ ((u -ℤ l) *ℤ pos E)
      nonneg = n0 x l u low high
        where
          n0 : (x l u : ℤ) → (l *ℤ pos E) ≤ℤ x → x ≤ℤ (u *ℤ pos E) → pos 0 ≤ℤ ((u -ℤ l) *ℤ pos E)
          n0 = split3 _ (λ a b c e f g. simp zed (omega arith))

      go : (x y z : ℤ) (d g w : ℕ) → x ≡ pos d → y ≡ pos g → z ≡ pos w → x +ℤ y ≡ z → d + g ≡ w
      go = split3 _ (λ a b c e f h d g w. simp zed (omega arith))

  even_up : (z : ℤ) → x ≡ z *ℤ pos E → (y : ℕ) × (d ≡ y * E)
  unfolding d
  even_up z h = (nat_abs (z -ℤ l), ap (λ t. nat_abs (t -ℤ l *ℤ pos E)) h ∙ ap nat_abs (out z l) ∙ nat_abs-times (z -ℤ l) E)
    where
      out : (z l : ℤ) → z *ℤ pos E -ℤ l *ℤ pos E ≡ (z -ℤ l) *ℤ pos E
      out = split2 _ (λ a b c e. simp zed (omega arith))

  even-dn : (z : ℤ) → x ≡ z *ℤ pos E → (y : ℕ) × (g ≡ y * E)
  unfolding g
  even-dn z h = (nat_abs (u -ℤ z), ap (λ t. nat_abs (u *ℤ pos E -ℤ t)) h ∙ ap nat_abs (out u z) ∙ nat_abs-times (u -ℤ z) E)
    where
      out : (z l : ℤ) → z *ℤ pos E -ℤ l *ℤ pos E ≡ (z -ℤ l) *ℤ pos E
      out = split2 _ (λ a b c e. simp zed (omega arith))

  far-up : (f : ℕ) → x ≡ l *ℤ pos E +ℤ pos f → d ≡ f
  far-up f h = go x (l *ℤ pos E) d f d-is h
    where
      go : (x y : ℤ) (d f : ℕ) → x -ℤ y ≡ pos d → x ≡ y +ℤ pos f → d ≡ f
      go = split2 _ (λ a b c e d f. simp zed (omega arith))

  far-dn : (f : ℕ) → x ≡ u *ℤ pos E -ℤ pos f → g ≡ f
  far-dn f h = go x (u *ℤ pos E) g f g-is h
    where
      go : (x y : ℤ) (d f : ℕ) → y -ℤ x ≡ pos d → x ≡ y -ℤ pos f → d ≡ f
      go = split2 _ (λ a b c e d f. simp zed (omega arith))

  up_is : x ≡ l *ℤ pos E +ℤ pos d
  up_is = go x (l *ℤ pos E) d d-is
    where
      go : (x y : ℤ) (d : ℕ) → x -ℤ y ≡ pos d → x ≡ y +ℤ pos d
      go = split2 _ (λ a b c e d. simp zed (omega arith))

  dn-is : x ≡ u *ℤ pos E -ℤ pos g
  dn-is = go x (u *ℤ pos E) g g-is
    where
      go : (x y : ℤ) (d : ℕ) → y -ℤ x ≡ pos d → x ≡ y -ℤ pos d
      go = split2 _ (λ a b c e d. simp zed (omega arith))

  -- a weight from the lower end, and from the upper one
  weigh-up : (a : ℤ) → pos 0 ≤ℤ a → a *ℤ x -ℤ (a *ℤ l) *ℤ pos E ≡ pos (nat_abs a * d)
  weigh-up a h = out a x l ∙ ap₂ ◌*ℤ◌ (abs-pos a h) d-is
    where
      out : (a x l : ℤ) → a *ℤ x -ℤ (a *ℤ l) *ℤ pos E ≡ a *ℤ (x -ℤ l *ℤ pos E)
      out = split3 _ (λ a b c e f g. simp zed (omega arith))

  weigh-dn : (a : ℤ) → a ≤ℤ pos 0 → a *ℤ x -ℤ (a *ℤ u) *ℤ pos E ≡ pos (nat_abs a * g)
  weigh-dn a h = out a x u ∙ ap₂ (λ y z. neg_ℤ y *ℤ z) (neg-case a h) g-is ∙ twice (nat_abs a) g
    where
      out : (a x u : ℤ) → a *ℤ x -ℤ (a *ℤ u) *ℤ pos E ≡ neg_ℤ a *ℤ (u *ℤ pos E -ℤ x)
      out = split3 _ (λ a b c e f g. simp zed (omega arith))

      twice : (m n : ℕ) → neg_ℤ (neg_ℤ (pos m)) *ℤ pos n ≡ pos (m * n)
      twice m n = simp zed (omega arith)

  -- what a score loses below the upper end, and above the lower one
  lose-up : (r : ℤ) → pos 0 ≤ℤ r → r *ℤ (u *ℤ pos E -ℤ x) ≡ pos (nat_abs r * g)
  lose-up r h = ap₂ ◌*ℤ◌ (abs-pos r h) g-is

  lose-dn : (r : ℤ) → r ≤ℤ pos 0 → r *ℤ (l *ℤ pos E -ℤ x) ≡ pos (nat_abs r * d)
  lose-dn r h = out r x (l *ℤ pos E) ∙ ap₂ (λ y z. neg_ℤ y *ℤ z) (neg-case r h) d-is ∙ twice (nat_abs r) d
    where
      out : (r x l : ℤ) → r *ℤ (l -ℤ x) ≡ neg_ℤ r *ℤ (x -ℤ l)
      out = split3 _ (λ a b c e f g. simp zed (omega arith))

      twice : (m n : ℕ) → neg_ℤ (neg_ℤ (pos m)) *ℤ pos n ≡ pos (m * n)
      twice m n = simp zed (omega arith)

  pub apart : (a r : ℤ) → Apart E a r l u x
  apart a r = go (lt_z a (pos 0)) (lt_z (pos 0) r) refl refl
    where
      made : (s t : Bool) → lt_z a (pos 0) ≡ s → lt_z (pos 0) r ≡ t → (far rest : ℕ) → far + rest ≡ nat_abs (u -ℤ l) * E →
          a *ℤ x -ℤ (a *ℤ cond s u l) *ℤ pos E ≡ pos (nat_abs a * far)
          → r *ℤ (cond t u l *ℤ pos E -ℤ x) ≡ pos (nat_abs r * cond (cond s (not t) t) rest far) → ((z : ℤ) → x ≡ z *ℤ pos E → (y : ℕ) × (far ≡ y * E)) →
          x ≡ cond s (u *ℤ pos E -ℤ pos far) (l *ℤ pos E +ℤ pos far) →
          ((f : ℕ) → x ≡ cond s (u *ℤ pos E -ℤ pos f) (l *ℤ pos E +ℤ pos f) → far ≡ f) → Apart E a r l u x
      made s t es et far rest b w c v i o = record {
        far = far;
        rest = rest;
        both = b;
        weigh = rw es w;
        lose = rw (et, es) c;
        even = v;
        x-is = rw es i;
        far-is = λ f h. o f (rw es at h);
      }

      go : (s t : Bool) → lt_z a (pos 0) ≡ s → lt_z (pos 0) r ≡ t → Apart E a r l u x
      go false false es et = made false false es et d g both_is (weigh-up a (no_lt es)) (lose-dn r (no_lt et)) even_up up_is far-up
      go false true es et = made false true es et d g both_is (weigh-up a (no_lt es)) (lose-up r (weak _ _ (yes_lt et))) even_up up_is far-up
      go true false es et = made true false es et g d (omega (arith, both_is)) (weigh-dn a (weak _ _ (yes_lt es))) (lose-dn r (no_lt et)) even-dn dn-is far-dn
      go true true es et = made true true es et g d (omega (arith, both_is)) (weigh-dn a (weak _ _ (yes_lt es)))
          (lose-up r (weak _ _ (yes_lt et))) even-dn dn-is far-dn

-- an amount as a number of pieces
pub record Counted (b : Bool) (E : ℕ) (a r l u x : ℤ) : Type 0 where
  pub units : ℕ
  pub inside : units ≤ span_by b E l u
  pub weigh : pos (size_by b a * units) *ℤ pos E ≡ a *ℤ x -ℤ (a *ℤ foot_by a l u) *ℤ pos E
  pub costs : pos (taken_by b E a r * units + left_by b E a r * (span_by b E l u - units)) ≡ r *ℤ (good_end r l u *ℤ pos E -ℤ x)
  pub makes : x ≡ amount_by b E a l u units

pub count-whole : (E : ℕ) (a r l u x : ℤ) → 1 ≤ E → (z : ℤ) → x ≡ z *ℤ pos E → Apart E a r l u x → Counted false E a r l u x
count-whole E a r l u x e z h p = record {
  units = y;
  inside = fits;
  weigh = simp zed (omega (arith, far-is, ap (λ (n : ℕ). nat_abs a * n) far-is)) ∙ sym p.weigh;
  costs = ap pos (go (heavy_by a r)) ∙ sym p.lose;
  makes = p.x-is ∙ ap (λ (n : ℕ). cond (lt_z a (pos 0)) (u *ℤ pos E -ℤ pos n) (l *ℤ pos E +ℤ pos n)) far-is;
}
  where
    w : ℕ
    w = nat_abs (u -ℤ l)

    y : ℕ
    y = (p.even z h).0

    far-is : p.far ≡ y * E
    far-is = (p.even z h).1

    fits : y ≤ w
    fits = le_of_mul-le-mul_right {k = E} (omega (arith, far-is, p.both)) e

    rest-is : p.rest ≡ (w - y) * E
    rest-is = go w y E p.rest fits (omega (arith, far-is, p.both))
      where
        go : (w y E r : ℕ) → y ≤ w → y * E + r ≡ w * E → r ≡ (w - y) * E
        go w y E r h k = close (w - y) (omega arith)
          where
            close : (v : ℕ) → w ≡ y + v → r ≡ v * E
            close v i = omega (arith, ap (λ (n : ℕ). n * E) i)

    go : (v : Bool) → cond v 0 (E * nat_abs r) * y + cond v (E * nat_abs r) 0 * (w - y) ≡ nat_abs r * cond v p.rest p.far
    go true = omega (arith, ap (λ (n : ℕ). nat_abs r * n) rest-is)
    go false = omega (arith, ap (λ (n : ℕ). nat_abs r * n) far-is)

pub count_cut : (E : ℕ) (a r l u x : ℤ) → nat_abs a ≡ E → Apart E a r l u x → Counted true E a r l u x
count_cut E a r l u x h p = record {
  units = p.far;
  inside = omega (arith, p.both);
  weigh = cut-weigh (nat_abs a) E p.far h ∙ sym p.weigh;
  costs = ap pos (go (heavy_by a r)) ∙ sym p.lose;
  makes = p.x-is ∙ ap (λ (n : ℕ). cond (lt_z a (pos 0)) (u *ℤ pos E -ℤ pos n) (l *ℤ pos E +ℤ pos n)) (one p.far);
}
  where
    w : ℕ
    w = nat_abs (u -ℤ l)

    one : (n : ℕ) → n ≡ n * 1
    one n = omega arith

    cut-weigh : (m E f : ℕ) → m ≡ E → pos (1 * f) *ℤ pos E ≡ pos (m * f)
    cut-weigh m E f h = rw h (simp zed (omega arith))

    rest-is : E * w - p.far ≡ p.rest
    rest-is = omega (arith, p.both)

    go : (v : Bool) → cond v 0 (nat_abs r) * p.far + cond v (nat_abs r) 0 * (E * w - p.far) ≡ nat_abs r * cond v p.rest p.far
    go true = rw rest-is (omega arith)
    go false = omega arith
