-- Leaders by their losses. A point X / E loses (T · E - q · value X) / E, of some T for a price in parts of q: the less it loses, the more it is worth.
--   loss_by T q v E X       what X / E loses, times E
--   LosesJust .. n d E X   X / E loses just n / d;  LosesMore .. n d E X: that or more
-- loses-worth: of two points the one that loses just n / d is worth no less than one that loses that or more.  loses-as-much: if no more, both lose as much.
-- loss-leads: End theorem. A point that loses just n / d leads a frame of points that lose that or more, if it comes after none that loses as much.
-- loss-none: End theorem. It leads a frame of points that lose more.
use mathlib.Core.Path.{◌≡◌, sym, ap, ◌∙◌, subst}
use Prim.Native.Nat.{ℕ, ◌*◌, ◌≤◌}
use native.Mathlib.Omega.{arith}
use native.Mathlib.Nat.{mul-le-mul, mul-le-mul_right}
use lib.IntN.{ℤ, pos, ◌-ℤ◌, ◌*ℤ◌}
use lib.Signed.{◌≤ℤ◌}
use Rattle.arith.proofs.Integers.{split, split2, split3, zed, ≤ℤ-antisym, times-≤, times-≤-back}
use Rattle.greedy.specs.declared.Columns.{Columns}
use Rattle.greedy.specs.declared.Ends.{Ends}
use Rattle.greedy.proofs.Relaxed.{box_of}
use Rattle.knapsack.proofs.Common.{valueᴰ}
use Rattle.knapsack.specs.declared.Mark.{Mark}
use Rattle.foremost.proofs.Earlier.{NoLater}
use Rattle.foremost.proofs.Frames.{FramePoint, scale_at, LeadsFrame}

abbrev pub loss_by : ℤ → ℕ → ((ℕ → ℤ) → ℤ) → ℕ → (ℕ → ℤ) → ℤ
loss_by T q v E X = T *ℤ pos E -ℤ pos q *ℤ v X

abbrev pub LosesJust : ℤ → ℕ → ((ℕ → ℤ) → ℤ) → ℕ → ℕ → ℕ → (ℕ → ℤ) → Type 0
LosesJust T q v n d E X = pos d *ℤ loss_by T q v E X ≡ pos n *ℤ pos E

abbrev pub LosesMore : ℤ → ℕ → ((ℕ → ℤ) → ℤ) → ℕ → ℕ → ℕ → (ℕ → ℤ) → Type 0
LosesMore T q v n d E X = (pos n *ℤ pos E) ≤ℤ (pos d *ℤ loss_by T q v E X)

-- d times the loss, by d · T and d · q times the value
apart : (d q E : ℕ) (T x : ℤ) → pos d *ℤ (T *ℤ pos E -ℤ pos q *ℤ x) ≡ (pos d *ℤ T) *ℤ pos E -ℤ pos (d * q) *ℤ x
apart d q E = split2 _ (λ a b c e. simp zed (omega arith))

-- x F ≤ z E, from what X = d q x and Z = d q z lose of P = d T
no_more : (n E F : ℕ) (P X Z : ℤ) → (pos n *ℤ pos E) ≤ℤ (P *ℤ pos E -ℤ X) → P *ℤ pos F -ℤ Z ≡ pos n *ℤ pos F → (X *ℤ pos F) ≤ℤ (Z *ℤ pos E)
no_more n E F = split3 _ (λ a b c e f g. simp zed (λ h k. omega (arith, mul-le-mul_right F h, ap (λ (m : ℕ). m * E) k)))

as-much : (n E F : ℕ) (P X Z : ℤ) → 1 ≤ F → (Z *ℤ pos E) ≤ℤ (X *ℤ pos F) → P *ℤ pos F -ℤ Z ≡ pos n *ℤ pos F → (P *ℤ pos E -ℤ X) ≤ℤ (pos n *ℤ pos E)
as-much n E F P X Z f h k = times-≤-back F (P *ℤ pos E -ℤ X) (pos n *ℤ pos E) f (go n E F P X Z h k)
  where
    go : (n E F : ℕ) (P X Z : ℤ) → (Z *ℤ pos E) ≤ℤ (X *ℤ pos F) → P *ℤ pos F -ℤ Z ≡ pos n *ℤ pos F → ((P *ℤ pos E -ℤ X) *ℤ pos F) ≤ℤ ((pos n *ℤ pos E) *ℤ pos F)
    go n E F = split3 _ (λ a b c e f g. simp zed (λ h k. omega (arith, ap (λ (m : ℕ). m * E) k)))

scaled : (m D : ℕ) (x : ℤ) → (pos m *ℤ x) *ℤ pos D ≡ (x *ℤ pos D) *ℤ pos m
scaled m D = split _ (λ a b. simp zed (omega arith))

module _ (T : ℤ) (q : ℕ) (v : (ℕ → ℤ) → ℤ) (n d : ℕ) (q≥1 : 1 ≤ q) (d≥1 : 1 ≤ d) (F E : ℕ) (Z X : ℕ → ℤ) (just : LosesJust T q v n d F Z) where
  just-is : (pos d *ℤ T) *ℤ pos F -ℤ pos (d * q) *ℤ v Z ≡ pos n *ℤ pos F
  just-is = sym (apart d q F T (v Z)) ∙ just

  pub loses-worth : LosesMore T q v n d E X → (v X *ℤ pos F) ≤ℤ (v Z *ℤ pos E)
  loses-worth h = times-≤-back (d * q) (v X *ℤ pos F) (v Z *ℤ pos E) (mul-le-mul d≥1 q≥1)
      (subst (λ y. y ≤ℤ ((v Z *ℤ pos E) *ℤ pos (d * q))) (scaled (d * q) F (v X))
      (subst (λ y. ((pos (d * q) *ℤ v X) *ℤ pos F) ≤ℤ y) (scaled (d * q) E (v Z))
      (no_more n E F (pos d *ℤ T) (pos (d * q) *ℤ v X) (pos (d * q) *ℤ v Z) (subst (λ y. (pos n *ℤ pos E) ≤ℤ y) (apart d q E T (v X)) h) just-is)))

  pub loses-as-much : 1 ≤ F → LosesMore T q v n d E X → (v Z *ℤ pos E) ≤ℤ (v X *ℤ pos F) → LosesJust T q v n d E X
  loses-as-much f h m = ≤ℤ-antisym
      (subst (λ y. y ≤ℤ (pos n *ℤ pos E)) (sym (apart d q E T (v X))) (as-much n E F (pos d *ℤ T) (pos (d * q) *ℤ v X) (pos (d * q) *ℤ v Z) f
      (subst (λ y. y ≤ℤ ((pos (d * q) *ℤ v X) *ℤ pos F)) (sym (scaled (d * q) E (v Z)))
      (subst (λ y. ((v Z *ℤ pos E) *ℤ pos (d * q)) ≤ℤ y) (sym (scaled (d * q) F (v X))) (times-≤ (d * q) _ _ m)))
      just-is)) h

-- ---- frames

module _ (c : Columns) (e : Ends) (marks : ℕ → Mark) (T : ℤ) (q n d : ℕ) (q≥1 : 1 ≤ q) (d≥1 : 1 ≤ d) (F : ℕ) (Z : ℕ → ℤ) (F≥1 : 1 ≤ F)
    (just : LosesJust T q (valueᴰ (box_of c e marks)) n d F Z) (t : ℕ)
    (bound : (X : ℕ → ℤ) → FramePoint c e marks t X → LosesMore T q (valueᴰ (box_of c e marks)) n d (scale_at c t) X) where
  pub loss-leads : ((X : ℕ → ℤ) → FramePoint c e marks t X → LosesJust T q (valueᴰ (box_of c e marks)) n d (scale_at c t) X
      → NoLater c.count F Z (scale_at c t) X) → LeadsFrame c e marks F Z t
  loss-leads h X p = record {
    worth = loses-worth T q (valueᴰ (box_of c e marks)) n d q≥1 d≥1 F (scale_at c t) Z X just (bound X p);
    sooner = λ m. h X p (loses-as-much T q (valueᴰ (box_of c e marks)) n d q≥1 d≥1 F (scale_at c t) Z X just F≥1 (bound X p) m);
  }

  pub loss-none : ((X : ℕ → ℤ) → FramePoint c e marks t X → LosesJust T q (valueᴰ (box_of c e marks)) n d (scale_at c t) X → ⊥) → LeadsFrame c e marks F Z t
  loss-none h = loss-leads (λ X p k. absurd (h X p k))
