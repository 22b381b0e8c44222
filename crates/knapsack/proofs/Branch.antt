-- Branch and bound: how "no feasible point is worth more than W / E" is put together.
use mathlib.Core.Path.{◌≡◌, refl, sym, subst, subst₂}
use mathlib.Core.Logic.{◌⊎◌, inl, inr, ⊎_elim}
use Prim.Native.Nat.{ℕ, ◌*◌, ◌≤◌, ◌<◌}
use native.Mathlib.Omega.{arith}
use native.Mathlib.Nat.{mul-le-mul, mul-le-mul_left, mul-le-mul_right, le_of_mul-le-mul_right}
use native.Mathlib.Decide.{ℕ_discrete}
use lib.IntN.{ℤ, pos, neg_ℤ, ◌+ℤ◌, ◌*ℤ◌}
use lib.Signed.{◌≤ℤ◌, ◌<ℤ◌}
use Rattle.arith.proofs.Integers.{split, split2, split3, zed, ≤ℤ-or-<, times-≤, times-≤-back}
use Rattle.arith.proofs.Sums.{pick_ind, sum_mono, sum-times}
use Rattle.arith.specs.Sum.{Each, pick}
use Rattle.knapsack.proofs.Climb.{climb}
use Rattle.knapsack.proofs.Common.{KeepsMarkᴰ, KeepsLowerᴰ, KeepsUpperᴰ, weighsᴰ, valueᴰ, Feasibleᴰ, Optimalᴰ}
use Rattle.knapsack.proofs.Dual.{Certificate, certified, AtEnd, at-end, within}
use Rattle.knapsack.specs.Meaning.{Instance, weights}
use Rattle.std.specs.Prelude.{Option, None, Some}
use Rattle.knapsack.specs.declared.Mark.{Mark}
use Rattle.knapsack.specs.declared.Mark.TheVariants.{Integer, Continuous}

-- no feasible point is worth more than W / E
abbrev pub AtMost : Instance → ℤ → ℕ → Type 0
AtMost s W E = (D : ℕ) (N : ℕ → ℤ) → 1 ≤ D → Feasibleᴰ s D N → (valueᴰ s N *ℤ pos E) ≤ℤ (W *ℤ pos D)

-- ---- the end: the incumbent

pub at-most-optimal : (s : Instance) (E : ℕ) (M : ℕ → ℤ) → Feasibleᴰ s E M → AtMost s (valueᴰ s M) E → Optimalᴰ s E M
at-most-optimal s E M p h = record { feasible = p; highest = h }

-- ---- leaves

-- a certified point that is worth at most W / E
pub leaf : (s : Instance) (W : ℤ) (E F : ℕ) (M : ℕ → ℤ) → 1 ≤ F → Certificate s F M → (valueᴰ s M *ℤ pos E) ≤ℤ (W *ℤ pos F) → AtMost s W E
leaf s W E F M f c h D N d p = go (valueᴰ s N) (valueᴰ s M) W (certified s F M f c D N d p) h
  where
    go : (x m v : ℤ) → (x *ℤ pos F) ≤ℤ (m *ℤ pos D) → (m *ℤ pos E) ≤ℤ (v *ℤ pos F) → (x *ℤ pos E) ≤ℤ (v *ℤ pos D)
    go = split3 _ (λ a b c e f' g. simp zed (λ h k. le_of_mul-le-mul_right {k = F} (omega (arith, mul-le-mul_left E h, mul-le-mul_left D k)) f))

-- every item stands where it weighs least, and that is too much
pub record TooHeavy (s : Instance) (E : ℕ) (M : ℕ → ℤ) : Type 0 where
  pub ends : (k : ℕ) → k < s.count → AtEnd E (neg_ℤ (weights s k)) (s.item k) (M k)
  pub over : (s.capacity *ℤ pos E) <ℤ weighsᴰ s M

pub empty : (s : Instance) (E : ℕ) (M : ℕ → ℤ) → TooHeavy s E M → (D : ℕ) (N : ℕ → ℤ) → 1 ≤ D → ¬ Feasibleᴰ s D N
empty s E M h D N d p = clash (weighsᴰ s N) (weighsᴰ s M) s.capacity p.fits h.over
    (subst₂ ◌≤ℤ◌ (sum-times s.count (weights s) M D) (sum-times s.count (weights s) N E)
    (sum_mono s.count _ _ (λ k l. turn (weights s k) _ _ (at-end D E _ (s.item k) (N k) (M k) (within (p.keeps k l)) (h.ends k l)))))
  where
    turn : (a x y : ℤ) → (neg_ℤ a *ℤ x) ≤ℤ (neg_ℤ a *ℤ y) → (a *ℤ y) ≤ℤ (a *ℤ x)
    turn = split3 _ (λ a b c e f g. simp zed (omega arith))

    clash : (n m l : ℤ) → n ≤ℤ (l *ℤ pos D) → (l *ℤ pos E) <ℤ m → (m *ℤ pos D) ≤ℤ (n *ℤ pos E) → ⊥
    clash = split3 _ (λ a b c e f g. simp zed (λ h k m. omega (arith, mul-le-mul_left E h, mul-le-mul_left D k)))

pub leaf-empty : (s : Instance) (W : ℤ) (E : ℕ) → ((D : ℕ) (N : ℕ → ℤ) → 1 ≤ D → ¬ Feasibleᴰ s D N) → AtMost s W E
leaf-empty s W E h D N d p = absurd (h D N d p)

-- ---- branches

-- s with the bounds l and u for item k
abbrev pub narrow : Instance → ℕ → Option ℤ → Option ℤ → Instance
narrow s k l u = record {
  capacity = s.capacity;
  count = s.count;
  item = λ j. record {
    mark = (s.item j).mark;
    weight = (s.item j).weight;
    price = (s.item j).price;
    lower = pick (ℕ_discrete j k) l (s.item j).lower;
    upper = pick (ℕ_discrete j k) u (s.item j).upper;
  };
}

pub into : (s : Instance) (k : ℕ) (l u : Option ℤ) (D : ℕ) (N : ℕ → ℤ) → Feasibleᴰ s D N → KeepsLowerᴰ D l (N k) → KeepsUpperᴰ D u (N k) →
    Feasibleᴰ (narrow s k l u) D N
into s k l u D N p hl hu = record {
  keeps = λ j m. record {
    marked = (p.keeps j m).marked;
    above = pick_ind (λ b. KeepsLowerᴰ D b (N j)) (ℕ_discrete j k) l _ (λ e. rw e hl) (λ e. (p.keeps j m).above);
    below = pick_ind (λ b. KeepsUpperᴰ D b (N j)) (ℕ_discrete j k) u _ (λ e. rw e hu) (λ e. (p.keeps j m).below);
  };
  fits = p.fits;
}

-- the new bounds imply the old
pub out : (s : Instance) (k : ℕ) (l u : Option ℤ) (D : ℕ) (N : ℕ → ℤ) → (KeepsLowerᴰ D l (N k) → KeepsLowerᴰ D (s.item k).lower (N k)) →
    (KeepsUpperᴰ D u (N k) → KeepsUpperᴰ D (s.item k).upper (N k))
    → Feasibleᴰ (narrow s k l u) D N → Feasibleᴰ s D N
out s k l u D N fl fu p = record {
  keeps = λ j m. record {
    marked = (p.keeps j m).marked;
    above = lo j (ℕ_discrete j k) (p.keeps j m).above;
    below = up j (ℕ_discrete j k) (p.keeps j m).below;
  };
  fits = p.fits;
}
  where
    lo : (j : ℕ) (d : Dec (j ≡ k)) → KeepsLowerᴰ D (pick d l (s.item j).lower) (N j) → KeepsLowerᴰ D (s.item j).lower (N j)
    lo j (yes e) h = rw e (fl (rw e at h))
    lo j (no e) h = h

    up : (j : ℕ) (d : Dec (j ≡ k)) → KeepsUpperᴰ D (pick d u (s.item j).upper) (N j) → KeepsUpperᴰ D (s.item j).upper (N j)
    up j (yes e) h = rw e (fu (rw e at h))
    up j (no e) h = h

-- a whole amount is at most f or at least f + 1
pub halve : (s : Instance) (k : ℕ) (f : ℤ) → k < s.count → (s.item k).mark ≡ Integer → (D : ℕ) (N : ℕ → ℤ) → Feasibleᴰ s D N
    → Feasibleᴰ (narrow s k (s.item k).lower (Some f)) D N ⊎ Feasibleᴰ (narrow s k (Some (f +ℤ pos 1)) (s.item k).upper) D N
halve s k f m w D N p = go (subst (λ mk. KeepsMarkᴰ D mk (N k)) w (p.keeps k m).marked)
  where
    up : (n f : ℤ) → f <ℤ n → ((f +ℤ pos 1) *ℤ pos D) ≤ℤ (n *ℤ pos D)
    up = split2 _ (λ a b c e. simp zed (λ h. omega (arith, mul-le-mul_right D h)))

    at : (n : ℤ) → N k ≡ n *ℤ pos D → (n ≤ℤ f) ⊎ (f <ℤ n) →
        Feasibleᴰ (narrow s k (s.item k).lower (Some f)) D N ⊎ Feasibleᴰ (narrow s k (Some (f +ℤ pos 1)) (s.item k).upper) D N
    at n e (inl h) = inl (into s k (s.item k).lower (Some f) D N p (p.keeps k m).above (rw e (times-≤ D n f h)))
    at n e (inr h) = inr (into s k (Some (f +ℤ pos 1)) (s.item k).upper D N p (rw e (up n f h)) (p.keeps k m).below)

    go : (n : ℤ) × (N k ≡ n *ℤ pos D) → Feasibleᴰ (narrow s k (s.item k).lower (Some f)) D N ⊎ Feasibleᴰ (narrow s k (Some (f +ℤ pos 1)) (s.item k).upper) D N
    go (n, e) = at n e (≤ℤ-or-< n f)

pub branch : (s : Instance) (W : ℤ) (E k : ℕ) (f : ℤ) → k < s.count → (s.item k).mark ≡ Integer
    → AtMost (narrow s k (s.item k).lower (Some f)) W E → AtMost (narrow s k (Some (f +ℤ pos 1)) (s.item k).upper) W E → AtMost s W E
branch s W E k f m w lo hi D N d p = ⊎_elim (lo D N d) (hi D N d) (halve s k f m w D N p)

-- the bounds l and u for all items
abbrev pub boxed : Instance → (ℕ → Option ℤ) → (ℕ → Option ℤ) → Instance
boxed s l u = record {
  capacity = s.capacity;
  count = s.count;
  item = λ j. record { mark = (s.item j).mark; weight = (s.item j).weight; price = (s.item j).price; lower = l j; upper = u j };
}

pub into-box : (s : Instance) (l u : ℕ → Option ℤ) (D : ℕ) (N : ℕ → ℤ) → Feasibleᴰ s D N →
    Each s.count (λ k. KeepsLowerᴰ D (l k) (N k) × KeepsUpperᴰ D (u k) (N k)) → Feasibleᴰ (boxed s l u) D N
into-box s l u D N p h = record { keeps = λ k m. record { marked = (p.keeps k m).marked; above = (h k m).0; below = (h k m).1 }; fits = p.fits }

-- ---- the same point over D * E

-- End theorem: a feasible point stays feasible over a multiple of its divisor.
pub feasible-scale : (s : Instance) (D E : ℕ) (N : ℕ → ℤ) → Feasibleᴰ s D N → Feasibleᴰ s (D * E) (λ k. N k *ℤ pos E)
feasible-scale s D E N p = record {
  keeps = λ k l. record {
    marked = mark (s.item k).mark (N k) (p.keeps k l).marked;
    above = scale-lower (s.item k).lower (N k) (p.keeps k l).above;
    below = scale-upper (s.item k).upper (N k) (p.keeps k l).below;
  };
  fits = rw (sum-times s.count (weights s) N E) (up (weighsᴰ s N) s.capacity p.fits);
}
  where
    join : (m : ℤ) → (m *ℤ pos D) *ℤ pos E ≡ m *ℤ pos (D * E)
    join = split _ (λ a b. simp zed (omega arith))

    mark : (m : Mark) (n : ℤ) → KeepsMarkᴰ D m n → KeepsMarkᴰ (D * E) m (n *ℤ pos E)
    mark Integer n (m, e) = (m, rw e (join m))
    mark Continuous n h = tt

    dn : (l n : ℤ) → (l *ℤ pos D) ≤ℤ n → (l *ℤ pos (D * E)) ≤ℤ (n *ℤ pos E)
    dn = split2 _ (λ a b c e. simp zed (λ h. omega (arith, mul-le-mul_right E h)))

    up : (n u : ℤ) → n ≤ℤ (u *ℤ pos D) → (n *ℤ pos E) ≤ℤ (u *ℤ pos (D * E))
    up = split2 _ (λ a b c e. simp zed (λ h. omega (arith, mul-le-mul_right E h)))

    scale-lower : (b : Option ℤ) (n : ℤ) → KeepsLowerᴰ D b n → KeepsLowerᴰ (D * E) b (n *ℤ pos E)
    scale-lower None n h = tt
    scale-lower (Some l) n h = dn l n h

    scale-upper : (b : Option ℤ) (n : ℤ) → KeepsUpperᴰ D b n → KeepsUpperᴰ (D * E) b (n *ℤ pos E)
    scale-upper None n h = tt
    scale-upper (Some u) n h = up n u h

-- ---- climbing: each feasible point is worth at most W / F, or a feasible point is worth at least 1 more
pub at-most-climb : (s : Instance) (W U : ℤ) (F G : ℕ) → 1 ≤ F → 1 ≤ G → AtMost s U G
    → ((D : ℕ) (N : ℕ → ℤ) → 1 ≤ D → Feasibleᴰ s D N → ((valueᴰ s N *ℤ pos F) ≤ℤ (W *ℤ pos D)) ⊎
    ((N' : ℕ → ℤ) × Feasibleᴰ s D N' × ((valueᴰ s N +ℤ pos D) ≤ℤ valueᴰ s N')))
    → AtMost s W F
at-most-climb s W U F G f g bound step D N d p = times-≤-back G _ _ g (subst₂ ◌≤ℤ◌ (sym (join (valueᴰ s N))) refl
    (climb (Feasibleᴰ s D) (λ N. valueᴰ s N *ℤ pos (F * G)) ((W *ℤ pos D) *ℤ pos G) ((U *ℤ pos D) *ℤ pos F)
    (λ N p. under (valueᴰ s N) U (bound D N d p)) (λ N p. each N (step D N d p)) N p))
  where
    join : (v : ℤ) → (v *ℤ pos F) *ℤ pos G ≡ v *ℤ pos (F * G)
    join = split _ (λ a b. simp zed (omega arith))

    under : (v u : ℤ) → (v *ℤ pos G) ≤ℤ (u *ℤ pos D) → (v *ℤ pos (F * G)) ≤ℤ ((u *ℤ pos D) *ℤ pos F)
    under = split2 _ (λ a b c e. simp zed (λ h. omega (arith, mul-le-mul_left F h)))

    settled : (v w : ℤ) → (v *ℤ pos F) ≤ℤ (w *ℤ pos D) → (v *ℤ pos (F * G)) ≤ℤ ((w *ℤ pos D) *ℤ pos G)
    settled = split2 _ (λ a b c e. simp zed (λ h. omega (arith, mul-le-mul_left G h)))

    more : (v w : ℤ) → (v +ℤ pos D) ≤ℤ w → (v *ℤ pos (F * G) +ℤ pos 1) ≤ℤ (w *ℤ pos (F * G))
    more = split2 _ (λ a b c e. simp zed (λ h. omega (arith, mul-le-mul_left (F * G) h, mul-le-mul d (mul-le-mul f g))))

    each : (N : ℕ → ℤ) → ((valueᴰ s N *ℤ pos F) ≤ℤ (W *ℤ pos D)) ⊎ ((N' : ℕ → ℤ) × Feasibleᴰ s D N' × ((valueᴰ s N +ℤ pos D) ≤ℤ valueᴰ s N'))
        → ((valueᴰ s N *ℤ pos (F * G)) ≤ℤ ((W *ℤ pos D) *ℤ pos G)) ⊎ ((N' : ℕ → ℤ) × Feasibleᴰ s D N' ×
        (((valueᴰ s N *ℤ pos (F * G)) +ℤ pos 1) ≤ℤ (valueᴰ s N' *ℤ pos (F * G))))
    each N (inl h) = inl (settled (valueᴰ s N) W h)
    each N (inr (N', p', h)) = inr (N', p', more (valueᴰ s N) (valueᴰ s N') h)
