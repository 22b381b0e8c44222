-- A need splits a problem into two plain cases: none of the item, or at least 1 of its cover.
--   cap b, raise b       an upper bound lowered to 0 at most, a lower bound raised to 1 at least
--   without s k          s with item k's upper bound capped;  having s m: s with item m's lower bound raised
-- need-cases: a feasible point keeps a need exactly if it is feasible for one of the two cases.
-- cases-in: so the points feasible with needs are those of the two cases with the same needs.
-- End theorems: allowed-without, allowed-having: allowed needs stay allowed in the cases.
use mathlib.Core.Path.{◌≡◌, refl, subst}
use mathlib.Core.Bool.{Bool, true, false, cond}
use mathlib.Core.List.{List}
use mathlib.Core.Logic.{◌⊎◌, inl, inr, ◌↔◌, ⊎_elim}
use Prim.Native.Nat.{ℕ, ◌<◌}
use native.Mathlib.Omega.{arith}
use native.Mathlib.Decide.{ℕ_discrete}
use lib.IntN.{ℤ, pos, ◌*ℤ◌}
use lib.Signed.{◌≤ℤ◌, ◌<ℤ◌, lt_z}
use Rattle.arith.proofs.Integers.{split, split2, zed, minℤ, maxℤ, ≤ℤ-trans, ≤ℤ-or-<, times-≤}
use Rattle.arith.proofs.Sums.{pick_ind}
use Rattle.knapsack.proofs.Branch.{narrow, into, out}
use Rattle.knapsack.proofs.Common.{KeepsLowerᴰ, KeepsUpperᴰ, Feasibleᴰ}
use Rattle.knapsack.specs.Meaning.{Instance}
use Rattle.std.specs.Prelude.{Option, None, Some}
use Rattle.model.specs.declared.Need.{Need}
use Rattle.model.specs.Needs.{Every, In, NotNegative, Present, Named, Allowed}
use Rattle.cases.proofs.Needs.{KeepsNeedᴰ, FeasibleNeedsᴰ}

-- ---- bounds

abbrev pub cap : Option ℤ → Option ℤ
cap None = Some (pos 0)
cap (Some u) = Some (minℤ u (pos 0))

abbrev pub raise : Option ℤ → Option ℤ
raise None = Some (pos 1)
raise (Some l) = Some (maxℤ l (pos 1))

min_ind : (Q : ℤ → Type 0) (x y : ℤ) → Q x → Q y → Q (minℤ x y)
unfolding minℤ
min_ind Q x y p q = go (lt_z y x)
  where
    go : (b : Bool) → Q (cond b y x)
    go true = q
    go false = p

max_ind : (Q : ℤ → Type 0) (x y : ℤ) → Q x → Q y → Q (maxℤ x y)
unfolding maxℤ
max_ind Q x y p q = go (lt_z y x)
  where
    go : (b : Bool) → Q (cond b x y)
    go true = p
    go false = q

min-left : (x y : ℤ) → minℤ x y ≤ℤ x
min-left = split2 _ (λ a b c e. simp zed (omega arith))

min-right : (x y : ℤ) → minℤ x y ≤ℤ y
min-right = split2 _ (λ a b c e. simp zed (omega arith))

max-left : (x y : ℤ) → x ≤ℤ maxℤ x y
max-left = split2 _ (λ a b c e. simp zed (omega arith))

max-right : (x y : ℤ) → y ≤ℤ maxℤ x y
max-right = split2 _ (λ a b c e. simp zed (omega arith))

module _ (D : ℕ) where
  zero-times : (n : ℤ) → n ≤ℤ pos 0 → n ≤ℤ (pos 0 *ℤ pos D)
  zero-times = split _ (λ a b. simp zed (omega arith))

  times_zero : (n : ℤ) → n ≤ℤ (pos 0 *ℤ pos D) → n ≤ℤ pos 0
  times_zero = split _ (λ a b. simp zed (omega arith))

  cap-into : (b : Option ℤ) (n : ℤ) → KeepsUpperᴰ D b n → n ≤ℤ pos 0 → KeepsUpperᴰ D (cap b) n
  cap-into None n h z = zero-times n z
  cap-into (Some u) n h z = min_ind (λ v. n ≤ℤ (v *ℤ pos D)) u (pos 0) h (zero-times n z)

  cap-out : (b : Option ℤ) (n : ℤ) → KeepsUpperᴰ D (cap b) n → KeepsUpperᴰ D b n
  cap-out None n h = tt
  cap-out (Some u) n h = ≤ℤ-trans h (times-≤ D (minℤ u (pos 0)) u (min-left u (pos 0)))

  cap-none : (b : Option ℤ) (n : ℤ) → KeepsUpperᴰ D (cap b) n → n ≤ℤ pos 0
  cap-none None n h = times_zero n h
  cap-none (Some u) n h = times_zero n (≤ℤ-trans h (times-≤ D (minℤ u (pos 0)) (pos 0) (min-right u (pos 0))))

  raise-into : (b : Option ℤ) (n : ℤ) → KeepsLowerᴰ D b n → (pos 1 *ℤ pos D) ≤ℤ n → KeepsLowerᴰ D (raise b) n
  raise-into None n h o = o
  raise-into (Some l) n h o = max_ind (λ v. (v *ℤ pos D) ≤ℤ n) l (pos 1) h o

  raise-out : (b : Option ℤ) (n : ℤ) → KeepsLowerᴰ D (raise b) n → KeepsLowerᴰ D b n
  raise-out None n h = tt
  raise-out (Some l) n h = ≤ℤ-trans (times-≤ D l (maxℤ l (pos 1)) (max-left l (pos 1))) h

  raise-one : (b : Option ℤ) (n : ℤ) → KeepsLowerᴰ D (raise b) n → (pos 1 *ℤ pos D) ≤ℤ n
  raise-one None n h = h
  raise-one (Some l) n h = ≤ℤ-trans (times-≤ D (pos 1) (maxℤ l (pos 1)) (max-right l (pos 1))) h

-- ---- the two cases

abbrev pub without : Instance → ℕ → Instance
without s k = narrow s k (s.item k).lower (cap (s.item k).upper)

abbrev pub having : Instance → ℕ → Instance
having s m = narrow s m (raise (s.item m).lower) (s.item m).upper

pub upper-here : (s : Instance) (k : ℕ) (l u : Option ℤ) → ((narrow s k l u).item k).upper ≡ u
upper-here s k l u = pick_ind (λ b. b ≡ u) (ℕ_discrete k k) u (s.item k).upper (λ e. refl) (λ e. absurd (e refl))

pub lower-here : (s : Instance) (k : ℕ) (l u : Option ℤ) → ((narrow s k l u).item k).lower ≡ l
lower-here s k l u = pick_ind (λ b. b ≡ l) (ℕ_discrete k k) l (s.item k).lower (λ e. refl) (λ e. absurd (e refl))

module _ (s : Instance) (k : ℕ) (D : ℕ) (N : ℕ → ℤ) where
  pub without-into : k < s.count → Feasibleᴰ s D N → N k ≤ℤ pos 0 → Feasibleᴰ (without s k) D N
  without-into l p z = into s k (s.item k).lower (cap (s.item k).upper) D N p (p.keeps k l).above
      (cap-into D (s.item k).upper (N k) (p.keeps k l).below z)

  pub without-out : Feasibleᴰ (without s k) D N → Feasibleᴰ s D N
  without-out p = out s k (s.item k).lower (cap (s.item k).upper) D N (λ h. h) (cap-out D (s.item k).upper (N k)) p

  pub without-none : k < s.count → Feasibleᴰ (without s k) D N → N k ≤ℤ pos 0
  without-none l p = cap-none D (s.item k).upper (N k) (subst (λ b. KeepsUpperᴰ D b (N k)) (upper-here s k (s.item k).lower (cap (s.item k).upper))
      (p.keeps k l).below)

  pub having-into : k < s.count → Feasibleᴰ s D N → (pos 1 *ℤ pos D) ≤ℤ N k → Feasibleᴰ (having s k) D N
  having-into l p o = into s k (raise (s.item k).lower) (s.item k).upper D N p (raise-into D (s.item k).lower (N k) (p.keeps k l).above o)
      (p.keeps k l).below

  pub having-out : Feasibleᴰ (having s k) D N → Feasibleᴰ s D N
  having-out p = out s k (raise (s.item k).lower) (s.item k).upper D N (raise-out D (s.item k).lower (N k)) (λ h. h) p

  pub having-one : k < s.count → Feasibleᴰ (having s k) D N → (pos 1 *ℤ pos D) ≤ℤ N k
  having-one l p = raise-one D (s.item k).lower (N k) (subst (λ b. KeepsLowerᴰ D b (N k)) (lower-here s k (raise (s.item k).lower) (s.item k).upper)
      (p.keeps k l).above)

-- ---- a need by cases

clash : (x y : ℤ) → x ≤ℤ y → y <ℤ x → ⊥
clash = split2 _ (λ a b c e. simp zed (omega arith))

module _ (s : Instance) (n : Need) (item_in : n.item < s.count) (cover-in : n.cover < s.count) (D : ℕ) (N : ℕ → ℤ) where
  pub without-keeps : Feasibleᴰ (without s n.item) D N → KeepsNeedᴰ D n N
  without-keeps p h = absurd (clash (N n.item) (pos 0) (without-none s n.item D N item_in p) h)

  pub having-keeps : Feasibleᴰ (having s n.cover) D N → KeepsNeedᴰ D n N
  having-keeps p h = having-one s n.cover D N cover-in p

  pub need-cases : Feasibleᴰ s D N → KeepsNeedᴰ D n N ↔ (Feasibleᴰ (without s n.item) D N ⊎ Feasibleᴰ (having s n.cover) D N)
  need-cases p = (λ h. go h (≤ℤ-or-< (N n.item) (pos 0)), ⊎_elim without-keeps having-keeps)
    where
      go : KeepsNeedᴰ D n N → (N n.item ≤ℤ pos 0) ⊎ (pos 0 <ℤ N n.item) → Feasibleᴰ (without s n.item) D N ⊎ Feasibleᴰ (having s n.cover) D N
      go h (inl z) = inl (without-into s n.item D N item_in p z)
      go h (inr z) = inr (having-into s n.cover D N cover-in p (h z))

  pub cases-in : (ns : List Need) → In n ns → FeasibleNeedsᴰ s ns D N ↔ (FeasibleNeedsᴰ (without s n.item) ns D N ⊎ FeasibleNeedsᴰ
      (having s n.cover) ns D N)
  cases-in ns i = (
    λ p. to p ((need-cases p.plain).0 (p.kept n i)),
    ⊎_elim
        (λ q. record { plain = without-out s n.item D N q.plain; kept = q.kept })
        (λ q. record { plain = having-out s n.cover D N q.plain; kept = q.kept }),
  )
    where
      to : FeasibleNeedsᴰ s ns D N → Feasibleᴰ (without s n.item) D N ⊎ Feasibleᴰ (having s n.cover) D N
          → FeasibleNeedsᴰ (without s n.item) ns D N ⊎ FeasibleNeedsᴰ (having s n.cover) ns D N
      to p (inl q) = inl (record { plain = q; kept = p.kept })
      to p (inr q) = inr (record { plain = q; kept = p.kept })

pub cap-present : (b : Option ℤ) → Present (cap b)
cap-present None = tt
cap-present (Some u) = tt

pub raise-not-negative : (b : Option ℤ) → NotNegative (raise b)
raise-not-negative None = go (pos 1) (pos 0)
  where
    go : (x y : ℤ) → pos 0 ≤ℤ pos 1
    go = split2 _ (λ a b c e. simp zed (omega arith))
raise-not-negative (Some l) = go l
  where
    go : (l : ℤ) → pos 0 ≤ℤ maxℤ l (pos 1)
    go = split _ (λ a b. simp zed (omega arith))

named-narrow : (s : Instance) (k : ℕ) (l u : Option ℤ) → NotNegative l → Present u → (j : ℕ) → Named s j → Named (narrow s k l u) j
named-narrow s k l u a b j n = record {
  inside = n.inside;
  whole = n.whole;
  above = pick_ind NotNegative (ℕ_discrete j k) l (s.item j).lower (λ e. a) (λ e. n.above);
  below = pick_ind Present (ℕ_discrete j k) u (s.item j).upper (λ e. b) (λ e. n.below);
}

pub named-without : (s : Instance) (k : ℕ) → Named s k → (j : ℕ) → Named s j → Named (without s k) j
named-without s k n = named-narrow s k (s.item k).lower (cap (s.item k).upper) n.above (cap-present (s.item k).upper)

pub named-having : (s : Instance) (m : ℕ) → Named s m → (j : ℕ) → Named s j → Named (having s m) j
named-having s m n = named-narrow s m (raise (s.item m).lower) (s.item m).upper (raise-not-negative (s.item m).lower) n.below

pub allowed-without : (s : Instance) (k : ℕ) → Named s k → (ns : List Need) → Every (Allowed s) ns → Every (Allowed (without s k)) ns
allowed-without s k n ns h m i = record { item = named-without s k n m.item (h m i).item; cover = named-without s k n m.cover (h m i).cover }

pub allowed-having : (s : Instance) (k : ℕ) → Named s k → (ns : List Need) → Every (Allowed s) ns → Every (Allowed (having s k)) ns
allowed-having s k n ns h m i = record { item = named-having s k n m.item (h m i).item; cover = named-having s k n m.cover (h m i).cover }
