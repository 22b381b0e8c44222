-- The least cost of filling with the folded items is that of filling with the items.
--   times m w              which multiple of m is the nearer one to w
--   others n f h           the sum of the first n terms but the one at f
--   Paired f I y z         of the other items, y are amounts and z the same folded
--   foldings f I y         how many units of f the others are folded by
--   into f I y, out_of f I z    amounts folded, and back
-- sum-others: with that one. fold-load: what an item weighs folded. swap-most, swap-twice: one of two; there and back. no-offset: a weight folded by itself.
-- paired-load, paired-cost: weight and cost of all items folded. roomy, room: no unit of f is missing.
-- bounds-folded, reached-folded, least-folded: what is least for the folded items is least for the items.
use mathlib.Core.Path.{◌≡◌, refl, sym, ap, subst, ◌∙◌}
use mathlib.Core.Bool.{Bool, true, false, cond}
use mathlib.Core.Logic.{⊎_elim}
use Prim.Native.Nat.{ℕ, zero, suc, ◌+◌, ◌-◌, ◌*◌, ◌/◌, ◌%◌, ◌≤◌, ◌<◌}
use native.Mathlib.Omega.{arith}
use native.Mathlib.Nat.{mul-le-mul_left, div-add-mod, mod-lt, mod_self, le-div_iff_mul-le, lt_of_mul-lt-mul_left}
use native.Mathlib.Decide.{ℕ_discrete}
use borrow.Author.Tests.{lt-ltb, le-ltb, eq-eqb, ne_eqb}
use lib.Dec.{eqb}
use Rattle.scales.specs.Filling.{Items, sum, load, cost, heft, Within, Bounds, Reached, Least}
use Rattle.scales.proofs.Sums.{lt-or-ge, sum-cong, sum-add, sum-times, sum_mono, sum-part}
use Rattle.residues.specs.Folding.{turned, swapped, folded_weight, offset, offset_at, folded_capacity, folded, Absorbs}

-- ---- sums without one term

abbrev pub others : ℕ → ℕ → (ℕ → ℕ) → ℕ
others n f h = sum n (λ j. cond (eqb j f) 0 (h j))

pub sum-others : (n f : ℕ) (h : ℕ → ℕ) → f < n → sum n h ≡ others n f h + h f
sum-others zero f h l = absurd (omega arith)
sum-others (suc n) f h l = go (sum-others n f h) (ℕ_discrete n f)
  where
    go : (f < n → sum n h ≡ others n f h + h f) → Dec (n ≡ f) → sum (suc n) h ≡ others (suc n) f h + h f
    go before (yes e) =
        let below = sum-cong n h (λ j. cond (eqb j f) 0 (h j)) (λ j k. rw (ne_eqb j f (omega arith))) in
        let here : cond (eqb n f) 0 (h n) ≡ 0 = rw (eq-eqb n f e) in
        let same : h n ≡ h f = ap h e in
        omega (arith, below, here, same)
    go before (no d) =
        let here : cond (eqb n f) 0 (h n) ≡ h n = rw (ne_eqb n f d) in
        omega (arith, before (omega arith), here)

-- ---- one item

abbrev pub times : ℕ → ℕ → ℕ
times m w = swapped m w (w / m) (suc (w / m))

pub fold-load : (m w u y : ℕ) → 1 ≤ m → y ≤ u → folded_weight m w * swapped m w y (u - y) + m * (times m w * y) ≡ w * y + offset m w u
fold-load m w u y some l =
    let r = w % m in
    let e = ap (λ (n : ℕ). n * y) (div-add-mod w m) in
    ⊎_elim
    (λ (h : m - r < r). rw (lt-ltb (m - r) r h) (go (m - r) (u - y) r (w / m) (omega (arith, mod-lt w some)) (omega arith) e))
    (λ (h : r ≤ m - r). rw (le-ltb (m - r) r h) (omega (arith, e)))
    (lt-or-ge (m - r) r)
  where
    go : (d z r q : ℕ) → m ≡ d + r → u ≡ y + z → (m * q + r) * y ≡ w * y → d * z + m * (suc q * y) ≡ w * y + d * u
    go d z r q a b e =
        let one : m * y ≡ (d + r) * y = ap (λ (n : ℕ). n * y) a in
        let two : d * u ≡ d * (y + z) = ap (λ (n : ℕ). d * n) b in
        omega (arith, one, two, e)

pub swap-most : (m w : ℕ) {a b u : ℕ} → a ≤ u → b ≤ u → swapped m w a b ≤ u
swap-most m w {a} {b} {u} h k = go (turned m w)
  where
    go : (t : Bool) → cond t b a ≤ u
    go true = k
    go false = h

swap-twice : (m w u z : ℕ) → z ≤ u → swapped m w (swapped m w z (u - z)) (u - swapped m w z (u - z)) ≡ z
swap-twice m w u z h = go (turned m w)
  where
    go : (t : Bool) → cond t (u - cond t (u - z) z) (cond t (u - z) z) ≡ z
    go true = omega arith
    go false = refl

pub no-offset : (m u : ℕ) → offset m m u ≡ 0
no-offset m u = rw (mod_self m, le-ltb (m - 0) 0 (omega arith))

-- ---- all items

pub record Paired (f : ℕ) (I : Items) (y z : ℕ → ℕ) : Type 0 where
  pub within : (k : ℕ) → k < I.count → (k ≡ f → ⊥) → y k ≤ I.range k
  pub pairs : (k : ℕ) → k < I.count → (k ≡ f → ⊥) → z k ≡ swapped (I.weight f) (I.weight k) (y k) (I.range k - y k)

abbrev pub foldings : ℕ → Items → (ℕ → ℕ) → ℕ
foldings f I y = others I.count f (λ k. times (I.weight f) (I.weight k) * y k)

paired-load : (f C : ℕ) (I : Items) (y z : ℕ → ℕ) → f < I.count → 1 ≤ I.weight f → Paired f I y z →
    load (folded f C I) z + I.weight f * (y f + foldings f I y) ≡ load I y + sum I.count (offset_at f I.weight I.range) + I.weight f * z f
paired-load f C I y z l some p =
    let J = folded f C I in
    let n = I.count in
    let m = I.weight f in
    let a : ℕ → ℕ = λ k. cond (eqb k f) 0 (J.weight k * z k) in
    let b : ℕ → ℕ = λ k. cond (eqb k f) 0 (times m (I.weight k) * y k) in
    let c : ℕ → ℕ = λ k. cond (eqb k f) 0 (I.weight k * y k) in
    let new = sum-others n f (λ k. J.weight k * z k) l in
    let old = sum-others n f (λ k. I.weight k * y k) l in
    let here : J.weight f * z f ≡ m * z f = rw (eq-eqb f f refl) in
    let law = sum-cong n (λ k. a k + m * b k) (λ k. c k + offset_at f I.weight I.range k) (λ k h. go k h (ℕ_discrete k f)) in
    omega (arith, new, old, here, law, sum-add n a (λ k. m * b k), sum-times n m b, sum-add n c (offset_at f I.weight I.range))
  where
    go : (k : ℕ) → k < I.count → Dec (k ≡ f) →
        cond (eqb k f) 0 ((folded f C I).weight k * z k) + I.weight f * cond (eqb k f) 0 (times (I.weight f) (I.weight k) * y k)
        ≡ cond (eqb k f) 0 (I.weight k * y k) + offset_at f I.weight I.range k
    go k h (yes e) =
        let none : offset_at f I.weight I.range k ≡ 0 = rw e (no-offset (I.weight f) (I.range f)) in
        rw (none, eq-eqb k f e) (omega arith)
    go k h (no d) = rw (ne_eqb k f d, p.pairs k h d) (fold-load (I.weight f) (I.weight k) (I.range k) (y k) some (p.within k h d))

either : (b : Bool) (a : ℕ) → cond b a a ≡ a
either true a = refl
either false a = refl

paired-cost : (f C : ℕ) (I : Items) (y z : ℕ → ℕ) → I.taken f ≡ 0 → I.left f ≡ 0 → Paired f I y z → cost (folded f C I) z ≡ cost I y
paired-cost f C I y z t l p =
    sum-cong I.count (λ k. J.taken k * z k + J.left k * (J.range k - z k)) (λ k. I.taken k * y k + I.left k * (I.range k - y k))
    (λ k h. go k h (ℕ_discrete k f))
  where
    J : Items
    J = folded f C I

    go : (k : ℕ) → k < I.count → Dec (k ≡ f) →
        J.taken k * z k + J.left k * (J.range k - z k) ≡ I.taken k * y k + I.left k * (I.range k - y k)
    go k h (yes e) =
        let tk : I.taken k ≡ 0 = ap I.taken e ∙ t in
        let lk : I.left k ≡ 0 = ap I.left e ∙ l in
        rw (tk, lk, either (turned (I.weight f) (I.weight k)) 0) (omega arith)
    go k h (no d) =
        let m = I.weight f in
        let r = I.weight k % m in
        let e : I.range k - (I.range k - y k) ≡ y k = omega (arith, p.within k h d) in
        ⊎_elim
        (λ (g : m - r < r). rw (ne_eqb k f d, p.pairs k h d, lt-ltb (m - r) r g, e) (omega arith))
        (λ (g : r ≤ m - r). rw (ne_eqb k f d, p.pairs k h d, le-ltb (m - r) r g))
        (lt-or-ge (m - r) r)

-- ---- what is least

abbrev into : ℕ → Items → (ℕ → ℕ) → ℕ → ℕ
into f I y k = cond (eqb k f) (y f + foldings f I y) (swapped (I.weight f) (I.weight k) (y k) (I.range k - y k))

abbrev back : ℕ → Items → (ℕ → ℕ) → ℕ → ℕ
back f I z k = swapped (I.weight f) (I.weight k) (z k) (I.range k - z k)

abbrev out_of : ℕ → Items → (ℕ → ℕ) → ℕ → ℕ
out_of f I z k = cond (eqb k f) (z f - foldings f I (back f I z)) (back f I z k)

pub bounds-folded : (I : Items) (f C r : ℕ) → Absorbs I f C → Bounds (folded f C I) (folded_capacity f I C) r → Bounds I C r
bounds-folded I f C r a b y within fills =
    omega (arith, b z inside full, paired-cost f C I y z a.by.free-taken a.by.free-left paired)
  where
    z : ℕ → ℕ
    z = into f I y

    J : Items
    J = folded f C I

    paired : Paired f I y z
    paired = record { within = λ k h d. within k h; pairs = λ k h d. rw (ne_eqb k f d) }

    here : z f ≡ y f + foldings f I y
    here = rw (eq-eqb f f refl)

    full : load J z ≡ folded_capacity f I C
    full =
        let e : I.weight f * z f ≡ I.weight f * (y f + foldings f I y) = ap (λ (n : ℕ). I.weight f * n) here in
        omega (arith, paired-load f C I y z a.inside a.by.some paired, fills, e)

    at : (k : ℕ) → k < I.count → Dec (k ≡ f) → z k ≤ J.range k
    at k h (yes e) =
        let part = sum-part I.count (λ j. J.weight j * z j) k h in
        let weighs : J.weight k * z k ≡ I.weight f * z k = rw (eq-eqb k f e) in
        let room : J.range k ≡ folded_capacity f I C / I.weight f = rw (eq-eqb k f e) in
        omega (arith, room, (le-div_iff_mul-le {k = I.weight f} {x = z k} {y = folded_capacity f I C} a.by.some).1 (omega (arith, part, weighs, full)))
    at k h (no d) = rw (ne_eqb k f d) (swap-most (I.weight f) (I.weight k) (within k h) (omega arith))

    inside : Within J z
    inside k h = at k h (ℕ_discrete k f)

-- the others leave room for the units of f that they are folded by, and no more is left than f has
roomy : (m C T L H y z u load heft : ℕ) → y ≡ z - T → C + m * (y + T) ≡ load + m * z → load ≡ L + m * y → heft ≡ H + m * u → L ≤ H →
    heft < C + m * suc u → C < m * suc u → (y ≤ u) × (load ≡ C)
roomy m C T L H y z u load heft e law old all less carries reaches =
    let folds : T < suc z = lt_of_mul-lt-mul_left m (omega arith) in
    let whole : m * (y + T) ≡ m * z = ap (λ (n : ℕ). m * n) (omega arith) in
    let within : y < suc u = lt_of_mul-lt-mul_left m (omega arith) in
    (omega arith, omega arith)

room : (I : Items) (f C : ℕ) (y z : ℕ → ℕ) → Absorbs I f C → Paired f I y z → y f ≡ z f - foldings f I y → load (folded f C I) z ≡ folded_capacity f I C →
    (y f ≤ I.range f) × (load I y ≡ C)
room I f C y z a p e full =
    let n = I.count in
    roomy (I.weight f) C (foldings f I y) (others n f (λ k. I.weight k * y k)) (others n f (λ k. I.weight k * I.range k)) (y f) (z f) (I.range f)
    (load I y) (heft I) e (omega (arith, paired-load f C I y z a.inside a.by.some p, full))
    (sum-others n f (λ k. I.weight k * y k) a.inside) (sum-others n f (λ k. I.weight k * I.range k) a.inside)
    (sum_mono n (λ k. cond (eqb k f) 0 (I.weight k * y k)) (λ k. cond (eqb k f) 0 (I.weight k * I.range k)) (λ k h. at k h (ℕ_discrete k f)))
    (omega (arith, a.by.carries)) (omega (arith, a.by.reaches))
  where
    at : (k : ℕ) → k < I.count → Dec (k ≡ f) → cond (eqb k f) 0 (I.weight k * y k) ≤ cond (eqb k f) 0 (I.weight k * I.range k)
    at k h (yes q) = rw (eq-eqb k f q) (omega arith)
    at k h (no d) = rw (ne_eqb k f d) (mul-le-mul_left (I.weight k) (p.within k h d))

pub reached-folded : (I : Items) (f C r : ℕ) → Absorbs I f C → Reached (folded f C I) (folded_capacity f I C) r → Reached I C r
reached-folded I f C r a x = record {
  amounts = y;
  within = λ k h. at k h (ℕ_discrete k f);
  fills = fits.1;
  costs = sym (paired-cost f C I y z a.by.free-taken a.by.free-left paired) ∙ x.costs;
}
  where
    J : Items
    J = folded f C I

    z : ℕ → ℕ
    z = x.amounts

    y : ℕ → ℕ
    y = out_of f I z

    few : (k : ℕ) → k < I.count → (k ≡ f → ⊥) → z k ≤ I.range k
    few k h d = rw (ne_eqb k f d) at (x.within k h)

    back-few : (k : ℕ) → k < I.count → (k ≡ f → ⊥) → y k ≤ I.range k
    back-few k h d = rw (ne_eqb k f d) (swap-most (I.weight f) (I.weight k) (few k h d) (omega arith))

    paired : Paired f I y z
    paired = record {
      within = back-few;
      pairs = λ k h d. rw (ne_eqb k f d) (sym (swap-twice (I.weight f) (I.weight k) (I.range k) (z k) (few k h d)));
    }

    same : (k : ℕ) → Dec (k ≡ f) →
        cond (eqb k f) 0 (times (I.weight f) (I.weight k) * y k) ≡ cond (eqb k f) 0 (times (I.weight f) (I.weight k) * back f I z k)
    same k (yes q) = rw (eq-eqb k f q)
    same k (no d) = rw (ne_eqb k f d)

    here : y f ≡ z f - foldings f I y
    here =
        let one : y f ≡ z f - foldings f I (back f I z) = rw (eq-eqb f f refl) in
        let two = sum-cong I.count (λ k. cond (eqb k f) 0 (times (I.weight f) (I.weight k) * y k))
        (λ k. cond (eqb k f) 0 (times (I.weight f) (I.weight k) * back f I z k)) (λ k h. same k (ℕ_discrete k f)) in
        omega (arith, one, two)

    fits : (y f ≤ I.range f) × (load I y ≡ C)
    fits = room I f C y z a paired here x.fills

    at : (k : ℕ) → k < I.count → Dec (k ≡ f) → y k ≤ I.range k
    at k h (yes q) = subst (λ j. y j ≤ I.range j) (sym q) fits.0
    at k h (no d) = back-few k h d

pub least-folded : (cap : ℕ) (I : Items) (f C r : ℕ) → Absorbs I f C → Least cap (folded f C I) (folded_capacity f I C) r → Least cap I C r
least-folded cap I f C r a l = record {
  capped = l.capped;
  bounds = bounds-folded I f C r a l.bounds;
  reached = λ h. reached-folded I f C r a (l.reached h);
}
