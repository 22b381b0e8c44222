-- Closing the box keeps the first point: where every lower bound is present, a feasible point has one in the box of a reach that is worth no
-- less, and that does not come after it if it is worth as much.
-- reach-first: that point.  It is knapsack's reach-within at ghost prices: they make no ray, and a reach does not look at prices.
-- reach-foremost: the first best point of the box is that of s.
use mathlib.Core.Logic.{◌⊎◌, inl, inr}
use Prim.Native.Nat.{ℕ, suc, ◌+◌, ◌*◌, ◌-◌, ◌≤◌, ◌<◌}
use native.Mathlib.Omega.{arith}
use native.Mathlib.Nat.{mul-le-mul_left, mul-le-mul_right}
use lib.IntN.{ℤ, pos, neg_ℤ, nat_abs, ◌+ℤ◌, ◌-ℤ◌, ◌*ℤ◌}
use lib.Signed.{◌≤ℤ◌, ◌<ℤ◌}
use Rattle.arith.proofs.Integers.{split, split2, split4, zed, ≤ℤ-trans, ≤ℤ-or-<, times-≤, times-≤-back}
use Rattle.arith.specs.Sum.{Each}
use Rattle.knapsack.proofs.Common.{KeepsLowerᴰ, KeepsUpperᴰ, valueᴰ, Feasibleᴰ}
use Rattle.knapsack.proofs.Reach.{Way, fore, aft, turn, Free, NoRay, AroundAt, RangesAt, Reaches, closed, shut_at, reach-within}
use Rattle.knapsack.proofs.Reach.{reach-optimal-at}
use Rattle.knapsack.specs.Meaning.{Instance, weights, prices, AllLower}
use Rattle.std.specs.Prelude.{Option, None, Some}
use Rattle.foremost.proofs.Earlier.{NoLater, NotAfter, not-after-trans, not-after-times}
use Rattle.foremost.proofs.Foremost.{NoBetter, Foremostᴰ, priced, into-priced}
use Rattle.foremost.proofs.Ghost.{power, place, ghost, Near, near-diff, ghost-first, most, most-is}

-- ghost prices make no ray
ghost-ray : (s : Instance) (M : ℕ) → AllLower s → NoRay s → NoRay (priced s (ghost M s.count (prices s)))
ghost-ray s M low nr = record { one = one; two = two }
  where
    n : ℕ
    n = s.count

    poor : (p q : ℕ) (c : ℤ) → c ≤ℤ pos 0 → (pos p *ℤ c -ℤ pos q) ≤ℤ pos 0
    poor p q = split _ (λ a b. simp zed (λ h. omega (arith, mul-le-mul_left p h)))

    rich : (p q : ℕ) (c : ℤ) → pos 0 <ℤ (pos p *ℤ c -ℤ pos q) → pos 0 <ℤ c
    rich p q c h = go (≤ℤ-or-< c (pos 0))
      where
        clash : (x : ℤ) → x ≤ℤ pos 0 → pos 0 <ℤ x → ⊥
        clash = split _ (λ a b. simp zed (omega arith))

        go : (c ≤ℤ pos 0) ⊎ (pos 0 <ℤ c) → pos 0 <ℤ c
        go (inl k) = absurd (clash _ (poor p q c k) h)
        go (inr k) = k

    one : (k : ℕ) → k < n → (w : Way) → Free w ((priced s (ghost M n (prices s))).item k) → turn w (weights s k) ≤ℤ pos 0
        → turn w (ghost M n (prices s) k) ≤ℤ pos 0
    one k l fore f h = poor (power M n) (place M n k) (prices s k) (nr.one k l fore f h)
    one k l aft f h = absurd (low k l f)

    both : (p q r : ℕ) (c d x y : ℤ) → pos 0 <ℤ x → y <ℤ pos 0 → (c *ℤ neg_ℤ y +ℤ d *ℤ x) ≤ℤ pos 0
        → ((pos p *ℤ c -ℤ pos q) *ℤ neg_ℤ y +ℤ (pos p *ℤ d -ℤ pos r) *ℤ x) ≤ℤ pos 0
    both p q r = split4 _ (λ a b c e f g h i. simp zed (λ k l m. omega (arith, mul-le-mul_left p m, mul-le-mul_left q l, mul-le-mul_left r k)))

    two : (i j : ℕ) → i < n → j < n → (v w : Way) → Free v ((priced s (ghost M n (prices s))).item i) → Free w ((priced s (ghost M n (prices s))).item j)
        → pos 0 <ℤ turn v (weights s i) → pos 0 <ℤ turn v (ghost M n (prices s) i) → turn w (weights s j) <ℤ pos 0
        → (turn v (ghost M n (prices s) i) *ℤ neg_ℤ (turn w (weights s j)) +ℤ turn w (ghost M n (prices s) j) *ℤ turn v (weights s i)) ≤ℤ pos 0
    two i j li lj aft w fi fj a b c = absurd (low i li fi)
    two i j li lj fore aft fi fj a b c = absurd (low j lj fj)
    two i j li lj fore fore fi fj a b c = both (power M n) (place M n i) (place M n j) (prices s i) (prices s j) (weights s i) (weights s j) a c
        (nr.two i j li lj fore fore fi fj a (rich (power M n) (place M n i) (prices s i) b) c)

-- an amount within the shut box
bounded : (B R D : ℕ) (lo up : Option ℤ) (n : ℤ) → AroundAt B lo → AroundAt B up → KeepsLowerᴰ D (closed lo (neg_ℤ (pos R))) n → KeepsUpperᴰ D (closed up (pos R)) n
    → nat_abs n ≤ (B + R) * D
bounded B R D lo up n al au hl hu = both n (low lo n al hl) (high up n au hu)
  where
    low' : (b n : ℤ) → nat_abs b ≤ B + R → (b *ℤ pos D) ≤ℤ n → neg_ℤ (pos ((B + R) * D)) ≤ℤ n
    low' = split2 _ (λ a b c e. simp zed (λ h k. omega (arith, mul-le-mul_right D (side a b (B + R) h))))
      where
        side : (a b m : ℕ) → (a - b) + (b - a) ≤ m → b ≤ m + a
        side a b m h = omega arith

    high' : (b n : ℤ) → nat_abs b ≤ B + R → n ≤ℤ (b *ℤ pos D) → n ≤ℤ pos ((B + R) * D)
    high' = split2 _ (λ a b c e. simp zed (λ h k. omega (arith, mul-le-mul_right D (side a b (B + R) h))))
      where
        side : (a b m : ℕ) → (a - b) + (b - a) ≤ m → a ≤ m + b
        side a b m h = omega arith

    own-n : nat_abs (neg_ℤ (pos R)) ≤ B + R
    own-n = simp zed (omega arith)

    low : (lo : Option ℤ) (n : ℤ) → AroundAt B lo → KeepsLowerᴰ D (closed lo (neg_ℤ (pos R))) n → neg_ℤ (pos ((B + R) * D)) ≤ℤ n
    low None n a h = low' (neg_ℤ (pos R)) n own-n h
    low (Some b) n a h = low' b n (omega arith) h

    high : (up : Option ℤ) (n : ℤ) → AroundAt B up → KeepsUpperᴰ D (closed up (pos R)) n → n ≤ℤ pos ((B + R) * D)
    high None n a h = high' (pos R) n (omega arith) h
    high (Some b) n a h = high' b n (omega arith) h

    both : (n : ℤ) → neg_ℤ (pos ((B + R) * D)) ≤ℤ n → n ≤ℤ pos ((B + R) * D) → nat_abs n ≤ (B + R) * D
    both = split _ (λ a b. simp zed (omega arith))

pub reach-first : {A : ℕ} {B : ℕ → ℕ} {C : ℕ} {R : ℕ → ℕ} (s : Instance) → RangesAt A B C s → Reaches A B C s R → NoRay s → AllLower s → (D : ℕ) → 1 ≤ D
    → (N : ℕ → ℤ) → Feasibleᴰ s D N
    → (N' : ℕ → ℤ) × Feasibleᴰ (shut_at R s) D N' × (valueᴰ s N ≤ℤ valueᴰ s N') × (valueᴰ s N' ≤ℤ valueᴰ s N → NotAfter s.count N' N)
reach-first {A} {B} {C} {R} s g e nr low D d N p = let w = reach-within t g' e' (ghost-ray s M low nr) D d N (into-priced s (ghost M n (prices s)) D N p) in
    let f = back w.0 w.1 in let o = ghost-first M n (prices s) N w.0 (near w.0 f) w.2 in (w.0, f, o.0, o.1)
  where
    n : ℕ
    n = s.count

    M : ℕ
    M = suc (most n (λ k. (B k + R k) * D + nat_abs (N k)))

    t : Instance
    t = priced s (ghost M n (prices s))

    g' : RangesAt A B C t
    g' = record { light = g.light; lowers = g.lowers; uppers = g.uppers; limited = g.limited }

    e' : Reaches A B C t R
    e' = record { lead = e.lead; near = e.near; back-far = e.back-far; total = e.total; total-is = e.total-is; enough = e.enough; far = e.far }

    back : (X : ℕ → ℤ) → Feasibleᴰ (shut_at R t) D X → Feasibleᴰ (shut_at R s) D X
    back X f = record { keeps = λ k l. record { marked = (f.keeps k l).marked; above = (f.keeps k l).above; below = (f.keeps k l).below }; fits = f.fits }

    near : (X : ℕ → ℤ) → Feasibleᴰ (shut_at R s) D X → Each n (λ k. Near M (X k -ℤ N k))
    near X f k l = near-diff M (X k) (N k)
        (omega (
          arith,
          most-is n (λ k. (B k + R k) * D + nat_abs (N k)) k l,
          bounded (B k) (R k) D (s.item k).lower (s.item k).upper (X k) (g.lowers k l) (g.uppers k l) (f.keeps k l).above (f.keeps k l).below,
        ))

module _ {A : ℕ} {B : ℕ → ℕ} {C : ℕ} {R : ℕ → ℕ} (s : Instance) (g : RangesAt A B C s) (e : Reaches A B C s R) (nr : NoRay s) (low : AllLower s) (E : ℕ)
    (E≥1 : 1 ≤ E) (M : ℕ → ℤ) where
  -- the first best point of the box is the first of all
  pub reach-foremost : Foremostᴰ (shut_at R s) E M → Foremostᴰ s E M
  reach-foremost b = record { optimal = reach-optimal-at s g e nr E M b.optimal; first = first }
    where
      first : (D : ℕ) (N : ℕ → ℤ) → 1 ≤ D → Feasibleᴰ s D N → NoBetter s E M D N → NoLater s.count E M D N
      first D N d p v = let w = reach-first s g e nr low D d N p in
          let up : NoBetter s E N E w.0 = times-≤ E (valueᴰ s N) (valueᴰ s w.0) w.2 in
          let dn : NoBetter s E w.0 E N = ≤ℤ-trans (b.optimal.highest D w.0 d w.1) v in
          not-after-trans (b.first D w.0 d w.1 (≤ℤ-trans v up)) (not-after-times E E≥1 (w.3 (times-≤-back E (valueᴰ s w.0) (valueᴰ s N) E≥1 dn)))
