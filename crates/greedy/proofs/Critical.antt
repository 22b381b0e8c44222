-- The relaxation's certificate: items of a better ratio at their heavy end, of a worse one at their light end, and one item filled up to the capacity.
use mathlib.Core.Path.{◌≡◌, refl, ap, ap₂, ◌∙◌}
use mathlib.Core.Logic.{◌≢◌}
use Prim.Native.Nat.{ℕ, suc, ◌*◌, ◌≤◌, ◌<◌}
use native.Mathlib.Omega.{arith}
use native.Mathlib.Decide.{ℕ_discrete}
use lib.IntN.{ℤ, pos, negsuc, neg_ℤ, nat_abs, ◌+ℤ◌, ◌-ℤ◌, ◌*ℤ◌}
use lib.Signed.{◌≤ℤ◌, ◌<ℤ◌}
use Rattle.arith.proofs.Integers.{split, split2, split3, zed}
use Rattle.arith.proofs.Sums.{bump-other, sum_bump, sum-times}
use Rattle.arith.specs.Sum.{bump}
use Rattle.knapsack.proofs.Common.{weighsᴰ}
use Rattle.knapsack.proofs.Dual.{score, AtBound, AtEnd, Certificate}
use Rattle.knapsack.specs.Meaning.{Instance, weights, prices}
use Rattle.knapsack.specs.declared.Item.{Item}
use Rattle.arith.specs.Signs.{times_sign}

-- the end where an item weighs most, and where it weighs least
abbrev pub HeavyEnd : ℕ → Item → ℤ → Type 0
HeavyEnd E i m = (pos 0 <ℤ i.weight → AtBound E i.upper m) × (i.weight <ℤ pos 0 → AtBound E i.lower m)

abbrev pub LightEnd : ℕ → Item → ℤ → Type 0
LightEnd E i m = (pos 0 <ℤ i.weight → AtBound E i.lower m) × (i.weight <ℤ pos 0 → AtBound E i.upper m)

-- the signs of a score
score-up : (p q : ℕ) (a c : ℤ) → (pos p *ℤ pos (nat_abs a)) ≤ℤ (pos q *ℤ times_sign a c) → (score p q a c <ℤ pos 0 → a <ℤ pos 0)
    × (pos 0 <ℤ score p q a c → pos 0 ≤ℤ a)
unfolding score
score-up p q (pos n) c h = (λ k. absurd (no c h k), λ k. simp zed (omega arith))
  where
    no : (c : ℤ) → (pos p *ℤ pos n) ≤ℤ (pos q *ℤ c) → (pos q *ℤ c -ℤ pos p *ℤ pos n) <ℤ pos 0 → ⊥
    no = split _ (λ a b. simp zed (omega arith))
score-up p q (negsuc n) c h = (λ k. simp zed (omega arith), λ k. absurd (no c h k))
  where
    no : (c : ℤ) → (pos p *ℤ pos (suc n)) ≤ℤ (pos q *ℤ neg_ℤ c) → pos 0 <ℤ (pos q *ℤ c -ℤ pos p *ℤ negsuc n) → ⊥
    no = split _ (λ a b. simp zed (omega arith))

score-down : (p q : ℕ) (a c : ℤ) → (pos q *ℤ times_sign a c) ≤ℤ (pos p *ℤ pos (nat_abs a)) → (score p q a c <ℤ pos 0 → pos 0 ≤ℤ a)
    × (pos 0 <ℤ score p q a c → a <ℤ pos 0)
unfolding score
score-down p q (pos n) c h = (λ k. simp zed (omega arith), λ k. absurd (no c h k))
  where
    no : (c : ℤ) → (pos q *ℤ c) ≤ℤ (pos p *ℤ pos n) → pos 0 <ℤ (pos q *ℤ c -ℤ pos p *ℤ pos n) → ⊥
    no = split _ (λ a b. simp zed (omega arith))
score-down p q (negsuc n) c h = (λ k. absurd (no c h k), λ k. simp zed (omega arith))
  where
    no : (c : ℤ) → (pos q *ℤ neg_ℤ c) ≤ℤ (pos p *ℤ pos (suc n)) → (pos q *ℤ c -ℤ pos p *ℤ negsuc n) <ℤ pos 0 → ⊥
    no = split _ (λ a b. simp zed (omega arith))

above : (a : ℤ) → pos 0 ≤ℤ a → a ≢ pos 0 → pos 0 <ℤ a
above = split _ (λ a b. simp zed (omega arith))

-- a ratio of at least p / q wants the heavy end
pub heavy-end : (p q E : ℕ) (i : Item) (m : ℤ) → i.weight ≢ pos 0 → (pos p *ℤ pos (nat_abs i.weight)) ≤ℤ (pos q *ℤ times_sign i.weight i.price)
    → HeavyEnd E i m → AtEnd E (score p q i.weight i.price) i m
heavy-end p q E i m nz h e =
    let s = score-up p q i.weight i.price h in record { good = λ k. e.0 (above i.weight (s.1 k) nz); bad = λ k. e.1 (s.0 k) }

-- a ratio of at most p / q wants the light end
pub light-end : (p q E : ℕ) (i : Item) (m : ℤ) → i.weight ≢ pos 0 → (pos q *ℤ times_sign i.weight i.price) ≤ℤ (pos p *ℤ pos (nat_abs i.weight))
    → LightEnd E i m → AtEnd E (score p q i.weight i.price) i m
light-end p q E i m nz h e =
    let s = score-down p q i.weight i.price h in record { good = λ k. e.1 (s.1 k); bad = λ k. e.0 (above i.weight (s.0 k) nz) }

-- ---- the item k of weight g * q and price g * p, g = 1 or -1, takes what the whole ends e leave

pub own-score : (p q : ℕ) (g a c : ℤ) → a ≡ g *ℤ pos q → c ≡ g *ℤ pos p → score p q a c ≡ pos 0
unfolding score
own-score p q = split3 _ (λ a b c e f g. simp zed (λ h k. omega (arith, ap (λ (n : ℕ). p * n) h, ap (λ (n : ℕ). q * n) k)))

abbrev pub filled : Instance → ℕ → ℕ → ℤ → (ℕ → ℤ) → ℕ → ℤ
filled s k q g e = bump (λ j. e j *ℤ pos q) k (g *ℤ (s.capacity -ℤ weighsᴰ s e))

pub fill : (s : Instance) (k p q : ℕ) (g : ℤ) (e : ℕ → ℤ) → k < s.count → 1 ≤ q → g *ℤ g ≡ pos 1 → weights s k ≡ g *ℤ pos q → prices s k ≡ g *ℤ pos p
    → ((j : ℕ) → j < s.count → j ≢ k → AtEnd q (score p q (weights s j) (prices s j)) (s.item j) (e j *ℤ pos q)) → Certificate s q (filled s k q g e)
fill s k p q g e l q≥1 gg ew ec h = record { p = p; q = q; q≥1 = q≥1; ends = λ j m. at j m (ℕ_discrete j k); tight = ap (λ z. pos p *ℤ z) level }
  where
    -- g times g is 1
    undo : (g x : ℤ) → g *ℤ g ≡ pos 1 → (g *ℤ pos q) *ℤ (g *ℤ x) ≡ x *ℤ pos q
    undo g x h = regroup g x ∙ ap (λ z. z *ℤ (x *ℤ pos q)) h ∙ one x
      where
        regroup : (g x : ℤ) → (g *ℤ pos q) *ℤ (g *ℤ x) ≡ (g *ℤ g) *ℤ (x *ℤ pos q)
        regroup = split2 _ (λ a b c e. simp zed (omega arith))

        one : (x : ℤ) → pos 1 *ℤ (x *ℤ pos q) ≡ x *ℤ pos q
        one = split _ (λ a b. simp zed (omega arith))

    close : (w b : ℤ) → w *ℤ pos q +ℤ (b -ℤ w) *ℤ pos q ≡ b *ℤ pos q
    close = split2 _ (λ a b c e. simp zed (omega arith))

    level : weighsᴰ s (filled s k q g e) ≡ s.capacity *ℤ pos q
    level = sum_bump s.count (weights s) (λ j. e j *ℤ pos q) k (g *ℤ (s.capacity -ℤ weighsᴰ s e)) l
        ∙ ap₂ ◌+ℤ◌ (sum-times s.count (weights s) e q) (ap (λ z. z *ℤ (g *ℤ (s.capacity -ℤ weighsᴰ s e))) ew ∙ undo g (s.capacity -ℤ weighsᴰ s e) gg)
        ∙ close (weighsᴰ s e) s.capacity

    own : score p q (weights s k) (prices s k) ≡ pos 0
    own = own-score p q g (weights s k) (prices s k) ew ec

    at : (j : ℕ) → j < s.count → Dec (j ≡ k) → AtEnd q (score p q (weights s j) (prices s j)) (s.item j) (filled s k q g e j)
    at j m (yes r) = rw (r, own) (record { good = λ z. absurd z.lt; bad = λ z. absurd z.lt })
    at j m (no r) = rw (bump-other (λ i. e i *ℤ pos q) k (g *ℤ (s.capacity -ℤ weighsᴰ s e)) j r) (h j m r)

pub fill-price : (s : Instance) (k p q : ℕ) (g : ℤ) (e : ℕ → ℤ) (l : k < s.count) (q≥1 : 1 ≤ q) (gg : g *ℤ g ≡ pos 1) (ew : weights s k ≡ g *ℤ pos q)
    (ec : prices s k ≡ g *ℤ pos p)
    (h : (j : ℕ) → j < s.count → j ≢ k → AtEnd q (score p q (weights s j) (prices s j)) (s.item j) (e j *ℤ pos q)) → (fill s k p q g e l q≥1 gg ew ec h).p ≡ p
unfolding fill
fill-price s k p q g e l q≥1 gg ew ec h = refl
