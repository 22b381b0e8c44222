-- The levels: the head of the order of branching are the integer items, each once.
-- critical-key: what holds of both kinds of key for branching holds of the one that is chosen.
-- level-integer, level-of: every level's item is integer, and every integer item has a level.
use mathlib.Core.Path.{◌≡◌, refl, sym, ap, ◌∙◌, subst}
use mathlib.Core.Bool.{Bool, true, false, cond}
use mathlib.Core.List.{List}
use Prim.Native.Nat.{ℕ, ◌≤◌, ◌<◌}
use native.Mathlib.Decide.{dec_lt, ℕ_discrete}
use native.Mathlib.Omega.{arith}
use lib.Dec.{ltb}
use lib.IntN.{ℤ, pos, nat_abs}
use lib.Signed.{lt_z}
use Rattle.arith.proofs.Parts.{impossible}
use Rattle.greedy.specs.Fill.{at, place}
use Rattle.greedy.specs.Sized.{SizedColumns}
use Rattle.greedy.specs.declared.Columns.{Columns}
use Rattle.greedy.specs.declared.Fill.{Fill}
use Rattle.knapsack.specs.Ranges.{item_at}
use Rattle.knapsack.specs.declared.Item.{Item}
use Rattle.knapsack.specs.declared.Mark.TheVariants.{Integer, Continuous}
use Rattle.knapsack.specs.declared.Mark.{Mark}
use Rattle.knapsack.specs.declared.Problem.{Problem}
use Rattle.ordering.proofs.Insertion.{sorted-order}
use Rattle.ordering.proofs.Order as keyed
use Rattle.ordering.proofs.Permutations.{onto}
use Rattle.ordering.specs.Ranking.{Sorted}
use Rattle.prepare.proofs.Ranges.{zero-within}
use Rattle.prepare.specs.Figures.{is_integer, passes, key_item, branching_price, key_of, SmallKey}
use Rattle.prepare.specs.Tables.{listed, Leading}
use Rattle.prepare.specs.declared.tables.Key.TheVariants.{Branching}
use Rattle.prepare.specs.declared.tables.Key.{Key}
use Rattle.prepare.specs.declared.tables.Test.TheVariants.{Level}
use Rattle.prepare.specs.Prepared.{by_price, critical_key}

-- ---- the key that is chosen

pub critical-key : (c : Columns) (f : Fill) (P : Key → Type 0) → P by_price → P (Branching (at c.rate f.at) (at c.size f.at)) → P (critical_key c f)
critical-key c f P a b = go (lt_z f.room (pos 0)) (ltb f.at c.live)
  where
    go : (x y : Bool) → P (cond x by_price (cond y (Branching (at c.rate f.at) (at c.size f.at)) by_price))
    go true y = a
    go false true = b
    go false false = a

pub critical-small : (c : Columns) (f : Fill) → SizedColumns c → SmallKey (critical_key c f)
critical-small c f z = critical-key c f SmallKey (record { price = zero-within; weight = record { above = omega arith; below = omega arith } })
    (record { price = z.rates-in f.at; weight = z.sizes-in f.at })

-- a key weighs 1 if the item is integer, else 0
abbrev pub Tells : Key → Type 0
Tells b = (i : Item) → (key_of b i).weight ≡ cond (is_integer i.mark) (pos 1) (pos 0)

branching-tells : (p q : ℤ) → Tells (Branching p q)
branching-tells p q i = go (is_integer i.mark)
  where
    go : (b : Bool) → (cond b (key_item (pos 1) (branching_price p q i)) (key_item (pos 0) (pos 0))).weight ≡ cond b (pos 1) (pos 0)
    go true = refl
    go false = refl

pub critical-tells : (c : Columns) (f : Fill) → Tells (critical_key c f)
critical-tells c f = critical-key c f Tells (branching-tells (pos 0) (pos 1)) (branching-tells (at c.rate f.at) (at c.size f.at))

-- ---- marks

pub is-integer : (m : Mark) → is_integer m ≡ true → m ≡ Integer
is-integer Integer h = refl
is-integer Continuous h = absurd (impossible h)

pub integer-is : (m : Mark) → m ≡ Integer → is_integer m ≡ true
integer-is m e = ap is_integer e

one-or-none : (b : Bool) → cond b (pos 1) (pos 0) ≡ pos 0 → b ≡ false
one-or-none true h = absurd (let z : 1 ≡ 0 = ap nat_abs h in omega arith)
one-or-none false h = refl

-- ---- levels

module _ (p : Problem) (by : Key) (t : Tells by) (l : List ℕ) (m : ℕ) (s : Sorted (λ k. key_of by (item_at p k)) p.count l)
    (h : Leading p.count (λ u. passes Level (listed p l u)) m) where
  order : keyed.Ordered (λ k. key_of by (item_at p k)) p.count (λ u. place l u)
  order = sorted-order (λ k. key_of by (item_at p k)) p.count l s

  pub level_in : (d : ℕ) → d < m → place l d < p.count
  level_in d g = order.place d (omega (arith, h.most))

  pub level-once : (i j : ℕ) → i < m → j < m → place l i ≡ place l j → i ≡ j
  level-once i j a b e = order.once i j (omega (arith, h.most)) (omega (arith, h.most)) e

  pub level-integer : (d : ℕ) → d < m → (item_at p (place l d)).mark ≡ Integer
  level-integer d g = is-integer (item_at p (place l d)).mark (h.pass d g)

  -- behind the levels no item is integer
  behind : (u : ℕ) → m ≤ u → u < p.count → is_integer (listed p l u).mark ≡ false
  behind u g w = go (ℕ_discrete m u)
    where
      stop : is_integer (listed p l m).mark ≡ false
      stop = h.stop (omega arith)

      light : (key_of by (listed p l m)).weight ≡ pos 0
      light = t (listed p l m) ∙ ap (λ b. cond b (pos 1) (pos 0)) stop

      go : Dec (m ≡ u) → is_integer (listed p l u).mark ≡ false
      go (yes e) = subst (λ v. is_integer (listed p l v).mark ≡ false) e stop
      go (no e) = one-or-none (is_integer (listed p l u).mark) (sym (t (listed p l u)) ∙ order.last m u (omega arith) w light)

  pub level-of : (k : ℕ) → k < p.count → (item_at p k).mark ≡ Integer → (d : ℕ) × (d < m) × (place l d ≡ k)
  level-of k g e = go (onto p.count (λ u. place l u) order.place order.once k g)
    where
      at_level : (u : ℕ) → u < p.count → place l u ≡ k → Dec (u < m) → (d : ℕ) × (d < m) × (place l d ≡ k)
      at_level u w q (yes f) = (u, f, q)
      at_level u w q (no f) = absurd (impossible (sym (behind u (omega arith) w) ∙ integer-is (listed p l u).mark (ap (λ j. (item_at p j).mark) q ∙ e)))

      go : (u : ℕ) × (u < p.count) × (place l u ≡ k) → (d : ℕ) × (d < m) × (place l d ≡ k)
      go (u, w, q) = at_level u w q (dec_lt u m)
