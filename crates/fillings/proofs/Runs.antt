-- What the least cost with keys says of the fillings within ranges.
-- runs_none: nothing costs less than the cap. runs-wider: what is found within the narrowed ranges is found within all. runs-made: what is found by keys.
-- keyed-none, keyed-made: both as the code has them.
use mathlib.Core.Path.{◌≡◌, refl, sym, ap, ap₂, subst, ◌∙◌}
use mathlib.Core.Bool.{Bool, true, false, cond}
use mathlib.Core.List.{List}
use mathlib.Core.Logic.{◌⊎◌, inl, inr}
use Prim.Native.Nat.{ℕ, suc, ◌+◌, ◌*◌, ◌-◌, ◌/◌, ◌%◌, ◌≤◌, ◌<◌}
use native.Mathlib.Omega.{arith}
use native.Mathlib.Decide.{dec_lt}
use native.Mathlib.Nat.{mul-le-mul_right, mod-lt, div-mul-le_self, div-le_self}
use lib.ListN.{length}
use borrow.Author.Tests.{lt-ltb, le-ltb}
use Rattle.scales.specs.Filling.{Items, load, cost, Within, items_of, Reached, Least}
use Rattle.scales.proofs.Sums.{sum-cong}
use Rattle.fillings.specs.declared.Parts.{Parts}
use Rattle.fillings.specs.declared.Ranges.{Ranges}
use Rattle.fillings.specs.declared.Group.{Group}
use Rattle.fillings.specs.declared.Run.{Run}
use Rattle.scales.specs.declared.Cost.{Cost}
use Rattle.fillings.specs.Keys.{keys, key, digits, radix}
use Rattle.fillings.specs.Ranges.{num, flag, items_in, Inside, Among, offset_of, boxed, Made, Narrows}
use Rattle.fillings.specs.Runs.{Grouped, in_group, keyed_taken, keyed_left, Fixes, less_by, Earlier, Fills, Filling, run_cells, Begins, LeastKeyed, Decodes}
use Rattle.fillings.specs.Runs.{Runs}
use Rattle.fillings.proofs.Keys.{Digits, Same, Sooner, keys-some, key_below, key-≤, key-digits, digits_in_lem, digits-key, key-sum}
use Rattle.fillings.proofs.Costs as costs
use Rattle.fillings.proofs.Boxes.{Shifted, from_low, shifted_of, shifted-to, shifted-within, shifted-load, shifted-cost}
use Rattle.fillings.proofs.Narrow.{near-inside, near-keeps, near-wide-in}

-- ---- nothing is found

pub runs_none : (p : Parts) (r : Ranges) (C cap f w : ℕ) → w ≤ run_cells → ((y : ℕ → ℕ) → Inside r y → Fills p C y → cap ≤ cost (items_in p) y)
    → Runs p r C cap f (record { cost = cap; ranges = r; to = f; written = w })
runs_none p r C cap f w few h = record {
  few = few;
  capped = omega arith;
  bounds = h;
  reached = λ l. absurd (omega arith);
  among = λ l. absurd (omega arith);
  fixed = λ l. absurd (omega arith);
  first = λ l. absurd (omega arith);
  end = (omega arith, λ l. l);
  some = λ l. absurd (omega arith);
}

-- ---- within the narrowed ranges

pub runs-wider : (p : Parts) (r r' : Ranges) (C cap f left : ℕ) (n : Run) → length p.weight ≡ 17 → Among p r → left ≡ cap - offset_of p r →
    1 ≤ left → Narrows p left r r' → Runs p r' C cap f n → Runs p r C cap f n
runs-wider p r r' C cap f left n long among left_is left≥1 near h = record {
  few = h.few;
  capped = h.capped;
  bounds = λ y i k. bounds y i k (dec_lt (cost (items_in p) y) cap);
  reached = h.reached;
  among = λ l y i. near-inside p r r' left long among near y (h.among l y i);
  fixed = h.fixed;
  first = λ l y i k m. h.first l y (stays y i (omega arith)) k m;
  end = h.end;
  some = λ l m k. h.some l m (omega (arith, times cap (num r.wide f) (num r'.wide f) (near-wide-in p r r' left long among near f (omega arith))));
}
  where
    stays : (y : ℕ → ℕ) → Inside r y → cost (items_in p) y < cap → Inside r' y
    stays y i k = near-keeps p r r' left long among near y i (omega arith)

    times : (c w v : ℕ) → v ≤ w → c * suc v ≤ c * suc w
    times c w v i = omega (arith, mul-le-mul_right c i)

    bounds : (y : ℕ → ℕ) → Inside r y → Fills p C y → Dec (cost (items_in p) y < cap) → n.cost ≤ cost (items_in p) y
    bounds y i k (yes m) = h.bounds y (stays y i m) k
    bounds y i k (no m) = omega (arith, h.capped)

-- ---- by keys

module _ (p : Parts) (r : Ranges) (long : length p.weight ≡ 17) (among : Among p r) (C cap f left room : ℕ) (fe : f ≤ 16)
    (left_is : left ≡ cap - offset_of p r) (left≥1 : 1 ≤ left) (room-is : load (items_in p) (num r.low) + room ≡ C) (g : Group)
    (grouped : Grouped r.wide f 16 left g)
    (rad ts ls : List ℕ) (rads : Made 17 (radix (num r.wide) f g.to) rad) (takens : Made 17 (keyed_taken p (left * g.base) left g.base rad) ts)
    (lefts : Made 17 (keyed_left p (left * g.base) left g.base rad) ls) where
  abbrev N : ℕ
  N = length p.weight

  abbrev I : Items
  I = items_in p

  abbrev J : Items
  J = items_of p.weight r.wide ts ls

  abbrev u : ℕ → ℕ
  u = num r.wide

  abbrev b : ℕ → Bool
  b = flag p.falls

  abbrev to : ℕ
  to = g.to

  abbrev base : ℕ
  base = g.base

  abbrev m : ℕ
  m = to - f

  to_is : f + m ≡ to
  to_is = omega (arith, grouped.from)

  to_in : to ≤ 17
  to_in = omega (arith, grouped.end fe)

  in-17 : (j : ℕ) → j < N → j < 17
  in-17 j l = omega (arith, long)

  digit : (ℕ → ℕ) → ℕ → ℕ
  digit z j = cond (b j) (u j - z j) (z j)

  key_of : (ℕ → ℕ) → ℕ
  key_of z = key u (digit z) f m

  base-is : base ≡ keys u f m
  base-is = grouped.base-is

  offset-in : offset_of p r + left ≡ cap
  offset-in = omega (arith, left_is, left≥1)

  -- amounts within the ranges
  module _ (z : ℕ → ℕ) (w : Within (boxed p r) z) where
    digits_low : Digits u (digit z) f m
    unfolding digit
    digits_low j i k = go (b j) (w j (omega (arith, long, to_is, to_in)))
      where
        go : (c : Bool) → z j ≤ u j → cond c (u j - z j) (z j) ≤ u j
        go true h = omega arith
        go false h = h

    key-small : key_of z < base
    unfolding key_of
    key-small = omega (arith, base-is, key_below u (digit z) f m digits_low)

    -- the sum of keys
    sum_is : costs.key_sum (num p.taken) (num p.left) u (num rad) b left base z N ≡ key_of z
    unfolding key_of digit
    sum_is = sum-cong N _ (λ j. radix u f (f + m) j * digit z j)
        (λ j l. ap (λ (n : ℕ). n * digit z j) (rads.each j (in-17 j l) ∙ ap (λ t. radix u f t j) (sym to_is)))
        ∙ key-sum u (digit z) f m N (omega (arith, to_is, to_in, long))

    -- the costs of the scales are those with keys
    same-cost : cost J z ≡ costs.keyed (num p.taken) (num p.left) u (num rad) b left base z N
    same-cost = sum-cong N _ _ (λ j l. ap₂ (λ (x y : ℕ). x * z j + y * (u j - z j)) (takens.each j (in-17 j l)) (lefts.each j (in-17 j l)))

    cost-most : cost J z ≤ cost (boxed p r) z * base + key_of z
    cost-most = omega (arith, same-cost, sum_is, costs.keyed-≤ (num p.taken) (num p.left) u (num rad) b left base z N)

    cost-exact : cost J z < left * base → cost J z ≡ cost (boxed p r) z * base + key_of z
    cost-exact h = omega (arith, same-cost, sum_is, costs.keyed-≡ (num p.taken) (num p.left) u (num rad) b left base z N (omega (arith, same-cost)))

  module _ (c : ℕ) (h : Least (left * base) J room c) where
    -- a filling within the ranges, from the least amounts on
    module _ (y : ℕ → ℕ) (i : Inside r y) (fl : Fills p C y) where
      z : ℕ → ℕ
      z = from_low r y

      s : Shifted r y z
      unfolding z
      s = shifted_of r y i

      w : Within (boxed p r) z
      w = shifted-within p r long among y z s

      low : c ≤ cost (boxed p r) z * base + key_of z
      low = omega (arith, h.bounds z w (omega (arith, shifted-load p r long among y z s, room-is)), cost-most z w)

      cost-is : cost I y ≡ offset_of p r + cost (boxed p r) z
      cost-is = shifted-cost p r long among y z s

      -- it costs no less than the quotient says
      quotient-low : offset_of p r + c / base ≤ cost I y
      quotient-low = omega (arith, cost-is, costs.cost-low c (cost (boxed p r) z) base (key_of z) (key-small z w) low)

      -- if it costs just that, its key is no lower
      key-least : cost I y ≡ offset_of p r + c / base → c % base ≤ key_of z
      key-least k = costs.key-low c (cost (boxed p r) z) base (key_of z) low (omega (arith, cost-is))

      cap-least : c ≡ left * base → cap ≤ cost I y
      cap-least k = omega (arith, cost-is, offset-in, costs.cap-low left (cost (boxed p r) z) base (key_of z) (key-small z w) (omega (arith, low)))

    -- nothing costs less than the cap
    pub none_made : c ≡ left * base → (y : ℕ → ℕ) → Inside r y → Fills p C y → cap ≤ cost I y
    none_made k y i fl = cap-least y i fl k

    -- what is found
    module _ (found : c < left * base) (ds : List ℕ) (read : Made 17 (digits u f m (c % base)) ds) (r' : Ranges) (fixes : Fixes p f to ds r r') where
      D : ℕ → ℕ
      D = digits u f m (c % base)

      base≥1 : 1 ≤ base
      base≥1 = omega (arith, base-is, keys-some u f m)

      rest_in : c % base < keys u f m
      rest_in = omega (arith, base-is, mod-lt c base≥1)

      D-in : Digits u D f m
      unfolding D
      D-in = digits_in_lem u f m (c % base) rest_in

      -- a part of the group, and any other one
      in_group_lem : (j : ℕ) → f ≤ j → j < to → in_group f to j ≡ true
      in_group_lem j i k = rw (le-ltb j f i) (lt-ltb j to k)

      before-group : (j : ℕ) → j < f → in_group f to j ≡ false
      before-group j i = rw (lt-ltb j f i)

      after-group : (j : ℕ) → to ≤ j → in_group f to j ≡ false
      after-group j i = rw (le-ltb j f (omega (arith, grouped.from)), le-ltb j to i)

      amount : ℕ → ℕ
      amount j = num r.low j + cond (b j) (u j - D j) (D j)

      low-in : (j : ℕ) → f ≤ j → j < to → num r'.low j ≡ amount j
      unfolding amount D
      low-in j i k = let l : j < 17 = omega (arith, to_in) in fixes.lows.each j l ∙ rw (in_group_lem j i k, read.each j l)

      wide-in : (j : ℕ) → f ≤ j → j < to → num r'.wide j ≡ 0
      wide-in j i k = let l : j < 17 = omega (arith, to_in) in fixes.wides.each j l ∙ rw (in_group_lem j i k)

      -- part j is fixed, or as before
      data Place (j : ℕ) : Type 0 where
        fixed : f ≤ j → j < to → num r'.low j ≡ amount j → num r'.wide j ≡ 0 → Place j
        free : num r'.low j ≡ num r.low j → num r'.wide j ≡ u j → Place j

      place : (j : ℕ) → j < 17 → Place j
      place j l = go (dec_lt j f) (dec_lt j to)
        where
          go : Dec (j < f) → Dec (j < to) → Place j
          go (yes i) d = free (fixes.lows.each j l ∙ rw (before-group j i)) (fixes.wides.each j l ∙ rw (before-group j i))
          go (no i) (no k) = free (fixes.lows.each j l ∙ rw (after-group j (omega arith))) (fixes.wides.each j l ∙ rw (after-group j (omega arith)))
          go (no i) (yes k) = fixed (omega arith) k (low-in j (omega arith) k) (wide-in j (omega arith) k)

      amount-in : (j : ℕ) → f ≤ j → j < to → (num r.low j ≤ amount j) × (amount j ≤ num r.low j + u j)
      unfolding amount
      amount-in j i k = go (b j) (D-in j i (omega (arith, to_is)))
        where
          go : (c : Bool) → D j ≤ u j → (num r.low j ≤ num r.low j + cond c (u j - D j) (D j)) ×
              (num r.low j + cond c (u j - D j) (D j) ≤ num r.low j + u j)
          go true h = (omega arith, omega arith)
          go false h = (omega arith, omega arith)

      inside : (a : ℕ → ℕ) → Inside r' a → Inside r a
      inside a i j l = go (place j l)
        where
          go : Place j → (num r.low j ≤ a j) × (a j ≤ num r.low j + u j)
          go (fixed k n x y) = let h = amount-in j k n in (omega (arith, (i j l).0, h.0), omega (arith, (i j l).1, h.1))
          go (free x y) = (omega (arith, (i j l).0), omega (arith, (i j l).1))

      -- amounts inside are the decoded ones
      decoded : (a : ℕ → ℕ) → Inside r' a → (j : ℕ) → f ≤ j → j < to → a j ≡ amount j
      decoded a i j k n = let l : j < 17 = omega (arith, to_in) in omega (arith, (i j l).0, (i j l).1, low-in j k n, wide-in j k n)

      -- an amount whose digit is the decoded one
      from-digit : (j z : ℕ) → z ≤ u j → D j ≡ cond (b j) (u j - z) z → num r.low j + z ≡ amount j
      unfolding amount
      from-digit j z h e = go (b j) e
        where
          go : (c : Bool) → D j ≡ cond c (u j - z) z → num r.low j + z ≡ num r.low j + cond c (u j - D j) (D j)
          go true e = omega arith
          go false e = omega arith

      -- and one whose digit is higher comes later
      from-higher : (j z : ℕ) → z ≤ u j → D j < cond (b j) (u j - z) z → less_by (b j) (amount j) (num r.low j + z)
      unfolding amount
      from-higher j z h e = go (b j) e
        where
          go : (c : Bool) → D j < cond c (u j - z) z → less_by c (num r.low j + cond c (u j - D j) (D j)) (num r.low j + z)
          go true e = omega arith
          go false e = omega arith

      -- the same digits in the group: inside
      same-inside : (y : ℕ → ℕ) (x : ℕ → ℕ) → Shifted r y x → Same D (digit x) f m → Inside r' y
      unfolding digit
      same-inside y x s e j l = go (place j l)
        where
          go : Place j → (num r'.low j ≤ y j) × (y j ≤ num r'.low j + num r'.wide j)
          go (fixed k n v w) = let q = from-digit j (x j) (s.few j l) (e j k (omega (arith, to_is))) in (omega (arith, s.up j l), omega (arith, s.up j l))
          go (free v w) = (omega (arith, s.up j l), omega (arith, s.up j l, s.few j l))

      -- digits that are sooner: earlier
      sooner-earlier : (y : ℕ → ℕ) (x : ℕ → ℕ) → Shifted r y x → Sooner D (digit x) f m → (a : ℕ → ℕ) → Inside r' a →
          ((j : ℕ) → j < f → a j ≡ y j) → Earlier p to a y
      unfolding digit
      sooner-earlier y x s o a i before = record {
        place = q;
        below = q-in;
        same = λ j k. agree j k (dec_lt j f);
        less = subst (λ v. less_by (b q) v (y q)) (sym (decoded a i q o.from q-in))
            (subst (λ v. less_by (b q) (amount q) v) (sym (s.up q q-17)) (from-higher q (x q) (s.few q q-17) o.less));
      }
        where
          q : ℕ
          q = o.place

          q-in : q < to
          q-in = omega (arith, o.below, to_is)

          q-17 : q < 17
          q-17 = omega (arith, q-in, to_in)

          agree : (j : ℕ) → j < q → Dec (j < f) → a j ≡ y j
          agree j k (yes n) = before j n
          agree j k (no n) = let l : j < 17 = omega (arith, q-17) in
              decoded a i j (omega arith) (omega (arith, q-in)) ∙ sym (s.up j l ∙ from-digit j (x j) (s.few j l) (o.same j (omega arith) k))

      way : Reached J room c
      way = h.reached found

      z₀ : ℕ → ℕ
      z₀ = way.amounts

      split₀ : (c / base ≡ cost (boxed p r) z₀) × (c % base ≡ key_of z₀)
      unfolding z₀
      split₀ = costs.split-cost c (cost (boxed p r) z₀) base (key_of z₀) (key-small z₀ way.within)
          (sym way.costs ∙ cost-exact z₀ way.within (omega (arith, way.costs)))

      y₀ : ℕ → ℕ
      y₀ j = num r.low j + z₀ j

      s₀ : Shifted r y₀ z₀
      unfolding z₀ y₀
      s₀ = shifted-to p r long among z₀ way.within

      same₀ : Same D (digit z₀) f m
      unfolding D key_of z₀
      same₀ = subst (λ x. Same (digits u f m x) (digit z₀) f m) (sym split₀.1) (key-digits u (digit z₀) f m (digits_low z₀ way.within))

      filling : Filling p r' C (offset_of p r + c / base)
      unfolding z₀
      filling = record {
        amounts = y₀;
        inside = same-inside y₀ z₀ s₀ same₀;
        fills = shifted-load p r long among y₀ z₀ s₀ ∙ omega (arith, way.fills, room-is);
        costs = shifted-cost p r long among y₀ z₀ s₀ ∙ omega (arith, split₀.0);
      }

      first : (y : ℕ → ℕ) → Inside r y → Fills p C y → cost I y ≡ offset_of p r + c / base →
          Inside r' y ⊎ ((a : ℕ → ℕ) → Inside r' a → ((j : ℕ) → j < f → a j ≡ y j) → Earlier p to a y)
      unfolding D key_of
      first y i fl k = go (key-≤ u D (digit x) f m D-in (digits_low x (w y i fl)) (omega (arith, digits-key u f m (c % base) rest_in, key-least y i fl k)))
        where
          x : ℕ → ℕ
          x = z y i fl

          go : Same D (digit x) f m ⊎ Sooner D (digit x) f m → Inside r' y ⊎ ((a : ℕ → ℕ) → Inside r' a → ((j : ℕ) → j < f → a j ≡ y j) → Earlier p to a y)
          go (inl e) = inl (same-inside y x (s y i fl) e)
          go (inr e) = inr (sooner-earlier y x (s y i fl) e)

      pub runs-made : (n t : ℕ) → t ≤ run_cells → n ≡ (cap - left) + c / base → Runs p r C cap f (record { cost = n; ranges = r'; to = to; written = t })
      runs-made n t few is = subst (λ x. Runs p r C cap f (record { cost = x; ranges = r'; to = to; written = t })) (sym (is ∙ whole)) (record {
        few = few;
        capped = omega (arith, below);
        bounds = λ y i fl. quotient-low y i fl;
        reached = λ l. filling;
        among = λ l a i. inside a i;
        fixed = λ l j i k. wide-in j i k;
        first = λ l y i fl k. first y i fl k;
        end = (grouped.from, grouped.end);
        some = λ l k i. grouped.some k (omega (arith, mul-le-mul_right (suc (u f)) most));
      })
        where
          whole : (cap - left) + c / base ≡ offset_of p r + c / base
          whole = ap (λ (x : ℕ). x + c / base) (omega (arith, offset-in))

          most : left ≤ cap
          most = omega (arith, offset-in)

          below : offset_of p r + c / base < cap
          below = omega (arith, offset-in, split₀.0, less)
            where
              less : c / base < left
              less = under (dec_lt (c / base) left)
                where
                  under : Dec (c / base < left) → c / base < left
                  under (yes l) = l
                  under (no l) = absurd (omega (arith, mul-le-mul_right base (up l), div_most))
                    where
                      up : (c / base < left → ⊥) → left ≤ c / base
                      up l = omega arith

                      div_most : (c / base) * base ≤ c
                      div_most = div-mul-le_self c base

-- ---- as the code has it

module _ {p : Parts} {r : Ranges} {C cap f left room free : ℕ} {g : Group} {c : Cost} (b : Begins p r C cap f left room)
    (h : Grouped r.wide f 16 left g) (k : LeastKeyed p r f left room g free c) where
  pub keyed-none : c.least ≡ left * g.base → Runs p r C cap f (record { cost = cap; ranges = r; to = f; written = c.written })
  keyed-none is = runs_none p r C cap f c.written k.few
      (none_made p r b.fair.long b.among C cap f left room b.start b.left_is b.left≥1 b.room-is g h
      k.rad k.ts k.ls k.rads k.takens k.lefts c.least k.least is)

  pub keyed-made : {r' : Ranges} → (c.least ≡ left * g.base → ⊥) → Decodes p r f g (c.least % g.base) r'
      → Runs p r C cap f (record { cost = (cap - left) + c.least / g.base; ranges = r'; to = g.to; written = c.written })
  keyed-made {r'} ne d = runs-made p r b.fair.long b.among C cap f left room b.start b.left_is
      b.left≥1 b.room-is g h
      k.rad k.ts k.ls k.rads k.takens k.lefts c.least k.least (omega (arith, k.least.capped)) d.ds d.read r' d.fixes _
      c.written k.few refl

  pub quotient-small : c.least / g.base ≤ left * g.base
  quotient-small = omega (arith, div-le_self c.least g.base, k.least.capped)
