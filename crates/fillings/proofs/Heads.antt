-- Ranges whose first parts are fixed at their first amounts, one after the other.
-- caps-among: the same ranges. nears-kept: narrowed by costs and by weights. heads-kept: narrowed ranges.
-- heads-short: the next part at its first amounts, heads-fixed: at the first one. opens_kept: at a share, and narrowed.
-- leap-in, share-some, leaps-as: the leaps by number. heads-shut: what no filling is in.
use mathlib.Core.Path.{◌≡◌, sym, ◌∙◌}
use mathlib.Core.Bool.{Bool, true, false, cond}
use mathlib.Core.Logic.{◌⊎◌, inl, inr}
use Prim.Native.Nat.{ℕ, ◌+◌, ◌-◌, ◌/◌, ◌≤◌, ◌<◌}
use native.Mathlib.Omega.{arith}
use native.Mathlib.Decide.{dec_lt, ℕ_discrete}
use native.Mathlib.Nat.{div-le_self, div-mul-le_self, le-div_iff_mul-le}
use borrow.Author.Tests.{lt-ltb, le-ltb}
use lib.Dec.{ltb}
use lib.ListN.{length}
use Rattle.scales.specs.Filling.{cost}
use Rattle.fillings.specs.declared.Parts.{Parts}
use Rattle.fillings.specs.declared.Ranges.{Ranges}
use Rattle.fillings.specs.declared.Run.{Run}
use Rattle.fillings.specs.Ranges.{num, flag, items_in, Inside, Among, offset_of}
use Rattle.fillings.specs.Runs.{less_by, Earlier, Fills}
use Rattle.fillings.specs.Leaps.{Nears, Keeps, Caps, short_low, Shortens, Heads, Opens, leap_to, leap_share, Leaps}
use Rattle.fillings.proofs.Boxes.{offset-least}
use Rattle.fillings.proofs.Foremost.{inside-within, among-less, wide-less, earlier_more}

-- ---- narrowed

pub caps-among : {p q : Parts} {C cap : ℕ} (r : Ranges) → Caps p C q cap → Among p r → Among q r
caps-among r x h j l = rw x.ranges (h j l)

pub nears-kept : (p up down : Parts) (C cap most spare : ℕ) (r a b n : Ranges) → length p.weight ≡ 17 → Among p r → Caps p C up most → Caps p C down spare →
    Nears p cap r a → Nears up most a b → Nears down spare b n → Keeps p C cap r n
nears-kept p up down C cap most spare r a b n long among x z e f g = record {
  inside = λ y i. e.inside y (f.inside y (g.inside y i));
  kept = λ y i fl k. let m = inside-within p r long among y i in g.kept y (f.kept y (e.kept y i k) (x.below y m fl)) (z.below y m fl);
}

pub heads-kept : (p : Parts) (C cap : ℕ) (r n : Ranges) (f l : ℕ) → 1 ≤ cap → Keeps p C cap r n → Heads p C (cap - 1) r f l →
    Heads p C (cap - 1) n f l
heads-kept p C cap r n f l cap≥1 k s = record {
  inside = s.inside;
  among = among-less p r n s.among k.inside;
  fixed = fixed;
  kept = λ y i fl e. go y fl e (s.kept y i fl e);
}
  where
    fixed : (j : ℕ) → j < f → num n.wide j ≡ 0
    fixed j i = omega (arith, wide-less r n k.inside j (omega (arith, s.inside)), s.fixed j i)

    go : (y : ℕ → ℕ) → Fills p C y → cost (items_in p) y ≡ cap - 1 → Inside r y ⊎ ((a : ℕ → ℕ) → Inside r a → Earlier p l a y) →
        Inside n y ⊎ ((a : ℕ → ℕ) → Inside n a → Earlier p l a y)
    go y fl e (inl i) = inl (k.kept y i fl (omega arith))
    go y fl e (inr g) = inr (λ a i. g a (k.inside a i))

-- ---- the next part, of which only the first amounts are kept

module _ (p : Parts) (C c : ℕ) (r n : Ranges) (k v : ℕ) (k-in : k < 16) (v-in : v ≤ num r.wide k) (s : Heads p C c r k k) (x : Shortens p k v r n) where
  abbrev low : ℕ → ℕ
  low = num r.low

  abbrev wide : ℕ → ℕ
  wide = num r.wide

  abbrev b : Bool
  b = flag p.falls k

  -- the least of them, if they fall and if they rise
  abbrev least : Bool → ℕ
  least d = short_low d (low k) (wide k) v

  first : ℕ
  first = least b

  low-here : num n.low k ≡ first
  unfolding first
  low-here = x.low-here

  first-in : (low k ≤ first) × (first + v ≤ low k + wide k)
  unfolding first
  first-in = go b
    where
      go : (d : Bool) → (low k ≤ least d) × (least d + v ≤ low k + wide k)
      go true = (omega arith, omega arith)
      go false = (omega arith, omega arith)

  inside : (a : ℕ → ℕ) → Inside n a → Inside r a
  inside a i j l = go (ℕ_discrete j k)
    where
      go : Dec (j ≡ k) → (low j ≤ a j) × (a j ≤ low j + wide j)
      go (yes e) =
          let u : k < 17 = omega arith in
          rw e (omega (arith, (i k u).0, low-here, first-in.0), omega (arith, (i k u).1, low-here, x.wide-here, first-in.1))
      go (no ne) = (omega (arith, (i j l).0, x.low-other j ne), omega (arith, (i j l).1, x.low-other j ne, x.wide-other j ne))

  -- an amount within the ranges is one of them, or comes later than all of them
  abbrev Place : Bool → ℕ → ℕ → Type 0
  Place d q z = ((q ≤ z) × (z ≤ q + v)) ⊎ ((w : ℕ) → q ≤ w → w ≤ q + v → less_by d w z)

  later : (z : ℕ) → low k ≤ z → z ≤ low k + wide k → Place b first z
  unfolding first
  later z l m = go b
    where
      go : (d : Bool) → Place d (least d) z
      go true = down (dec_lt z (least true))
        where
          down : Dec (z < least true) → Place true (least true) z
          down (yes e) = inr (λ w i h. omega arith)
          down (no ne) = inl (omega arith, omega arith)
      go false = up (dec_lt (least false + v) z)
        where
          up : Dec (least false + v < z) → Place false (least false) z
          up (yes e) = inr (λ w i h. omega arith)
          up (no ne) = inl (omega arith, omega arith)

  -- the parts before k are the same in all of r
  same : (a y : ℕ → ℕ) → Inside r a → Inside r y → (j : ℕ) → j < k → a j ≡ y j
  same a y i m j l = let q : j < 17 = omega arith in omega (arith, (i j q).0, (i j q).1, (m j q).0, (m j q).1, s.fixed j l)

  here_in : (a : ℕ → ℕ) → Inside n a → (first ≤ a k) × (a k ≤ first + v)
  here_in a i = let u : k < 17 = omega arith in (omega (arith, (i k u).0, low-here), omega (arith, (i k u).1, low-here, x.wide-here))

  stays : (y : ℕ → ℕ) → Inside r y → first ≤ y k → y k ≤ first + v → Inside n y
  stays y i e g j l = go (ℕ_discrete j k)
    where
      go : Dec (j ≡ k) → (num n.low j ≤ y j) × (y j ≤ num n.low j + num n.wide j)
      go (yes q) = rw q (omega (arith, low-here), omega (arith, low-here, x.wide-here))
      go (no ne) = (omega (arith, (i j l).0, x.low-other j ne), omega (arith, (i j l).1, x.low-other j ne, x.wide-other j ne))

  abbrev Kept : (ℕ → ℕ) → Type 0
  Kept y = Inside n y ⊎ ((a : ℕ → ℕ) → Inside n a → Earlier p (k + 1) a y)

  kept : (y : ℕ → ℕ) → Inside r y ⊎ ((a : ℕ → ℕ) → Inside r a → Earlier p k a y) → Kept y
  kept y (inr g) = inr (λ a i. earlier_more (omega arith) (g a (inside a i)))
  kept y (inl i) = let u : k < 17 = omega arith in go (later (y k) (i k u).0 (i k u).1)
    where
      go : Place b first (y k) → Kept y
      go (inl e) = inl (stays y i e.0 e.1)
      go (inr g) = inr (λ a m. record {
        place = k;
        below = omega arith;
        same = same a y (inside a m) i;
        less = g (a k) (here_in a m).0 (here_in a m).1;
      })

  heads-to : (f : ℕ) → f ≤ 16 → ((j : ℕ) → j < f → num n.wide j ≡ 0) → Heads p C c n f (k + 1)
  heads-to f f-in fixed = record { inside = f-in; among = among-less p r n s.among inside; fixed = fixed; kept = λ y i fl e. kept y (s.kept y i fl e) }

  before : (j : ℕ) → j < k → num n.wide j ≡ 0
  before j l = x.wide-other j (λ e. omega arith) ∙ s.fixed j l

  pub heads-short : Heads p C c n k (k + 1)
  heads-short = heads-to k (omega arith) before

  pub heads-fixed : v ≡ 0 → Heads p C c n (k + 1) (k + 1)
  heads-fixed e = heads-to (k + 1) (omega arith) (λ j l. fixed j l (ℕ_discrete j k))
    where
      fixed : (j : ℕ) → j < k + 1 → Dec (j ≡ k) → num n.wide j ≡ 0
      fixed j l (yes q) = rw q (x.wide-here ∙ e)
      fixed j l (no ne) = before j (omega arith)

-- ---- a share of it

pub opens_kept : (p : Parts) (C cap : ℕ) (g n h : Ranges) (t s : ℕ) → t < 16 → 1 ≤ s → 1 ≤ cap → Heads p C (cap - 1) g t t →
    Shortens p t (num g.wide t / s) g n → Keeps p C cap n h → Opens p C (cap - 1) h t s
opens_kept p C cap g n h t s t-in s≥1 cap≥1 e x k = record {
  heads = heads-kept p C cap n h t (t + 1) cap≥1 k (heads-short p C (cap - 1) g n t (num g.wide t / s) t-in (div-le_self (num g.wide t) s) e x);
  share = omega (arith, wide-less n h k.inside t u, x.wide-here, part (num g.wide t) (num p.range t) (omega (arith, e.among t u)));
}
  where
    u : t < 17
    u = omega arith

    part : (a b : ℕ) → a ≤ b → a / s ≤ b / s
    part a b l = (le-div_iff_mul-le {k = s} {x = a / s} {y = b} s≥1).1 (omega (arith, div-mul-le_self a s))

-- ---- which leaps there are

pub leap-in : (i : ℕ) → i ≤ 7 → leap_to i < 16
leap-in i l = go (dec_lt 4 i)
  where
    go : Dec (4 < i) → leap_to i < 16
    go (yes k) = rw (lt-ltb 4 i k) (omega arith)
    go (no k) = rw (le-ltb 4 i (omega arith)) (omega arith)

pub share-some : (i : ℕ) → 1 ≤ leap_share i
share-some i = go (ltb 4 i)
  where
    go : (b : Bool) → 1 ≤ cond b 1 16
    go true = omega arith
    go false = omega arith

pub leaps-as : {p : Parts} {C D cap t u s v : ℕ} {n : Run} → C ≡ D → t ≡ u → s ≡ v → Leaps p C cap t s n → Leaps p D cap u v n
leaps-as a b c h = rw (sym a, sym b, sym c) h

-- ---- nothing

pub heads-shut : (p q : Parts) (C c cap : ℕ) (r : Ranges) (f l : ℕ) → length p.weight ≡ 17 → Caps p C q cap → Heads p C c r f l → cap ≤ offset_of q r →
    (y : ℕ → ℕ) → Inside r y → Fills p C y → ⊥
heads-shut p q C c cap r f l long x s h y i fl = omega (
  arith,
  x.below y (inside-within p r long s.among y i) fl,
  offset-least q r x.fair.long (caps-among r x s.among) y i,
)
