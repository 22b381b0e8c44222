-- How the lattices of the levels of a search are made: guessed, then checked.
--   rest_of n m        what is left of n after whole multiples of m;  Rests n m: what that asks
--   Upright u, Joined l, Guess l
--                     ranges of the guess: of a change, of a lattice with a gap of either sign, of a lattice
--   tamed z g         the worth z up to gaps g
--   upright_by a c     the change (a, c) or its opposite, whichever weighs 0 or more
--   reduced_by u v g   one step of Euclid's algorithm;  Reduces u v g: what that asks
--   ended x y         what Euclid's algorithm ends with, as a lattice
--   euclid n g x y    n steps of Euclid's algorithm on the weights of two changes, their worths carried along
--   first_change l     one stride
--   joined_by l v      the stride and the slant that l has together with the change v
--   common_gap g h     the greatest common divisor of two gaps;  with_gap l g: l with that gap
--   widened_by l a c   a lattice that has the change (a, c) beside those of l
--   no_changes         the lattice of no changes
--   closed_by l        a gap for none
--   above_slant l a c  what is left of the worth c after the slants of the strides in a
--   holds_by l a c     the change (a, c) is found on the lattice l;  Holds l a c: what that asks
--   entry l k         an entry of a list; 0 beyond its end
--   held_from l w c d n
--                     so are the n items from d on, of weights w and prices c
--   Items w c n       weights and prices of n items are in range
--   Known w c n d l   l is unknown, or a lattice of the items from d on
--   checked_by w c n d l
--                     the guess l, if the items from d on are found on it, or unknown
--   guess_of w c n k   the guess for the last k of n items
--   lattice_of w c n d the guess for the items from d on, checked
--   Latticed w c n r  r has these, and knows nothing beyond n
use Rattle.std.specs.Prelude.{◌≡◌, Bool, true, false, cond, not, List, ◌≢◌, ℕ, zero, suc, ◌-◌, ◌≤◌, ◌<◌, ltb, ℤ, pos, negsuc, nat_abs, ◌-ℤ◌, ◌*ℤ◌, get_or, ◌≤ℤ◌, ◌<ℤ◌}
use Rattle.std.specs.Int.Signed.{lt_z}
use Rattle.arith.specs.Within.{Within}
use Rattle.arith.specs.Division.{floor_div}
use Rattle.arith.specs.Gcd.{gcd_of}
use Rattle.lattice.specs.Lattice.{On, Tame, unknown, lattice_at}
use Rattle.lattice.specs.declared.Lattice.{Lattice}
use Rattle.lattice.specs.declared.Change.{Change}

abbrev pub rest_of : ℤ → ℤ → ℤ
rest_of n m = n -ℤ m *ℤ floor_div n m

pub record Rests (n m : ℤ) : Type 0 where
  pub dividend-in : Within 200000000000 n
  pub divisor-in : Within 100000000 m
  pub divisor≥1 : pos 0 <ℤ m

-- ---- the guess

pub record Upright (u : Change) : Type 0 where
  pub weight-in : Within 1000 u.weight
  pub weight≥0 : pos 0 ≤ℤ u.weight
  pub worth-in : Within 100000000 u.worth

-- what a step of Euclid's algorithm asks
pub record Reduces (u v : Change) (g : ℤ) : Type 0 where
  pub first : Upright u
  pub second : Upright v
  pub weight≥1 : pos 0 <ℤ v.weight
  pub gap-in : Within 100000000 g

pub record Joined (l : Lattice) : Type 0 where
  pub stride-in : Within 1000 l.stride
  pub stride≥0 : pos 0 ≤ℤ l.stride
  pub slant-in : Within 100000000 l.slant
  pub gap-in : Within 100000000 l.gap

pub record Guess (l : Lattice) : Type 0 where
  pub joined : Joined l
  pub gap≥0 : pos 0 ≤ℤ l.gap

-- without gaps, 0 if it is too far: the guess then fails its check
abbrev pub tamed : ℤ → ℤ → ℤ
tamed z g = cond (lt_z (pos 0) g) (rest_of z g) (cond (lt_z (pos 100000000) z) (pos 0) (cond (lt_z z (negsuc 99999999)) (pos 0) z))

-- the change (a, c) or its opposite, whichever weighs 0 or more
abbrev pub upright_by : ℤ → ℤ → Change
upright_by a c = cond (lt_z a (pos 0)) (record { weight = pos 0 -ℤ a; worth = pos 0 -ℤ c }) (record { weight = a; worth = c })

-- one step of Euclid's algorithm: u less v as often as its weight allows
abbrev pub reduced_by : Change → Change → ℤ → Change
reduced_by u v g = record { weight = rest_of u.weight v.weight; worth = tamed (u.worth -ℤ v.worth *ℤ floor_div u.weight v.weight) g }

abbrev pub ended : Change → Change → Lattice
ended x y = record { stride = x.weight; slant = x.worth; gap = y.worth }

unfoldable pub euclid : ℕ → ℤ → Change → Change → Lattice
euclid zero g x y = ended x y
euclid (suc n) g x y = cond (lt_z (pos 0) y.weight) (euclid n g y (reduced_by x y g)) (ended x y)

-- one stride
abbrev pub first_change : Lattice → Change
first_change l = record { weight = l.stride; worth = l.slant }

-- a weight that falls at each step is 0 after as many steps
abbrev pub joined_by : Lattice → Change → Lattice
joined_by l v = euclid (nat_abs v.weight) l.gap (first_change l) v

abbrev pub common_gap : ℤ → ℤ → ℤ
common_gap g h = pos (gcd_of (nat_abs g) (nat_abs h))

abbrev pub with_gap : Lattice → ℤ → Lattice
with_gap l g = record { stride = l.stride; slant = tamed l.slant g; gap = g }

unfoldable pub widened_by : Lattice → ℤ → ℤ → Lattice
widened_by l a c = with_gap (joined_by l (upright_by a c)) (common_gap l.gap (joined_by l (upright_by a c)).gap)

abbrev pub no_changes : Lattice
no_changes = record { stride = pos 0; slant = pos 0; gap = pos 0 }

-- gap 0, only whole strides, as the widest gap
abbrev pub closed_by : Lattice → Lattice
closed_by l = cond (lt_z (pos 0) l.gap) l (record { stride = l.stride; slant = l.slant; gap = pos 100000000 })

-- ---- the check

-- what is left of c after the slants of the strides in a
abbrev pub above_slant : Lattice → ℤ → ℤ → ℤ
above_slant l a c = c -ℤ l.slant *ℤ floor_div a l.stride

unfoldable pub holds_by : Lattice → ℤ → ℤ → Bool
holds_by l a c =
    cond (lt_z (pos 0) (rest_of a l.stride))
    false
    (not (lt_z (pos 0) (rest_of (above_slant l a c) l.gap)))

pub record Holds (l : Lattice) (a c : ℤ) : Type 0 where
  pub tame : Tame l
  pub stride≥1 : pos 0 <ℤ l.stride
  pub weight-in : Within 1000 a
  pub price-in : Within 10000 c

pub record Items (w c : ℕ → ℤ) (n : ℕ) : Type 0 where
  pub few : n ≤ 16
  pub weights-in : (k : ℕ) → Within 1000 (w k)
  pub prices-in : (k : ℕ) → Within 10000 (c k)

-- an entry of a list
abbrev pub entry : List ℤ → ℕ → ℤ
entry l k = get_or l k (pos 0)

unfoldable pub held_from : Lattice → (ℕ → ℤ) → (ℕ → ℤ) → ℕ → ℕ → Bool
held_from l w c d zero = true
held_from l w c d (suc n) = cond (holds_by l (w d) (c d)) (held_from l w c (suc d) n) false

pub record Known (w c : ℕ → ℤ) (n d : ℕ) (l : Lattice) : Type 0 where
  pub tame : Tame l
  pub on : l.stride ≢ pos 0 → (j : ℕ) → d ≤ j → j < n → On l (w j) (c j)

abbrev pub checked_by : (ℕ → ℤ) → (ℕ → ℤ) → ℕ → ℕ → Lattice → Lattice
checked_by w c n d l = cond (lt_z (pos 0) (closed_by l).stride) (cond (held_from (closed_by l) w c d (n - d)) (closed_by l) unknown) unknown

-- ---- all levels

unfoldable pub guess_of : (ℕ → ℤ) → (ℕ → ℤ) → ℕ → ℕ → Lattice
guess_of w c n zero = no_changes
guess_of w c n (suc k) = widened_by (guess_of w c n k) (w (n - suc k)) (c (n - suc k))

unfoldable pub lattice_of : (ℕ → ℤ) → (ℕ → ℤ) → ℕ → ℕ → Lattice
lattice_of w c n d = cond (ltb d n) (checked_by w c n d (guess_of w c n (n - d))) unknown

abbrev pub Latticed : (ℕ → ℤ) → (ℕ → ℤ) → ℕ → List Lattice → Type 0
Latticed w c n r = (d : ℕ) → d < 16 → lattice_at r d ≡ lattice_of w c n d
