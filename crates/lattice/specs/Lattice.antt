-- The changes of weight and worth that integer items make, and when none of them is better than an incumbent.
--   On l a c             the change of weight a and worth c is on the lattice l
--   Tame l               the lattice's figures are in their ranges
--   unknown, beyond      the lattice of which nothing is known, and what stands beyond a list of lattices
--   lattice_at r d        the lattice at d in a list
--   Steep f              the slope's figures are in their ranges
--   height_of f w         the most that a change of weight w is worth
--   highest_of l base h   the highest worth on the lattice, from base on, that is at most h
--   judged l f b r       what r's change of weight says, the slope f allowing: true, none here or below is above b; false, one here is; None, look below
--   lower l r            one stride less
--   first_rung l room     the greatest change of weight that the room allows
--   verdict y b          what a rung says, or b where it says nothing
--   barren_from n l f b r the descent over n rungs from r on
--   tries                how many rungs a descent looks at
--   barren_by l f room b  no change within the room is found above b: the descent along the lattice from the room on ended
--   Falls, Snaps, Judges, Descends, Starts
--                        what the parts of the descent ask of their figures
use Rattle.std.specs.Prelude.{◌≡◌, Option, None, Some, Bool, true, false, cond, List, ℕ, zero, suc, ℤ, pos, ◌+ℤ◌, ◌-ℤ◌, ◌*ℤ◌, get_or, ◌≤ℤ◌, ◌<ℤ◌}
use Rattle.std.specs.Int.Signed.{lt_z}
use Rattle.arith.specs.Limits.{most_room, most_worth}
use Rattle.arith.specs.Within.{Within}
use Rattle.arith.specs.Division.{floor_div}
use Rattle.lattice.specs.declared.Lattice.{Lattice}
use Rattle.lattice.specs.declared.Change.{Change}
use Rattle.lattice.specs.declared.Slope.{Slope}

pub record On (l : Lattice) (a c : ℤ) : Type 0 where
  pub strides : ℤ
  pub gaps : ℤ
  pub weight_is : a ≡ l.stride *ℤ strides
  pub worth-is : c ≡ l.slant *ℤ strides +ℤ l.gap *ℤ gaps

pub record Tame (l : Lattice) : Type 0 where
  pub stride-in : Within 1000 l.stride
  pub slant-in : Within 100000000 l.slant
  pub gap-in : Within 100000000 l.gap
  pub gap≥1 : pos 0 <ℤ l.gap

-- nothing is known: any change may be made
abbrev pub unknown : Lattice
unknown = record { stride = pos 0; slant = pos 0; gap = pos 1 }

-- what stands beyond a list
abbrev pub beyond : Lattice
beyond = record { stride = pos 0; slant = pos 0; gap = pos 0 }

abbrev pub lattice_at : List Lattice → ℕ → Lattice
lattice_at r d = get_or r d beyond

pub record Steep (f : Slope) : Type 0 where
  pub worth-in : Within most_worth f.worth
  pub rate-in : Within 10000 f.rate
  pub rate≥0 : pos 0 ≤ℤ f.rate
  pub size_in : Within 1000 f.size
  pub size≥1 : pos 0 <ℤ f.size

-- ---- the descent

-- the most that a change of weight w is worth
abbrev pub height_of : Slope → ℤ → ℤ
height_of f w = floor_div (f.rate *ℤ w) f.size

-- the highest of base, base ± gap, … that is at most h
abbrev pub highest_of : Lattice → ℤ → ℤ → ℤ
highest_of l base h = base +ℤ l.gap *ℤ floor_div (h -ℤ base) l.gap

unfoldable pub judged : Lattice → Slope → ℤ → Change → Option Bool
judged l f b r =
    cond (lt_z b (f.worth +ℤ height_of f r.weight))
    (cond (lt_z b (f.worth +ℤ highest_of l r.worth (height_of f r.weight))) (Some false) None)
    (Some true)

abbrev pub lower : Lattice → Change → Change
lower l r = record { weight = r.weight -ℤ l.stride; worth = r.worth -ℤ l.slant }

-- so many strides as the room allows; the worth only needs to be right up to gaps
abbrev pub first_rung : Lattice → ℤ → Change
first_rung l room = record {
  weight = l.stride *ℤ floor_div room l.stride;
  worth = l.slant *ℤ (floor_div room l.stride -ℤ l.gap *ℤ floor_div (floor_div room l.stride) l.gap);
}

abbrev pub verdict : Option Bool → Bool → Bool
verdict (Some t) b = t
verdict None b = b

-- n rungs from r on down
unfoldable pub barren_from : ℕ → Lattice → Slope → ℤ → Change → Bool
barren_from zero l f b r = false
barren_from (suc n) l f b r = verdict (judged l f b r) (barren_from n l f b (lower l r))

-- how many rungs a descent looks at
abbrev pub tries : ℕ
tries = 100

unfoldable pub barren_by : Lattice → Slope → ℤ → ℤ → Bool
barren_by l f room b = cond (lt_z (pos 0) l.stride) (barren_from tries l f b (first_rung l room)) false

-- ---- what the parts of the descent ask

pub record Falls (f : Slope) (w : ℤ) : Type 0 where
  pub steep : Steep f
  pub weight-in : Within 21000000000000 w

pub record Snaps (l : Lattice) (base h : ℤ) : Type 0 where
  pub tame : Tame l
  pub base-in : Within 20000000000000000 base
  pub height-in : Within 210000000000000000 h

pub record Judges (l : Lattice) (f : Slope) (r : Change) : Type 0 where
  pub tame : Tame l
  pub steep : Steep f
  pub weight-in : Within 21000000000000 r.weight
  pub worth-in : Within 20000000000000000 r.worth

pub record Descends (l : Lattice) (r : Change) : Type 0 where
  pub tame : Tame l
  pub weight-in : Within 22000000000000 r.weight
  pub worth-in : Within 30000000000000000 r.worth

pub record Starts (l : Lattice) (room : ℤ) : Type 0 where
  pub tame : Tame l
  pub stride≥1 : pos 0 <ℤ l.stride
  pub room_in : Within most_room room
