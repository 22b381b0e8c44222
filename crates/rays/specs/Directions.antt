-- The directions in which a problem's amounts may go, and the scan of them for a ray: steps on one or two items that
-- meet no bound, weigh nothing or less together, and are worth something (01: unbounded).
--   way_of u             direction u is item u / 2, forward if u is even, so that an item with no bounds has two
--   stop w i            the bound that item i meets that way
--   along w i           item i going that way: whether no bound stops it, and what a unit weighs and is worth
--   direction_of p u     the same by the number of the direction; DirectionInRange: its figures are an accepted problem's
--   gains d             no bound stops d, and it is worth something
--   gain d e            what d and e are worth together, each by the other's weight, so that they weigh nothing
--   pays d e            no bound stops e, and it takes the weight of d away for less than d is worth
--   first n f           the first ray of f 0, …, f (n - 1); or_else r s: s where r is none
--   first_of p f         the first over all directions of p
--   partner_at p u d w   the pair of u, whose figures are d, and w, if w pays for u
--   ray_from p u         the ray that begins with u, which has to gain: alone if it is not heavy, else with its first partner;
--                       ray_as p u d: the same by its figures d
--   ray_of p             the first ray of p; is_ray r: there is one; Directs p r: its directions are some of p
--   steps_by p r         the steps of a ray, one for each item; still: none; move l u n: l with n steps in direction u
use Rattle.std.specs.Prelude.{Option, None, Some, Bool, true, false, cond, List, ℕ, zero, suc, ◌*◌, ◌/◌, ◌%◌, ◌≤◌, ◌<◌, eqb, ℤ, pos, neg_ℤ, nat_abs, ◌+ℤ◌, ◌*ℤ◌, replicate, set}
use Rattle.std.specs.Int.Signed.{lt_z}
use Rattle.knapsack.specs.declared.Item.{Item}
use Rattle.knapsack.specs.declared.Problem.{Problem}
use Rattle.knapsack.specs.Items.{is_absent}
use Rattle.knapsack.specs.Ranges.{item_at}
use Rattle.knapsack.proofs.Reach.{Way, fore, aft, turn}
use Rattle.rays.specs.declared.Direction.{Direction}
use Rattle.rays.specs.declared.Ray.{Ray}
use Rattle.rays.specs.declared.Ray.TheVariants.{Single, Pair}

-- ---- directions

abbrev pub way_of : ℕ → Way
way_of u = cond (eqb (u % 2) 0) fore aft

abbrev pub stop : Way → Item → Option ℤ
stop fore i = i.upper
stop aft i = i.lower

abbrev pub along : Way → Item → Direction
along w i = record { free = is_absent (stop w i); weight = turn w i.weight; price = turn w i.price }

unfoldable pub direction_of : Problem → ℕ → Direction
direction_of p u = along (way_of u) (item_at p (u / 2))

pub record DirectionInRange (d : Direction) : Type 0 where
  pub weight-in : nat_abs d.weight ≤ 1000
  pub price-in : nat_abs d.price ≤ 10000

-- ---- rays

unfoldable pub gains : Direction → Bool
gains d = cond d.free (lt_z (pos 0) d.price) false

-- d goes by -e.weight, which is above 0, and e by d.weight
abbrev pub gain : Direction → Direction → ℤ
gain d e = d.price *ℤ neg_ℤ e.weight +ℤ e.price *ℤ d.weight

unfoldable pub pays : Direction → Direction → Bool
pays d e = cond e.free (cond (lt_z e.weight (pos 0)) (lt_z (pos 0) (gain d e)) false) false

abbrev pub is_ray : Option Ray → Bool
is_ray None = false
is_ray (Some r) = true

abbrev pub or_else : Option Ray → Option Ray → Option Ray
or_else None s = s
or_else (Some r) s = Some r

unfoldable pub first : ℕ → (ℕ → Option Ray) → Option Ray
first zero f = None
first (suc n) f = or_else (first n f) (f n)

-- the directions of a problem are 0, …, 2 count - 1
abbrev pub first_of : Problem → (ℕ → Option Ray) → Option Ray
first_of p f = first (2 * p.count) f

abbrev pub partner_at : Problem → ℕ → Direction → ℕ → Option Ray
partner_at p u d w = cond (pays d (direction_of p w)) (Some (Pair u w)) None

abbrev pub ray_as : Problem → ℕ → Direction → Option Ray
ray_as p u d = cond (gains d) (cond (lt_z (pos 0) d.weight) (first_of p (partner_at p u d)) (Some (Single u))) None

unfoldable pub ray_from : Problem → ℕ → Option Ray
ray_from p u = ray_as p u (direction_of p u)

unfoldable pub ray_of : Problem → Option Ray
ray_of p = first_of p (ray_from p)

abbrev pub Directs : Problem → Ray → Type 0
Directs p (Single u) = u < 2 * p.count
Directs p (Pair u w) = (u < 2 * p.count) × (w < 2 * p.count)

-- ---- steps

abbrev pub still : List ℤ
still = replicate 16 (pos 0)

abbrev pub move : List ℤ → ℕ → ℤ → List ℤ
move l u n = set l (u / 2) (turn (way_of u) n)

unfoldable pub steps_by : Problem → Option Ray → List ℤ
steps_by p None = still
steps_by p (Some (Single u)) = move still u (pos 1)
steps_by p (Some (Pair u w)) = move (move still u (neg_ℤ (direction_of p w).weight)) w (direction_of p u).weight
