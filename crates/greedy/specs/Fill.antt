-- The relaxation of a box by greedy filling: every item at its light end, then by falling price per weight to its heavy end, until
-- one does not fit. Paper 01, "Relaxation"; document 000, chapter 3.
--   at, place               an entry of a list of amounts, and of places; 0 beyond its end
--   weight_of, price_of c k   the figures of item k
--   item_of c u, rank_of c k  the item of rank u, and the rank of item k
--   by_item, by_rank, unranked, columns_of   columns by their lists; those not asked for are empty
--   lightest, heaviest      the end where an item of that weight and price weighs least, and most;  light_of, heavyOf: of item k in a box
--   width c e u             how far the item of rank u can be raised
--   corner_weight, corner_worth  what the first n items weigh and are worth at their light ends
--   with_amount f a c x      a filling with one item more, at the amount x
--   begun c e               every item at its light end
--   raised_by, raised        a filling after its next rank is raised, by that rank's figures and by the columns
--   raise_by                 the same, if it fits
--   fill_from c e n f        the filling from f on, n ranks at most
--   fill c e                where the filling stops: the rank, the room that is left, and what the whole amounts are worth
--   size_of, rate_of c f      weight and price, without the weight's sign, of the rank where the filling stops
--   shared_by f s p          the worth with the room at the price p for a weight of s
--   bound c f               the value of the relaxation, where the room is not below 0
--   fitted a l u r          the amount that just fits the room r, from the light end on
--   rounded_by, start        an item's amount in the relaxation, rounded towards its light end, by its figures and by its number
--   start_of c e k           the same in the filling of a box
--   stand c e t k           item k's whole amount while the first t ranks are raised
--   unit a                  1 or -1, by the sign of a
--   taken_by, taken          what an item takes of the room: all if the filling stops at it, else nothing
--   numerator c e f q k     item k's amount, times q
--   solution c e f          the relaxation's point, over the divisor of its bound
use Rattle.std.specs.Prelude.{Option, None, Some, cond, List, [], ℕ, zero, suc, ◌+◌, ◌*◌, ◌/◌, ◌%◌, ltb, eqb, ℤ, pos, negsuc, nat_abs, ◌+ℤ◌, ◌-ℤ◌, ◌*ℤ◌, get_or}
use Rattle.std.specs.Int.Signed.{lt_z}
use Rattle.arith.specs.Division.{floor_div, ceil_div}
use Rattle.arith.specs.Sum.{sum}
use Rattle.arith.specs.declared.Mixed.{Mixed}
use Rattle.greedy.specs.declared.Columns.{Columns}
use Rattle.greedy.specs.declared.Ends.{Ends}
use Rattle.greedy.specs.declared.Fill.{Fill}

-- ---- columns, by item and by rank

abbrev pub at : List ℤ → ℕ → ℤ
at xs k = get_or xs k (pos 0)

abbrev pub place : List ℕ → ℕ → ℕ
place xs k = get_or xs k 0

abbrev pub weight_of : Columns → ℕ → ℤ
weight_of c k = at c.weight k

abbrev pub price_of : Columns → ℕ → ℤ
price_of c k = at c.price k

-- the item of a rank, and the rank of an item
abbrev pub item_of : Columns → ℕ → ℕ
item_of c u = place c.order u

abbrev pub rank_of : Columns → ℕ → ℕ
rank_of c k = place c.rank k

-- columns of which only some are asked for: by item, where nothing is live; by rank; all but the ranks; and all
abbrev pub by_item : List ℤ → List ℤ → ℕ → ℤ → Columns
by_item weight price n b =
    record { weight = weight; price = price; order = []; rank = []; size = []; rate = []; live = 0; count = n; capacity = b }

abbrev pub by_rank : List ℤ → List ℤ → ℕ → Columns
by_rank size rate live =
    record { weight = []; price = []; order = []; rank = []; size = size; rate = rate; live = live; count = 0; capacity = pos 0 }

abbrev pub unranked : List ℤ → List ℤ → List ℕ → List ℤ → List ℤ → ℕ → ℕ → ℤ → Columns
unranked weight price order size rate live n b =
    record { weight = weight; price = price; order = order; rank = []; size = size; rate = rate; live = live; count = n; capacity = b }

abbrev pub columns_of : List ℤ → List ℤ → List ℕ → List ℕ → List ℤ → List ℤ → ℕ → ℕ → ℤ → Columns
columns_of weight price order rank size rate live n b =
    record { weight = weight; price = price; order = order; rank = rank; size = size; rate = rate; live = live; count = n; capacity = b }

-- ---- ends

-- where an item weighs least; one of weight 0 stands at the end of the better price
abbrev pub lightest : ℤ → ℤ → ℤ → ℤ → ℤ
lightest a c l u = cond (lt_z (pos 0) a) l (cond (lt_z a (pos 0)) u (cond (lt_z (pos 0) c) u l))

abbrev pub heaviest : ℤ → ℤ → ℤ → ℤ
heaviest a l u = cond (lt_z a (pos 0)) l u

abbrev pub light_of : Columns → Ends → ℕ → ℤ
light_of c e k = lightest (weight_of c k) (price_of c k) (at e.lo k) (at e.hi k)

abbrev pub heavy_of : Columns → Ends → ℕ → ℤ
heavy_of c e k = heaviest (weight_of c k) (at e.lo k) (at e.hi k)

-- how far the item of rank u can be raised
abbrev pub width : Columns → Ends → ℕ → ℤ
width c e u = at e.hi (item_of c u) -ℤ at e.lo (item_of c u)

-- ---- filling

abbrev pub corner_weight : Columns → Ends → ℕ → ℤ
corner_weight c e n = sum n (λ k. weight_of c k *ℤ light_of c e k)

abbrev pub corner_worth : Columns → Ends → ℕ → ℤ
corner_worth c e n = sum n (λ k. price_of c k *ℤ light_of c e k)

-- one item more, at the amount x
abbrev pub with_amount : Fill → ℤ → ℤ → ℤ → Fill
with_amount f a c x = record { at = f.at; room = f.room -ℤ a *ℤ x; worth = f.worth +ℤ c *ℤ x }

abbrev pub begun : Columns → Ends → Fill
begun c e = record { at = 0; room = c.capacity -ℤ corner_weight c e c.count; worth = corner_worth c e c.count }

-- the item of the next rank, of that weight and price without sign, is raised to its heavy end
abbrev pub raised_by : Fill → ℤ → ℤ → ℤ → Fill
raised_by f size rate wide = record { at = f.at + 1; room = f.room -ℤ size *ℤ wide; worth = f.worth +ℤ rate *ℤ wide }

abbrev pub raise_by : Fill → ℤ → ℤ → ℤ → Option Fill
raise_by f size rate wide = cond (lt_z f.room (size *ℤ wide)) None (Some (raised_by f size rate wide))

abbrev pub raised : Columns → Ends → Fill → Fill
raised c e f = raised_by f (at c.size f.at) (at c.rate f.at) (width c e f.at)

unfoldable pub fill_from : Columns → Ends → ℕ → Fill → Fill
fill_from c e zero f = f
fill_from c e (suc n) f = cond (lt_z f.room (at c.size f.at *ℤ width c e f.at)) f (fill_from c e n (raised c e f))

unfoldable pub fill : Columns → Ends → Fill
fill c e = cond (lt_z (begun c e).room (pos 0)) (begun c e) (fill_from c e c.live (begun c e))

-- ---- what the filling says

-- the weight of the rank where the filling ends, without sign
abbrev pub size_of : Columns → Fill → ℕ
size_of c f = nat_abs (at c.size f.at)

abbrev pub rate_of : Columns → Fill → ℕ
rate_of c f = nat_abs (at c.rate f.at)

-- the worth with the room at the price p for a weight of s
abbrev pub shared_by : Fill → ℕ → ℕ → Mixed
shared_by f s p = record { whole = f.worth +ℤ pos ((p * nat_abs f.room) / s); part = (p * nat_abs f.room) % s; parts = s }

unfoldable pub bound : Columns → Fill → Mixed
bound c f = cond (ltb f.at c.live) (shared_by f (size_of c f) (rate_of c f)) (record { whole = f.worth; part = 0; parts = 1 })

-- the amount that just fits the room r, from the light end on: rounded down for a limit from above, up for one from below
abbrev pub fitted : ℤ → ℤ → ℤ → ℤ → ℤ
fitted a l u r = cond (lt_z a (pos 0)) (u +ℤ ceil_div r a) (cond (lt_z (pos 0) a) (l +ℤ floor_div r a) l)

-- the amount of the item of rank v, n ranks being live, rounded towards its light end
abbrev pub rounded_by : Fill → ℤ → ℤ → ℤ → ℤ → ℕ → ℕ → ℤ
rounded_by f a c l u v n =
    cond (lt_z f.room (pos 0)) (lightest a c l u)
    (cond (ltb v f.at) (heaviest a l u)
    (cond (eqb v f.at) (cond (ltb f.at n) (fitted a l u f.room) (lightest a c l u)) (lightest a c l u)))

unfoldable pub start : Columns → Ends → Fill → ℕ → ℤ
start c e f k = rounded_by f (weight_of c k) (price_of c k) (at e.lo k) (at e.hi k) (rank_of c k) c.live

abbrev pub start_of : Columns → Ends → ℕ → ℤ
start_of c e k = start c e (fill c e) k

-- item k's whole amount while the first t ranks are raised
abbrev pub stand : Columns → Ends → ℕ → ℕ → ℤ
stand c e t k = cond (ltb (rank_of c k) t) (heavy_of c e k) (light_of c e k)

-- 1 or -1
abbrev pub unit : ℤ → ℤ
unit (pos n) = pos 1
unit (negsuc n) = negsuc 0

-- what the item of rank v takes of the room where the filling stops at rank u, n ranks being live
abbrev pub taken_by : ℤ → ℤ → ℕ → ℕ → ℕ → ℤ
taken_by a room v u n = cond (ltb u n) (cond (eqb v u) (unit a *ℤ room) (pos 0)) (pos 0)

abbrev pub taken : Columns → Fill → ℕ → ℤ
taken c f k = taken_by (weight_of c k) f.room (rank_of c k) f.at c.live

-- item k's amount times q: its whole amount, and what the critical item takes
abbrev pub numerator : Columns → Ends → Fill → ℕ → ℕ → ℤ
numerator c e f q k = stand c e f.at k *ℤ pos q +ℤ taken c f k

abbrev pub solution : Columns → Ends → Fill → ℕ → ℤ
solution c e f k = numerator c e f (bound c f).parts k
