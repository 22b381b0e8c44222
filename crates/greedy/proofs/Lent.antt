-- Columns of which only some are lent: what is asked of the whole holds of the part, and the filling is the same.
-- by-item-sized, by-rank-sized, unranked-sized; by-rank-bound, unranked-fill.
use mathlib.Core.Path.{◌≡◌, refl, ap}
use mathlib.Core.Bool.{cond}
use Prim.Native.Nat.{ℕ, zero, suc}
use native.Mathlib.Omega.{arith}
use lib.IntN.{pos, ◌*ℤ◌}
use lib.Signed.{lt_z}
use Rattle.arith.specs.Within.{Within}
use Rattle.greedy.specs.declared.Columns.{Columns}
use Rattle.greedy.specs.declared.Ends.{Ends}
use Rattle.greedy.specs.declared.Fill.{Fill}
use Rattle.greedy.specs.Fill.{by_item, by_rank, unranked, at, width, begun, raised, fill_from, fill, bound}
use Rattle.greedy.specs.Sized.{Sized, SizedFill}

nothing : (m : ℕ) → Within m (pos 0)
nothing m = record { above = omega arith; below = omega arith }

module _ (c : Columns) where
  pub by-rank-sized : (f : Fill) → SizedFill c f → SizedFill (by_rank c.size c.rate c.live) f
  by-rank-sized f z = record {
    columns = record {
      few = omega arith;
      live-few = z.columns.live-few;
      weights-in = λ k. nothing 1000;
      prices-in = λ k. nothing 10000;
      sizes-in = z.columns.sizes-in;
      rates-in = z.columns.rates-in;
      items-in = λ u. omega arith;
      live-sizes = z.columns.live-sizes;
      capacity-in = nothing 100000000;
    };
    room_in = z.room_in;
    worth-in = z.worth-in;
  }

  pub by-rank-bound : (f : Fill) → bound (by_rank c.size c.rate c.live) f ≡ bound c f
  unfolding bound
  by-rank-bound f = refl

module _ (c : Columns) (e : Ends) where
  abbrev Rankless : Columns
  Rankless = unranked c.weight c.price c.order c.size c.rate c.live c.count c.capacity

  pub by-item-sized : Sized c e → Sized (by_item c.weight c.price c.count c.capacity) e
  by-item-sized z = record {
    columns = record {
      few = z.columns.few;
      live-few = omega arith;
      weights-in = z.columns.weights-in;
      prices-in = z.columns.prices-in;
      sizes-in = λ u. nothing 1000;
      rates-in = λ u. nothing 10000;
      items-in = λ u. omega arith;
      live-sizes = λ u h. absurd (omega arith);
      capacity-in = z.columns.capacity-in;
    };
    ends = z.ends;
  }

  pub unranked-sized : Sized c e → Sized Rankless e
  unranked-sized z = record {
    columns = record {
      few = z.columns.few;
      live-few = z.columns.live-few;
      weights-in = z.columns.weights-in;
      prices-in = z.columns.prices-in;
      sizes-in = z.columns.sizes-in;
      rates-in = z.columns.rates-in;
      items-in = z.columns.items-in;
      live-sizes = z.columns.live-sizes;
      capacity-in = z.columns.capacity-in;
    };
    ends = z.ends;
  }

  from-same : (n : ℕ) (f : Fill) → fill_from Rankless e n f ≡ fill_from c e n f
  unfolding fill_from
  from-same zero f = refl
  from-same (suc n) f = ap (cond (lt_z f.room (at c.size f.at *ℤ width c e f.at)) f) (from-same n (raised c e f))

  pub unranked-fill : fill Rankless e ≡ fill c e
  unfolding fill
  unranked-fill = ap (cond (lt_z (begun c e).room (pos 0)) (begun c e)) (from-same c.live (begun c e))
