-- steep: the slope of a filling that ends at a rank is in range.
use mathlib.Core.Path.{sym, subst}
use Prim.Native.Nat.{ℕ, ◌≤◌, ◌<◌}
use native.Mathlib.Omega.{arith}
use lib.IntN.{ℤ, pos, nat_abs}
use lib.Signed.{◌≤ℤ◌, ◌<ℤ◌}
use Rattle.arith.proofs.Integers.{zed, ≤ℤ-reflexive}
use Rattle.arith.proofs.Parts.{lt-le}
use Rattle.foremost.specs.Tied.{Live, worth, sinks, Tied, Rated}
use Rattle.greedy.specs.declared.Columns.{Columns}
use Rattle.greedy.specs.declared.Fill.{Fill}
use Rattle.greedy.specs.Sized.{SizedFill}
use Rattle.greedy.specs.Ordered.{weight_at}
use Rattle.greedy.proofs.Greedy.{abs≥1}
use Rattle.lattice.specs.Lattice.{Steep}
use Rattle.search.specs.Search.{slope_of}

live-some : {a r : ℤ} → Live a r → pos 0 ≤ℤ r
live-some (worth h) = lt-le h
live-some (sinks h z) = ≤ℤ-reflexive (sym z)

pub steep : (c : Columns) (f : Fill) → Tied c → Rated c → SizedFill c f → f.at < c.live → Steep (slope_of c f)
steep c f o rated z l = record {
  worth-in = z.worth-in;
  rate-in = z.columns.rates-in f.at;
  rate≥0 = subst (λ x. pos 0 ≤ℤ x) (sym (rated f.at l)) (live-some (o.live-rate f.at l));
  size_in = z.columns.sizes-in f.at;
  size≥1 = subst (λ x. pos 0 <ℤ x) (sym (o.sizes f.at l)) (above (nat_abs (weight_at c f.at)) (abs≥1 (weight_at c f.at) (o.live-weight f.at l)));
}
  where
    above : (n : ℕ) → 1 ≤ n → pos 0 <ℤ pos n
    above n h = simp zed (omega arith)
