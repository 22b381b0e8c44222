-- The box of a run can be filled.
use mathlib.Core.Bool.{Bool, true, false, cond}
use Prim.Native.Nat.{ℕ, ◌≤◌, ◌<◌}
use native.Mathlib.Omega.{arith}
use lib.IntN.{ℤ}
use lib.Signed.{◌≤ℤ◌, lt_z}
use Rattle.arith.specs.Limits.{farthest}
use Rattle.arith.specs.Within.{Within}
use Rattle.greedy.specs.declared.Ends.{Ends}
use Rattle.greedy.specs.Fill.{at}
use Rattle.setting.specs.declared.Setting.{Setting}
use Rattle.search.specs.declared.Incumbent.{Incumbent}
use Rattle.setting.specs.Box.{level_at, spanned, fixed_by, Inside, Long}
use Rattle.search.specs.Search.{run_ends}
use Rattle.search.specs.Tying.{ReadyTied}
use Rattle.search.specs.Steps.{ProperBest, BoxInRange}
use Rattle.setting.proofs.Boxes.{span-sized}
use Rattle.search.proofs.Boxes.{own_tied, own-rated, own-order, item<16, fixed-long, fixed-sized, plain-order, fixed-order}
use Rattle.search.proofs.Boxes.{span-order, low-within, high-within, inside-within}

module _ (s : Setting) (r : ReadyTied s) (long : Long s.ends) (P : ℕ → ℤ) (inside : Inside s P) where
  pub fixed-in-range : (d : ℕ) (b : Incumbent) → d ≤ s.levels → ProperBest b → BoxInRange s.cols (fixed_by s P d) b
  fixed-in-range d b l p = record {
    sized = record { columns = r.order.sized; ends = fixed-sized s r long P d l (λ j m. inside j (omega arith)) };
    tied = own_tied s r;
    rated = own-rated s r;
    in_order = fixed-order s r long P d l;
    proper = p;
  }

  pub run-in-range : (v : ℤ) (d : ℕ) (b : Incumbent) → d < s.levels → ProperBest b → BoxInRange s.cols (run_ends s P v d) b
  run-in-range v d b l p = go (lt_z (P d) v)
    where
      e : Ends
      e = fixed_by s P d

      x-in : Within farthest (P d)
      x-in = inside-within s r long P s.levels d (omega arith) l inside

      narrowed : (x y : ℤ) → Within farthest x → Within farthest y → x ≤ℤ y → BoxInRange s.cols (spanned e (level_at s d) x y) b
      narrowed x y wx wy h = record {
        sized = record {
          columns = r.order.sized;
          ends = span-sized e (level_at s d) x y (fixed-long s r long P d) (item<16 s r long d l) wx wy
              (fixed-sized s r long P d (omega arith) (λ j m. inside j (omega arith)));
        };
        tied = own_tied s r;
        rated = own-rated s r;
        in_order = own-order s r (spanned e (level_at s d) x y)
            (span-order s r long e (level_at s d) x y (fixed-long s r long P d) (item<16 s r long d l) h (plain-order s r long P d (omega arith)));
        proper = p;
      }

      go : (t : Bool) → BoxInRange s.cols (spanned e (level_at s d) (cond t (at s.low d) (P d)) (cond t (P d) (at s.high d))) b
      go true = narrowed (at s.low d) (P d) (low-within s r long d l) x-in (inside d l).0
      go false = narrowed (P d) (at s.high d) x-in (high-within s r long d l) (inside d l).1
