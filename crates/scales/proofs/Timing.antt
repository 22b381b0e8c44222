-- The loop over the units of a digit.
--   Timing ..       after k passes the cells show their table, so many are live and were written, and the units to come weigh so much
--   Roomy ..        before a pass: the unit is among those to come, and cells and count have room for it
-- timing-first, -step: that holds at the start and pass by pass; timing-room: there is room for one more.
use mathlib.Core.Path.{◌≡◌, refl}
use mathlib.Core.List.{List}
use Prim.Native.Nat.{ℕ, suc, ◌+◌, ◌-◌, ◌*◌, ◌≤◌, ◌<◌, min}
use native.Mathlib.Omega.{arith}
use native.Mathlib.Nat.{mul-le-mul_right}
use native.Mathlib.Numerals.{add-one}
use Rattle.scales.specs.Tables.{Table, at, pass, passes, Below, Agree}
use Rattle.scales.specs.Lent.{Passed, Shows}
use Rattle.scales.specs.Counts.{live_of, pass_cells}
use Rattle.scales.proofs.Bands.{pass-agree}
use Rattle.scales.proofs.Cells.{passed-shows, shows-on}
use Rattle.scales.proofs.Counts.{live-pass, pass-live}

pub record Timing (cap n d w a b K R : ℕ) (old new : List ℕ) (live left written k : ℕ) : Type 0 where
  pub inside : k ≤ d
  pub hefts : left + k * w ≡ R
  pub lives : live ≡ live_of k w n K
  pub counted : written ≡ pass_cells k w n K R
  pub shows : Shows cap (passes cap k w a b (at cap n old)) K left live old new

pub record Roomy (d w n live left written : ℕ) : Type 0 where
  pub heavy : w ≤ left
  pub room : live + w ≤ n + d * w
  pub few : written ≤ d * (n + d * w)

module _ {cap n d w a b K R : ℕ} {old : List ℕ} where
  pub timing-first : Below cap (at cap n old) → Timing cap n d w a b K R old old n R 0 0
  unfolding passes live_of pass_cells
  timing-first h = record {
    inside = omega arith;
    hefts = omega arith;
    lives = refl;
    counted = refl;
    shows = record { same = refl; below = h; agrees = λ x u v. refl };
  }

  pub timing-room : {new : List ℕ} {live left written k : ℕ} → k < d → d * w ≤ R → Timing cap n d w a b K R old new live left written k →
      Roomy d w n live left written
  timing-room {new} {live} {left} {written} {k} l h t =
      let more : suc k * w ≤ d * w = mul-le-mul_right w l in
      let most : k * (n + d * w) ≤ d * (n + d * w) = mul-le-mul_right (n + d * w) (omega arith) in
      record {
        heavy = omega (arith, t.hefts);
        room = omega (arith, t.lives, live-pass k w n K);
        few = omega (arith, t.counted, pass-live k w n K R (n + d * w) (omega arith));
      }

  pub timing-step : {new newer : List ℕ} {live left written k : ℕ} (from to : ℕ) → k < d → w ≤ left → from ≡ min (K - (left - w)) live →
      to ≡ min (live + w) (suc K) → Passed cap live w a b from to new newer → Timing cap n d w a b K R old new live left written k →
      Timing cap n d w a b K R old newer to (left - w) (written + (to - from)) (k + 1)
  unfolding passes live_of pass_cells
  timing-step {new} {newer} {live} {left} {written} {k} from to l h e f p t =
      let T = passes cap k w a b (at cap n old) in
      let rest : R - suc k * w ≡ left - w = omega (arith, t.hefts) in
      let one = passed-shows K (left - w) from to e f t.shows.below p in
      let keeps : (S : Table) → Agree K left S T → Agree K (left - w) (pass cap w a b S) (pass cap w a b T) =
      λ S g. pass-agree cap w a b K (left - w) S T (λ x u v. g x u (omega arith)) in
      rw add-one (record {
        inside = omega arith;
        hefts = omega (arith, t.hefts);
        lives = rw (← t.lives) f;
        counted = rw (rest, ← t.lives, ← e, ← f, ← t.counted);
        shows = shows-on (pass cap w a b) keeps t.shows one;
      })
