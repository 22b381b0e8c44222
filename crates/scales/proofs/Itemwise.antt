-- The loop over the items of a scale.
--   Itemwise ..     after the digits of the first j items the cells show their table, so many are live and were written, and the units to come weigh so much
-- heft-at, heft-left: what the units to come weigh; itemwise-first, -step: the loop; itemwise-heavy: a digit weighs no more than they.
use mathlib.Core.Path.{◌≡◌, refl}
use mathlib.Core.List.{List}
use Prim.Native.Nat.{ℕ, zero, suc, ◌+◌, ◌-◌, ◌*◌, ◌≤◌, ◌<◌}
use native.Mathlib.Omega.{arith}
use native.Mathlib.Numerals.{add-one}
use Rattle.scales.specs.declared.Live.{Live}
use Rattle.scales.specs.declared.Stage.{Stage}
use Rattle.scales.specs.Digits.{digit}
use Rattle.scales.specs.Tables.{Table, at, Below, Agree}
use Rattle.scales.specs.Filling.{Items, sum, heft, stride, next, fill_item, fill}
use Rattle.scales.specs.Lent.{Shows}
use Rattle.scales.specs.Counts.{live_at, heft_at, fill_cells}
use Rattle.scales.specs.Filled.{ItemFilled}
use Rattle.scales.proofs.Sums.{sum_more}
use Rattle.scales.proofs.Bands.{passes-agree, heft-next}
use Rattle.scales.proofs.Cells.{shows-on}

-- what the digits of the first j items weigh
abbrev pub digit_load : Items → ℕ → ℕ
digit_load I j = sum j (λ k. digit (I.range k) * I.weight k)

pub heft-at : (I : Items) (j R : ℕ) → heft_at I j R ≡ R - digit_load I j
unfolding heft_at
heft-at I zero R = omega arith
heft-at I (suc j) R = omega (arith, heft-at I j R)

-- after all digits the next scales are left
pub heft-left : (cap : ℕ) (I : Items) → heft_at I I.count (heft I) ≡ stride I * heft (next cap I)
heft-left cap I = omega (arith, heft-at I I.count (heft I), heft-next cap I)

pub record Itemwise (cap K : ℕ) (I : Items) (whole n : ℕ) (old new : List ℕ) (live left written j : ℕ) : Type 0 where
  pub inside : j ≤ I.count
  pub lives : live ≡ live_at I j n K
  pub hefts : left ≡ heft_at I j whole
  pub counted : written ≡ fill_cells I j n K whole
  pub shows : Shows cap (fill cap I j (at cap n old)) K left live old new

module _ {cap K : ℕ} {I : Items} {n : ℕ} {old : List ℕ} where
  pub itemwise-first : {whole : ℕ} → Below cap (at cap n old) → Itemwise cap K I whole n old old n whole 0 0
  unfolding fill live_at heft_at fill_cells
  itemwise-first h = record {
    inside = omega arith;
    lives = refl;
    hefts = refl;
    counted = refl;
    shows = record { same = refl; below = h; agrees = λ x u v. refl };
  }

  pub itemwise-heavy : {whole : ℕ} {new : List ℕ} {live left written j : ℕ} → j < I.count → whole ≡ heft I →
      Itemwise cap K I whole n old new live left written j → digit (I.range j) * I.weight j ≤ left
  itemwise-heavy {whole} {new} {live} {left} {written} {j} l e t =
      let more = sum_more (suc j) I.count (λ k. digit (I.range k) * I.weight k) l in
      omega (arith, t.hefts, heft-at I j whole, heft-next cap I)

  pub itemwise-step : {whole : ℕ} {new newer : List ℕ} {live left written j : ℕ} (s : Stage) (r : Live) → s.cap ≡ cap → s.rest ≡ K → j < I.count →
      digit (I.range j) * I.weight j ≤ left → ItemFilled s j I left live new newer r → Itemwise cap K I whole n old new live left written j →
      Itemwise cap K I whole n old newer r.n r.heft (written + r.written) (j + 1)
  unfolding fill live_at heft_at fill_cells
  itemwise-step {whole} {new} {newer} {live} {left} {written} {j} s r e f l h p t =
      let d = digit (I.range j) in
      let w = I.weight j in
      let T = fill cap I j (at cap n old) in
      let keeps : (S : Table) → Agree K left S T → Agree K r.heft (fill_item cap I j S) (fill_item cap I j T) =
      λ S g. passes-agree cap d w (I.taken j) (I.left j) K r.heft S T (λ x u v. g x u (omega (arith, p.heft))) in
      rw add-one (record {
        inside = omega arith;
        lives = rw (← t.lives, ← f) p.live;
        hefts = rw (← t.hefts) p.heft;
        counted = rw (← t.lives, ← t.hefts, ← t.counted, ← f, ← p.written);
        shows = shows-on (fill_item cap I j) keeps t.shows (rw (e, f) at p.shows);
      })
