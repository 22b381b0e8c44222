-- Lists as loops make them.
-- num-zeros: nothing everywhere. begun_first, -step, -done: place by place from the front, as made-step, -done (residues), with nothing at the
-- other places.
use mathlib.Core.Path.{◌≡◌, refl, ◌∙◌}
use mathlib.Core.List.{List}
use Prim.Native.Nat.{ℕ, zero, suc, ◌+◌, ◌≤◌, ◌<◌}
use native.Mathlib.Omega.{arith}
use native.Mathlib.Decide.{ℕ_discrete, dec_lt}
use lib.ListN.{length, set, length-set, replicate}
use lib.Seq.{get_or-set_same, get_or-set_other}
pub use Rattle.residues.proofs.Lists.{made-step, made-done}
use Rattle.fillings.specs.Ranges.{num, Made}

abbrev pub zeros : List ℕ
zeros = replicate 17 0

-- the places below k are those of f, the others hold nothing
pub record Begun (k : ℕ) (f : ℕ → ℕ) (xs : List ℕ) : Type 0 where
  pub long : length xs ≡ 17
  pub before : (j : ℕ) → j < k → num xs j ≡ f j
  pub behind : (j : ℕ) → k ≤ j → num xs j ≡ 0

pub num-zeros : (n k : ℕ) → num (replicate n 0) k ≡ 0
num-zeros zero k = refl
num-zeros (suc n) zero = refl
num-zeros (suc n) (suc k) = num-zeros n k

pub begun_first : (f : ℕ → ℕ) (k : ℕ) → ((j : ℕ) → j < k → f j ≡ 0) → Begun k f zeros
begun_first f k h = record { long = refl; before = λ j l. rw (h j l) (num-zeros 17 j); behind = λ j l. num-zeros 17 j }

pub begun-step : (f : ℕ → ℕ) (k v : ℕ) {xs : List ℕ} → k < 17 → v ≡ f k → Begun k f xs → Begun (k + 1) f (set xs k v)
begun-step f k v {xs} l e h = record {
  long = length-set xs k v ∙ h.long;
  before = λ j m. go j m (ℕ_discrete j k);
  behind = λ j m. get_or-set_other xs k j v 0 (omega arith) ∙ h.behind j (omega arith);
}
  where
    go : (j : ℕ) → j < k + 1 → Dec (j ≡ k) → num (set xs k v) j ≡ f j
    go j m (yes q) = rw q (get_or-set_same xs k v 0 (omega (arith, h.long)) ∙ e)
    go j m (no q) = get_or-set_other xs k j v 0 q ∙ h.before j (omega arith)

pub begun-done : {f : ℕ → ℕ} {k n : ℕ} {xs : List ℕ} → ((j : ℕ) → k ≤ j → f j ≡ 0) → Begun k f xs → Made n f xs
begun-done {f} {k} {n} {xs} z h = record { long = h.long; each = λ j l. go j (dec_lt j k) }
  where
    go : (j : ℕ) → Dec (j < k) → num xs j ≡ f j
    go j (yes l) = h.before j l
    go j (no l) = rw (z j (omega arith)) (h.behind j (omega arith))
