-- Laws of readings (specs/Faults.antt).
-- refused-read: a refusal reads nothing. read-same: two readings have the same value and place if they are the same.
use mathlib.Core.Path.{◌≡◌}
use Prim.Native.Nat.{ℕ}
use native.Mathlib.Omega.{arith}
use Rattle.model.specs.declared.refusals.Reason.{Reason}
use Rattle.std.specs.Prelude.{Ok, Err}
use Rattle.lines.specs.Faults.{Read}
use Rattle.lines.proofs.Places.{pair-same}

pub refused-read : {A : Type 0} {v : A} {n : ℕ} (k : Reason) → ◌≡◌ {A = Read A} (Err k) (Ok (v, n)) → ⊥
refused-read k h = let z : ◌≡◌ {A = ℕ} 0 1 = cc in omega arith

pub read-same : {A : Type 0} {v w : A} {m n : ℕ} → ◌≡◌ {A = Read A} (Ok (v, m)) (Ok (w, n)) → (v ≡ w) × (m ≡ n)
read-same {A} {v} {w} {m} {n} h = let p : ◌≡◌ {A = A × ℕ} (v, m) (w, n) = cc in pair-same p
