-- Lists as loops make them.
-- made-step, made-done: place by place from the front. made-whole: where nothing is behind, they are all of a function.
-- made-from_fn: what a closure gives at each place in turn, if calls leave it as it is.
use mathlib.Core.Path.{◌≡◌, sym, subst, ◌∙◌, fun_ext}
use mathlib.Core.List.{List}
use mathlib.Core.Logic.{⊎_elim}
use Prim.Native.Nat.{ℕ, zero, suc, ◌+◌, ◌≤◌, ◌<◌}
use native.Mathlib.Omega.{arith}
use native.Mathlib.Decide.{ℕ_discrete, dec_lt}
use lib.ListN.{set, length-set, get_or-eq_default}
use lib.Seq.{get_or-set_same, get_or-set_other}
use denote.Param.Members.{Mut, Called}
use Rattle.std.specs.Array.{IsFromFnResult, IsFromFnResultFrom}
use Rattle.scales.proofs.Sums.{lt-or-ge}
use Rattle.residues.specs.Asked.{num, Made}

pub made-step : (f : ℕ → ℕ) (k v : ℕ) {xs : List ℕ} → k < 17 → v ≡ f k → Made k f xs → Made (k + 1) f (set xs k v)
made-step f k v {xs} l e h = record { long = length-set xs k v ∙ h.long; each = λ j m. go j m (ℕ_discrete j k) }
  where
    go : (j : ℕ) → j < k + 1 → Dec (j ≡ k) → num (set xs k v) j ≡ f j
    go j m (yes q) = rw q (get_or-set_same xs k v 0 (omega (arith, h.long)) ∙ e)
    go j m (no q) = get_or-set_other xs k j v 0 q ∙ h.each j (omega arith)

pub made-done : {f : ℕ → ℕ} {m n : ℕ} {xs : List ℕ} → m ≡ n → Made m f xs → Made n f xs
made-done {f} {m} {n} {xs} e h = subst (λ i. Made i f xs) e h

pub made-whole : (f : ℕ → ℕ) (xs : List ℕ) → ((k : ℕ) → 17 ≤ k → f k ≡ 0) → Made 17 f xs → num xs ≡ f
made-whole f xs none h = fun_ext (λ k. go k (dec_lt k 17))
  where
    go : (k : ℕ) → Dec (k < 17) → num xs k ≡ f k
    go k (yes l) = h.each k l
    go k (no l) = get_or-eq_default xs 0 {n = k} (omega (arith, h.long)) ∙ sym (none k (omega arith))

from_fn-each : {F : Type 0} (g : Mut F (ℕ × Unit {0}) ℕ) (f : F) (v : ℕ → ℕ) (ys : List ℕ) →
    ((k y : ℕ) (f' : F) → Called g f (k, tt) y f' → (y ≡ v k) × (f' ≡ f)) → (n i : ℕ) → IsFromFnResultFrom g f ys i n → (k : ℕ) → i ≤ k → k < i + n → num ys k ≡ v k
from_fn-each g f v ys h zero i r k l m = absurd (omega arith)
from_fn-each g f v ys h (suc n) i (q, y, e, c, r) k l m =
    let d = h i y q c in
    let later : i + 1 ≤ k → num ys k ≡ v k = λ o. from_fn-each g f v ys h n (i + 1) (subst (λ p. IsFromFnResultFrom g p ys (i + 1) n) d.1 r) k o (omega arith) in
    ⊎_elim (λ (o : k < i + 1). let a : k ≡ i = omega arith in rw a (e.1 0 ∙ d.0)) later (lt-or-ge k (i + 1))

pub made-from_fn : {F : Type 0} (g : Mut F (ℕ × Unit {0}) ℕ) (f : F) (v : ℕ → ℕ) {ys : List ℕ} →
    ((k y : ℕ) (f' : F) → Called g f (k, tt) y f' → (y ≡ v k) × (f' ≡ f)) → IsFromFnResult g f ys 17 → Made 17 v ys
made-from_fn g f v {ys} h r = record { long = r.long; each = λ k l. from_fn-each g f v ys h 17 0 r.each k (omega arith) l }
