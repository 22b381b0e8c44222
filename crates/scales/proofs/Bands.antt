-- Only a band of loads matters: those from which the units to come can still lead to the capacity.
-- pass-agree, passes-agree, fill-agree, thin-agree, least-agree: tables that agree on the band say the same after what is done to both.
-- heft-next: the band of a scale is that of its digits and of the scales that follow.
use mathlib.Core.Path.{◌≡◌}
use Prim.Native.Nat.{ℕ, zero, suc, ◌+◌, ◌-◌, ◌*◌, ◌/◌, ◌%◌}
use native.Mathlib.Omega.{arith}
use native.Mathlib.Nat.{mul_comm, mul-le-mul_left, div-add-mod}
use Rattle.scales.specs.Digits.{rest, digit}
use Rattle.scales.specs.Tables.{Table, pass, passes, thin, Agree}
use Rattle.scales.specs.Filling.{Items, sum, heft, fill, stride, next, least}
use Rattle.scales.proofs.Sums.{sum-cong}
use Rattle.scales.proofs.Shared.{load-next}
use Rattle.scales.proofs.Sound.{loads}

pub pass-agree : (cap w a b K R : ℕ) (S T : Table) → Agree K (R + w) S T → Agree K R (pass cap w a b S) (pass cap w a b T)
unfolding pass
pass-agree cap w a b K R S T h x l m = rw (h x l (omega arith), h (x - w) (omega arith) (omega arith))

pub passes-agree : (cap d w a b K R : ℕ) (S T : Table) → Agree K (R + d * w) S T → Agree K R (passes cap d w a b S) (passes cap d w a b T)
unfolding passes
passes-agree cap zero w a b K R S T h = λ x l m. h x l (omega arith)
passes-agree cap (suc d) w a b K R S T h =
    pass-agree cap w a b K R (passes cap d w a b S) (passes cap d w a b T) (passes-agree cap d w a b K (R + w) S T (λ x l m. h x l (omega arith)))

pub fill-agree : (cap : ℕ) (I : Items) (k K R : ℕ) (S T : Table) → Agree K (R + sum k (λ j. digit (I.range j) * I.weight j)) S T →
    Agree K R (fill cap I k S) (fill cap I k T)
unfolding fill
fill-agree cap I zero K R S T h = λ x l m. h x l (omega arith)
fill-agree cap I (suc k) K R S T h =
    let d = digit (I.range k) in
    let w = I.weight k in
    passes-agree cap d w (I.taken k) (I.left k) K R (fill cap I k S) (fill cap I k T)
    (fill-agree cap I k K (R + d * w) S T (λ x l m. h x l (omega arith)))

pub thin-agree : (s K R : ℕ) (S T : Table) → Agree K (s * R) S T → Agree (K / s) R (thin s (K % s) S) (thin s (K % s) T)
unfolding thin
thin-agree s K R S T h x l m = h (s * x + K % s) (omega (arith, whole, mul-le-mul_left s l)) (omega (arith, whole, mul-le-mul_left s m))
  where
    whole : s * (K / s) + K % s ≡ K
    whole = div-add-mod K s

pub heft-next : (cap : ℕ) (I : Items) → heft I ≡ sum I.count (λ j. digit (I.range j) * I.weight j) + stride I * heft (next cap I)
heft-next cap I =
    let parts = loads I I.range (λ j. digit (I.range j)) (λ j. rest (I.range j)) (λ j l. omega arith) in
    let later = load-next cap I (λ j. rest (I.range j)) (λ j l. omega arith) in
    let here = sum-cong I.count (λ j. I.weight j * digit (I.range j)) (λ j. digit (I.range j) * I.weight j)
    (λ j l. mul_comm (I.weight j) (digit (I.range j))) in
    omega arith

pub least-agree : (cap n : ℕ) (I : Items) (S T : Table) (K : ℕ) → Agree K (heft I) S T → least cap n I S K ≡ least cap n I T K
unfolding least
least-agree cap zero I S T K h = h K (omega arith) (omega arith)
least-agree cap (suc n) I S T K h =
    let s = stride I in
    let R = heft (next cap I) in
    let F = fill cap I I.count S in
    let G = fill cap I I.count T in
    let filled = fill-agree cap I I.count K (s * R) S T (λ x l m. h x l (omega (arith, heft-next cap I))) in
    least-agree cap n (next cap I) (thin s (K % s) F) (thin s (K % s) G) (K / s) (thin-agree s K R F G filled)
