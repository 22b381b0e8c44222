-- What is folded is no heavier.
-- weight-few, beyond-small, heft-small: a weight, one unit more than there are, all units. fold-most, offset-most, offsets-most: folded weights and offsets.
use mathlib.Core.List.{List}
use mathlib.Core.Logic.{⊎_elim}
use Prim.Native.Nat.{ℕ, ◌+◌, ◌-◌, ◌*◌, ◌%◌, ◌^◌, ◌≤◌, ◌<◌}
use native.Mathlib.Omega.{arith}
use native.Mathlib.Nat.{mul-le-mul, mul-le-mul_right, mod-le}
use borrow.Author.Tests.{lt-ltb, le-ltb}
use lib.ListN.{length}
use Rattle.scales.specs.Filling.{sum, heft, items_of}
use Rattle.scales.proofs.Sums.{lt-or-ge, sum-part, sum_mono, load-most}
use Rattle.residues.specs.Folding.{folded_weight, offset, offset_at}
use Rattle.residues.specs.Asked.{num, Fit}

pub weight-few : (ws us : List ℕ) (k : ℕ) → Fit ws us → k < 17 → num ws k ≤ 16001
weight-few ws us k fit l = omega (arith, sum-part (length ws) (num ws) k (omega (arith, fit.long)), fit.light)

pub beyond-small : (ws us : List ℕ) (k : ℕ) → Fit ws us → k < 17 → num ws k * (num us k + 1) < 2 ^ 58
beyond-small ws us k fit l =
    let u : num us k + 1 ≤ 8796093022208 = omega (arith, fit.ranges_in k l) in
    omega (arith, mul-le-mul (weight-few ws us k fit l) u)

pub heft-small : (ws us : List ℕ) → Fit ws us → heft (items_of ws us us us) < 2 ^ 58
heft-small ws us fit =
    omega (arith, load-most (length ws) (2 ^ 43) (num ws) (num us) (λ k l. omega (arith, fit.ranges_in k (omega (arith, fit.long)))), fit.light)

pub fold-most : (m w : ℕ) → folded_weight m w ≤ w
fold-most m w =
    let r = w % m in
    ⊎_elim
    (λ (h : m - r < r). rw (lt-ltb (m - r) r h) (omega (arith, mod-le w m)))
    (λ (h : r ≤ m - r). rw (le-ltb (m - r) r h) (mod-le w m))
    (lt-or-ge (m - r) r)

pub offset-most : (m w u : ℕ) → offset m w u ≤ w * u
offset-most m w u =
    let r = w % m in
    ⊎_elim
    (λ (h : m - r < r). rw (lt-ltb (m - r) r h) (mul-le-mul_right u (omega (arith, mod-le w m))))
    (λ (h : r ≤ m - r). rw (le-ltb (m - r) r h) (omega arith))
    (lt-or-ge (m - r) r)

pub offsets-most : (ws us : List ℕ) (f : ℕ) → sum (length ws) (offset_at f (num ws) (num us)) ≤ heft (items_of ws us us us)
offsets-most ws us f =
    sum_mono (length ws) (offset_at f (num ws) (num us)) (λ k. num ws k * num us k) (λ k l. offset-most (num ws f) (num ws k) (num us k))
