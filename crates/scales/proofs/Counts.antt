-- How many cells a call writes at most.
-- rest-small: a range below 2 ^ k has at most k digits. live-pass, pass-live, pass-most, live-most, fill-most, thin-most: what a scale writes and leaves live.
-- cells-most: what so many scales write. written-most: what a call writes, by the digits of the greatest range; call-most: by a number.
use mathlib.Core.Path.{◌≡◌, sym, ◌∙◌}
use Prim.Native.Nat.{ℕ, zero, suc, ◌+◌, ◌-◌, ◌*◌, ◌/◌, ◌%◌, ◌^◌, ◌≤◌, ◌<◌, min}
use native.Mathlib.Omega.{arith}
use native.Mathlib.Numerals.{unary_clauses}
use native.Mathlib.Nat.{mul-le-mul_left, mul-le-mul_right, div-add-mod, div-le_self}
use Rattle.scales.specs.Digits.{rest, digit, rest_at}
use Rattle.scales.specs.Filling.{Items, sum, heft, shared, stride, next}
use Rattle.scales.specs.Counts.{live_of, pass_cells, live_at, heft_at, fill_cells, thin_of, cells_of, Takes}
use Rattle.scales.proofs.Digits.{rest-shift}
use Rattle.scales.proofs.Sums.{sum_mono}
use Rattle.scales.proofs.Shared.{shared-pos}

pub rest-small : (k u : ℕ) → u < 2 ^ k → rest_at k u ≡ 0
unfolding rest_at
rest-small zero u h = omega arith
rest-small (suc k) u h = sym (rest-shift k u) ∙ rest-small k (rest u) (half (2 ^ k) (simp unary_clauses at h))
  where
    half : (n : ℕ) → suc u ≤ n * 2 → rest u < n
    half n h = omega arith

pub live-pass : (d w n K : ℕ) → live_of d w n K ≤ n + d * w
unfolding live_of
live-pass zero w n K = omega arith
live-pass (suc d) w n K = omega (arith, live-pass d w n K)

-- each pass writes at most what is live after it
pub pass-live : (d w n K R M : ℕ) → n + d * w ≤ M → pass_cells d w n K R ≤ d * M
unfolding pass_cells
pass-live zero w n K R M h = omega arith
pass-live (suc d) w n K R M h = less (live_of (suc d) w n K) (min (K - (R - suc d * w)) (live_of d w n K)) (live-pass (suc d) w n K)
    (pass-live d w n K R M (omega arith))
  where
    less : (a b : ℕ) → a ≤ n + suc d * w → pass_cells d w n K R ≤ d * M → pass_cells d w n K R + (a - b) ≤ suc d * M
    less a b l k = omega arith

pub pass-most : (d w n K R : ℕ) → d ≤ 2 → pass_cells d w n K R ≤ 2 * (n + 2 * w)
pass-most d w n K R h =
    let M = n + 2 * w in
    let one : d * w ≤ 2 * w = mul-le-mul_right w h in
    let two : d * M ≤ 2 * M = mul-le-mul_right M h in
    omega (arith, pass-live d w n K R M (omega arith))

pub live-most : (I : Items) (j n K : ℕ) → live_at I j n K ≤ n + 2 * sum j I.weight
unfolding live_at
live-most I zero n K = omega arith
live-most I (suc j) n K =
    omega (
      arith,
      live-most I j n K,
      live-pass (digit (I.range j)) (I.weight j) (live_at I j n K) K,
      mul-le-mul_right (I.weight j) (few (I.range j)),
    )
  where
    few : (u : ℕ) → digit u ≤ 2
    few u = omega arith

pub fill-most : (I : Items) (j n K R M : ℕ) → n + 2 * sum j I.weight ≤ M → fill_cells I j n K R ≤ j * (2 * M)
unfolding fill_cells
fill-most I zero n K R M h = omega arith
fill-most I (suc j) n K R M h =
    omega (
      arith,
      fill-most I j n K R M (omega arith),
      live-most I j n K,
      pass-most (digit (I.range j)) (I.weight j) (live_at I j n K) K (heft_at I j R) (few (I.range j)),
    )
  where
    few : (u : ℕ) → digit u ≤ 2
    few u = omega arith

pub thin-most : (live W s bit : ℕ) → 2 ≤ s → live ≤ 4 * W + 1 → thin_of live s bit ≤ 2 * W + 1
thin-most live W s bit h l = go (thin_of live s bit) (div-add-mod (live + (s - 1 - bit)) s)
  where
    go : (q : ℕ) → s * q + (live + (s - 1 - bit)) % s ≡ live + (s - 1 - bit) → q ≤ 2 * W + 1
    go zero e = omega arith
    go (suc q) e = let two : 2 * q ≤ s * q = mul-le-mul_right q h in omega arith

-- what a scale writes, of m items that weigh W together
abbrev pub most_of : ℕ → ℕ → ℕ
most_of m W = m * (2 * (4 * W + 1)) + (2 * W + 1)

-- weights do not grow from scale to scale
lighter : (cap : ℕ) (I : Items) → sum I.count (next cap I).weight ≤ sum I.count I.weight
lighter cap I = sum_mono I.count (next cap I).weight I.weight (λ j l. div-le_self (I.weight j) (shared I))

pub cells-most : (cap s : ℕ) (I : Items) (n K R W : ℕ) → sum I.count I.weight ≤ W → n ≤ 2 * W + 1 → cells_of cap s I n K R ≤ s * most_of I.count W
unfolding cells_of
cells-most cap zero I n K R W h k = omega arith
cells-most cap (suc s) I n K R W h k =
    let live : live_at I I.count n K ≤ 4 * W + 1 = omega (arith, live-most I I.count n K) in
    let m = thin_of (live_at I I.count n K) (stride I) (K % stride I) in
    let kept : m ≤ 2 * W + 1 = thin-most (live_at I I.count n K) W (stride I) (K % stride I) (omega (arith, shared-pos I)) live in
    omega (
      arith,
      fill-most I I.count n K R (4 * W + 1) (omega arith),
      kept,
      cells-most cap s (next cap I) m (K / stride I) (heft_at I I.count R / stride I) W (omega (arith, lighter cap I)) kept,
    )

pub written-most : (cap : ℕ) (I : Items) (C n k W : ℕ) → Takes cap I C n → sum I.count I.weight ≤ W → ((j : ℕ) → j < I.count → I.range j < 2 ^ k) →
    n ≤ k * most_of I.count W
written-most cap I C n k W t h r =
    omega (
      arith,
      t.written,
      cells-most cap t.scales I 1 C (heft I) W h (omega arith),
      mul-le-mul_right (most_of I.count W) (t.soonest k (λ j l. rest-small k (I.range j) (r j l))),
    )

-- the work of a call on 16 items that weigh up to 1,000 and a slack: for each binary digit of the greatest range at most 2,208,173 cells
pub call-most : (cap : ℕ) (I : Items) (C n k : ℕ) → Takes cap I C n → I.count ≤ 17 → sum I.count I.weight ≤ 16001 →
    ((j : ℕ) → j < I.count → I.range j < 2 ^ k)
    → n ≤ k * 2208173
call-most cap I C n k t few w r = omega (arith, written-most cap I C n k 16001 t w r, mul-le-mul_left k (one I.count few))
  where
    one : (m : ℕ) → m ≤ 17 → most_of m 16001 ≤ 2208173
    one m h = omega arith
