-- How much work the folded items are.
-- offsets-fit: the offsets weigh no more than the other items. range-few: how many units of the free item there are. folded-light, folded-ranges: weights
-- and ranges of all items. folded-few, takes-few: how many cells a call writes at most.
use mathlib.Core.Path.{◌≡◌}
use mathlib.Core.Bool.{cond}
use mathlib.Core.List.{List}
use Prim.Native.Nat.{ℕ, ◌+◌, ◌*◌, ◌/◌, ◌^◌, ◌≤◌, ◌<◌}
use native.Mathlib.Omega.{arith}
use native.Mathlib.Nat.{div-lt_iff_lt-mul}
use native.Mathlib.Decide.{dec_lt, ℕ_discrete}
use borrow.Author.Tests.{eq-eqb, ne_eqb}
use lib.Dec.{eqb}
use lib.ListN.{length}
use Rattle.scales.specs.Filling.{Items, sum, heft, items_of}
use Rattle.scales.specs.Counts.{Takes}
use Rattle.scales.proofs.Sums.{sum_mono}
use Rattle.scales.proofs.Counts.{call-most}
use Rattle.residues.specs.Folding.{offset_at, folded_weight_at, folded_capacity, folded, Absorbs}
use Rattle.residues.specs.Asked.{Fit, TakesBy}
use Rattle.residues.proofs.Folding.{sum-others, no-offset}
use Rattle.residues.proofs.Sizes.{fold-most, offset-most}

offsets-fit : (I : Items) (f : ℕ) → f < I.count → sum I.count (offset_at f I.weight I.range) + I.weight f * I.range f ≤ heft I
offsets-fit I f l =
    omega (
      arith,
      sum-others I.count f (offset_at f I.weight I.range) l,
      sum-others I.count f (λ k. I.weight k * I.range k) l,
      no-offset (I.weight f) (I.range f),
      sum_mono I.count (λ k. cond (eqb k f) 0 (offset_at f I.weight I.range k)) (λ k. cond (eqb k f) 0 (I.weight k * I.range k))
          (λ k h. at k (ℕ_discrete k f)),
    )
  where
    at : (k : ℕ) → Dec (k ≡ f) → cond (eqb k f) 0 (offset_at f I.weight I.range k) ≤ cond (eqb k f) 0 (I.weight k * I.range k)
    at k (yes e) = rw (eq-eqb k f e) (omega arith)
    at k (no d) = rw (ne_eqb k f d) (offset-most (I.weight f) (I.weight k) (I.range k))

pub range-few : (I : Items) (f C : ℕ) → Absorbs I f C → folded_capacity f I C / I.weight f < 2 * I.range f + 3
range-few I f C a =
    (div-lt_iff_lt-mul {k = I.weight f} {x = folded_capacity f I C} {y = 2 * I.range f + 3} a.by.some).1
    (omega (arith, offsets-fit I f a.inside, a.by.reaches, a.by.carries))

pub folded-light : (f C : ℕ) (I : Items) → sum I.count (folded f C I).weight ≤ sum I.count I.weight
folded-light f C I = sum_mono I.count (folded_weight_at f I.weight) I.weight (λ k h. at k (ℕ_discrete k f))
  where
    at : (k : ℕ) → Dec (k ≡ f) → folded_weight_at f I.weight k ≤ I.weight k
    at k (yes e) = rw (eq-eqb k f e, e) (omega arith)
    at k (no d) = rw (ne_eqb k f d) (fold-most (I.weight f) (I.weight k))

pub folded-ranges : (ws us ts ls : List ℕ) (f C : ℕ) → Fit ws us → Absorbs (items_of ws us ts ls) f C → (k : ℕ) → k < length ws →
    (folded f C (items_of ws us ts ls)).range k < 2 ^ 45
folded-ranges ws us ts ls f C fit a k l = at (ℕ_discrete k f)
  where
    I : Items
    I = items_of ws us ts ls

    at : Dec (k ≡ f) → (folded f C I).range k < 2 ^ 45
    at (yes e) = rw (eq-eqb k f e) (omega (arith, range-few I f C a, fit.ranges_in f (omega (arith, a.inside, fit.long))))
    at (no d) = rw (ne_eqb k f d) (omega (arith, fit.ranges_in k (omega (arith, fit.long))))

folded-few : (cap : ℕ) (ws us ts ls : List ℕ) (f C n : ℕ) → Fit ws us → Absorbs (items_of ws us ts ls) f C →
    Takes cap (folded f C (items_of ws us ts ls)) (folded_capacity f (items_of ws us ts ls) C) n → n ≤ 99367785
folded-few cap ws us ts ls f C n fit a t =
    call-most cap (folded f C I) (folded_capacity f I C) n 45 t (omega (arith, fit.long)) (omega (arith, folded-light f C I, fit.light))
    (folded-ranges ws us ts ls f C fit a)
  where
    I : Items
    I = items_of ws us ts ls

pub takes-few : (cap : ℕ) (ws us ts ls : List ℕ) (f C n : ℕ) → Fit ws us → (f < 17 → Absorbs (items_of ws us ts ls) f C) →
    TakesBy cap (items_of ws us ts ls) C f n → n ≤ 99367785
takes-few cap ws us ts ls f C n fit a t = go (dec_lt f 17)
  where
    go : Dec (f < 17) → n ≤ 99367785
    go (yes h) = folded-few cap ws us ts ls f C n fit (a h) (t.modulo h)
    go (no h) =
        let few = call-most cap (items_of ws us ts ls) C n 43 (t.plainly (omega arith)) (omega (arith, fit.long)) fit.light
        (λ k l. fit.ranges_in k (omega (arith, fit.long))) in
        omega (arith, few)
