-- What the parts of a run ask of each other.
-- gathers, free-later, ends-sooner: a group as it is used. radices-small: what a unit is worth in a key. listed, fit: the lists are what the scales ask
-- for. unkeyed: a part that absorbs the others costs nothing with keys either. fixable: digits within the ranges.
use mathlib.Core.Path.{◌≡◌, refl, sym, ◌∙◌}
use mathlib.Core.Bool.{Bool, true, false}
use mathlib.Core.List.{List}
use Prim.Native.Nat.{ℕ, ◌+◌, ◌*◌, ◌-◌, ◌^◌, ◌≤◌, ◌<◌, min}
use native.Mathlib.Omega.{arith}
use native.Mathlib.Nat.{mul-le-mul_right}
use native.Mathlib.Decide.{dec_lt}
use lib.ListN.{length}
use Rattle.scales.specs.Filling.{Items, heft, items_of}
use Rattle.scales.specs.Lent.{Listed, total}
use Rattle.scales.proofs.Sums.{load-most}
use Rattle.residues.specs.Folding.{Absorbs}
use Rattle.residues.specs.Asked.{Fit, Chosen}
use Rattle.fillings.specs.declared.Parts.{Parts}
use Rattle.fillings.specs.declared.Ranges.{Ranges}
use Rattle.fillings.specs.declared.Group.{Group}
use Rattle.fillings.specs.Keys.{keys, digits, radix}
use Rattle.fillings.specs.Ranges.{num, flag, Among, boxed, Made, Fair}
use Rattle.fillings.specs.Runs.{Grouped, Gathers, keyed_by, taken_key, left_key, keyed_taken, keyed_left, Fixable}
use Rattle.fillings.proofs.Keys.{keys-some, radix-small, radix-after, digits-small}

pub gathers : {wide : List ℕ} {f left : ℕ} {g : Group} → 1 ≤ left → f ≤ 16 → Grouped wide f 16 left g → Gathers wide f left g
gathers some fe h = record { some = some; from = h.from; end = omega (arith, h.end fe); base-is = h.base-is; small = h.small }

-- what is free comes after the part
pub free-later : {I : Items} {f K n : ℕ} → f ≤ 16 → Chosen I (f + 1) K n → f + 1 ≤ n
free-later {I} {f} {K} {n} l c = go (dec_lt n 17)
  where
    go : Dec (n < 17) → f + 1 ≤ n
    go (yes h) = c.onward h
    go (no h) = omega arith

-- a group that ends sooner, but after its first part
pub ends-sooner : {wide : List ℕ} {f m n left : ℕ} {g : Group} → f ≤ 16 → f + 1 ≤ n → m ≡ min 16 n → Grouped wide f m left g → Grouped wide f 16 left g
ends-sooner l k is h = record {
  from = h.from;
  end = λ _. omega (arith, is, h.end (omega (arith, is)));
  base-is = h.base-is;
  small = h.small;
  some = λ i. h.some (omega (arith, is));
}

pub base-some : {wide : List ℕ} {f e left : ℕ} {g : Group} → Grouped wide f e left g → 1 ≤ g.base
base-some {wide} {f} {e} {left} {g} h = omega (arith, h.base-is, keys-some (num wide) f (g.to - f))

pub radices-small : (wide rad : List ℕ) (f left : ℕ) (g : Group) → Gathers wide f left g → Made 17 (radix (num wide) f g.to) rad → (k : ℕ) →
    k < 17 → num rad k < 2 ^ 63
radices-small wide rad f left g h m k i = go g.base (keys (num wide) f (g.to - f)) h.base-is h.small (m.each k i)
    (radix-small (num wide) f g.to k)
  where
    go : (b n : ℕ) → b ≡ n → left * b < 2 ^ 63 → num rad k ≡ radix (num wide) f g.to k → radix (num wide) f g.to k ≤ n → num rad k < 2 ^ 63
    go b n e s i j = omega (arith, mul-le-mul_right b h.some)

wide-small : (p : Parts) (r : Ranges) → Fair p → Among p r → (j : ℕ) → j < 17 → num r.wide j < 2 ^ 43
wide-small p r fair among j l = omega (arith, among j l, fair.ranges_in j l)

pub listed : (p : Parts) (r : Ranges) (f left : ℕ) (g : Group) (rad ts ls : List ℕ) → Fair p → Among p r → length r.wide ≡ 17 →
    Gathers r.wide f left g → Made 17 (keyed_taken p (left * g.base) left g.base rad) ts → Made 17 (keyed_left p (left * g.base) left g.base rad) ls →
    Listed (left * g.base) p.weight r.wide ts ls
listed p r f left g rad ts ls fair among long h mt ml = record {
  small = h.small;
  few = omega (arith, fair.long);
  light = omega (arith, fair.light);
  fits = omega (arith, heft-most, fair.light);
  ranges = long ∙ sym fair.long;
  takens = mt.long ∙ sym fair.long;
  lefts = ml.long ∙ sym fair.long;
  taken = λ j l. omega (arith, mt.each j (omega (arith, fair.long)));
  left = λ j l. omega (arith, ml.each j (omega (arith, fair.long)));
}
  where
    heft-most : heft (items_of p.weight r.wide ts ls) ≤ 2 ^ 43 * total p.weight
    heft-most = load-most (length p.weight) (2 ^ 43) (num p.weight) (num r.wide)
        (λ j l. omega (arith, wide-small p r fair among j (omega (arith, fair.long))))

pub fit : (p : Parts) (r : Ranges) → Fair p → Among p r → Fit p.weight r.wide
fit p r fair among = record { long = fair.long; light = fair.light; ranges_in = wide-small p r fair among }

-- a part that absorbs the others has no key
pub unkeyed : (p : Parts) (r : Ranges) (f left room free : ℕ) (g : Group) (rad ts ls : List ℕ) → Chosen (boxed p r) (f + 1) room free → g.to ≤ free →
    Made 17 (radix (num r.wide) f g.to) rad → Made 17 (keyed_taken p (left * g.base) left g.base rad) ts →
    Made 17 (keyed_left p (left * g.base) left g.base rad) ls → free < 17 → Absorbs (items_of p.weight r.wide ts ls) free room
unkeyed p r f left room free g rad ts ls ch to mr mt ml l = record {
  inside = a.inside;
  by = record {
    some = a.by.some;
    free-taken = mt.each free l ∙ nought a.by.free-taken (no-taken (flag p.falls free));
    free-left = ml.each free l ∙ nought a.by.free-left (no-left (flag p.falls free));
    worth = a.by.worth;
    reaches = a.by.reaches;
    carries = a.by.carries;
  };
}
  where
    a : Absorbs (boxed p r) free room
    a = ch.absorbs l

    rad-none : num rad free ≡ 0
    rad-none = mr.each free l ∙ radix-after (num r.wide) f g.to free to

    no-taken : (b : Bool) → taken_key b (num rad free) ≡ 0
    no-taken true = refl
    no-taken false = rad-none

    no-left : (b : Bool) → left_key b (num rad free) ≡ 0
    no-left true = rad-none
    no-left false = refl

    none : (n : ℕ) → min n 0 ≡ 0
    none n = omega arith

    nought : {c k : ℕ} → c ≡ 0 → k ≡ 0 → keyed_by (left * g.base) left g.base c k ≡ 0
    nought e z = rw (e, z, none left) (omega arith)

pub fixable : (p : Parts) (r : Ranges) (f left key : ℕ) (g : Group) (ds : List ℕ) → Fair p → Among p r → Gathers r.wide f left g → key < g.base →
    Made 17 (digits (num r.wide) f (g.to - f) key) ds → Fixable r ds
fixable p r f left key g ds fair among h l m k i =
    (omega (arith, among k i, fair.ranges_in k i), omega (arith, m.each k i, digits-small (num r.wide) f (g.to - f) key (omega (arith, h.base-is)) k))
