-- What the cases of a need keep of the problem.
--   bounded i l u        the item i with other bounds
-- lower-without, lower-having: where every item has a lower bound, so it is in the cases.
-- shown-narrow, shown-priced: what is shown of a point of a case, or at other prices, is shown of it in the problem itself.
-- record-narrow: a case of a record is the record with one item changed.
use mathlib.Core.Path.{◌≡◌, sym, ap, subst, fun_ext}
use mathlib.Core.Logic.{◌≢◌}
use Prim.Native.Nat.{ℕ, ◌<◌}
use native.Mathlib.Omega.{arith}
use native.Mathlib.Decide.{ℕ_discrete}
use lib.IntN.{ℤ, pos}
use lib.ListN.{length}
use lib.Seq.{get_or-set_same, get_or-set_other}
use Rattle.arith.proofs.Integers.{maxℤ}
use Rattle.arith.proofs.Sums.{pick_ind}
use Rattle.arith.specs.Sum.{pick}
use Rattle.arith.specs.declared.Fraction.{Fraction}
use Rattle.knapsack.proofs.Branch.{narrow}
use Rattle.knapsack.specs.Items.{with_item}
use Rattle.knapsack.specs.Meaning.{Instance, instance_of, Shown, AllLower}
use Rattle.knapsack.specs.Ranges.{item_at, blank}
use Rattle.std.specs.Prelude.{Option, None, Some}
use Rattle.knapsack.specs.declared.Item.{Item}
use Rattle.knapsack.specs.declared.Problem.{Problem}
use Rattle.foremost.proofs.Foremost.{priced}
use Rattle.cases.proofs.Splitting.{raise, without, having}

-- ---- lower bounds

pub lower-without : (s : Instance) (k : ℕ) → k < s.count → AllLower s → AllLower (without s k)
lower-without s k l f j m = pick_ind (λ b. b ≢ None) (ℕ_discrete j k) (s.item k).lower (s.item j).lower (λ e. f k l) (λ e. f j m)

pub lower-having : (s : Instance) (m : ℕ) → AllLower s → AllLower (having s m)
lower-having s m f j l = pick_ind (λ b. b ≢ None) (ℕ_discrete j m) (raise (s.item m).lower) (s.item j).lower (λ e h. raised (s.item m).lower h)
    (λ e. f j l)
  where
    at : (v : ℤ) → Some v ≡ None → ⊥
    at v h = let z : ◌≡◌ {A = ℕ} 0 1 = cc in omega arith

    raised : (b : Option ℤ) → raise b ≡ None → ⊥
    raised None h = at (pos 1) h
    raised (Some l) h = at (maxℤ l (pos 1)) h

-- ---- what is shown

pub shown-narrow : (s : Instance) (k : ℕ) (l u : Option ℤ) (x : ℕ → Fraction) → Shown (narrow s k l u) x → Shown s x
shown-narrow s k l u x h = record {
  small = h.small;
  divisor = h.divisor;
  single = h.single;
  beyond = h.beyond;
}

pub shown-priced : (s : Instance) (p : ℕ → ℤ) (x : ℕ → Fraction) → Shown (priced s p) x → Shown s x
shown-priced s p x h = record {
  small = h.small;
  divisor = h.divisor;
  single = h.single;
  beyond = h.beyond;
}

-- ---- records

abbrev pub bounded : Item → Option ℤ → Option ℤ → Item
bounded i l u = record { mark = i.mark; weight = i.weight; price = i.price; lower = l; upper = u }

pub record-narrow : (p : Problem) (k : ℕ) (l u : Option ℤ) → k < length p.items
    → instance_of (with_item p k (bounded (item_at p k) l u)) ≡ narrow (instance_of p) k l u
record-narrow p k l u h = ap (λ f. record { capacity = p.capacity; count = p.count; item = f }) (fun_ext (λ j. go j (ℕ_discrete j k)))
  where
    go : (j : ℕ) (d : Dec (j ≡ k)) → item_at (with_item p k (bounded (item_at p k) l u)) j ≡ bounded (item_at p j) (pick d l (item_at p j).lower)
        (pick d u (item_at p j).upper)
    go j (yes e) = subst (λ i. item_at (with_item p k (bounded (item_at p k) l u)) i ≡ bounded (item_at p i) l u) (sym e)
        (get_or-set_same p.items k (bounded (item_at p k) l u) blank h)
    go j (no e) = get_or-set_other p.items k j (bounded (item_at p k) l u) blank e
