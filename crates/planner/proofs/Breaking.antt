-- What the test of a need says of a point.
-- breaks-no: a feasible point of which it fails keeps the need; its cover is whole.  breaks-yes: a point of which it holds does not.
-- need-in: a line of needs is one of them.  every-kept: all needs are kept where it fails of each.
-- allowed-placed, needed-placed: needs that are allowed name places.
-- needed: what the solver is given of an accepted record.
use mathlib.Core.Path.{◌≡◌, refl, sym, subst}
use mathlib.Core.Bool.{Bool, true, false, cond, not}
use mathlib.Core.Logic.{◌⊎◌, inl, inr}
use Prim.Native.Nat.{ℕ, ◌≤◌, ◌<◌, max}
use native.Mathlib.Omega.{arith}
use native.Mathlib.Nat.{mul-le-mul_right}
use lib.IntN.{ℤ, pos, ◌*ℤ◌}
use lib.Signed.{◌≤ℤ◌, ◌<ℤ◌, lt_z}
use Rattle.arith.proofs.Integers.{split, split2, zed, ≤ℤ-or-<}
use Rattle.arith.proofs.Parts.{impossible}
use Rattle.arith.proofs.Words.{yes_lt, no_lt, lt_yes}
use Rattle.arith.specs.Fractions.{◌≤ᶠ◌, ◌<ᶠ◌}
use Rattle.knapsack.specs.Meaning.{Instance, instance_of, KeepsMark, Feasible, amount_at, point_of}
use Rattle.knapsack.specs.declared.Answer.{Answer}
use Rattle.knapsack.specs.declared.Mark.TheVariants.{Integer}
use Rattle.knapsack.specs.declared.Problem.{Problem}
use Rattle.model.proofs.NeedLines.{needs-in, needs-from}
use Rattle.model.specs.Records.{plain_of, need_at, placed, needs_of, Admissible}
use Rattle.model.specs.declared.Model.{Model}
use Rattle.model.specs.declared.Needs.{Needs}
use Rattle.model.specs.declared.Need.{Need}
use Rattle.model.specs.declared.Sense.{Sense}
use Rattle.model.specs.Needs.{In, Every, KeepsNeed, KeepsNeeds, Allowed}
use Rattle.planner.specs.Branching.{Placed, breaks, Needed}

-- ---- the tests

fails : (a b : Bool) → cond a (not b) false ≡ false → a ≡ true → b ≡ true
fails true true h k = refl
fails true false h k = absurd (impossible (sym h))
fails false b h k = absurd (impossible k)

holds : (a b : Bool) → cond a (not b) false ≡ true → (a ≡ true) × (b ≡ false)
holds true true h = absurd (impossible h)
holds true false h = (refl, refl)
holds false b h = absurd (impossible h)

-- ---- amounts

some_of : (d : ℕ) (p : ℤ) → (pos 0 *ℤ pos d) <ℤ (p *ℤ pos 1) → pos 0 <ℤ p
some_of d = split _ (λ a b. simp zed (omega arith))

of_some : (d : ℕ) (p : ℤ) → pos 0 <ℤ p → (pos 0 *ℤ pos d) <ℤ (p *ℤ pos 1)
of_some d = split _ (λ a b. simp zed (omega arith))

-- nothing is less than 1
nothing-less : (d : ℕ) → 1 ≤ d → (p : ℤ) → p ≤ℤ pos 0 → (pos 1 *ℤ pos d) ≤ℤ (p *ℤ pos 1) → ⊥
nothing-less d o = split _ (λ a b. simp zed (omega (arith, o)))

-- a whole amount above 0 is at least 1
whole-least : (d : ℕ) (p m : ℤ) → p ≡ m *ℤ pos d → pos 0 <ℤ p → (pos 1 *ℤ pos d) ≤ℤ (p *ℤ pos 1)
whole-least d p m e l = go (≤ℤ-or-< m (pos 0))
  where
    low : (p m : ℤ) → p ≡ m *ℤ pos d → pos 0 <ℤ p → m ≤ℤ pos 0 → ⊥
    low = split2 _ (λ a b c f. simp zed (λ e l k. omega (arith, mul-le-mul_right d k)))

    high : (p m : ℤ) → p ≡ m *ℤ pos d → pos 0 <ℤ m → (pos 1 *ℤ pos d) ≤ℤ (p *ℤ pos 1)
    high = split2 _ (λ a b c f. simp zed (λ e k. omega (arith, mul-le-mul_right d k)))

    go : (m ≤ℤ pos 0) ⊎ (pos 0 <ℤ m) → (pos 1 *ℤ pos d) ≤ℤ (p *ℤ pos 1)
    go (inl k) = absurd (low p m e l k)
    go (inr k) = high p m e k

-- ---- a need

module _ (s : Instance) (a : Answer) (n : Need) where
  pub breaks-no : Allowed s n → Feasible s (point_of a) → breaks a.point n ≡ false → KeepsNeed n (point_of a)
  unfolding ◌<ᶠ◌ ◌≤ᶠ◌
  breaks-no allowed f h l = whole-least (max 1 (amount_at a n.cover).q) (amount_at a n.cover).p whole.0 whole.1
      (yes_lt (fails (lt_z (pos 0) (amount_at a n.item).p) (lt_z (pos 0) (amount_at a n.cover).p) h
      (lt_yes (some_of (max 1 (amount_at a n.item).q) (amount_at a n.item).p l))))
    where
      whole : KeepsMark Integer (point_of a n.cover)
      whole = subst (λ m. KeepsMark m (point_of a n.cover)) allowed.cover.whole (f.keeps n.cover allowed.cover.inside).marked

  pub breaks-yes : breaks a.point n ≡ true → ¬ KeepsNeed n (point_of a)
  unfolding ◌<ᶠ◌ ◌≤ᶠ◌
  breaks-yes h k =
      let t = holds (lt_z (pos 0) (amount_at a n.item).p) (lt_z (pos 0) (amount_at a n.cover).p) h in
      nothing-less (max 1 (amount_at a n.cover).q) (omega arith) (amount_at a n.cover).p (no_lt t.1)
      (k (of_some (max 1 (amount_at a n.item).q) (amount_at a n.item).p (yes_lt t.0)))

-- ---- the needs of a record

module _ (ns : Needs) where
  pub need-in : (i : ℕ) → i < ns.count → In (placed (need_at ns i)) (needs_of ns)
  need-in = needs-in ns.count (need_at ns)

  pub every-kept : (s : Instance) (a : Answer) → Every (Allowed s) (needs_of ns) → Feasible s (point_of a)
      → ((i : ℕ) → i < ns.count → breaks a.point (placed (need_at ns i)) ≡ false) → KeepsNeeds (needs_of ns) (point_of a)
  every-kept s a allowed f h n i =
      let j = needs-from ns.count (need_at ns) n i in
      breaks-no s a n (allowed n i) f (subst (λ m. breaks a.point m ≡ false) (sym j.1.1) (h j.0 j.1.0))

  pub allowed-placed : (p : Problem) → p.count ≤ 16 → ns.count ≤ 16 → Every (Allowed (instance_of p)) (needs_of ns) → Placed ns
  allowed-placed p m few a = record {
    few = few;
    places = λ n i. (omega (arith, m, (a n i).item.inside), omega (arith, m, (a n i).cover.inside));
  }

  pub needed-placed : (p : Problem) → Needed p ns → Placed ns
  needed-placed p h = allowed-placed p h.figures.few-items h.few h.allowed

-- ---- a record

pub needed : (sense : Sense) (m : Model) → Admissible m → Needed (plain_of sense m) m.needs
needed sense m a = record {
  figures = a.figures sense;
  few = a.few-needs;
  allowed = λ n i.
      let j = needs-from m.needs.count (need_at m.needs) n i in
      subst (Allowed (instance_of (plain_of sense m))) (sym j.1.1) ((a.needs j.0 j.1.0).allowed sense);
}
