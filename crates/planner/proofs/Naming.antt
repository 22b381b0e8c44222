-- The items that needs name, as a list of 16 places.
-- named_none: where there are no needs.  named_more: with one line more.
use mathlib.Core.Path.{◌≡◌, refl, sym, ap, ◌∙◌}
use mathlib.Core.Bool.{Bool, true, false, cond}
use mathlib.Core.List.{List, ◌∷◌}
use Prim.Native.Nat.{ℕ, zero, suc, ◌+◌, ◌<◌}
use native.Mathlib.Decide.{ℕ_discrete}
use native.Mathlib.Numerals.{add-one}
use native.Mathlib.Omega.{arith}
use lib.Dec.{eqb}
use lib.ListN.{length, length-set, get_or, set, replicate}
use lib.Seq.{get_or-set_same, get_or-set_other}
use borrow.Author.Tests.{eq-eqb, ne_eqb}
use Rattle.model.specs.Needs.{names}
use Rattle.model.specs.Records.{placed, needs_up_to}
use Rattle.model.specs.declared.Need.{Need}
use Rattle.planner.specs.Branching.{NamedBy}

-- one place more
marked : (l : List Bool) (a k : ℕ) → a < length l → get_or (set l a true) k false ≡ cond (eqb a k) true (get_or l k false)
marked l a k h = go (ℕ_discrete k a)
  where
    go : Dec (k ≡ a) → get_or (set l a true) k false ≡ cond (eqb a k) true (get_or l k false)
    go (yes e) = rw (e, eq-eqb a a refl) (get_or-set_same l a true false h)
    go (no d) = rw (ne_eqb a k (λ e. d (omega (arith, e)))) (get_or-set_other l a k true false d)

pub named_none : (f : ℕ → Need) → NamedBy (needs_up_to 0 f) (replicate 16 false)
unfolding needs_up_to
named_none f = record { long = refl; each = λ k h. none 16 k }
  where
    none : (n k : ℕ) → get_or (replicate n false) k false ≡ false
    none zero k = refl
    none (suc n) zero = refl
    none (suc n) (suc k) = none n k

more : (f : ℕ → Need) (i : ℕ) (n : Need) → n ≡ placed (f i) → needs_up_to (i + 1) f ≡ n ∷ needs_up_to i f
unfolding needs_up_to
more f i n e = rw add-one (ap (λ (x : Need). x ∷ needs_up_to i f) (sym e))

pub named_more : (f : ℕ → Need) (i : ℕ) (l : List Bool) (n : Need) → n ≡ placed (f i) → (n.item < 16) × (n.cover < 16) → NamedBy (needs_up_to i f) l
    → NamedBy (needs_up_to (i + 1) f) (set (set l n.cover true) n.item true)
named_more f i l n e m h = record {
  long = simp length-set h.long;
  each = λ k o. marked (set l n.cover true) n.item k (simp length-set (omega (arith, h.long, m.0)))
      ∙ ap (λ (t : Bool). cond (eqb n.item k) true t) (marked l n.cover k (omega (arith, h.long, m.1)))
      ∙ ap (λ (t : Bool). cond (eqb n.item k) true (cond (eqb n.cover k) true t)) (h.each k o)
      ∙ ap (λ (ns : List Need). names ns k) (sym (more f i n e));
}
