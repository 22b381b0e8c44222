-- Laws of the search for the first item whose amount breaks its mark or a bound, and for the first broken need.
--   Found n p c m    what the number m found says of the first n items;  found: it is true of first_broken
--   Lacking n ns c m    what it says of the first n lines of needs;  lacking: it is true of first_lacking
-- none_yet, stays: a number that is not 0 stays. kept-iff: a need whose item does not lack its cover is kept in the meaning's sense.
-- keeps-upper: an amount that is not past an upper bound keeps it.
-- keeps-iff: an amount that breaks nothing keeps its item's mark and bounds in the meaning's sense.
use mathlib.Core.Path.{◌≡◌, refl, sym, ◌∙◌}
use mathlib.Core.Bool.{Bool, true, false, cond}
use mathlib.Core.Logic.{◌↔◌, ⊎_elim}
use Prim.Native.Nat.{ℕ, zero, suc, ◌-◌, ◌≤◌, ◌<◌}
use native.Mathlib.Omega.{arith}
use lib.IntN.{ℤ, pos, ◌*ℤ◌}
use Rattle.arith.specs.Fractions.{Frac, int, frac, ◌≤ᶠ◌, ◌<ᶠ◌}
use Rattle.arith.specs.Sum.{Each}
use Rattle.arith.specs.declared.Fraction.{Fraction}
use Rattle.arith.proofs.Fractions.{over-int, over-frac, over-≤, <ᶠ-not-≤}
use Rattle.arith.proofs.Integers.{split, zed, ≤ℤ-or-<}
use Rattle.arith.proofs.Parts.{impossible}
use Rattle.arith.proofs.Words.{no_lt, le-no}
use Rattle.std.specs.Prelude.{Option, None, Some}
use Rattle.knapsack.specs.declared.Item.{Item}
use Rattle.knapsack.specs.declared.Mark.{Mark}
use Rattle.knapsack.specs.declared.Mark.TheVariants.{Integer, Continuous}
use Rattle.knapsack.specs.declared.Problem.{Problem}
use Rattle.knapsack.specs.Ranges.{item_at}
use Rattle.knapsack.specs.Meaning.{divisor_by, KeepsMark, KeepsLower, KeepsUpper, Keeps}
use Rattle.feasibility.specs.declared.Candidate.{Candidate}
use Rattle.model.specs.declared.Needs.{Needs}
use Rattle.model.specs.declared.Side.TheVariants.{Lower, Upper}
use Rattle.model.specs.Records.{need_at}
use Rattle.feasibility.specs.Amounts.{proposed_at, OwnAmount, GoodAmount}
use Rattle.feasibility.specs.Check.{breaks_bound, breaks, earlier_of, numbered, first_broken, lacks, uncovered_at, first_lacking}
use Rattle.model.proofs.Tests.{neither}
use Rattle.feasibility.proofs.Divisor.{one_more}

-- ---- what is found

pub none_yet : (m n : ℕ) → m ≡ 0 → earlier_of m n ≡ n
none_yet zero n e = refl
none_yet (suc m) n e = absurd (omega arith)

pub stays : (m n : ℕ) → (m ≡ 0 → ⊥) → earlier_of m n ≡ m
stays zero n h = absurd (h refl)
stays (suc m) n h = refl

pub data Found (n : ℕ) (p : Problem) (c : Candidate) : ℕ → Type 0 where
  none : Each n (λ k. breaks (item_at p k) (proposed_at c k) ≡ false) → Found n p c 0
  first : (k : ℕ) → k < n → breaks (item_at p k) (proposed_at c k) ≡ true → Each k (λ j. breaks (item_at p j) (proposed_at c j) ≡ false) → Found n p c (suc k)

pub found : (n : ℕ) (p : Problem) (c : Candidate) → Found n p c (first_broken n p c)
unfolding first_broken
found zero p c = none (λ k l. absurd (omega arith))
found (suc n) p c = go (first_broken n p c) (found n p c)
  where
    last : Each n (λ k. breaks (item_at p k) (proposed_at c k) ≡ false) → (b : Bool) → breaks (item_at p n) (proposed_at c n) ≡ b →
        Found (suc n) p c (cond b (suc n) 0)
    last h true e = first n (omega arith) e h
    last h false e = none (one_more n h e)

    go : (m : ℕ) → Found n p c m → Found (suc n) p c (earlier_of m (numbered n (item_at p n) (proposed_at c n)))
    go m (none h) = last h _ refl
    go m (first k l e h) = first k (omega arith) e h

-- whether the item of line j lacks its cover
abbrev pub lack_at : Needs → Candidate → ℕ → Bool
lack_at ns c j = lacks (proposed_at c ((need_at ns j).item - 1)) (proposed_at c ((need_at ns j).cover - 1))

-- the number of an item is not 0, so it tells that a line is broken
pub data Lacking (n : ℕ) (ns : Needs) (c : Candidate) : ℕ → Type 0 where
  all : Each n (λ j. lack_at ns c j ≡ false) → Lacking n ns c 0
  broken : (j : ℕ) → j < n → lack_at ns c j ≡ true → Each j (λ i. lack_at ns c i ≡ false) → Lacking n ns c (need_at ns j).item

pub lacking : (n : ℕ) (ns : Needs) (c : Candidate) → Each n (λ j. 1 ≤ (need_at ns j).item) → Lacking n ns c (first_lacking n ns c)
unfolding first_lacking
lacking zero ns c some = all (λ k l. absurd (omega arith))
lacking (suc n) ns c some = go (first_lacking n ns c) (lacking n ns c (λ j l. some j (omega arith)))
  where
    last : Each n (λ j. lack_at ns c j ≡ false) → (b : Bool) → lack_at ns c n ≡ b → Lacking (suc n) ns c (cond b (need_at ns n).item 0)
    last h true e = broken n (omega arith) e h
    last h false e = all (one_more n h e)

    go : (m : ℕ) → Lacking n ns c m → Lacking (suc n) ns c (earlier_of m (uncovered_at ns c n))
    go m (all h) = last h _ refl
    go m (broken j l e h) =
        rw (stays (need_at ns j).item (uncovered_at ns c n) (λ z. omega (arith, some j (omega arith)))) (broken j (omega arith) e h)

-- ---- an amount that breaks nothing keeps its item

-- over its own divisor
keeps-mark : (i : Item) (x : Fraction) → OwnAmount i x → KeepsMark i.mark (frac x.p x.q)
keeps-mark i x g = go i.mark g.own
  where
    once : (z : ℤ) → z ≡ z *ℤ pos 1
    once = split _ (λ a b. simp zed (omega arith))

    go : (m : Mark) → x.q ≡ divisor_by m i.weight → KeepsMark m (frac x.p x.q)
    go Integer e = (x.p, rw e (once x.p))
    go Continuous e = tt

keeps-lower : (b : Option ℤ) (x : Fraction) → GoodAmount x → (breaks_bound Lower b x.p x.q ≡ false) ↔ KeepsLower b (frac x.p x.q)
keeps-lower None x g = (λ h. tt, λ h. refl)
keeps-lower (Some l) x g = let o = over-≤ g.some (over-int x.q l) (over-frac x.p x.q g.some) in (λ h. o.1 (no_lt h), λ h. le-no (o.0 h))

pub keeps-upper : (b : Option ℤ) (x : Fraction) → GoodAmount x → (breaks_bound Upper b x.p x.q ≡ false) ↔ KeepsUpper b (frac x.p x.q)
keeps-upper None x g = (λ h. tt, λ h. refl)
keeps-upper (Some u) x g = let o = over-≤ g.some (over-frac x.p x.q g.some) (over-int x.q u) in (λ h. o.1 (no_lt h), λ h. le-no (o.0 h))

pub keeps-iff : (i : Item) (x : Fraction) → OwnAmount i x → GoodAmount x → (breaks i x ≡ false) ↔ Keeps i (frac x.p x.q)
unfolding breaks
keeps-iff i x o g = (
  λ h.
      let b = neither (breaks_bound Lower i.lower x.p x.q) _ h in
      record { marked = keeps-mark i x o; above = (keeps-lower i.lower x g).0 b.0; below = (keeps-upper i.upper x g).0 b.1 },
  λ k. rw ((keeps-lower i.lower x g).1 k.above) ((keeps-upper i.upper x g).1 k.below),
)

-- ---- a need whose item does not lack its cover is kept

not-≤-above : (x y : Frac) → (y ≤ᶠ x → ⊥) → x <ᶠ y
unfolding ◌<ᶠ◌ ◌≤ᶠ◌
not-≤-above x y h = ⊎_elim (λ l. absurd (h l)) (λ l. l) (≤ℤ-or-< (y.num *ℤ pos x.den) (x.num *ℤ pos y.den))

pub kept-iff : (x y : Fraction) → GoodAmount x → GoodAmount y →
    (lacks x y ≡ false) ↔ (int (pos 0) <ᶠ frac x.p x.q → int (pos 1) ≤ᶠ frac y.p y.q)
kept-iff x y g h = (go _ refl, back _ refl)
  where
    some : Bool
    some = breaks_bound Upper (Some (pos 0)) x.p x.q

    go : (b : Bool) → some ≡ b → cond b (breaks_bound Lower (Some (pos 1)) y.p y.q) false ≡ false →
        int (pos 0) <ᶠ frac x.p x.q → int (pos 1) ≤ᶠ frac y.p y.q
    go true e f l = (keeps-lower (Some (pos 1)) y h).0 f
    go false e f l = absurd (<ᶠ-not-≤ _ _ l ((keeps-upper (Some (pos 0)) x g).0 e))

    back : (b : Bool) → some ≡ b → (int (pos 0) <ᶠ frac x.p x.q → int (pos 1) ≤ᶠ frac y.p y.q) →
        cond b (breaks_bound Lower (Some (pos 1)) y.p y.q) false ≡ false
    back true e f = (keeps-lower (Some (pos 1)) y h).1 (f (not-≤-above _ _ (λ l. impossible (sym ((keeps-upper (Some (pos 0)) x g).1 l) ∙ e))))
    back false e f = refl
