-- The bound of a box from its least loss, and what is known from a value.
-- part_none, known-none, part-made, known-made: the loss of a value. bounded-made: the bound.
-- levels-marked, levels-unmarked: the whole items are the integer ones.
use Rattle.std.specs.Prelude.{None, Some}
use mathlib.Core.Path.{◌≡◌, refl, sym, ap, ◌∙◌, subst, subst₂}
use mathlib.Core.Bool.{Bool, true, false}
use mathlib.Core.List.{List}
use mathlib.Core.Logic.{◌⊎◌, inl, inr}
use Prim.Native.Nat.{ℕ, ◌+◌, ◌*◌, ◌-◌, ◌≤◌, ◌<◌}
use native.Mathlib.Omega.{arith}
use native.Mathlib.Nat.{mul-le-mul_right}
use lib.IntN.{ℤ, pos, ◌+ℤ◌, ◌-ℤ◌, ◌*ℤ◌}
use lib.Signed.{◌≤ℤ◌}
use Rattle.arith.specs.Within.{Within}
use Rattle.arith.specs.declared.Mixed.{Mixed}
use Rattle.arith.proofs.Integers.{split, split2, zed, ≤ℤ-trans, ≤ℤ-reflexive, times-≤-back}
use Rattle.arith.proofs.Mixes.{over}
use Rattle.arith.proofs.Parts.{impossible}
use Rattle.knapsack.specs.declared.Mark.{Mark}
use Rattle.knapsack.specs.declared.Mark.TheVariants.{Integer}
use Rattle.knapsack.specs.Meaning.{Instance}
use Rattle.knapsack.proofs.Common.{valueᴰ}
use Rattle.knapsack.proofs.Branch.{AtMost}
use Rattle.greedy.specs.declared.Columns.{Columns}
use Rattle.greedy.specs.declared.Ends.{Ends}
use Rattle.greedy.specs.Fill.{place}
use Rattle.greedy.proofs.Relaxed.{box_of}
use Rattle.ceiling.specs.declared.Known.{Known}
use Rattle.ceiling.specs.declared.Least.{Least}
use Rattle.ceiling.specs.declared.Shown.{Shown}
use Rattle.ceiling.specs.declared.Lost.{Lost}
use Rattle.ceiling.specs.Loss.{top_of}
use Rattle.ceiling.specs.Frames.{whole_at, Marked, Unmarked, Counted, Levelled}
use Rattle.ceiling.specs.Least.{Found, LeastLoss}
use Rattle.ceiling.specs.Bound.{Priced, PartLoss, KnownLoss, KnownBy, BestFrame, Bounded}
use Rattle.ceiling.proofs.Covering.{at_most}
use Rattle.ceiling.proofs.Shallow.{Shallow, too-deep}

-- ---- what is known

off : {A : Type 0} {b : Bool} → b ≡ false → b ≡ true → A
off f h = absurd (impossible (sym f ∙ h))

abbrev Deep : Known → Type 0
Deep k = (k.exact ≡ false) × (Counted k.lost.num k.lost.den × ((k.lost.num ≡ 10000000) × (k.lost.den ≡ 1)))

pub part_none : {n q part parts : ℕ} {k : Known} → Deep k → PartLoss n q part parts k
part_none h = record { counted = h.1.0; parts_are = λ i. off h.0 i; num-is = λ i. off h.0 i; deep = λ i. h.1.1 }

pub known-none : {top : ℤ} {q : ℕ} {w : ℤ} {part parts : ℕ} {k : Known} → Deep k → KnownLoss top q w part parts k
known-none h = record { counted = h.1.0; parts_are = λ i. off h.0 i; num-is = λ i. off h.0 i; deep = λ i. h.1.1 }

pub part-made : (n q part parts : ℕ) → n ≤ 10000000 → part < parts → parts ≤ 1000 → q * part ≤ n * parts →
    PartLoss n q part parts (record { lost = record { num = n * parts - q * part; den = parts }; exact = true })
part-made n q part parts h k l m = record {
  counted = record { few = l; some = omega arith; small = omega (arith, mul-le-mul_right parts h) };
  parts_are = λ i. refl;
  num-is = λ i. omega arith;
  deep = λ i. absurd (impossible (sym i));
}

pub known-made : (top : ℤ) (q : ℕ) (w : ℤ) (part parts m : ℕ) (k : Known) → pos m ≡ top -ℤ pos q *ℤ w → PartLoss m q part parts k →
    KnownLoss top q w part parts k
known-made top q w part parts m k e h = record {
  counted = h.counted;
  parts_are = h.parts_are;
  num-is = λ i. go top w k.lost.num e (h.num-is i);
  deep = h.deep;
}
  where
    go : (top w : ℤ) (n : ℕ) → pos m ≡ top -ℤ pos q *ℤ w → n + q * part ≡ m * parts → pos n ≡ top *ℤ pos parts -ℤ pos q *ℤ (w *ℤ pos parts +ℤ pos part)
    go top w n i j = close (top -ℤ pos q *ℤ w) n (sym i) j ∙ ring top w
      where
        ring : (top w : ℤ) → (top -ℤ pos q *ℤ w) *ℤ pos parts -ℤ pos (q * part) ≡ top *ℤ pos parts -ℤ pos q *ℤ (w *ℤ pos parts +ℤ pos part)
        ring = split2 _ (λ a b c e. simp zed (omega arith))

        close : (x : ℤ) (n : ℕ) → x ≡ pos m → n + q * part ≡ m * parts → pos n ≡ x *ℤ pos parts -ℤ pos (q * part)
        close x n i j = rw i (fin n j)
          where
            fin : (n : ℕ) → n + q * part ≡ m * parts → pos n ≡ pos m *ℤ pos parts -ℤ pos (q * part)
            fin n j = simp zed (omega arith)

-- ---- the bound

-- the value that was known
same-value : (s : Instance) (top : ℤ) (q n d : ℕ) (v : Mixed) → 1 ≤ q → d ≡ v.parts → pos n ≡ top *ℤ pos v.parts -ℤ pos q *ℤ over v →
    AtMost s (top *ℤ pos d -ℤ pos n) (q * d) → AtMost s (over v) v.parts
same-value s top q n d v h e i m D N d≥1 f = times-≤-back q _ _ h
    (≤ℤ-trans (≤ℤ-reflexive (left (valueᴰ s N) v.parts)) (≤ℤ-trans
    (subst₂ (λ x y. (valueᴰ s N *ℤ pos (q * x)) ≤ℤ ((top *ℤ pos x -ℤ y) *ℤ pos D)) e i (m D N d≥1 f)) (≤ℤ-reflexive (right (top *ℤ pos v.parts) (over v)))))
  where
    left : (x : ℤ) (p : ℕ) → (x *ℤ pos p) *ℤ pos q ≡ x *ℤ pos (q * p)
    left = split _ (λ a b p. simp zed (omega arith))

    right : (t o : ℤ) → (t -ℤ (t -ℤ pos q *ℤ o)) *ℤ pos D ≡ (o *ℤ pos D) *ℤ pos q
    right = split2 _ (λ a b c e. simp zed (omega arith))

unshown : {x : Shown} → None ≡ Some x → ⊥
unshown e = let z : ◌≡◌ {A = ℕ} 0 1 = cc in omega arith

own : {x y : Shown} → Some x ≡ Some y → x ≡ y
own e = cc

-- the exact loss of a value, or the deepest one, which is not the least
pub bounded-made : (p q : ℕ) (c : Columns) (e : Ends) (w : List Bool) (known : Bool) (v : Mixed) (k : Known) (top : ℤ) (r : Least) →
    Priced c e (record { p = p; q = q }) → top ≡ top_of p q c e → Within 100000000000000000 top
    → KnownBy top q known v.whole v.part v.parts k → LeastLoss p q c e w k.lost r → Shallow p q c e
    → Bounded c e w known v (record { top = top; p = p; q = q; lost = r.lost; shown = r.shown; written = r.written })
bounded-made p q c e w known v k top r price t top_in h l low = record {
  few = l.few;
  writes = record { priced = price; from = k; known_by = h; frames = l.writes };
  p-in = price.p-in;
  q-in = price.q-in;
  q≥1 = price.q≥1;
  top-is = t;
  top_in = top_in;
  most = most;
  kept = λ i. kept i l.exact;
  found = λ x i. found x i l.exact;
}
  where
    most : (marks : ℕ → Mark) → Marked c w marks → AtMost (box_of c e marks) (top *ℤ pos r.lost.den -ℤ pos r.lost.num) (q * r.lost.den)
    most marks m = subst (λ x. AtMost (box_of c e marks) (x *ℤ pos r.lost.den -ℤ pos r.lost.num) (q * r.lost.den)) (sym t)
        (at_most p q c e w r.lost.num r.lost.den l.ceiling marks m)

    kept : r.shown ≡ None → ((r.shown ≡ None) × (r.lost ≡ k.lost)) ⊎ Found p q c e w r →
        (known ≡ true) × ((marks : ℕ → Mark) → Marked c w marks → AtMost (box_of c e marks) (over v) v.parts)
    kept i (inr f) = absurd (unshown (sym i ∙ f.frame.shown-is))
    kept i (inl (j, same)) = go k.exact refl
      where
        num-is : r.lost.num ≡ k.lost.num
        num-is = ap (λ (x : Lost). x.num) same

        den-is : r.lost.den ≡ k.lost.den
        den-is = ap (λ (x : Lost). x.den) same

        go : (x : Bool) → k.exact ≡ x → (known ≡ true) × ((marks : ℕ → Mark) → Marked c w marks → AtMost (box_of c e marks) (over v) v.parts)
        go true y = (
          h.told y,
          λ marks m. same-value (box_of c e marks) top q r.lost.num r.lost.den v price.q≥1 (den-is ∙ h.loss.parts_are y)
              (ap pos num-is ∙ h.loss.num-is y) (most marks m),
        )
        go false y = absurd (too-deep p q c e w low r.lost.num r.lost.den (num-is ∙ (h.loss.deep y).0) (den-is ∙ (h.loss.deep y).1) l.ceiling)

    found : (x : Shown) → r.shown ≡ Some x → ((r.shown ≡ None) × (r.lost ≡ k.lost)) ⊎ Found p q c e w r →
        BestFrame c e w (record { top = top; p = p; q = q; lost = r.lost; shown = r.shown; written = r.written }) x
    found x i (inl (j, same)) = absurd (unshown (sym j ∙ i))
    found x i (inr f) = subst (BestFrame c e w _) (own (sym f.frame.shown-is ∙ i)) (record {
      at_in = f.at_in;
      usable = f.usable;
      den-is = f.frame.den-is;
      deep = f.frame.deep;
      floor = f.frame.floor;
      first = f.frame.first;
    })

-- ---- levels

-- where the levels hold integer items, the whole ones are marked
pub levels-marked : (c : Columns) (levels : List ℕ) (n : ℕ) (w : List Bool) (marks : ℕ → Mark) → Levelled levels n w →
    ((d : ℕ) → d < n → marks (place levels d) ≡ Integer) → Marked c w marks
levels-marked c levels n w marks h m k l i = let d = h.level k i in sym (ap marks d.2) ∙ m d.0 d.1

-- and where they hold all of them, only the whole ones are
pub levels-unmarked : (c : Columns) (levels : List ℕ) (n : ℕ) (w : List Bool) (marks : ℕ → Mark) → Levelled levels n w →
    ((k : ℕ) → k < c.count → marks k ≡ Integer → (d : ℕ) × (d < n) × (place levels d ≡ k)) → Unmarked c w marks
levels-unmarked c levels n w marks h m k l i = let d = m k l i in subst (λ j. whole_at w j ≡ true) d.2 (h.marked d.0 d.1)
