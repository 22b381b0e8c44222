-- The printing of a record in range is shorter than a sheet may be: printing-short, by 1,451 bytes at most.
use mathlib.Core.Path.{◌≡◌, refl}
use mathlib.Core.Bool.{false}
use mathlib.Core.List.{List, [], ◌∷◌, ◌++◌}
use Prim.Native.Nat.{ℕ, zero, suc, ◌+◌, ◌*◌, ◌≤◌, ◌<◌}
use native.Mathlib.Omega.{arith}
use borrow.Author.Tests.{ltb-false}
use lib.IntN.{ℤ, nat_abs}
use lib.ListN.{length, length-append}
use Rattle.arith.specs.Sum.{Each}
use Rattle.std.specs.Prelude.{Option, None, Some}
use Rattle.model.specs.declared.Blanks.{Blanks}
use Rattle.model.specs.declared.Model.{Model}
use Rattle.model.specs.declared.ModelItem.{ModelItem}
use Rattle.model.specs.declared.Side.{Side}
use Rattle.model.specs.declared.Side.TheVariants.{Lower, Upper}
use Rattle.model.specs.declared.Need.{Need}
use Rattle.model.specs.Records.{item_at, need_at, outside, bad_bound, bad_figure, line_before}
use Rattle.model.proofs.NeedLines.{line-numbers}
use Rattle.model.proofs.Records.{Unfaulted}
use Rattle.text.specs.Decimal.{integer}
use Rattle.text.proofs.Decimals.{decimal-length, integer-length}
use Rattle.lines.specs.Layout.{heading_text, item_text, bound_word, Bounding, bound_text, need_text}
use Rattle.sheet.specs.Sections.{LineForm, lines_text, section_text}
use Rattle.sheet.specs.Reading.{limit, items, word_of, needs, limit_form, item_form, bound_form, need_form}
use Rattle.sheet.specs.Printing.{up_to, bound_at, bounding_at, side_text, needs_text, printing}
use Rattle.sheet.proofs.Forms.{fair-of, fair-side}
use Rattle.sheet.proofs.Making.{upto-length}

-- ---- lines

pub number_short : (n : ℕ) (z : ℤ) → n < 1000000000 → outside n z ≡ false → length (integer z) ≤ 10
number_short n z h e = integer-length 8 z (omega (arith, ltb-false n (nat_abs z) e))

heading-short : (w : List ℕ) (n : ℕ) → length w ≡ 5 → n ≤ 16 → length (heading_text w n) ≤ 16
heading-short w n e h = simp length-append (omega (arith, decimal-length 8 n (omega arith)))

pub item-short : (i : ModelItem) → bad_figure i ≡ false → length (item_text i) ≤ 35
item-short i h =
    let f = fair-of i h in
    let a = number_short 1000 i.low (omega arith) f.low in
    let b = number_short 1000 i.high (omega arith) f.high in
    let c = number_short 10000 i.price (omega arith) f.price in
    simp length-append (omega arith)

bound-word-short : (b : Option ℤ) → bad_bound b ≡ false → length (bound_word b) ≤ 10
bound-word-short None f = omega arith
bound-word-short (Some v) f = number_short 10000 v (omega arith) f

pub bound-short : (b : Bounding) → b.number ≤ 16 → bad_bound b.bound ≡ false → length (bound_text b) ≤ 22
bound-short b h f =
    let n = decimal-length 8 b.number (omega arith) in
    let v = bound-word-short b.bound f in
    simp length-append (omega arith)

pub need-short : (b : Need) → b.item ≤ 16 → b.cover ≤ 16 → length (need_text b) ≤ 6
need-short b h l =
    let k = decimal-length 1 b.item (omega arith) in
    let c = decimal-length 1 b.cover (omega arith) in
    simp length-append (omega arith)

-- ---- sections

-- no line of the list is longer than c
abbrev Short : {A : Type 0} → (A → List ℕ) → ℕ → List A → Type 0
Short t c [] = Unit {0}
Short t c (a ∷ vs) = (length (t a) ≤ c) × Short t c vs

lines-short : {A : Type 0} (t : A → List ℕ) (c : ℕ) (vs : List A) → Short t c vs → length (lines_text t vs) ≤ c * length vs
unfolding lines_text
lines-short t c [] h = omega arith
lines-short t c (a ∷ vs) h = simp length-append (omega (arith, lines-short t c vs h.1, h.0))

section-short : {A : Type 0} (f : LineForm A) (w : List ℕ) (c : ℕ) (vs : List A) → length w ≡ 5 → length vs ≤ 16 → Short f.text c vs →
    length (section_text f w vs) ≤ 16 + c * length vs
section-short f w c vs e n h =
    omega (arith, length-append (heading_text w (length vs)) (lines_text f.text vs), heading-short w (length vs) e n, lines-short f.text c vs h)

items-short : (n : ℕ) (f : ℕ → ModelItem) → Each n (λ k. bad_figure (f k) ≡ false) → Short item_text 35 (up_to n f)
unfolding up_to
items-short zero f h = tt
items-short (suc n) f h = (item-short (f n) (h n (omega arith)), items-short n f (λ k l. h k (omega arith)))

bounds-short : (side : Side) (n : ℕ) (m : Model) → n ≤ 16 → Each n (λ k. bad_bound (bound_at side m k) ≡ false) →
    Short bound_text 22 (up_to n (bounding_at side m))
unfolding up_to
bounds-short side zero m l h = tt
bounds-short side (suc n) m l h =
    (bound-short (bounding_at side m n) l (h n (omega arith)), bounds-short side n m (omega arith) (λ k l. h k (omega arith)))

side-short : (side : Side) {kind : Blanks} (m : Model) → Unfaulted kind m → length (side_text side m) ≤ 368
side-short side m r =
    let many = upto-length m.count (bounding_at side m) in
    let short = bounds-short side m.count m r.most (λ k l. fair-side side (item_at m k) (r.figures k l)) in
    let s = section-short (bound_form side) (word_of side) 22 (up_to m.count (bounding_at side m)) (five side) (omega (arith, r.most)) short in
    omega (arith, r.most)
  where
    five : (side : Side) → length (word_of side) ≡ 5
    five Lower = refl
    five Upper = refl

needs-short : (n : ℕ) (f : ℕ → Need) → Each n (λ j. ((f j).item ≤ 16) × ((f j).cover ≤ 16)) → Short need_text 6 (up_to n f)
unfolding up_to
needs-short zero f h = tt
needs-short (suc n) f h = let l = h n (omega arith) in (need-short (f n) l.0 l.1, needs-short n f (λ k l. h k (omega arith)))

-- both numbers of a record's line are at most 16
pub numbers-few : {kind : Blanks} (m : Model) → Unfaulted kind m
    → Each m.needs.count (λ j. ((need_at m.needs j).item ≤ 16) × ((need_at m.needs j).cover ≤ 16))
numbers-few m r j l =
    let n = line-numbers m.count (line_before m.needs j) (need_at m.needs j) (r.needs j l).0 in
    (omega (arith, n.first-most, r.most), omega (arith, n.second-most, r.most))

need-section-short : {kind : Blanks} (m : Model) → Unfaulted kind m → length (needs_text m) ≤ 112
need-section-short m r =
    let many = upto-length m.needs.count (need_at m.needs) in
    let short = needs-short m.needs.count (need_at m.needs) (numbers-few m r) in
    let s = section-short need_form needs 6 (up_to m.needs.count (need_at m.needs)) refl (omega (arith, r.few-needs)) short in
    omega (arith, r.few-needs)

pub printing-short : {kind : Blanks} (m : Model) → Unfaulted kind m → length (printing m) ≤ 1451
unfolding printing
printing-short m r =
    let b = number_short 100000000 m.capacity (omega arith) r.capacity in
    let one : length (integer m.capacity ++ (10 ∷ [])) ≤ 11 = simp length-append (omega arith) in
    let l = section-short limit_form limit 11 (m.capacity ∷ []) refl (omega arith) (one, tt) in
    let few = upto-length m.count (item_at m) in
    let short = items-short m.count (item_at m) r.figures in
    let i = section-short item_form items 35 (up_to m.count (item_at m)) refl (omega (arith, r.most)) short in
    let x = simp length-append at (side-short Lower m r) in
    let y = simp length-append at (side-short Upper m r) in
    let z = simp length-append at (need-section-short m r) in
    simp length-append (omega (arith, simp length-append at l, simp length-append at i, r.most))
