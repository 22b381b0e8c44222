-- What stands at a place, as specs/Layout.antt writes it, is read there, and the reading goes on behind it.
-- byte_reads, byte-other, word-reads, number-reads, field-reads: a byte, another byte, a word, a number, a number and the byte that closes it.
-- ranged-within: a figure no farther from zero than the range's ends is in.
-- count-reads, item-reads, bound-reads, need-reads: the lines.
--   bare_of i        an item as its line gives it
use mathlib.Core.Path.{◌≡◌, refl, sym, ap, ◌∙◌}
use mathlib.Core.Bool.{Bool, true, false}
use mathlib.Core.List.{List, [], ◌∷◌, ◌++◌, append_assoc, append-nil}
use Prim.Native.Nat.{ℕ, zero, suc, ◌+◌, ◌≤◌, ◌<◌}
use native.Mathlib.Omega.{arith}
use native.Mathlib.Decide.{dec_lt}
use borrow.Author.Tests.{le-ltb, ltb-false, eq-eqb, ne_eqb}
use lib.IntN.{ℤ, pos, negsuc}
use lib.ListN.{length, drop, get_or, drop_of_length-le}
use lib.Seq.{drop-cons, drop-drop, drop-append_seam}
use Rattle.std.specs.Prelude.{Option, None, Some, Ok}
use Rattle.knapsack.specs.declared.Mark.{Mark}
use Rattle.knapsack.specs.declared.Mark.TheVariants.{Integer, Continuous}
use Rattle.model.specs.declared.ModelItem.{ModelItem}
use Rattle.model.specs.declared.Need.{Need}
use Rattle.model.specs.Records.{outside, bad_bound, is_reversed, bad_line}
use Rattle.model.proofs.NeedLines.{line-numbers}
use Rattle.text.specs.Decimal.{decimal, integer, Plain}
use Rattle.text.proofs.Decimals.{decimal-plain, decimal-read, decimal-lead, decimal-zero}
use Rattle.lines.specs.declared.number.Range.{Range}
use Rattle.lines.specs.Places.{byte_at, after_byte, after_word}
use Rattle.lines.specs.Numbers.{is_digit, digit_run, numeral, signed_of, unsigned_at, number_at, from_to, only, ranged, field_at}
use Rattle.lines.specs.Lines.{heading_line, numbers_line, figures_line, mark_at, weights, prices, item_line, count_at, item_read, bound_field, bound_read, need_read}
use Rattle.lines.specs.Layout.{heading_text, numbers_text, mark_byte, item_text, absent_word, bound_word, Bounding, bound_text, need_text}
use Rattle.lines.proofs.Numerals.{leading-yes, run-append}

-- what stands at a place, and what follows
standing : (s : List ℕ) (at b : ℕ) (l : List ℕ) → drop at s ≡ b ∷ l → (byte_at s at ≡ b) × (drop (suc at) s ≡ l)
standing s at b l h = go (dec_lt at (length s))
  where
    go : Dec (at < length s) → (byte_at s at ≡ b) × (drop (suc at) s ≡ l)
    go (yes k) = let e = sym (drop-cons s at 256 k) ∙ h in (cc, cc)
    go (no k) = let e : [] ≡ b ∷ l = sym (drop_of_length-le s {i = at} (omega arith)) ∙ h in absurd (let z : ◌≡◌ {A = ℕ} 0 1 = cc in omega arith)

pub byte_reads : (s : List ℕ) (at b : ℕ) (l : List ℕ) → drop at s ≡ b ∷ l → after_byte s at b ≡ Some (suc at)
byte_reads s at b l h = rw (eq-eqb (byte_at s at) b (standing s at b l h).0)

pub byte-other : (s : List ℕ) (at b c : ℕ) (l : List ℕ) → drop at s ≡ c ∷ l → (c ≡ b → ⊥) → after_byte s at b ≡ None
byte-other s at b c l h ne = rw ((standing s at c l h).0, ne_eqb c b ne)

pub word-reads : (s : List ℕ) (at : ℕ) (w l : List ℕ) → drop at s ≡ w ++ l → (n : ℕ) × (after_word s at w ≡ Some n) × (drop n s ≡ l)
unfolding after_word
word-reads s at [] l h = (at, refl, h)
word-reads s at (b ∷ w) l h =
    let r = word-reads s (suc at) w l (standing s at b (w ++ l) h).1 in
    (r.0, rw (byte_reads s at b (w ++ l) h) r.1, r.2)

-- ---- numbers

-- the first digit of a number above 0
decimal-starts : (n : ℕ) → 1 ≤ n → (b : ℕ) × (l : List ℕ) × (decimal n ≡ b ∷ l) × (49 ≤ b) × (b ≤ 57)
unfolding Plain
decimal-starts n h = go (decimal n) refl (decimal-lead n h) (decimal-plain n)
  where
    go : (ds : List ℕ) → decimal n ≡ ds → 48 < get_or ds 0 0 → Plain ds → (b : ℕ) × (l : List ℕ) × (decimal n ≡ b ∷ l) × (49 ≤ b) × (b ≤ 57)
    go [] e k p = absurd (omega arith)
    go (b ∷ l) e k p = (b, l, e, omega arith, omega (arith, p.0.1))

unsigned_reads : (negative : Bool) (s : List ℕ) (at n : ℕ) (l : List ℕ) → 1 ≤ n → drop at s ≡ decimal n ++ l → digit_run l ≡ [] →
    (unsigned_at negative s at ≡ numeral (signed_of negative n) (at + length (decimal n))) × (drop (at + length (decimal n)) s ≡ l)
unsigned_reads negative s at n l p h d =
    let f = decimal-starts n p in
    let e : drop at s ≡ f.0 ∷ (f.1 ++ l) = h ∙ ap (λ x. x ++ l) f.2 in
    let r : digit_run (decimal n ++ l) ≡ decimal n = run-append (decimal n) l (decimal-plain n) ∙ rw (d, append-nil) in (
      rw ((standing s at f.0 (f.1 ++ l) e).0, leading-yes f.0 f.3 f.4, h, r, decimal-read n),
      sym (drop-drop (length (decimal n)) at s) ∙ rw h (drop-append_seam (decimal n) l),
    )

pub number-reads : (s : List ℕ) (at : ℕ) (z : ℤ) (l : List ℕ) → drop at s ≡ integer z ++ l → digit_run l ≡ [] →
    (n : ℕ) × (number_at s at ≡ numeral z n) × (drop n s ≡ l)
number-reads s at (pos zero) l h d =
    let e : drop at s ≡ 48 ∷ l = h ∙ ap (λ x. x ++ l) decimal-zero in
    (suc at, rw (byte_reads s at 48 l e), (standing s at 48 l e).1)
number-reads s at (pos (suc k)) l h d =
    let f = decimal-starts (suc k) (omega arith) in
    let e : drop at s ≡ f.0 ∷ (f.1 ++ l) = h ∙ ap (λ x. x ++ l) f.2 in
    let nz : f.0 ≡ 48 → ⊥ = λ q. omega (arith, f.3) in
    let nm : f.0 ≡ 45 → ⊥ = λ q. omega (arith, f.3) in
    let r = unsigned_reads false s at (suc k) l (omega arith) h d in
    (at + length (decimal (suc k)), rw (byte-other s at 48 f.0 (f.1 ++ l) e nz, byte-other s at 45 f.0 (f.1 ++ l) e nm) r.0, r.1)
number-reads s at (negsuc k) l h d =
    let nz : ◌≡◌ {A = ℕ} 45 48 → ⊥ = λ q. omega arith in
    let r = unsigned_reads true s (suc at) (suc k) l (omega arith) (standing s at 45 (decimal (suc k) ++ l) h).1 d in
    (suc at + length (decimal (suc k)), rw (byte-other s at 48 45 (decimal (suc k) ++ l) h nz, byte_reads s at 45 (decimal (suc k) ++ l) h) r.0, r.1)

-- the byte is no digit
pub field-reads : (b : ℕ) (r : Range) (s : List ℕ) (at : ℕ) (z : ℤ) (l : List ℕ) → is_digit b ≡ false → ranged r z ≡ Some z →
    drop at s ≡ integer z ++ (b ∷ l) → (n : ℕ) × (field_at b r s at ≡ Ok (Some z, n)) × (drop n s ≡ l)
unfolding field_at digit_run
field-reads b r s at z l e f h =
    let q = number-reads s at z (b ∷ l) h (rw e refl) in
    (suc q.0, rw (q.1, byte_reads s q.0 b l q.2, f), (standing s q.0 b l q.2).1)

pub ranged-within : (n : ℕ) (z : ℤ) → outside (suc n) z ≡ false → ranged (record { lo = negsuc n; hi = pos (suc n) }) z ≡ Some z
ranged-within n (pos k) h = rw (h)
ranged-within n (negsuc k) h = let l = ltb-false (suc n) (suc k) h in rw (le-ltb n k (omega arith))

-- ---- lines

numbers-reads : (r q : Range) (s : List ℕ) (at : ℕ) (x y : ℤ) (l : List ℕ) → ranged r x ≡ Some x → ranged q y ≡ Some y → drop at s ≡ numbers_text x y ++ l →
    (n : ℕ) × (numbers_line r q s at ≡ Ok ((Some x, Some y), n)) × (drop n s ≡ l)
unfolding numbers_line
numbers-reads r q s at x y l f g h =
    let a = field-reads 32 r s at x (integer y ++ (10 ∷ l)) refl f (h ∙ simp append_assoc) in
    let b = field-reads 10 q s a.0 y l refl g a.2 in
    (b.0, rw (a.1, b.1), b.2)

pub count-reads : (w : List ℕ) (a b : ℕ) (s : List ℕ) (at m : ℕ) (l : List ℕ) → a ≤ m → m ≤ b → drop at s ≡ heading_text w m ++ l →
    (n : ℕ) × (count_at w (from_to a b) s at ≡ Ok (m, n)) × (drop n s ≡ l)
unfolding count_at heading_line
count-reads w a b s at m l f g h =
    let c = decimal m ++ (10 ∷ l) in
    let p = word-reads s at w (32 ∷ c) (h ∙ simp append_assoc) in
    let q = field-reads 10 (from_to a b) s (suc p.0) (pos m) l refl (rw (le-ltb m a f, le-ltb b m g)) (standing s p.0 32 c p.2).1 in
    (q.0, rw (p.1, byte_reads s p.0 32 c p.2, q.1), q.2)

abbrev pub bare_of : ModelItem → ModelItem
bare_of i = record { mark = i.mark; low = i.low; high = i.high; price = i.price; lower = None; upper = None }

mark-reads : (s : List ℕ) (at : ℕ) (m : Mark) (l : List ℕ) → drop at s ≡ mark_byte m ∷ 32 ∷ l →
    (mark_at s at ≡ Some (m, suc (suc at))) × (drop (suc (suc at)) s ≡ l)
unfolding mark_at after_word
mark-reads s at Integer l h =
    let e = (standing s at 87 (32 ∷ l) h).1 in
    (rw (byte_reads s at 87 (32 ∷ l) h, byte_reads s (suc at) 32 l e), (standing s (suc at) 32 l e).1)
mark-reads s at Continuous l h =
    let e = (standing s at 76 (32 ∷ l) h).1 in
    let ne : ◌≡◌ {A = ℕ} 76 87 → ⊥ = λ q. omega arith in
    (rw (byte-other s at 87 76 (32 ∷ l) h ne, byte_reads s at 76 (32 ∷ l) h, byte_reads s (suc at) 32 l e), (standing s (suc at) 32 l e).1)

pub item-reads : (s : List ℕ) (at : ℕ) (i : ModelItem) (l : List ℕ) →
    outside 1000 i.low ≡ false → outside 1000 i.high ≡ false → outside 10000 i.price ≡ false → is_reversed i ≡ false →
    drop at s ≡ item_text i ++ l → (n : ℕ) × (item_read s at ≡ Ok (bare_of i, n)) × (drop n s ≡ l)
unfolding item_read item_line figures_line
item-reads s at i l e f g r h =
    let t = numbers_text i.high i.price ++ l in
    let m = mark-reads s at i.mark (integer i.low ++ (32 ∷ t)) (h ∙ simp append_assoc) in
    let a = field-reads 32 weights s (suc (suc at)) i.low t refl (ranged-within 999 i.low e) m.1 in
    let b = ranged-within 999 i.high f in
    let c = ranged-within 9999 i.price g in
    let p = numbers-reads weights prices s a.0 i.high i.price l b c a.2 in
    (p.0, rw (m.0, a.1, p.1, r), p.2)

-- no number begins as `none` does
number-starts : (z : ℤ) → (b : ℕ) × (l : List ℕ) × (integer z ≡ b ∷ l) × (b ≤ 57)
number-starts (pos zero) = (48, [], decimal-zero, omega arith)
number-starts (pos (suc k)) = let f = decimal-starts (suc k) (omega arith) in (f.0, f.1, f.2, f.4)
number-starts (negsuc k) = (45, decimal (suc k), refl, omega arith)

bound-field-reads : (s : List ℕ) (at : ℕ) (b : Option ℤ) (l : List ℕ) → bad_bound b ≡ false → drop at s ≡ bound_word b ++ (10 ∷ l) →
    (n : ℕ) × (bound_field s at ≡ Ok (Some b, n)) × (drop n s ≡ l)
unfolding bound_field after_word
bound-field-reads s at None l f h =
    let w = word-reads s at absent_word (10 ∷ l) h in
    (suc w.0, rw (w.1, byte_reads s w.0 10 l w.2), (standing s w.0 10 l w.2).1)
bound-field-reads s at (Some v) l f h =
    let b = number-starts v in
    let e : drop at s ≡ b.0 ∷ (b.1 ++ (10 ∷ l)) = h ∙ ap (λ x. x ++ (10 ∷ l)) b.2 in
    let ne : b.0 ≡ 110 → ⊥ = λ q. omega (arith, b.3) in
    let r = field-reads 10 prices s at v l refl (ranged-within 9999 v f) h in
    (r.0, rw (byte-other s at 110 b.0 (b.1 ++ (10 ∷ l)) e ne, r.1), r.2)

pub bound-reads : (s : List ℕ) (at : ℕ) (b : Bounding) (l : List ℕ) → bad_bound b.bound ≡ false → drop at s ≡ bound_text b ++ l →
    (n : ℕ) × (bound_read b.number s at ≡ Ok (b.bound, n)) × (drop n s ≡ l)
unfolding bound_read
bound-reads s at b l f h =
    let k = b.number in
    let due : ranged (only k) (pos k) ≡ Some (pos k) = rw (le-ltb k k (omega arith)) in
    let p = field-reads 32 (only k) s at (pos k) (bound_word b.bound ++ (10 ∷ l)) refl due (h ∙ simp append_assoc) in
    let q = bound-field-reads s p.0 b.bound l f p.2 in
    (q.0, rw (p.1, q.1), q.2)

pub need-reads : (n : ℕ) (a b : Need) (s : List ℕ) (at : ℕ) (l : List ℕ) → bad_line n a b ≡ false → drop at s ≡ need_text b ++ l →
    (m : ℕ) × (need_read n a s at ≡ Ok (b, m)) × (drop m s ≡ l)
unfolding need_read
need-reads n a b s at l f h =
    let k = line-numbers n a b f in
    let x : ranged (from_to 1 n) (pos b.item) ≡ Some (pos b.item) = rw (le-ltb b.item 1 k.first-least, le-ltb n b.item k.first-most) in
    let y : ranged (from_to 1 n) (pos b.cover) ≡ Some (pos b.cover) = rw (le-ltb b.cover 1 k.second-least, le-ltb n b.cover k.second-most) in
    let p = numbers-reads (from_to 1 n) (from_to 1 n) s at (pos b.item) (pos b.cover) l x y h in
    (p.0, rw (p.1, f), p.2)
