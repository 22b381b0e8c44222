-- What was read stands there, as specs/Layout.antt writes it.
--   Has s a w b     the text s has w at the place a, and goes on at the place b
--   Bytes w         every number of w is a byte
-- has_join, has-none: texts that stand one behind the other.
-- byte-has, word-has, number-has, field-has: a byte, a word, a number, a number that a byte closes.
-- numbers-has, count-has, item-has, bound-has, need-has: the lines.
use mathlib.Core.Path.{◌≡◌, refl, sym, ap, ap₂, ◌∙◌}
use mathlib.Core.Bool.{Bool, true, false, cond}
use mathlib.Core.List.{List, [], ◌∷◌, ◌++◌, append_assoc}
use Prim.Native.Nat.{ℕ, zero, suc, ◌+◌, ◌≤◌, ◌<◌}
use native.Mathlib.Omega.{arith}
use native.Mathlib.Decide.{dec_lt}
use borrow.Author.Tests.{eqb-true}
use lib.Dec.{eqb, lit<}
use lib.IntN.{ℤ, pos, neg_ℤ}
use lib.ListN.{length, drop, get_or-eq_default}
use lib.Seq.{drop-cons, drop-drop}
use Rattle.std.specs.Prelude.{Option, None, Some, Ok}
use Rattle.knapsack.specs.declared.Mark.{Mark}
use Rattle.knapsack.specs.declared.Mark.TheVariants.{Integer, Continuous}
use Rattle.text.specs.Decimal.{decimal, integer, read_after}
use Rattle.text.specs.Layout.{field}
use Rattle.text.proofs.Decimals.{decimal-only, decimal-zero}
use Rattle.lines.specs.declared.number.Range.{Range}
use Rattle.model.specs.declared.ModelItem.{ModelItem}
use Rattle.model.specs.declared.Need.{Need}
use Rattle.lines.specs.Places.{byte_at, after_byte, on_place, after_word}
use Rattle.lines.specs.Numbers.{is_leading, digit_run, none, numeral, signed_of, unsigned_at, number_at, from_to, only, field_at}
use Rattle.lines.specs.Lines.{numbers_line, mark_at, weights, prices, count_at, item_read, bound_field, bound_read, need_read}
use Rattle.lines.specs.Layout.{heading_text, numbers_text, mark_byte, item_text, absent_word, bound_word, bounding, bound_text, need_text}
use Rattle.lines.proofs.Places.{found-same, nowhere}
use Rattle.lines.proofs.Numerals.{run-plain, run-splits, run-leads, ranged-in}
use Rattle.lines.proofs.Shapes.{field-parts, numbers-parts, heading-parts, item-parts, count-parts, bound-shape, bound-parts, need-parts}

pub record Has (s : List ℕ) (a : ℕ) (w : List ℕ) (b : ℕ) : Type 0 where
  pub has : drop a s ≡ w ++ drop b s

pub has_join : {s u v : List ℕ} {a b c : ℕ} → Has s a u b → Has s b v c → Has s a (u ++ v) c
has_join {s} {u} {v} {a} {b} {c} h k = record { has = h.has ∙ ap (λ l. u ++ l) k.has ∙ sym (append_assoc u v (drop c s)) }

pub has-none : {s : List ℕ} {a : ℕ} → Has s a [] a
has-none = record { has = refl }

-- ---- bytes and words

abbrev pub Bytes : List ℕ → Type 0
Bytes [] = Unit {0}
Bytes (b ∷ w) = (b < 256) × Bytes w

byte-there : (s : List ℕ) (at b : ℕ) → b < 256 → byte_at s at ≡ b → at < length s
byte-there s at b h e = go (dec_lt at (length s))
  where
    go : Dec (at < length s) → at < length s
    go (yes l) = l
    go (no l) = absurd (omega (arith, sym e ∙ get_or-eq_default s 256 {n = at} (omega arith)))

pub byte-has : (s : List ℕ) (at b n : ℕ) → b < 256 → after_byte s at b ≡ Some n → Has s at (b ∷ []) n
byte-has s at b n h e = go (eqb (byte_at s at) b) refl e
  where
    go : (t : Bool) → eqb (byte_at s at) b ≡ t → cond t (Some (suc at)) None ≡ Some n → Has s at (b ∷ []) n
    go true f g =
        let q = eqb-true (byte_at s at) b f in
        let u : suc at ≡ n = cc in
        record { has = drop-cons s at 256 (byte-there s at b h q) ∙ rw (q, u) }
    go false f g = nowhere g

pub word-has : (s : List ℕ) (at : ℕ) (w : List ℕ) (n : ℕ) → Bytes w → after_word s at w ≡ Some n → Has s at w n
unfolding after_word
word-has s at [] n h e = let u : at ≡ n = cc in rw u has-none
word-has s at (b ∷ w) n h e = go (after_byte s at b) refl e (λ m. word-has s m w n h.1)
  where
    go : (p : Option ℕ) → after_byte s at b ≡ p → on_place p None (λ m. after_word s m w) ≡ Some n → ((m : ℕ) → after_word s m w ≡ Some n → Has s m w n) →
        Has s at (b ∷ w) n
    go None f g ih = nowhere g
    go (Some m) f g ih = has_join (byte-has s at b m h.0 f) (ih m g)

-- ---- numbers

-- the run of digits from a place on, that a digit 1 to 9 leads
run-has : (s : List ℕ) (at : ℕ) → is_leading (byte_at s at) ≡ true →
    let ds = digit_run (drop at s) in (1 ≤ read_after 0 ds) × Has s at (decimal (read_after 0 ds)) (at + length ds)
run-has s at h =
    let r = run-leads (byte_at s at) (drop (suc at) s) h in
    let e = drop-cons s at 256 (byte-there s at (byte_at s at) (omega (arith, r.1.1)) refl) in
    let p = rw r.0 at (run-plain (byte_at s at ∷ drop (suc at) s)) in
    let o = rw (← r.0, ← e) at (decimal-only (byte_at s at) (digit_run (drop (suc at) s)) r.1.0 p) in
    let ds = digit_run (drop at s) in
    (o.0, record { has = run-splits (drop at s) ∙ ap₂ ◌++◌ (sym o.1) (drop-drop (length ds) at s) })

minus-text : (n : ℕ) → 1 ≤ n → integer (neg_ℤ (pos n)) ≡ 45 ∷ decimal n
minus-text zero h = absurd (omega arith)
minus-text (suc n) h = refl

signed-has : (negative : Bool) (s : List ℕ) (at : ℕ) (z : ℤ) (n : ℕ) → unsigned_at negative s at ≡ numeral z n →
    let v = read_after 0 (digit_run (drop at s)) in (z ≡ signed_of negative v) × ((1 ≤ v) × Has s at (decimal v) n)
signed-has negative s at z n h = go (is_leading (byte_at s at)) refl h
  where
    v : ℕ
    v = read_after 0 (digit_run (drop at s))

    go : (t : Bool) → is_leading (byte_at s at) ≡ t → cond t (numeral (signed_of negative v) (at + length (digit_run (drop at s)))) none ≡ numeral z n →
        (z ≡ signed_of negative v) × ((1 ≤ v) × Has s at (decimal v) n)
    go true e h = let u : at + length (digit_run (drop at s)) ≡ n = cc in let r = run-has s at e in (cc, (r.0, rw u at r.1))
    go false e h = absurd (let z : ◌≡◌ {A = ℕ} 0 1 = cc in omega arith)

pub number-has : (s : List ℕ) (at : ℕ) (z : ℤ) (n : ℕ) → number_at s at ≡ numeral z n → Has s at (integer z) n
number-has s at z n h = zero_or (after_byte s at 48) refl h
  where
    minus-or : (p : Option ℕ) → after_byte s at 45 ≡ p → on_place p (unsigned_at false s at) (λ m. unsigned_at true s m) ≡ numeral z n → Has s at (integer z) n
    minus-or None e h = let r = signed-has false s at z n h in rw r.0 r.1.1
    minus-or (Some m) e h = let r = signed-has true s m z n h in rw (r.0, minus-text _ r.1.0) (has_join (byte-has s at 45 m (lit< tt) e) r.1.1)

    zero_or : (p : Option ℕ) → after_byte s at 48 ≡ p →
        on_place p (on_place (after_byte s at 45) (unsigned_at false s at) (λ m. unsigned_at true s m)) (λ m. numeral (pos 0) m) ≡ numeral z n →
        Has s at (integer z) n
    zero_or None e h = minus-or (after_byte s at 45) refl h
    zero_or (Some m) e h = let u : pos 0 ≡ z = cc in let v : m ≡ n = cc in rw (← u, decimal-zero) (rw v at (byte-has s at 48 m (lit< tt) e))

pub field-has : (b : ℕ) (r : Range) (s : List ℕ) (at : ℕ) (z : ℤ) (n : ℕ) → b < 256 → field_at b r s at ≡ Ok (Some z, n) → Has s at (field (integer z) b) n
field-has b r s at z n l h =
    let p = field-parts b r s at (Some z) n h in
    let e = (ranged-in r p.value z p.figured).0 in
    rw (← e) (has_join (number-has s at p.value p.close p.number) (byte-has s p.close b n l p.closed))

-- ---- lines

pub numbers-has : (r q : Range) (s : List ℕ) (at : ℕ) (x y : ℤ) (n : ℕ) → numbers_line r q s at ≡ Ok ((Some x, Some y), n) → Has s at (numbers_text x y) n
numbers-has r q s at x y n h =
    let p = numbers-parts r q s at (Some x) (Some y) n h in
    has_join (field-has 32 r s at x p.next (lit< tt) p.first) (field-has 10 q s p.next y n (lit< tt) p.second)

pub count-has : (w : List ℕ) (a b : ℕ) (s : List ℕ) (at m n : ℕ) → Bytes w → count_at w (from_to a b) s at ≡ Ok (m, n) → Has s at (heading_text w m) n
count-has w a b s at m n l h =
    let c = count-parts w a b s at m n h in
    let p = heading-parts w (from_to a b) s at (Some (pos m)) n c.heading in
    let f = has_join (word-has s at w p.blank l p.word) (byte-has s p.blank 32 p.next (lit< tt) p.space) in
    has_join f (field-has 10 (from_to a b) s p.next (pos m) n (lit< tt) p.count)

mark-has : (s : List ℕ) (at : ℕ) (m : Mark) (n : ℕ) → mark_at s at ≡ Some (m, n) → Has s at (mark_byte m ∷ 32 ∷ []) n
unfolding mark_at
mark-has s at m n h = first (after_word s at (87 ∷ 32 ∷ [])) refl h
  where
    second : (p : Option ℕ) → after_word s at (76 ∷ 32 ∷ []) ≡ p → on_place {A = Option (Mark × ℕ)} p None (λ n. Some (Continuous, n)) ≡ Some (m, n) →
        Has s at (mark_byte m ∷ 32 ∷ []) n
    second None e h = absurd (let z : ◌≡◌ {A = ℕ} 0 1 = cc in omega arith)
    second (Some k) e h =
        let q = found-same h in rw (← q.0) (word-has s at (76 ∷ 32 ∷ []) n (lit< tt, (lit< tt, tt)) (e ∙ ap Some q.1))

    first : (p : Option ℕ) → after_word s at (87 ∷ 32 ∷ []) ≡ p →
        on_place {A = Option (Mark × ℕ)} p (on_place {A = Option (Mark × ℕ)} (after_word s at (76 ∷ 32 ∷ [])) None (λ n. Some (Continuous, n))) (λ n. Some (Integer, n)) ≡ Some (m, n) →
        Has s at (mark_byte m ∷ 32 ∷ []) n
    first None e h = second (after_word s at (76 ∷ 32 ∷ [])) refl h
    first (Some k) e h =
        let q = found-same h in rw (← q.0) (word-has s at (87 ∷ 32 ∷ []) n (lit< tt, (lit< tt, tt)) (e ∙ ap Some q.1))

pub item-has : (s : List ℕ) (at : ℕ) (i : ModelItem) (n : ℕ) → item_read s at ≡ Ok (i, n) → Has s at (item_text i) n
item-has s at i n h =
    let p = item-parts s at i n h in
    let f = p.figures in
    has_join (mark-has s at i.mark p.next p.mark) (has_join (field-has 32 weights s p.next i.low f.next (lit< tt) f.first)
    (numbers-has weights prices s f.next i.high i.price n f.others))

bound-field-has : (s : List ℕ) (at : ℕ) (b : Option ℤ) (n : ℕ) → bound_field s at ≡ Ok (Some b, n) → Has s at (field (bound_word b) 10) n
bound-field-has s at None n h =
    let p = bound-shape s at None n h in
    has_join (word-has s at absent_word p.0 (lit< tt, (lit< tt, (lit< tt, (lit< tt, tt)))) p.1) (byte-has s p.0 10 n (lit< tt) p.2)
bound-field-has s at (Some v) n h = field-has 10 prices s at v n (lit< tt) (bound-shape s at (Some v) n h)

pub bound-has : (k : ℕ) (s : List ℕ) (at : ℕ) (b : Option ℤ) (n : ℕ) → bound_read k s at ≡ Ok (b, n) → Has s at (bound_text (bounding k b)) n
bound-has k s at b n h =
    let p = bound-parts k s at b n h in
    has_join (field-has 32 (only k) s at (pos k) p.next (lit< tt) p.number) (bound-field-has s p.next b n p.bound)

pub need-has : (n : ℕ) (a : Need) (s : List ℕ) (at : ℕ) (b : Need) (m : ℕ) → need_read n a s at ≡ Ok (b, m) → Has s at (need_text b) m
need-has n a s at b m h = numbers-has (from_to 1 n) (from_to 1 n) s at (pos b.item) (pos b.cover) m (need-parts n a s at b m h).numbers
