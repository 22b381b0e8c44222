-- The line that a refusal tells is the line that `line_part` hands back, or there is none.
--   Starts s k      a line begins at the place k: nothing stands before it, or a byte 10 just before it
--   Faulty s f      the reading stopped where a line begins; f tells that line's number, and it is the line that is handed back for that number
-- End theorems: refused-line: so it is of every sheet that is refused; one that is too long is told with line 0. part-closed, part-open: so `line_part` replies
-- with that line, or with nothing if the sheet does not close it, as `check_line` says.
-- line-from: the line behind as many line ends as stand before its start is that line. reached: where a reading can have come.
use mathlib.Core.Path.{◌≡◌, refl, sym, ap, ◌∙◌, subst}
use mathlib.Core.Bool.{Bool, true, false, cond}
use mathlib.Core.List.{List, [], ◌∷◌, ◌++◌, append_assoc}
use mathlib.Core.Logic.{◌⊎◌, inl, inr}
use Prim.Native.Nat.{ℕ, zero, suc, ◌+◌, ◌-◌, ◌≤◌, ◌<◌, min}
use native.Mathlib.Decide.{dec_lt}
use native.Mathlib.Omega.{arith}
use borrow.Author.Tests.{eq-eqb, ne_eqb, le-ltb, ltb-true, ltb-false}
use lib.Dec.{eqb, ltb, lit<}
use lib.IntN.{pos}
use lib.ListN.{length, take, drop, get_or, length-append, length-drop, drop_of_length-le}
use lib.Seq.{take_all, get_or-drop, get_or-append_seam}
use Rattle.knapsack.specs.declared.Refusal.{Refusal}
use Rattle.std.specs.Prelude.{Ok, Err, Option, None, Some}
use Rattle.model.specs.declared.Blanks.{Blanks}
use Rattle.model.specs.declared.Model.{Model}
use Rattle.model.specs.declared.Side.{Side}
use Rattle.model.specs.declared.Side.TheVariants.{Lower, Upper}
use Rattle.model.specs.declared.refusals.Reason.{Reason}
use Rattle.model.specs.declared.refusals.Reason.TheVariants as refusal
use Rattle.model.specs.Records.{empty_model, item_at}
use Rattle.model.specs.Setters.{with_count, with_need_count}
use Rattle.text.specs.Decimal.{decimal, integer}
use Rattle.text.specs.Layout.{field, line}
use Rattle.lines.specs.Places.{on_place, first_end, ends, line_at, closed_line, refusal_on, closed_or, asked_line, bytes_of, line_part, verdict_of, check_line}
use Rattle.lines.specs.Numbers.{from_to}
use Rattle.lines.specs.Lines.{count_at}
use Rattle.lines.specs.Layout.{heading_text, mark_byte, bound_word}
use Rattle.lines.proofs.Places.{ends_from, ends-past, ends-before, ends-none, closed-more}
use Rattle.lines.proofs.Standing.{Has, Bytes, count-has}
use Rattle.sheet.specs.declared.Progress.{Progress}
use Rattle.sheet.specs.declared.Reading.{Reading}
use Rattle.sheet.specs.Sections.{goes_on, stopped_by, refused_at, onward, on_count, LineForm, taken, step_of, lines_of, section_of}
use Rattle.sheet.specs.Reading.{limit, items, word_of, needs, limit_form, item_form_by, bound_form, need_form, limit_section, items_section, bounds_section}
use Rattle.sheet.specs.Reading.{first_ranged, ranged_at, ranges_of}
use Rattle.sheet.specs.Reading.{needs_section, end_of_sheet, head_of, lower_of, upper_of, last_of, whole_of, read_sheet_by}
use Rattle.sheet.proofs.Sections.{Laws, no-refusal}
use Rattle.sheet.proofs.Ranged.{ranged-most}
use Rattle.sheet.proofs.LineEnds.{line-start}
use Rattle.sheet.proofs.Sheets.{ended, sheet-ends}
use Rattle.sheet.proofs.Forms.{limit-laws, item-laws, bound-laws, need-laws}
use Rattle.lines.specs.Faults.{Read}

-- ---- places where a line begins

pub record Starts (s : List ℕ) (k : ℕ) : Type 0 where
  pub within : k ≤ length s
  pub behind : 1 ≤ k → get_or s (k - 1) 0 ≡ 10

-- a byte 10 is counted
last_end : (l : List ℕ) (n : ℕ) → n < length l → get_or l n 0 ≡ 10 → 1 ≤ ends (take (suc n) l)
unfolding ends
last_end [] n h e = absurd (omega arith)
last_end (b ∷ l) zero h e = rw (eq-eqb b 10 e) (omega arith)
last_end (b ∷ l) (suc n) h e = go (eqb b 10) (last_end l n (omega arith) e)
  where
    go : (t : Bool) → 1 ≤ ends (take (suc n) l) → 1 ≤ cond t (suc (ends (take (suc n) l))) (ends (take (suc n) l))
    go true ih = omega arith
    go false ih = ih

module _ (s : List ℕ) (k : ℕ) (starts : Starts s k) where
  some_end : (from : ℕ) → from < k → 1 ≤ ends_from s from k
  some_end from l =
      let n = k - suc from in
      let e : k - from ≡ suc n = omega arith in
      let p : from + n ≡ k - 1 = omega arith in
      let b : get_or (drop from s) n 0 ≡ 10 = get_or-drop from s n 0 ∙ ap (λ (i : ℕ). get_or s i 0) p ∙ starts.behind (omega arith) in
      let w : n < length (drop from s) = simp length-drop (omega (arith, starts.within)) in
      rw e (last_end (drop from s) n w b)

  none_left : ends_from s k k ≡ 0
  unfolding ends
  none_left = let e : k - k ≡ 0 = omega arith in rw e

  line-from : (n from : ℕ) → from ≤ k → ends_from s from k ≡ n → closed_line n s from ≡ closed_line 0 s k
  line-from zero from l e = go (dec_lt from k)
    where
      go : Dec (from < k) → closed_line 0 s from ≡ closed_line 0 s k
      go (yes h) = absurd (omega (arith, some_end from h))
      go (no h) = ap (closed_line 0 s) (omega arith)
  line-from (suc n) from l e = go (dec_lt from k) (first_end from (drop from s)) refl (λ a. line-from n (suc a))
    where
      more : (a : ℕ) → first_end from (drop from s) ≡ Some a → from < k → Dec (a < k) →
          (suc a ≤ k → ends_from s (suc a) k ≡ n → closed_line n s (suc a) ≡ closed_line 0 s k) → closed_line (suc n) s from ≡ closed_line 0 s k
      more a f h (no g) ih = absurd (omega (arith, some_end from h, ends-before s from k a f (omega arith)))
      more a f h (yes g) ih = closed-more n s from a f ∙ ih g (omega (arith, ends-past s from k a f g, e))

      go : Dec (from < k) → (p : Option ℕ) → first_end from (drop from s) ≡ p →
          ((a : ℕ) → suc a ≤ k → ends_from s (suc a) k ≡ n → closed_line n s (suc a) ≡ closed_line 0 s k) → closed_line (suc n) s from ≡ closed_line 0 s k
      go (no h) p f ih = let d : from ≡ k = omega arith in absurd (omega (arith, sym e ∙ ap (λ (f : ℕ). ends_from s f k) d ∙ none_left))
      go (yes h) None f ih = absurd (omega (arith, some_end from h, ends-none s from k f))
      go (yes h) (Some a) f ih = more a f h (dec_lt a k) (ih a)

-- ---- behind a line that was read

-- a place, or the end of the text if it lies beyond
abbrev met : List ℕ → ℕ → ℕ
met s b = min b (length s)

met-drop : (s : List ℕ) (b : ℕ) → drop b s ≡ drop (met s b) s
met-drop s b = go (dec_lt b (length s))
  where
    go : Dec (b < length s) → drop b s ≡ drop (met s b) s
    go (yes h) = let e : b ≡ met s b = omega arith in ap (λ (k : ℕ). drop k s) e
    go (no h) = drop_of_length-le s {i = b} (omega arith) ∙ sym (drop_of_length-le s {i = met s b} (omega arith))

met-take : (s : List ℕ) (b : ℕ) → take b s ≡ take (met s b) s
met-take s b = go (dec_lt b (length s))
  where
    go : Dec (b < length s) → take b s ≡ take (met s b) s
    go (yes h) = let e : b ≡ met s b = omega arith in ap (λ (k : ℕ). take k s) e
    go (no h) = take_all b s (omega arith) ∙ sym (take_all (met s b) s (omega arith))

-- the text ends with a byte 10
abbrev Closes : List ℕ → Type 0
Closes t = (x : List ℕ) × (t ≡ x ++ (10 ∷ []))

line-closes : (f : List ℕ) (fs : List (List ℕ)) → Closes (line f fs)
line-closes f [] = (f, refl)
line-closes f (g ∷ gs) = let r = line-closes g gs in (field f 32 ++ r.0, ap (λ l. field f 32 ++ l) r.1 ∙ sym (append_assoc (field f 32) r.0 (10 ∷ [])))

behind-line : (s t : List ℕ) (a b : ℕ) → Closes t → Has s a t b → Starts s (met s b)
behind-line s t a b (x, c) h =
    let k = met s b in
    let e : drop a s ≡ x ++ (10 ∷ drop k s) = h.has ∙ ap (λ l. t ++ l) (met-drop s b) ∙ ap (λ l. l ++ drop k s) c ∙ append_assoc x (10 ∷ []) (drop k s) in
    let n : length s - a ≡ length x + suc (length s - k) = simp (length-drop, length-append) at (ap length e) in
    let l : k ≤ length s = omega arith in
    let p : k - 1 ≡ a + length x = omega arith in
    record {
      within = l;
      behind = λ o. ap (λ (i : ℕ). get_or s i 0) p ∙ sym (get_or-drop a s (length x) 0) ∙ ap (λ l. get_or l (length x) 0) e ∙ get_or-append_seam x 10 (drop k s) 0;
    }

-- ---- where a reading can have come

data Reached (s : List ℕ) : Progress → Type 0 where
  on : (p : Progress) → p.verdict ≡ Ok tt → Starts s (met s p.at) → Reached s p
  off : (n : Reason) (at : ℕ) → Starts s (met s at) → Reached s (refused_at s n at)

onward-reached : (s : List ℕ) (p q : Progress) → Reached s p → (p.verdict ≡ Ok tt → Starts s (met s p.at) → Reached s q) → Reached s (onward p q)
onward-reached s p q (on r v h) f = rw v (f v h)
onward-reached s p q (off n at h) f = off n at h

module _ {A : Type 0} (f : LineForm A) (Fits : Progress → A → Type 0) (laws : Laws f Fits) (closes : (a : A) → Closes (f.text a)) (s : List ℕ) where
  step-reached : (p : Progress) → Reached s p → Reached s (step_of f s p)
  unfolding step_of
  step-reached p r = onward-reached s p _ r (λ v h. go (f.read s p) refl h)
    where
      go : (x : Read A) → f.read s p ≡ x → Starts s (met s p.at) → Reached s (taken f s p x)
      go (Err n) e h = off n p.at h
      go (Ok (a, n)) e h = on _ refl (behind-line s (f.text a) p.at n (closes a) (laws.has s p a n e).1)

  lines-reached : (n : ℕ) (p : Progress) → Reached s p → Reached s (lines_of f n s p)
  unfolding lines_of
  lines-reached zero p r = r
  lines-reached (suc n) p r = step-reached (lines_of f n s p) (lines-reached n p r)

  section-reached : (w : List ℕ) (a b : ℕ) (m : ℕ → Model) (p : Progress) → Bytes w → Reached s p → Reached s (section_of f w (from_to a b) m s p)
  unfolding section_of
  section-reached w a b m p bytes r = onward-reached s p _ r (λ v h. go (count_at w (from_to a b) s p.at) refl h)
    where
      go : (c : Read ℕ) → count_at w (from_to a b) s p.at ≡ c → Starts s (met s p.at) →
          Reached s (on_count c (λ n. refused_at s n p.at) (λ n at. lines_of f n s (goes_on (m n) at 0)))
      go (Err n) e h = off n p.at h
      go (Ok (n, at)) e h = lines-reached n (goes_on (m n) at 0)
          (on _ refl (behind-line s (heading_text w n) p.at at (line-closes w (decimal n ∷ [])) (count-has w a b s p.at n at bytes e)))

side-reached : (s : List ℕ) (side : Side) (p : Progress) → Reached s p → Reached s (bounds_section s side p)
unfolding bounds_section
side-reached s side p r =
    section-reached (bound_form side) _ (bound-laws side) (λ b. line-closes (decimal b.number) (bound_word b.bound ∷ [])) s
    (word_of side) _ p.model.count (λ n. p.model) p (bytes side) r
  where
    bytes : (side : Side) → Bytes (word_of side)
    bytes Lower = (lit< tt, (lit< tt, (lit< tt, (lit< tt, (lit< tt, tt)))))
    bytes Upper = (lit< tt, (lit< tt, (lit< tt, (lit< tt, (lit< tt, tt)))))

limit-reached : (s : List ℕ) → Reached s (limit_section s)
unfolding limit_section
limit-reached s = section-reached limit_form _ limit-laws (λ b. line-closes (integer b) []) s limit 1 1 (λ n. empty_model) (goes_on empty_model 0 0)
    (lit< tt, (lit< tt, (lit< tt, (lit< tt, (lit< tt, tt)))))
    (on (goes_on empty_model 0 0) refl (record { within = omega arith; behind = λ h. absurd (omega arith) }))

head-reached : (kind : Blanks) (s : List ℕ) → Reached s (head_of kind s)
unfolding head_of items_section
head-reached kind s = section-reached (item_form_by kind) _ (item-laws kind)
    (λ i. line-closes (mark_byte i.mark ∷ []) (integer i.low ∷ integer i.high ∷ integer i.price ∷ [])) s
    items 1 16 (λ n. with_count (limit_section s).model n) (limit_section s)
    (lit< tt, (lit< tt, (lit< tt, (lit< tt, (lit< tt, tt))))) (limit-reached s)

upper-reached : (kind : Blanks) (s : List ℕ) → Reached s (upper_of kind s)
unfolding upper_of lower_of
upper-reached kind s = side-reached s Upper _ (side-reached s Lower _ (head-reached kind s))

last-reached : (kind : Blanks) (s : List ℕ) → Reached s (last_of kind s)
unfolding last_of needs_section
last-reached kind s = section-reached need_form _ need-laws (λ b. line-closes (integer (pos b.item)) (integer (pos b.cover) ∷ [])) s
    needs 0 16 (λ n. with_need_count (upper_of kind s).model n) (upper_of kind s)
    (lit< tt, (lit< tt, (lit< tt, (lit< tt, (lit< tt, tt))))) (upper-reached kind s)

end-reached : (kind : Blanks) (s : List ℕ) → Reached s (end_of_sheet s (last_of kind s))
unfolding end_of_sheet
end-reached kind s = onward-reached s (last_of kind s) _ (last-reached kind s) (λ v h. go (ltb (last_of kind s).at (length s)) v h)
  where
    go : (b : Bool) → (last_of kind s).verdict ≡ Ok tt → Starts s (met s (last_of kind s).at) →
        Reached s (cond b (refused_at s refusal.Form (last_of kind s).at) (last_of kind s))
    go true v h = off refusal.Form (last_of kind s).at h
    go false v h = on (last_of kind s) v h

-- the line of an item begins where so many lines have ended
line-reached : (s : List ℕ) (n : Reason) (k : ℕ) → 3 + k ≤ ends s → Reached s (stopped_by (refusal_on n (3 + suc k)))
line-reached s n k h =
    let b = line-start s (3 + k) h in
    let e : met s b.at ≡ b.at = omega (arith, b.within) in
    let starts : Starts s (met s b.at) = rw e (record { within = b.within; behind = b.closed }) in
    let l : line_at s b.at ≡ 3 + suc k = omega (arith, b.counted) in
    subst (λ i. Reached s (stopped_by (refusal_on n i))) l (off n b.at starts)

whole-reached : (kind : Blanks) (s : List ℕ) → Reached s (whole_of kind s)
unfolding whole_of ranges_of
whole-reached kind s = onward-reached s (end_of_sheet s (last_of kind s)) _ (end-reached kind s) (λ v h.
    let t = ended s (last_of kind s) v in
    let p = end_of_sheet s (last_of kind s) in
    let few : 3 + p.model.count ≤ ends s = rw t.is (sheet-ends kind s t.before) in
    go p (first_ranged p.model.count (item_at p.model)) v h few (ranged-most (item_at p.model) p.model.count))
  where
    go : (p : Progress) (k : ℕ) → p.verdict ≡ Ok tt → Starts s (met s p.at) → 3 + p.model.count ≤ ends s → k ≤ p.model.count →
        Reached s (ranged_at k p)
    go p zero v h few l = on p v h
    go p (suc k) v h few l = line-reached s refusal.RangedItem k (omega arith)

-- ---- the line that is told

pub record Faulty (s : List ℕ) (f : Refusal) : Type 0 where
  pub at : ℕ
  pub starts : Starts s at
  pub line-is : f.line ≡ line_at s at
  pub handed : asked_line s f.line ≡ closed_or f.line (on_place {A = Option (ℕ × ℕ)} (first_end at (drop at s)) None (λ e. Some (at, e)))

faulty : (s : List ℕ) (n : Reason) (at : ℕ) → length s ≤ 4096 → Starts s (met s at) → Faulty s (refusal_on n (line_at s at))
unfolding closed_line
faulty s n at short h =
    let k = met s at in
    let e : ends_from s 0 k ≡ ends (take at s) = let z : k - 0 ≡ k = omega arith in rw z (ap ends (sym (met-take s at))) in
    let some : line_at s at ≡ 0 → ⊥ = λ z. omega arith in
    let d : line_at s at - 1 ≡ ends (take at s) = omega arith in
    record {
      at = k;
      starts = h;
      line-is = ap (λ t. suc (ends t)) (met-take s at);
      handed = rw (le-ltb 4096 (length s) short, ne_eqb (line_at s at) 0 some, d)
          (ap (closed_or (line_at s at)) (line-from s k h (ends (take at s)) 0 (omega arith) e));
    }

pub refused-line : (kind : Blanks) (s : List ℕ) (f : Refusal) → (read_sheet_by kind s).verdict ≡ Err f → ((4096 < length s) × (f.line ≡ 0)) ⊎ Faulty s f
unfolding read_sheet_by
refused-line kind s f h = go (ltb 4096 (length s)) refl h
  where
    of : (p : Progress) → length s ≤ 4096 → Reached s p → p.verdict ≡ Err f → Faulty s f
    of p short (on q v h) g = no-refusal (sym g ∙ v)
    of p short (off n at h) g = let z : refusal_on n (line_at s at) ≡ f = cc in subst (Faulty s) z (faulty s n at short h)

    go : (b : Bool) → ltb 4096 (length s) ≡ b → (cond {A = Reading} b (record { verdict = Err (refusal_on refusal.Overlong 0); model = empty_model })
        (record { verdict = (whole_of kind s).verdict; model = (whole_of kind s).model })).verdict ≡ Err f → ((4096 < length s) × (f.line ≡ 0)) ⊎ Faulty s f
    go true e g = let z : refusal_on refusal.Overlong 0 ≡ f = cc in inl (ltb-true 4096 (length s) e, sym (ap (λ (r : Refusal). r.line) z))
    go false e g = inr (of (whole_of kind s) (ltb-false 4096 (length s) e) (whole-reached kind s) g)

-- ---- in the words of the two entries: the part is the line, or there is none and the check says so

module _ (s : List ℕ) (f : Refusal) (w : Faulty s f) where
  pub part-closed : (e : ℕ) → first_end w.at (drop w.at s) ≡ Some e →
      (line_part s f.line ≡ take (e - w.at) (drop w.at s)) × (check_line s f.line ≡ Ok tt)
  part-closed e h = let a = w.handed ∙ ap (λ p. closed_or f.line (on_place {A = Option (ℕ × ℕ)} p None (λ e. Some (w.at, e)))) h in (ap (bytes_of s) a, ap verdict_of a)

  pub part-open : first_end w.at (drop w.at s) ≡ None →
      (line_part s f.line ≡ []) × (check_line s f.line ≡ Err (refusal_on refusal.Form f.line))
  part-open h = let a = w.handed ∙ ap (λ p. closed_or f.line (on_place {A = Option (ℕ × ℕ)} p None (λ e. Some (w.at, e)))) h in (ap (bytes_of s) a, ap verdict_of a)
