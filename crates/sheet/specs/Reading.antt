-- The reader. Paper 01, "The sheet" and "Refused, by place", and paper 02, requests 3, 6, 7, 9 and 11: the sheet's first fault in reading order, or its record.
--   limit, items, word_of side, needs    the heading words
--   limits                       the range of the limit
--   limit_form, item_form_by b, bound_form side, need_form    the kinds of line, which give what limit_gives, item_gives, bound_gives, need_gives say
--   item_form             of an item where blank ones are refused
--   limit_section, items_section, bounds_section, needs_section    the sections, each from where the one before ended
--   end_of_sheet s p       nothing stands behind the last section
--   or_number k n         the number k, or n where k is 0
--   first_ranged n f      the number of the first of the first n items whose weight is a range and whose amount may be below 0; 0 if there is none
--   ranged_at k p         20 at the line of item k, or p where k is 0;  ranges_of p: of the items as they were read
--   head_of, lower_of, upper_of, last_of b s  the sheet read so far: limit and items, then lower, then upper, then needs; b is what becomes of blank items
--   whole_of b s          the sheet read to its end
--   read_sheet_by b s      what a sheet gives;  read_sheet s: where blank items are refused
use Rattle.std.specs.Prelude.{cond, List, [], ◌∷◌, ℕ, zero, suc, ◌+◌, ltb, ℤ, pos, negsuc, length}
use Rattle.std.specs.Prelude.{Option, None, Some, Ok, Err}
use Rattle.model.specs.declared.Blanks.{Blanks}
use Rattle.model.specs.declared.Blanks.TheVariants as blanks
use Rattle.model.specs.declared.ModelItem.{ModelItem}
use Rattle.model.specs.declared.Need.{Need}
use Rattle.model.specs.declared.Side.{Side}
use Rattle.model.specs.declared.Side.TheVariants.{Lower, Upper}
use Rattle.model.specs.declared.refusals.Reason.TheVariants as refusal
use Rattle.model.specs.Records.{empty_model, item_at, barred, is_ranged_below, unfit_line, line_before}
use Rattle.model.specs.Setters.{with_capacity, with_count, with_item, with_bound, with_need_count, with_need}
use Rattle.text.specs.Decimal.{integer}
use Rattle.text.specs.Layout.{line}
use Rattle.lines.specs.declared.number.Range.{Range}
use Rattle.lines.specs.Faults.{Read}
use Rattle.lines.specs.Places.{refusal_on}
use Rattle.lines.specs.Numbers.{from_to, only, field_at}
use Rattle.lines.specs.Lines.{item_read, bound_read, need_read}
use Rattle.lines.specs.Layout.{item_text, Bounding, bounding, bound_text, need_text}
use Rattle.sheet.specs.declared.Progress.{Progress}
use Rattle.sheet.specs.declared.Reading.{Reading}
use Rattle.sheet.specs.Sections.{goes_on, stopped_by, refused_at, onward, LineForm, section_of}

-- the heading words in the bytes of ASCII
-- limit
abbrev pub limit : List ℕ
limit = 108 ∷ 105 ∷ 109 ∷ 105 ∷ 116 ∷ []

-- items
abbrev pub items : List ℕ
items = 105 ∷ 116 ∷ 101 ∷ 109 ∷ 115 ∷ []

-- lower, upper
abbrev pub word_of : Side → List ℕ
word_of Lower = 108 ∷ 111 ∷ 119 ∷ 101 ∷ 114 ∷ []
word_of Upper = 117 ∷ 112 ∷ 112 ∷ 101 ∷ 114 ∷ []

-- needs
abbrev pub needs : List ℕ
needs = 110 ∷ 101 ∷ 101 ∷ 100 ∷ 115 ∷ []

-- ---- limit 1, and a line with b
abbrev pub limits : Range
limits = record { lo = negsuc 99999999; hi = pos 100000000 }

abbrev pub limit_gives : Read (Option ℤ) → Read ℤ
limit_gives (Err k) = Err k
limit_gives (Ok (None, n)) = Err refusal.Figure
limit_gives (Ok (Some b, n)) = Ok (b, n)

abbrev pub limit_form : LineForm ℤ
limit_form = record {
  read = λ s p. limit_gives (field_at 10 limits s p.at);
  text = λ b. line (integer b) [];
  fill = λ p b. with_capacity p.model b;
  item = λ p b. 0;
}

unfoldable pub limit_section : List ℕ → Progress
limit_section s = section_of limit_form limit (from_to 1 1) (λ n. empty_model) s (goes_on empty_model 0 0)

-- ---- items n, and n lines: on a line 4 and 19, then 15
abbrev pub item_gives : Blanks → Read ModelItem → Read ModelItem
item_gives b (Err n) = Err n
item_gives b (Ok (i, n)) = cond (barred b i) (Err refusal.BlankItem) (Ok (i, n))

abbrev pub item_form_by : Blanks → LineForm ModelItem
item_form_by b = record {
  read = λ s p. item_gives b (item_read s p.at);
  text = item_text;
  fill = λ p i. with_item p.model p.item i;
  item = λ p i. suc p.item;
}

abbrev pub item_form : LineForm ModelItem
item_form = item_form_by blanks.Refused

unfoldable pub items_section : Blanks → List ℕ → Progress → Progress
items_section b s p = section_of (item_form_by b) items (from_to 1 16) (λ n. with_count p.model n) s p

-- ---- lower n and upper n, and n lines, for the items in order
abbrev pub bound_gives : ℕ → Read (Option ℤ) → Read Bounding
bound_gives k (Err n) = Err n
bound_gives k (Ok (b, n)) = Ok (bounding k b, n)

abbrev pub bound_form : Side → LineForm Bounding
bound_form side = record {
  read = λ s p. bound_gives (suc p.item) (bound_read (suc p.item) s p.at);
  text = bound_text;
  fill = λ p b. with_bound p.model side p.item b.bound;
  item = λ p b. suc p.item;
}

unfoldable pub bounds_section : List ℕ → Side → Progress → Progress
bounds_section s side p = section_of (bound_form side) (word_of side) (only p.model.count) (λ n. p.model) s p

-- ---- needs t, and t lines: on a line 5 and then 14, of the items as they were read
abbrev pub need_gives : (ℕ → ModelItem) → Read Need → Read Need
need_gives f (Err n) = Err n
need_gives f (Ok (b, n)) = cond (unfit_line f b) (Err refusal.NamedItem) (Ok (b, n))

abbrev pub need_form : LineForm Need
need_form = record {
  read = λ s p. need_gives (item_at p.model) (need_read p.model.count (line_before p.model.needs p.item) s p.at);
  text = need_text;
  fill = λ p b. with_need p.model p.item b;
  item = λ p b. suc p.item;
}

unfoldable pub needs_section : List ℕ → Progress → Progress
needs_section s p = section_of need_form needs (from_to 0 16) (λ n. with_need_count p.model n) s p

-- ---- behind the last section
unfoldable pub end_of_sheet : List ℕ → Progress → Progress
end_of_sheet s p = onward p (cond (ltb p.at (length s)) (refused_at s refusal.Form p.at) p)

-- ---- behind the sheet: the first line is the limit's heading, so that item k has line 3 + k
abbrev pub or_number : ℕ → ℕ → ℕ
or_number zero n = n
or_number (suc k) n = suc k

unfoldable pub first_ranged : ℕ → (ℕ → ModelItem) → ℕ
first_ranged zero f = 0
first_ranged (suc n) f = or_number (first_ranged n f) (cond (is_ranged_below (f n)) (suc n) 0)

abbrev pub ranged_at : ℕ → Progress → Progress
ranged_at zero p = p
ranged_at (suc k) p = stopped_by (refusal_on refusal.RangedItem (3 + suc k))

unfoldable pub ranges_of : Progress → Progress
ranges_of p = onward p (ranged_at (first_ranged p.model.count (item_at p.model)) p)

-- ---- the sheet
unfoldable pub head_of : Blanks → List ℕ → Progress
head_of b s = items_section b s (limit_section s)

unfoldable pub lower_of : Blanks → List ℕ → Progress
lower_of b s = bounds_section s Lower (head_of b s)

unfoldable pub upper_of : Blanks → List ℕ → Progress
upper_of b s = bounds_section s Upper (lower_of b s)

unfoldable pub last_of : Blanks → List ℕ → Progress
last_of b s = needs_section s (upper_of b s)

unfoldable pub whole_of : Blanks → List ℕ → Progress
whole_of b s = ranges_of (end_of_sheet s (last_of b s))

unfoldable pub read_sheet_by : Blanks → List ℕ → Reading
read_sheet_by b s =
    cond (ltb 4096 (length s))
    (record { verdict = Err (refusal_on refusal.Overlong 0); model = empty_model })
    (record { verdict = (whole_of b s).verdict; model = (whole_of b s).model })

abbrev pub read_sheet : List ℕ → Reading
read_sheet s = read_sheet_by blanks.Refused s
