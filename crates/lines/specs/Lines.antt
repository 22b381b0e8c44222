-- The lines of a sheet. Paper 01, "The sheet" and "Refused, by place", and paper 02, requests 3, 6, 7 and 11.
-- The form of a line, which gives the fault of its leftmost wrong field (specs/Faults), or its numbers by the ranges asked for:
--   on_field x a f           f of the number and the place behind it, or a of the field's fault
--   heading_line w r s at    word and count
--   numbers_line r q s at    two numbers
--   mark_at s at             `W ` or `L `
--   weights, prices         the ranges of weights, and of prices and bounds
--   figures_line s at        low weight, high weight, price, by behind: one number, and two behind it
--   item_line s at           mark and figures, by marked and with_figures
--   bound_field s at         the field in a bound's place: `none`, or a number by figured
-- What its values must be: within a line its form (2, 12, 13) comes first, then 3 (a count), 5 (an item number), 4 (a figure), left to right,
-- then 19 (the order of the weights).
--   count_at w r s at        the count of a heading, by count_of
--   item_read s at           an item, with no bounds as yet, by item_of and ordered
--   bound_read k s at        the item number k, the one that is due, and its bound, by bound_of and in_turn
--   need_read n a s at       two item numbers of 1 to n, and the line rises above the line a, by need_of and in_order
use Rattle.std.specs.Prelude.{cond, List, [], ◌∷◌, ℕ, ℤ, pos, negsuc, nat_abs}
use Rattle.std.specs.Prelude.{Option, None, Some, Ok, Err}
use Rattle.knapsack.specs.declared.Mark.{Mark}
use Rattle.knapsack.specs.declared.Mark.TheVariants.{Integer, Continuous}
use Rattle.model.specs.declared.ModelItem.{ModelItem}
use Rattle.model.specs.declared.Need.{Need}
use Rattle.model.specs.Records.{is_reversed, bad_line}
use Rattle.model.specs.declared.refusals.Reason.{Reason}
use Rattle.model.specs.declared.refusals.Reason.TheVariants as refusal
use Rattle.lines.specs.declared.number.Range.{Range}
use Rattle.lines.specs.Places.{after_byte, after_word, on_place}
use Rattle.lines.specs.Faults.{Read, fault_at}
use Rattle.lines.specs.Numbers.{from_to, only, field_at}
use Rattle.lines.specs.Layout.{absent_word}

abbrev pub on_field : {A : Type 0} → Read (Option ℤ) → (Reason → A) → (Option ℤ → ℕ → A) → A
on_field (Err n) a f = a n
on_field (Ok (x, n)) a f = f x n

-- ---- form

unfoldable pub heading_line : List ℕ → Range → List ℕ → ℕ → Read (Option ℤ)
heading_line w r s at =
    on_place (after_word s at w) (Err (fault_at refusal.HeadingWord s at))
    (λ n. on_place (after_byte s n 32) (Err (fault_at refusal.HeadingWord s n)) (λ m. field_at 10 r s m))

unfoldable pub numbers_line : Range → Range → List ℕ → ℕ → Read (Option ℤ × Option ℤ)
numbers_line r q s at =
    on_field (field_at 32 r s at) (λ k. Err k) (λ x n. on_field (field_at 10 q s n) (λ k. Err k) (λ y m. Ok ((x, y), m)))

unfoldable pub mark_at : List ℕ → ℕ → Option (Mark × ℕ)
mark_at s at =
    on_place (after_word s at (87 ∷ 32 ∷ []))
    (on_place (after_word s at (76 ∷ 32 ∷ [])) None (λ n. Some (Continuous, n)))
    (λ n. Some (Integer, n))

abbrev pub weights : Range
weights = record { lo = negsuc 999; hi = pos 1000 }

abbrev pub prices : Range
prices = record { lo = negsuc 9999; hi = pos 10000 }

abbrev pub behind : Option ℤ → Read (Option ℤ × Option ℤ) → Read (Option ℤ × Option ℤ × Option ℤ)
behind x (Err k) = Err k
behind x (Ok ((y, z), n)) = Ok ((x, y, z), n)

unfoldable pub figures_line : List ℕ → ℕ → Read (Option ℤ × Option ℤ × Option ℤ)
figures_line s at = on_field (field_at 32 weights s at) (λ k. Err k) (λ x n. behind x (numbers_line weights prices s n))

abbrev pub ItemForm : Type 0
ItemForm = Mark × Option ℤ × Option ℤ × Option ℤ

abbrev pub with_figures : Mark → Read (Option ℤ × Option ℤ × Option ℤ) → Read ItemForm
with_figures m (Err k) = Err k
with_figures m (Ok ((a, b, c), n)) = Ok ((m, a, b, c), n)

abbrev pub marked : List ℕ → Option (Mark × ℕ) → Read ItemForm
marked s None = Err refusal.Form
marked s (Some (m, n)) = with_figures m (figures_line s n)

unfoldable pub item_line : List ℕ → ℕ → Read ItemForm
item_line s at = marked s (mark_at s at)

abbrev pub figured : Read (Option ℤ) → Read (Option (Option ℤ))
figured (Err k) = Err k
figured (Ok (None, n)) = Ok (None, n)
figured (Ok (Some v, n)) = Ok (Some (Some v), n)

unfoldable pub bound_field : List ℕ → ℕ → Read (Option (Option ℤ))
bound_field s at =
    on_place (after_word s at absent_word) (figured (field_at 10 prices s at))
    (λ n. on_place (after_byte s n 10) (Err (fault_at refusal.Number s n)) (λ m. Ok (Some None, m)))

-- ---- values

abbrev pub count_of : Read (Option ℤ) → Read ℕ
count_of (Err k) = Err k
count_of (Ok (None, n)) = Err refusal.Count
count_of (Ok (Some z, n)) = Ok (nat_abs z, n)

unfoldable pub count_at : List ℕ → Range → List ℕ → ℕ → Read ℕ
count_at w r s at = count_of (heading_line w r s at)

abbrev pub ordered : ModelItem → ℕ → Read ModelItem
ordered i n = cond (is_reversed i) (Err refusal.WeightRange) (Ok (i, n))

abbrev pub item_of : Read ItemForm → Read ModelItem
item_of (Err k) = Err k
item_of (Ok ((m, None, b, c), n)) = Err refusal.Figure
item_of (Ok ((m, Some a, None, c), n)) = Err refusal.Figure
item_of (Ok ((m, Some a, Some b, None), n)) = Err refusal.Figure
item_of (Ok ((m, Some a, Some b, Some c), n)) = ordered (record { mark = m; low = a; high = b; price = c; lower = None; upper = None }) n

unfoldable pub item_read : List ℕ → ℕ → Read ModelItem
item_read s at = item_of (item_line s at)

abbrev pub in_turn : Option ℤ → Read (Option ℤ) → Read (Option ℤ)
in_turn None r = Err refusal.ItemNumber
in_turn (Some z) r = r

abbrev pub bound_of : Read (Option (Option ℤ)) → Option ℤ → Read (Option ℤ)
bound_of (Err k) x = Err k
bound_of (Ok (None, n)) x = in_turn x (Err refusal.Figure)
bound_of (Ok (Some b, n)) x = in_turn x (Ok (b, n))

unfoldable pub bound_read : ℕ → List ℕ → ℕ → Read (Option ℤ)
bound_read k s at = on_field (field_at 32 (only k) s at) (λ e. Err e) (λ x n. bound_of (bound_field s n) x)

abbrev pub in_order : ℕ → Need → Need → ℕ → Read Need
in_order n a b m = cond (bad_line n a b) (Err refusal.ItemNumber) (Ok (b, m))

abbrev pub need_of : ℕ → Need → Read (Option ℤ × Option ℤ) → Read Need
need_of n a (Err k) = Err k
need_of n a (Ok ((None, y), m)) = Err refusal.ItemNumber
need_of n a (Ok ((Some x, None), m)) = Err refusal.ItemNumber
need_of n a (Ok ((Some x, Some y), m)) = in_order n a (record { item = nat_abs x; cover = nat_abs y }) m

unfoldable pub need_read : ℕ → Need → List ℕ → ℕ → Read Need
need_read n a s at = need_of n a (numbers_line (from_to 1 n) (from_to 1 n) s at)
