-- The text of a sheet's lines. Paper 01, "The sheet", and paper 02, requests 6, 7 and 11; fields and line ends are those of every text (crate text, specs/Layout).
--   heading_text w n    a section's first line
--   numbers_text x y    two numbers
--   mark_byte m         `W` or `L`
--   item_text i         the line of an item
--   absent_word         `none`; bound_word b: a bound, by that word where it is absent
--   Bounding           an item number and its bound, as a line of `lower` or `upper` has them; bounding n b: one
--   bound_text b        that line
--   need_text n         the line of a need
use Rattle.std.specs.Prelude.{List, [], ◌∷◌, ℕ, ℤ, pos}
use Rattle.std.specs.Prelude.{Option, None, Some}
use Rattle.knapsack.specs.declared.Mark.{Mark}
use Rattle.knapsack.specs.declared.Mark.TheVariants.{Integer, Continuous}
use Rattle.model.specs.declared.ModelItem.{ModelItem}
use Rattle.model.specs.declared.Need.{Need}
use Rattle.text.specs.Decimal.{decimal, integer}
use Rattle.text.specs.Layout.{line}

abbrev pub heading_text : List ℕ → ℕ → List ℕ
heading_text w n = line w (decimal n ∷ [])

abbrev pub numbers_text : ℤ → ℤ → List ℕ
numbers_text x y = line (integer x) (integer y ∷ [])

abbrev pub mark_byte : Mark → ℕ
mark_byte Integer = 87
mark_byte Continuous = 76

abbrev pub item_text : ModelItem → List ℕ
item_text i = line (mark_byte i.mark ∷ []) (integer i.low ∷ integer i.high ∷ integer i.price ∷ [])

abbrev pub absent_word : List ℕ
absent_word = 110 ∷ 111 ∷ 110 ∷ 101 ∷ []

abbrev pub bound_word : Option ℤ → List ℕ
bound_word None = absent_word
bound_word (Some v) = integer v

pub record Bounding : Type 0 where
  pub number : ℕ
  pub bound : Option ℤ

abbrev pub bounding : ℕ → Option ℤ → Bounding
bounding n b = record { number = n; bound = b }

abbrev pub bound_text : Bounding → List ℕ
bound_text b = line (decimal b.number) (bound_word b.bound ∷ [])

abbrev pub need_text : Need → List ℕ
need_text n = numbers_text (pos n.item) (pos n.cover)
