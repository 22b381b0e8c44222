-- A call of the relaxation's entry with a part of a list.
--   Lends s r     the first items of the sheet's list were lent, and r is what is left: the entry's promise for them, and the others as they were
use Rattle.std.specs.Prelude.{◌≡◌, take, drop}
use Rattle.relaxation.specs.Lent.{Relaxes}
use Rattle.relaxation_test.specs.declared.sheets.Sheet.{Sheet}
use Rattle.relaxation_test.specs.declared.lending.Lent.{Lent}

pub record Lends (s : Sheet) (r : Lent) : Type 0 where
  pub lent : Relaxes s.capacity s.terms (take s.count s.items) (take s.count r.items) r.answer
  pub others : drop s.count r.items ≡ drop s.count s.items
