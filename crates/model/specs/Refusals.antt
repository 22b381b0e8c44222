-- The numbers of the refusals (paper 01, "Refused, by place", and paper 02), by number_of.
--   Overlong, Form, Count, Figure, ItemNumber                   1 to 5: a sheet's; Count and Figure a record's too
--   Amounts, Amount, PairNumbers, PairItems, ShortBuffer        7 to 11: the point check's, the least pair's, a lent buffer's
--   HeadingWord, Number                                         12, 13: a sheet's, in the place of 2 (paper 02, request 3)
--   NamedItem                                                   14: a record's and a sheet's, of a line of needs (paper 02, request 7)
--   BlankItem                                                   15: a record's and a sheet's, of an item; the converter's (paper 02, request 9)
--   FullRecord, MissingItem, OnlyItem                           16 to 18: a standing plan's, of a change (paper 02, request 10)
--   WeightRange, RangedItem                                     19, 20: a record's and a sheet's, of an item's weights (paper 02, request 11)
use Rattle.std.specs.Prelude.{ℕ}
use Rattle.model.specs.declared.refusals.Reason.{Reason}
use Rattle.model.specs.declared.refusals.Reason.TheVariants.{
  Overlong,
  Form,
  Count,
  Figure,
  ItemNumber,
  Amounts,
  Amount,
  PairNumbers,
  PairItems,
  ShortBuffer,
  HeadingWord,
  Number,
  NamedItem,
  BlankItem,
  FullRecord,
  MissingItem,
  OnlyItem,
  WeightRange,
  RangedItem,
}

abbrev pub number_of : Reason → ℕ
number_of Overlong = 1
number_of Form = 2
number_of Count = 3
number_of Figure = 4
number_of ItemNumber = 5
number_of Amounts = 7
number_of Amount = 8
number_of PairNumbers = 9
number_of PairItems = 10
number_of ShortBuffer = 11
number_of HeadingWord = 12
number_of Number = 13
number_of NamedItem = 14
number_of BlankItem = 15
number_of FullRecord = 16
number_of MissingItem = 17
number_of OnlyItem = 18
number_of WeightRange = 19
number_of RangedItem = 20
