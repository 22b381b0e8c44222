-- The sheet that the papers lay out for a record (01, "The sheet"; 02, requests 6, 7 and 11): a sheet is accepted exactly if it is the printing of its record
-- (proofs/Sheets.antt).
-- Its lines are the forms' (specs/Reading.antt), so a reader and a writer share it. Lists of lines have the last in front, as a loop leaves them.
--   up_to n f            f of the places below n
--   side_of side i       an item's bound
--   bound_at side m k    the bound of the item at a place
--   bounding_at side m k    that bound with its item's number
--   side_text side m     the section `lower` or `upper`
--   needs_text m         the section `needs`
--   printing m          the sheet
--   Tidy m              16 places and 16 lines of needs, and the ones beyond the counts are blank, and 0 0, as the reader leaves them
--   SheetOfBy b s m     s is the sheet of m, which is accepted as a record;  SheetOf s m: where blank items are refused
use Rattle.std.specs.Prelude.{◌≡◌, List, [], ◌∷◌, ◌++◌, ℕ, zero, suc, ◌≤◌, length}
use Rattle.std.specs.Prelude.{Option, ℤ}
use Rattle.std.specs.Prelude.{Ok}
use Rattle.model.specs.declared.Blanks.{Blanks}
use Rattle.model.specs.declared.Blanks.TheVariants as blanks
use Rattle.model.specs.declared.Model.{Model}
use Rattle.model.specs.declared.ModelItem.{ModelItem}
use Rattle.model.specs.declared.Side.{Side}
use Rattle.model.specs.declared.Side.TheVariants.{Lower, Upper}
use Rattle.model.specs.Needs.{no_need}
use Rattle.model.specs.Records.{no_item, item_at, need_at, verdict_by}
use Rattle.lines.specs.Layout.{Bounding, bounding}
use Rattle.sheet.specs.Sections.{section_text}
use Rattle.sheet.specs.Reading.{limit, items, word_of, needs, limit_form, item_form, bound_form, need_form}

unfoldable pub up_to : {A : Type 0} → ℕ → (ℕ → A) → List A
up_to zero f = []
up_to (suc n) f = f n ∷ up_to n f

abbrev pub side_of : Side → ModelItem → Option ℤ
side_of Lower i = i.lower
side_of Upper i = i.upper

abbrev pub bound_at : Side → Model → ℕ → Option ℤ
bound_at side m k = side_of side (item_at m k)

abbrev pub bounding_at : Side → Model → ℕ → Bounding
bounding_at side m k = bounding (suc k) (bound_at side m k)

abbrev pub side_text : Side → Model → List ℕ
side_text side m = section_text (bound_form side) (word_of side) (up_to m.count (bounding_at side m))

abbrev pub needs_text : Model → List ℕ
needs_text m = section_text need_form needs (up_to m.needs.count (need_at m.needs))

unfoldable pub printing : Model → List ℕ
printing m =
    section_text limit_form limit (m.capacity ∷ [])
    ++ (section_text item_form items (up_to m.count (item_at m))
    ++ (side_text Lower m
    ++ (side_text Upper m
    ++ needs_text m)))

pub record Tidy (m : Model) : Type 0 where
  pub places : length m.items ≡ 16
  pub unused : (k : ℕ) → m.count ≤ k → item_at m k ≡ no_item
  pub lines : length m.needs.lines ≡ 16
  pub spare : (j : ℕ) → m.needs.count ≤ j → need_at m.needs j ≡ no_need

pub record SheetOfBy (b : Blanks) (s : List ℕ) (m : Model) : Type 0 where
  pub fair : verdict_by b m ≡ Ok tt
  pub tidy : Tidy m
  pub text : s ≡ printing m

abbrev pub SheetOf : List ℕ → Model → Type 0
SheetOf s m = SheetOfBy blanks.Refused s m
