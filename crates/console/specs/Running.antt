-- What the programs do with standard input and output.
--   ReplyOf g s t   t is what the program g prints for the sheet s
--   handed r        the sheet that a run has read: all of it, and nothing else
--   Ran g r         what a run of the program g read, printed and wrote: the reply to a whole sheet, all of it; else nothing
use Rattle.std.specs.Prelude.{◌≡◌, true, false, List, ℕ, length, take}
use Rattle.text.specs.declared.Text.{Text}
use Rattle.text.specs.Buffer.{Shows}
use Rattle.listing.specs.Printing.{refused_line}
use Rattle.writer.specs.Writing.{on_accepted}
use Rattle.converter.specs.Converting.{convertible, converted}
use Rattle.replies.specs.Replies.{Replies}
use Rattle.watching.specs.Watching.{Watches}
use Rattle.streams.specs.Carrying.{begun, is_whole, Carried}
use Rattle.console.specs.declared.Program.{Program}
use Rattle.console.specs.declared.Program.TheVariants.{Charge, Convert, Watch}
use Rattle.console.specs.declared.Passage.{Passage}

abbrev pub ReplyOf : Program → List ℕ → Text → Type 0
ReplyOf Charge s t = Replies s t
ReplyOf Convert s t = Shows (on_accepted (convertible s) refused_line (converted s)) t
ReplyOf Watch s t = Watches s t

abbrev pub handed : Passage → List ℕ
handed r = take r.read.at r.sheet

pub record Ran (g : Program) (r : Passage) : Type 0 where
  pub space : length r.sheet ≡ 4097
  pub carried : Carried 4097 r.read
  pub replies : is_whole r.read 4097 ≡ true → ReplyOf g (handed r) r.text × Carried r.text.len r.wrote
  pub silent : is_whole r.read 4097 ≡ false → r.wrote ≡ begun
