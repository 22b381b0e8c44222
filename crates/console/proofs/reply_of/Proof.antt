-- `console::reply_of` meets its contract: each program has its own reply.
use borrow.Author.Rules.{rules}
use Rattle.console.proofs.reply_of.Statement.{statement}
use Rattle.console.proofs.reply_of.Tie as tie

enum_told : tie.Need-enum_told-1
enum_told c = search rules

reply-to-requires : tie.Need-reply_to-requires
reply-to-requires c κs = search rules

enum-told-2 : tie.Need-enum_told-in-Convert
enum-told-2 c = search rules

convert-text-requires : tie.Need-convert_text-requires
convert-text-requires c κs = search rules

enum-told-3 : tie.Need-enum_told-in-Watch
enum-told-3 c = search rules

watch-text-requires : tie.Need-watch_text-requires
watch-text-requires c κs = search rules

returns : tie.Need-returns-in-Charge
returns c = rw c.in-Charge.is c.reply_to.ensures

returns-2 : tie.Need-returns-in-Convert
returns-2 c = rw c.in-Convert.is c.convert_text.ensures

returns-3 : tie.Need-returns-in-Watch
returns-3 c = rw c.in-Watch.is c.watch_text.ensures

pub reply_of_spec : {M : Type 1} → statement M
reply_of_spec = tie.close (tie.spec enum_told reply-to-requires enum-told-2 convert-text-requires enum-told-3 watch-text-requires returns returns-2 returns-3)
