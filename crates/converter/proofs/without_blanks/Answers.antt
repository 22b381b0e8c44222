-- The record is accepted but for its blank items, so they can be left out where nothing hinders.
use Rattle.model.proofs.Records.{unfaulted, accepted}
use Rattle.converter.proofs.without_blanks.Goals as goal

pub check_blanks-requires : goal.check_blanks-requires
check_blanks-requires c = let u = unfaulted c.args.m c.requires in (u.most, u.few-needs)

pub drop_blanks-requires : goal.drop_blanks-requires
drop_blanks-requires c = accepted c.args.m c.requires
