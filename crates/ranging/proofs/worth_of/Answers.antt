use Rattle.std.proofs.Common.{◌≡◌, length, rules}
use Rattle.ranging.proofs.Worth.{shown-sizeable, worth-of-shown}
use Rattle.ranging.proofs.worth_of.Goals as goal

pub worth-requires : goal.worth-requires
worth-requires c =
    let size : length c.args.x ≡ 16 = search rules in
    shown-sizeable c.args.p c.args.x size c.requires.0 c.requires.1

pub returns : goal.returns
returns c =
    let size : length c.args.x ≡ 16 = search rules in
    worth-of-shown c.args.p c.args.x size c.requires.0 c.requires.1 c.worth.result c.worth.ensures
