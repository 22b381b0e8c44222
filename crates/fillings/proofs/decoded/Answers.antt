use Rattle.fillings.proofs.Asked.{fixable}
use Rattle.fillings.proofs.decoded.Goals as goal

pub fixed-requires : goal.fixed-requires
fixed-requires c =
    let s = c.args in
    let x = c.requires in
    fixable s.p s.r s.from s.left s.key s.g c.digits_of-ds.result x.0 x.1.0 x.1.1.0 x.1.1.1 c.digits_of-ds.ensures
