use Rattle.fillings.proofs.Foremost.{among-less}
use Rattle.fillings.proofs.Heads.{caps-among, nears-kept}
use Rattle.fillings.proofs.nearer.Goals as goal

pub near-b-requires : goal.near-b-requires
near-b-requires c =
    let a = c.args in
    let x = c.requires in
    (x.1.1.up.fair, caps-among c.near-a.result x.1.1.up (among-less a.p a.r c.near-a.result x.1.0 c.near-a.ensures.inside))

pub near-requires : goal.near-requires
near-requires c =
    let a = c.args in
    let x = c.requires in (
      x.1.1.down.fair,
      caps-among c.near-b.result x.1.1.down
          (among-less a.p a.r c.near-b.result x.1.0 (λ y i. c.near-a.ensures.inside y (c.near-b.ensures.inside y i))),
    )

pub returns : goal.returns
returns c =
    let a = c.args in
    let x = c.requires in
    nears-kept a.p a.w.up a.w.down a.w.capacity a.cap a.w.most a.w.spare a.r c.near-a.result c.near-b.result c.near.result
    x.0.long x.1.0 x.1.1.up x.1.1.down c.near-a.ensures c.near-b.ensures c.near.ensures
