use Rattle.std.proofs.Common.{◌-◌, ◌/◌, arith}
use native.Mathlib.Nat.{div-le_self}
use Rattle.fillings.specs.Ranges.{num}
use Rattle.fillings.specs.Leaps.{Heads}
use Rattle.fillings.proofs.Heads.{heads-kept, heads-short, opens_kept}
use Rattle.fillings.proofs.opening.Goals.{After-nearer-g}
use Rattle.fillings.proofs.opening.Goals as goal

-- the ranges with the parts before `to` fixed are a head
heads : (c : After-nearer-g) → let a = c.args in Heads a.p a.w.capacity (a.cap - 1) c.nearer-g.result a.to a.to
heads c =
    let a = c.args in
    heads-kept a.p a.w.capacity a.cap c.head-f.result c.nearer-g.result a.to a.to c.requires.1.1.0 c.nearer-g.ensures c.head-f.ensures

pub shortened-s-requires : goal.shortened-s-requires
shortened-s-requires c =
    let x = c.requires in
    (x.0, ((heads (goal.at.shortened-s-requires c).After-nearer-g).among, (omega (arith, x.1.1.1.0), div-le_self (num c.nearer-g.result.wide c.args.to) c.args.share)))

pub nearer-requires : goal.nearer-requires
nearer-requires c =
    let a = c.args in
    let x = c.requires in
    let w = num c.nearer-g.result.wide a.to in (
      x.0,
      (
        (heads-short a.p a.w.capacity (a.cap - 1) c.nearer-g.result c.shortened-s.result a.to (w / a.share) x.1.1.1.0 (div-le_self w a.share)
            (heads (goal.at.nearer-requires c).After-nearer-g) c.shortened-s.ensures).among,
        x.1.0,
      ),
    )

pub returns : goal.returns
returns c =
    let a = c.args in
    let x = c.requires in
    opens_kept a.p a.w.capacity a.cap c.nearer-g.result c.shortened-s.result c.nearer.result a.to a.share x.1.1.1.0 x.1.1.1.1
    x.1.1.0 (heads (goal.at.returns c).After-nearer-g) c.shortened-s.ensures c.nearer.ensures
