use Rattle.std.proofs.Common.{◌<◌}
use Rattle.scales.specs.Filling.{items_of}
use Rattle.residues.specs.Folding.{Absorbs}
use Rattle.residues.proofs.Few.{takes-few}
use Rattle.fillings.proofs.Asked.{radices-small, listed, fit, unkeyed}
use Rattle.fillings.proofs.least_keyed.Goals.{After-keyed_lefts-ls}
use Rattle.fillings.proofs.least_keyed.Goals as goal

pub keyed_takens-ts-requires : goal.keyed_takens-ts-requires
keyed_takens-ts-requires c =
    let s = c.args in
    let g = c.requires.fair.1.1.1 in
    (g.small, radices-small s.r.wide c.radices-rad.result s.from s.left s.g g c.radices-rad.ensures)

pub keyed_lefts-ls-requires : goal.keyed_lefts-ls-requires
keyed_lefts-ls-requires c =
    let s = c.args in
    let g = c.requires.fair.1.1.1 in
    (g.small, radices-small s.r.wide c.radices-rad.result s.from s.left s.g g c.radices-rad.ensures)

-- what is free costs nothing with keys either
free : (c : After-keyed_lefts-ls) → let a = c.args in
    a.free < 17 → Absorbs (items_of a.p.weight a.r.wide c.keyed_takens-ts.result c.keyed_lefts-ls.result) a.free a.room
free c =
    let a = c.args in
    let y = c.requires.chosen in
    unkeyed a.p a.r a.from a.left a.room a.free a.g c.radices-rad.result c.keyed_takens-ts.result c.keyed_lefts-ls.result y.0 y.1
    c.radices-rad.ensures c.keyed_takens-ts.ensures c.keyed_lefts-ls.ensures

pub least_beside-requires-clause-listed : goal.least_beside-requires-clause-listed
least_beside-requires-clause-listed c =
    let a = c.args in
    let x = c.requires.fair in (
      listed a.p a.r a.from a.left a.g c.radices-rad.result c.keyed_takens-ts.result c.keyed_lefts-ls.result x.0 x.1.0 x.1.1.0 x.1.1.1
          c.keyed_takens-ts.ensures c.keyed_lefts-ls.ensures,
      (fit a.p a.r x.0 x.1.0, free (goal.at.least_beside-requires-clause-listed c).After-keyed_lefts-ls),
    )

pub returns : goal.returns
returns c =
    let a = c.args in
    let x = c.requires.fair in
    let l = c.least_beside.ensures in
    record {
      few = takes-few _ a.p.weight a.r.wide c.keyed_takens-ts.result c.keyed_lefts-ls.result a.free a.room _
          (fit a.p a.r x.0 x.1.0) (free (goal.at.returns c).After-keyed_lefts-ls) l.takes_by;
      rad = c.radices-rad.result;
      ts = c.keyed_takens-ts.result;
      ls = c.keyed_lefts-ls.result;
      rads = c.radices-rad.ensures;
      takens = c.keyed_takens-ts.ensures;
      lefts = c.keyed_lefts-ls.ensures;
      least = l.least;
      takes = l.takes_by;
    }
