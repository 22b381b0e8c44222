use Rattle.std.proofs.Common.{◌≡◌, ◌<◌, arith}
use Rattle.scales.specs.Filling.{items_of}
use Rattle.residues.specs.Folding.{folded}
use Rattle.residues.proofs.Sizes.{beyond-small}
use Rattle.residues.proofs.Built.{items-folded, listed-folded, answer-folded}
use Rattle.residues.proofs.least_modulo.Goals.{After-swapped_costs-lefts}
use Rattle.residues.proofs.least_modulo.Goals as goal

pub folded_capacity-whole-requires : goal.folded_capacity-whole-requires
folded_capacity-whole-requires c =
    let fit = c.requires.listed.1.0 in
    let a = c.requires.listed.1.1 in
    let in-17 : c.args.f < 17 = omega (arith, a.inside, fit.long) in
    (fit, (a.by.some, (in-17, omega (arith, a.by.reaches, beyond-small _ _ c.args.f fit in-17))))

-- the lists show the folded parts
same : (c : After-swapped_costs-lefts) → let g = c.args in
    items_of c.folded_weights-weights.result c.folded_ranges-ranges.result c.swapped_costs-takens.result c.swapped_costs-lefts.result
    ≡ folded g.f g.capacity (items_of g.ws g.us g.ts g.ls)
same c =
    let g = c.args in
    let x = c.requires.listed in
    items-folded g.cap g.ws g.us g.ts g.ls g.f g.capacity c.folded_capacity-whole.result _ _ _ _ x.1.0 x.0 x.1.1.inside
    c.folded_capacity-whole.ensures c.folded_weights-weights.ensures c.folded_ranges-ranges.ensures c.swapped_costs-takens.ensures c.swapped_costs-lefts.ensures

pub least_cost-requires : goal.least_cost-requires
least_cost-requires c =
    let g = c.args in
    let x = c.requires.listed in
    let h = listed-folded g.cap g.ws g.us g.ts g.ls g.f g.capacity _ _ _ _ x.1.0 x.1.1 x.0 (same (goal.at.least_cost-requires c).After-swapped_costs-lefts)
    c.folded_ranges-ranges.ensures.long c.swapped_costs-takens.ensures.long c.swapped_costs-lefts.ensures.long in
    record { listed = h.0; ws_in_bounds = omega (arith, h.1) }

pub returns : goal.returns
returns c =
    let g = c.args in
    let h = answer-folded g.cap (items_of g.ws g.us g.ts g.ls) _ g.f g.capacity _ _ _ c.requires.listed.1.1
    (same (goal.at.returns c).After-swapped_costs-lefts) c.folded_capacity-whole.ensures c.least_cost.ensures.least c.least_cost.ensures.takes in
    record { least = h.0; takes = h.1 }
