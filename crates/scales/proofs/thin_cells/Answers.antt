use Rattle.std.proofs.Common.{◌≡◌, refl, arith}
use Rattle.scales.specs.Counts.{thin_of}
use Rattle.scales.proofs.Cells.{thin_reads, thinning-step, thinning-done}
use Rattle.scales.proofs.thin_cells.Goals as goal

pub loop-x-preserved : goal.loop-x-preserved
loop-x-preserved c =
    let a = c.args in
    let x = c.loop-x.x in
    let r = thin_reads a.n a.s a.bit x (omega arith) (omega arith) in
    thinning-step x (omega (arith, r.0, r.1)) r.0 c.loop-x.invariant

pub returns-clause-cells_len_unchanged : goal.returns-clause-cells_len_unchanged
returns-clause-cells_len_unchanged c =
    let a = c.args in
    let i = c.loop-x.invariant in
    let e : c.loop-x.x ≡ thin_of a.n a.s a.bit = omega arith in
    (i.same, λ cap. thinning-done cap a.n (omega arith) refl (rw e at i))
