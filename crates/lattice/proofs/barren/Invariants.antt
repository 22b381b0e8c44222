use Rattle.std.proofs.Common.{◌≡◌, ◌-◌, ◌+◌, ◌*◌}
use Rattle.arith.specs.Within.{Within}
use Rattle.lattice.specs.Lattice.{barren_from, first_rung, tries}
use Rattle.lattice.proofs.barren.Given as goal

-- the descent from r with the rungs that are left is the one asked for, and no figure has grown by more than the strides taken
abbrev pub invariant-loop-k : goal.invariant-loop-k
invariant-loop-k l = record {
  same : barren_from tries l.l l.f l.b (first_rung l.l l.room) ≡ barren_from (tries - l._k) l.l l.f l.b l.r;
  weight-in : Within (20000000001000 + 1000 * l._k) l.r.weight;
  worth-in : Within (10000000000000000 + 100000000 * l._k) l.r.worth;
}
