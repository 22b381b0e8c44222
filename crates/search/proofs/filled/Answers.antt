use Rattle.std.proofs.Common.{List, ℤ, true, arith}
use mathlib.Core.Path.{ap₂}
use Rattle.arith.specs.Mixed.{Proper}
use Rattle.arith.specs.declared.Mixed.{Mixed}
use Rattle.greedy.specs.Sized.{SizedFill}
use Rattle.greedy.proofs.Bounds.{bound-proper}
use Rattle.greedy.proofs.Sizes.{fill-sized}
use Rattle.search.proofs.filled.Goals as goal

pub bound_of-v-requires : goal.bound_of-v-requires
bound_of-v-requires c = rw c.requires.1 (fill-sized c.args.c c.args.e c.requires.0)

pub amounts_over-y-requires : goal.amounts_over-y-requires
amounts_over-y-requires c =
    let sized : SizedFill c.args.c c.args.f = rw c.requires.1 (fill-sized c.args.c c.args.e c.requires.0) in
    let p : Proper c.bound_of-v.result = rw c.bound_of-v.ensures (bound-proper c.args.c c.args.f sized) in
    record { sized = c.requires.0; filled = sized; few = p.few; item_in = omega arith }

pub returns : goal.returns
returns c =
    let y = rw (c.bound_of-v.ensures, c.requires.1) at c.amounts_over-y.ensures in
    let v = rw c.requires.1 at c.bound_of-v.ensures in
    ap₂ (λ (y : List ℤ) (v : Mixed). record { found = true; place = c.args.x; point = y; value = v }) y v
