use Rattle.std.proofs.Common.{◌≡◌, w64, arith, rules, to_z-of_z}
use mir.Val.{SFits}
use Rattle.arith.proofs.Parts.{within-back}
use Rattle.arith.proofs.Words.{back}
use Rattle.greedy.specs.Fill.{at}
use Rattle.setting.specs.Box.{Long}
use Rattle.search.proofs.Boxes.{item<16}
use Rattle.search.proofs.Dives.{start_in}
use Rattle.search.proofs.Resume.{passing-first, passing-sized, passing_step, passing-done}
use Rattle.search.proofs.along.Goals as goal

pub loop-k-init : goal.loop-k-init
loop-k-init c =
    let g : Long c.args.s.ends = record { lo-long = search rules; hi-long = search rules } in
    passing-first c.args.s c.requires.0 g c.args.x c.requires.1

pub start_of-v-requires : goal.start_of-v-requires
start_of-v-requires c =
    let r = c.requires.0 in
    let g : Long c.args.s.ends = record { lo-long = search rules; hi-long = search rules } in
    let z = passing-sized c.args.s r g c.args.x c.requires.1 c.loop-k.y c.loop-k.e c.loop-k.k c.loop-k.invariant in
    (rw (within-back tt z.columns.capacity-in) z, item<16 c.args.s r g c.loop-k.k (omega arith))

pub bounds-e-i : goal.bounds-e-i
bounds-e-i c =
    let g : Long c.args.s.ends = record { lo-long = search rules; hi-long = search rules } in
    item<16 c.args.s c.requires.0 g c.loop-k.k (omega arith)

pub loop-k-preserved : goal.loop-k-preserved
loop-k-preserved c =
    let s = c.args.s in
    let r = c.requires.0 in
    let k = c.loop-k.k in
    let g : Long s.ends = record { lo-long = search rules; hi-long = search rules } in
    let z = passing-sized s r g c.args.x c.requires.1 c.loop-k.y c.loop-k.e k c.loop-k.invariant in
    let v : c.start_of-v.result ≡ start_in s c.loop-k.e k = rw (within-back tt z.columns.capacity-in) at c.start_of-v.ensures in
    let f : SFits w64 (at c.args.x k) = record { sfits = omega arith } in
    rw (back c.start_of-v.result c.start_of-v.type_inv, v, to_z-of_z f)
    (passing_step s r g c.args.x c.requires.1 c.loop-k.y c.loop-k.e k (omega arith) c.loop-k.invariant)

pub returns : goal.returns
returns c =
    let g : Long c.args.s.ends = record { lo-long = search rules; hi-long = search rules } in
    passing-done c.args.s c.requires.0 g c.args.x c.requires.1 c.loop-k.y c.loop-k.e c.loop-k.k (omega arith) c.loop-k.invariant
