use Rattle.std.proofs.Common.{◌≡◌, arith, rules}
use Rattle.arith.proofs.Parts.{within-back}
use Rattle.arith.proofs.Words.{back}
use Rattle.setting.specs.Box.{Long}
use Rattle.search.specs.Steps.{LongPath}
use Rattle.search.proofs.Boxes.{item<16}
use Rattle.search.proofs.Dives.{start_in, diving-first, diving-sized, diving-step, diving-done}
use Rattle.search.proofs.dive.Goals as goal

pub fixed_in-e-requires : goal.fixed_in-e-requires
fixed_in-e-requires c =
    let r = c.requires.0 in
    let g : Long c.args.s.ends = record { lo-long = search rules; hi-long = search rules } in
    (omega (arith, c.requires.1.0, r.ready.few), λ k h. item<16 c.args.s r g k (omega (arith, c.requires.1.0)))

pub loop-k-init : goal.loop-k-init
loop-k-init c =
    let g : LongPath c.args.p = record { place-long = search rules; starts-long = search rules } in
    diving-first c.args.s c.args.j c.args.p c.fixed_in-e.result c.requires.1.0 g c.fixed_in-e.ensures c.requires.1.1

pub start_of-v-requires : goal.start_of-v-requires
start_of-v-requires c =
    let r = c.requires.0 in
    let g : Long c.args.s.ends = record { lo-long = search rules; hi-long = search rules } in
    let z = diving-sized c.args.s r g c.args.j c.args.p _ c.loop-k.e c.loop-k.k c.loop-k.invariant in
    (rw (within-back tt z.columns.capacity-in) z, item<16 c.args.s r g c.loop-k.k (omega arith))

pub bounds-e-i : goal.bounds-e-i
bounds-e-i c =
    let g : Long c.args.s.ends = record { lo-long = search rules; hi-long = search rules } in
    item<16 c.args.s c.requires.0 g c.loop-k.k (omega arith)

pub loop-k-preserved : goal.loop-k-preserved
loop-k-preserved c =
    let r = c.requires.0 in
    let g : Long c.args.s.ends = record { lo-long = search rules; hi-long = search rules } in
    let z = diving-sized c.args.s r g c.args.j c.args.p _ c.loop-k.e c.loop-k.k c.loop-k.invariant in
    let v : c.start_of-v.result ≡ start_in c.args.s c.loop-k.e c.loop-k.k = rw (within-back tt z.columns.capacity-in) at c.start_of-v.ensures in
    rw (back c.start_of-v.result c.start_of-v.type_inv, v)
    (diving-step c.args.s r g c.args.j c.args.p _ c.loop-k.e c.loop-k.k (omega arith) c.loop-k.invariant)

pub returns : goal.returns
returns c =
    let g : Long c.args.s.ends = record { lo-long = search rules; hi-long = search rules } in
    diving-done c.args.s c.requires.0 g c.args.j c.args.p _ c.loop-k.e c.loop-k.k (omega arith) c.loop-k.invariant
