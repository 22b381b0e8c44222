use Rattle.std.proofs.Common.{◌≡◌, refl, sym, add-one, arith}
use Rattle.text.proofs.Buffers.{put-nothing, puts, roomier}
use Rattle.watching.specs.Watching.{fall_lines}
use Rattle.watching.proofs.put_falls.Goals as goal

pub bounds-of-k : goal.bounds-of-k
bounds-of-k c = c.requires.1.1 c.loop-u.u

pub put_fall-next-requires : goal.put_fall-next-requires
put_fall-next-requires c = (omega arith, c.requires.1.1 c.loop-u.u)

pub loop-u-init : goal.loop-u-init
unfolding fall_lines
loop-u-init c = record { sized = refl; put = record { short = omega arith; next = omega arith; bytes = sym (put-nothing 0 c.args.out.now) } }

pub loop-u-preserved : goal.loop-u-preserved
unfolding fall_lines
loop-u-preserved c = record {
  sized = omega arith;
  put = rw add-one (roomier (omega arith) (puts (omega arith) c.loop-u.invariant.put c.put_fall-next.ensures));
}

pub returns : goal.returns
returns c =
    let e : c.loop-u.u ≡ c.args.n = omega arith in
    rw e at c.loop-u.invariant.put
