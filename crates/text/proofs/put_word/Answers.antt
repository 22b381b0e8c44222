use Rattle.std.proofs.Common.{◌≡◌, ◌+◌, ◌-◌, length, arith}
use lib.Seq.{drop-drop}
use Rattle.text.specs.Buffer.{put}
use Rattle.text.proofs.put_word.Goals as goal

pub returns : goal.returns
unfolding put
returns c =
    let e : c.args.at + length c.args.w.now - c.args.at ≡ length c.args.w.now = omega arith in
    record { short = omega arith; next = omega arith; bytes = rw (e, c.copy_from_slice.ensures.after, drop-drop) }
