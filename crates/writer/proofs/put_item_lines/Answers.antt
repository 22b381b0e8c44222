use Rattle.std.proofs.Common.{◌≡◌, refl, sym, add-one, arith}
use Rattle.model.proofs.Records.{unfaulted}
use Rattle.text.proofs.Buffers.{put-nothing, puts, roomier}
use Rattle.sheet.specs.Printing.{up_to}
use Rattle.sheet.specs.Sections.{lines_text}
use Rattle.writer.proofs.put_item_lines.Goals as goal

pub put_item-next-requires : goal.put_item-next-requires
put_item-next-requires c =
    (omega arith, (unfaulted c.args.m c.requires.1).figures c.loop-k.k (omega arith))

pub loop-k-init : goal.loop-k-init
unfolding up_to lines_text
loop-k-init c = record {
  few = (unfaulted c.args.m c.requires.1).most;
  sized = refl;
  put = record { short = omega arith; next = omega arith; bytes = sym (put-nothing c.args.at c.args.out.now) };
}

pub loop-k-preserved : goal.loop-k-preserved
unfolding up_to lines_text
loop-k-preserved c = record {
  few = c.loop-k.invariant.few;
  sized = omega arith;
  put = rw add-one (roomier (omega arith) (puts (omega arith) c.loop-k.invariant.put c.put_item-next.ensures));
}

pub returns : goal.returns
returns c =
    let e : c.loop-k.k ≡ c.args.m.count = omega arith in
    roomier (omega arith) (rw e at c.loop-k.invariant.put)
