-- The buffer is tried before a byte is written.
use Rattle.std.proofs.Common.{◌∙◌}
use borrow.Author.Tests.{lt-ltb, le-ltb}
use Rattle.text.specs.Buffer.{told, filled}
use Rattle.text.proofs.Buffers.{put-start}
use Rattle.text.proofs.hand_over.Goals as goal

pub returns-then-out-text-clause-value : goal.returns-then-out-text-clause-value
unfolding told
returns-then-out-text-clause-value c = rw (lt-ltb _ _ c.if-out-text.true, c.number.ensures)

pub returns-then-out-text-clause-out_after : goal.returns-then-out-text-clause-out_after
unfolding filled
returns-then-out-text-clause-out_after c = rw (lt-ltb _ _ c.if-out-text.true)

pub returns-clause-value : goal.returns-clause-value
unfolding told
returns-clause-value c = rw (le-ltb _ _ c.if-out-text.false)

pub returns-clause-out_after : goal.returns-clause-out_after
unfolding filled
returns-clause-out_after c = rw (le-ltb _ _ c.if-out-text.false) (c.put_word.ensures.bytes ∙ put-start c.args.text.now c.args.out.now)
