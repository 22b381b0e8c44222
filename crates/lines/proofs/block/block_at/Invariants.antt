use Rattle.std.proofs.Common.{◌≡◌, ◌+◌, ◌-◌, take, drop}
use Rattle.lines.specs.Blocks.{block_of}
use Rattle.lines.proofs.block.block_at.Given as goal

-- the bytes from i on are in the number
abbrev pub invariant-loop-i : goal.invariant-loop-i
invariant-loop-i l = l.w ≡ block_of (take (8 - l.i) (drop (l.at + l.i) l.s))
