use Rattle.lines.proofs.Blocks.{match-hits}
use Rattle.lines.proofs.block.hits_of.Goals as goal

pub returns : goal.returns
returns c = match-hits c.args.w c.ranges.w.fits
