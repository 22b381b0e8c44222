use Rattle.std.proofs.Common.{◌∙◌, ap₂, nat_abs, ◌-ℤ◌, arith}
use lib.Dec.{lit<}
use Rattle.arith.proofs.Parts.{within_more, within-sub, within-sfits, within-back}
use Rattle.ceiling.proofs.frame_of.Goals as goal

pub overflow_sub-top : goal.overflow_sub-top
overflow_sub-top c =
    let top = c.top_of.ensures.1 in
    rw (within-back tt c.requires.1.1, within-back tt top) (within-sfits (lit< tt) (within-sub c.requires.1.1 top))

pub magnitude-less-requires : goal.magnitude-less-requires
magnitude-less-requires c =
    let top = c.top_of.ensures.1 in
    let wide = within-sub c.requires.1.1 top in
    rw (within-back tt c.requires.1.1, within-back tt top, within-back tt wide) (within_more (omega arith) wide)

pub returns : goal.returns
returns c =
    let top = c.top_of.ensures in
    let less = rw (within-back tt c.requires.1.1, within-back tt top.1, within-back tt (within-sub c.requires.1.1 top.1)) at c.magnitude-less.ensures in
    record {
      cut-is = c.cut_of-cut.ensures;
      scale-is = c.scale_of-scale.ensures;
      ends-are = c.framed-e.ensures;
      less-is = less ∙ ap₂ (λ x y. nat_abs (x -ℤ y)) c.requires.1.0 top.0;
    }
