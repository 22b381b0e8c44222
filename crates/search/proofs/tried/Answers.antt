use Rattle.std.proofs.Common.{◌≡◌, ◌∙◌, sym, ap, subst, true, false, cond, pos}
use lib.Signed.{lt_z}
use Rattle.arith.proofs.Parts.{within-back}
use Rattle.greedy.specs.Fill.{fill}
use Rattle.greedy.specs.Sized.{SizedFill}
use Rattle.greedy.proofs.Sizes.{fill-sized}
use Rattle.search.specs.Ahead.{ahead_by}
use Rattle.search.specs.Search.{betters, better_by, tried_by}
use Rattle.search.proofs.tried.Goals.{Else-f-lt0, After-is_better}
use Rattle.search.proofs.tried.Goals as goal

pub returns-then-f-lt0 : goal.returns-then-f-lt0
unfolding tried_by better_by
returns-then-f-lt0 c =
    let t = rw (c.fill_up-f.ensures, within-back tt (fill-sized c.args.c c.args.e c.requires.sized).room_in) at c.if-f-lt0.true in
    record { best-is = rw t; better-is = rw t }

not-empty : (c : Else-f-lt0) → lt_z (fill c.args.c c.args.e).room (pos 0) ≡ false
not-empty c = rw (c.fill_up-f.ensures, within-back tt (fill-sized c.args.c c.args.e c.requires.sized).room_in) at c.if-f-lt0.false

pub is_better-requires : goal.is_better-requires
is_better-requires c =
    (c.requires.sized, (subst (λ f. SizedFill c.args.c f) (sym c.fill_up-f.ensures) (fill-sized c.args.c c.args.e c.requires.sized), c.requires.proper))

better-is : (c : After-is_better) → c.is_better.result ≡ betters c.args.c c.args.e c.args.best
better-is c = c.is_better.ensures ∙ ap (λ f. cond c.args.best.found (ahead_by c.args.c c.args.e f c.args.best) true) c.fill_up-f.ensures

pub filled-requires : goal.filled-requires
filled-requires c = (c.requires.sized, c.fill_up-f.ensures)

pub returns-then-is_better : goal.returns-then-is_better
unfolding tried_by better_by
returns-then-is_better c =
    let at = goal.at.returns-then-is_better c in
    let h = sym (better-is at.After-is_better) ∙ c.if-is_better.true in
    record { best-is = rw (not-empty at.Else-f-lt0, h) c.filled.ensures; better-is = rw (not-empty at.Else-f-lt0, h) }

pub returns : goal.returns
unfolding tried_by better_by
returns c =
    let at = goal.at.returns c in
    let h = sym (better-is at.After-is_better) ∙ c.if-is_better.false in
    record { best-is = rw (not-empty at.Else-f-lt0, h); better-is = rw (not-empty at.Else-f-lt0, h) }
