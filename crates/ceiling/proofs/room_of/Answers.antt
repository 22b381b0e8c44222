use Rattle.std.proofs.Common.{◌≡◌, ◌∙◌, sym, ap, arith, nat_abs, pos, ◌≤ℤ◌}
use Rattle.arith.specs.Within.{Within}
use Rattle.arith.proofs.Words.{yes_lt, no_lt}
use Rattle.arith.proofs.Parts.{within-abs, within-back}
use Rattle.greedy.specs.declared.Fill.{Fill}
use Rattle.ceiling.specs.Pieces.{room_by}
use Rattle.ceiling.proofs.Pieces.{abs-pos}
use Rattle.ceiling.proofs.Rooms.{room-begun, room_in}
use Rattle.ceiling.proofs.room_of.Goals as goal

pub returns-then-f-lt0 : goal.returns-then-f-lt0
returns-then-f-lt0 c =
    let room-is : c.begin-f.result.room ≡ room_by c.args.cols c.args.ends
    = ap (λ (f : Fill). f.room) c.begin-f.ensures ∙ room-begun c.args.cols c.args.ends in
    let small : Within 4800100000000 c.begin-f.result.room = rw c.begin-f.ensures (room_in c.args.cols c.args.ends c.requires) in
    record {
      left_is = λ n e. absurd (cc);
      small = λ n e. absurd (cc);
      none = λ e. let t = rw (within-back tt small, room-is) at c.if-f-lt0.true in yes_lt t;
    }

pub returns : goal.returns
returns c =
    let room-is : c.begin-f.result.room ≡ room_by c.args.cols c.args.ends
    = ap (λ (f : Fill). f.room) c.begin-f.ensures ∙ room-begun c.args.cols c.args.ends in
    let small : Within 4800100000000 c.begin-f.result.room = rw c.begin-f.ensures (room_in c.args.cols c.args.ends c.requires) in
    let room≥0 : pos 0 ≤ℤ c.begin-f.result.room = no_lt (rw (within-back tt small) at c.if-f-lt0.false) in
    rw (within-back tt small) (record {
      left_is = λ n e. let m : nat_abs c.begin-f.result.room ≡ n = cc in rw (← m) (sym (abs-pos _ room≥0) ∙ room-is);
      small = λ n e. let m : nat_abs c.begin-f.result.room ≡ n = cc in omega (arith, m, within-abs c.begin-f.result.room small);
      none = λ e. absurd (cc);
    })
