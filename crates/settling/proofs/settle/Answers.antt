use Rattle.std.proofs.Common.{◌≡◌, ◌∙◌, refl, sym, subst, ℕ, ℤ, List, None, Some, false, pos, ◌<◌, ◌≤ℤ◌, ◌<ℤ◌, arith}
use Rattle.arith.proofs.Words.{yes_lt, no_lt}
use Rattle.arith.proofs.Parts.{impossible, within-back}
use Rattle.greedy.proofs.Sizes.{fill-sized}
use Rattle.greedy.specs.Fill.{at, fill, place}
use Rattle.greedy.proofs.Relaxed.{fill-empty}
use Rattle.settling.specs.Settling.{Best, SettleWrites, empty, kept, framed}
use Rattle.settling.proofs.Best.{kept-best, found-best, found_first, settle-most}
use Rattle.settling.proofs.settle.Goals.{Else-f-lt0}
use Rattle.settling.proofs.settle.Goals as goal

unshown : {v : List ℤ} → None ≡ Some v → ⊥
unshown e = let z : ◌≡◌ {A = ℕ} 0 1 = cc in omega arith

own : {u v : List ℤ} → Some u ≡ Some v → u ≡ v
own e = cc

-- where there is room
roomy : (c : Else-f-lt0) → pos 0 ≤ℤ (fill c.args.cols c.args.ends).room
roomy c = let z = (fill-sized c.args.cols c.args.ends c.requires.boxes.0.sized).room_in in no_lt (rw (c.fill_up-f.ensures, within-back tt z) at c.if-f-lt0.false)

level_in : (c : Else-f-lt0) → (d : ℕ) → d < c.args.levels → place c.args.level d < 16
level_in c d l = let x = c.requires.boxes.0 in omega (arith, x.level_in d l, x.sized.columns.few)

pub returns-then-f-lt0 : goal.returns-then-f-lt0
returns-then-f-lt0 c =
    let a = c.args in
    let x = c.requires.boxes.0 in
    let none : (fill a.cols a.ends).room <ℤ pos 0 = yes_lt (rw (c.fill_up-f.ensures, within-back tt (fill-sized a.cols a.ends x.sized).room_in) at c.if-f-lt0.true) in
    record {
      settles = record {
        few = omega arith;
        found = λ v i. absurd (unshown i);
        first = λ i. absurd (impossible i);
        none = λ i marks D N d p. fill-empty a.cols a.ends marks x.ordered x.in_order none D N d p;
      };
      settle_writes = empty none;
    }

pub wholes-whole-requires : goal.wholes-whole-requires
wholes-whole-requires c = (c.requires.boxes.0.few, level_in (goal.at.wholes-whole-requires c).Else-f-lt0)

pub ceiling-b-requires : goal.ceiling-b-requires
ceiling-b-requires c =
    let x = c.requires.boxes.0 in
    record {
      sized = (x.sized, (x.ordered, (x.in_order, (roomy (goal.at.ceiling-b-requires c).Else-f-lt0, λ i. (c.requires.boxes.1 i).proper))));
      spanned = (x.spanned, c.requires.in_bounds);
    }

pub by_level-y-requires : goal.by_level-y-requires
by_level-y-requires c = (c.requires.boxes.0.few, level_in (goal.at.by_level-y-requires c).Else-f-lt0)

pub returns-in-Some : goal.returns-in-Some
returns-in-Some c =
    let a = c.args in
    let e = (goal.at.returns-in-Some c).Else-f-lt0 in
    let x = c.in-Some.best in
    let w = c.wholes-whole in
    let b = c.ceiling-b.ensures in
    let h = b.found x c.in-Some.is in
    let y = c.by_level-y in
    let writes : SettleWrites a.cols a.ends a.level a.levels a.known a.value c.is_last-last.result c.ceiling-b.result.written
    = rw c.is_last-last.ensures (framed w.result c.ceiling-b.result x (roomy e) w.ensures b c.in-Some.is) in
    record {
      settles = record {
        few = omega (arith, settle-most writes);
        found = λ v i. subst (λ xs. Best a.cols a.ends a.level a.levels (at xs)) (own i)
            (found-best a.cols a.ends a.level a.levels c.requires.boxes.0 w.result w.ensures a.known a.value
            c.ceiling-b.result b x h y.result y.ensures);
        first = λ i. (
          y.result,
          refl,
          found_first a.cols a.ends a.level a.levels c.requires.boxes.0 w.result w.ensures a.known a.value
              c.ceiling-b.result b x h y.result y.ensures (sym c.is_last-last.ensures ∙ i),
        );
        none = λ i. absurd (unshown (sym i));
      };
      settle_writes = writes;
    }

pub returns-in-None : goal.returns-in-None
returns-in-None c =
    let a = c.args in
    let e = (goal.at.returns-in-None c).Else-f-lt0 in
    let w = c.wholes-whole in
    let b = c.ceiling-b.ensures in
    let k = b.kept c.in-None.is in
    let writes : SettleWrites a.cols a.ends a.level a.levels a.known a.value false c.ceiling-b.result.written
    = kept w.result c.ceiling-b.result (roomy e) w.ensures b c.in-None.is in
    record {
      settles = record {
        few = omega (arith, settle-most writes);
        found = λ v i. subst (λ xs. Best a.cols a.ends a.level a.levels (at xs)) (own i)
            (kept-best a.cols a.ends a.level a.levels c.requires.boxes.0 (at a.x) a.value w.result w.ensures (c.requires.boxes.1 k.0) k.1);
        first = λ i. absurd (impossible i);
        none = λ i. absurd (unshown (sym i));
      };
      settle_writes = writes;
    }
