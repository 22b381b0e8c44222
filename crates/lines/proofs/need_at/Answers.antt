use Rattle.std.proofs.Common.{rules, ◌≡◌, sym, ◌∙◌, w64, arith, pos, ◌≤ℤ◌, Ok, Some}
use Rattle.std.proofs.lemmas.Result.{err_from_is_err_and}
use mir.Facts.{to_z_pos, to_z-of_z}
use mir.Val.{SFits}
use Rattle.arith.proofs.Parts.{cast-in}
use Rattle.arith.proofs.Integers.{≤ℤ-trans}
use Rattle.lines.specs.Numbers.{from_to}
use Rattle.lines.specs.Lines.{numbers_line, need_read}
use Rattle.lines.proofs.Shapes.{numbers-range}
use Rattle.lines.proofs.need_at.Goals as goal

pub returns-in_err-item : goal.returns-in_err-item
unfolding need_read
returns-in_err-item c =
    let p = err_from_is_err_and c.from_residual.result c.from_residual.ensures.1 in
    let e = to_z_pos w64 {n = c.args.n} (omega arith) in
    rw (p.1, p.2, sym (rw e at c.numbers_line.ensures) ∙ c.in_err-item.was)

pub returns-in_default : goal.returns-in_default
unfolding need_read
returns-in_default c =
    let e = to_z_pos w64 {n = c.args.n} (omega arith) in
    rw (sym (rw e at c.numbers_line.ensures) ∙ c.in_ok-item.was, c.in_default.is-0, c.in_default.is-1)

pub returns-in_default-2 : goal.returns-in_default-2
unfolding need_read
returns-in_default-2 c =
    let e = to_z_pos w64 {n = c.args.n} (omega arith) in
    rw (sym (rw e at c.numbers_line.ensures) ∙ c.in_ok-item.was, c.in_default.is-0)

-- the line that was read
numbers : (c : goal.In-Some-Some) →
    numbers_line (from_to 1 c.args.n) (from_to 1 c.args.n) c.args.s.now c.args.at ≡ Ok ((Some c.in-Some-Some.k, Some c.in-Some-Some.m), c.in_ok-item.next)
numbers c =
    let e = to_z_pos w64 {n = c.args.n} (omega arith) in
    sym (rw e at c.numbers_line.ensures) ∙ c.in_ok-item.was ∙ rw (c.in-Some-Some.is-0, c.in-Some-Some.is-1)

item-fits : (c : goal.In-Some-Some) → SFits w64 c.in-Some-Some.k
item-fits c = search rules

cover-fits : (c : goal.In-Some-Some) → SFits w64 c.in-Some-Some.m
cover-fits c = search rules

above : pos 0 ≤ℤ pos 1
above = record { le = tt }

pub overflow_cast-need : goal.overflow_cast-need
overflow_cast-need c =
    let r = numbers-range _ _ _ _ _ _ _ (numbers c) in rw (to_z-of_z (item-fits c)) (cast-in (≤ℤ-trans above r.0.0) (item-fits c))

pub overflow_cast-need-2 : goal.overflow_cast-need-2
overflow_cast-need-2 c =
    let r = numbers-range _ _ _ _ _ _ _ (numbers c) in rw (to_z-of_z (cover-fits c)) (cast-in (≤ℤ-trans above r.1.0) (cover-fits c))

pub returns-then-is_bad_line : goal.returns-then-is_bad_line
unfolding need_read
returns-then-is_bad_line c =
    let e = to_z_pos w64 {n = c.args.n} (omega arith) in
    let i : SFits w64 c.in-Some-Some.k = search rules in
    let k : SFits w64 c.in-Some-Some.m = search rules in
    let b = sym (rw (to_z-of_z i, to_z-of_z k) at c.is_bad_line.ensures) ∙ c.if-is_bad_line.true in
    rw (sym (rw e at c.numbers_line.ensures) ∙ c.in_ok-item.was, c.in-Some-Some.is-0, c.in-Some-Some.is-1, b)

pub returns : goal.returns
unfolding need_read
returns c =
    let e = to_z_pos w64 {n = c.args.n} (omega arith) in
    let i : SFits w64 c.in-Some-Some.k = search rules in
    let k : SFits w64 c.in-Some-Some.m = search rules in
    let b = sym (rw (to_z-of_z i, to_z-of_z k) at c.is_bad_line.ensures) ∙ c.if-is_bad_line.false in
    rw (sym (rw e at c.numbers_line.ensures) ∙ c.in_ok-item.was, c.in-Some-Some.is-0, c.in-Some-Some.is-1, b, to_z-of_z i, to_z-of_z k)
