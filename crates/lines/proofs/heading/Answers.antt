use Rattle.std.proofs.Common.{rules, ◌≡◌, sym, ◌∙◌, w64, Ok, Some}
use Rattle.std.proofs.lemmas.Result.{err_from_is_err_and}
use mir.Facts.{to_z-of_z}
use mir.Val.{SFits}
use Rattle.arith.proofs.Parts.{cast-in}
use Rattle.arith.proofs.Integers.{≤ℤ-trans}
use Rattle.lines.specs.Lines.{heading_line, count_at}
use Rattle.lines.proofs.Shapes.{heading-range}
use Rattle.lines.proofs.heading.Goals as goal

pub returns-in_err-count : goal.returns-in_err-count
unfolding count_at
returns-in_err-count c =
    let p = err_from_is_err_and c.from_residual.result c.from_residual.ensures.1 in
    rw (p.1, p.2, sym c.heading_line.ensures ∙ c.in_err-count.was)

pub returns-in_default : goal.returns-in_default
unfolding count_at
returns-in_default c = rw (sym c.heading_line.ensures ∙ c.in_ok-count.was, c.in_default.is)

-- the heading that was read
read : (c : goal.In-Some) → heading_line c.args.word.now c.args.range c.args.s.now c.args.at ≡ Ok (Some c.in-Some.n, c.in_ok-count.next)
read c = sym c.heading_line.ensures ∙ c.in_ok-count.was ∙ rw c.in-Some.is

fits : (c : goal.In-Some) → SFits w64 c.in-Some.n
fits c = search rules

pub overflow_cast-result : goal.overflow_cast-result
overflow_cast-result c = rw (to_z-of_z (fits c)) (cast-in (≤ℤ-trans c.requires.1 (heading-range _ _ _ _ _ _ (read c)).0) (fits c))

pub returns : goal.returns
unfolding count_at
returns c = rw (to_z-of_z (fits c), read c)
