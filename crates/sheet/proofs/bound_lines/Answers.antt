use Rattle.std.proofs.Common.{ℕ, List, Option, ℤ, Ok, Err, suc, ◌≡◌, ◌+◌, ◌-◌, refl, sym, ◌∙◌, add-one, arith}
use Rattle.model.specs.declared.Model.{Model}
use Rattle.model.specs.declared.Side.{Side}
use Rattle.model.specs.declared.refusals.Reason.{Reason}
use Rattle.model.specs.Setters.{with_bound}
use Rattle.lines.specs.Lines.{bound_read}
use Rattle.sheet.specs.Sections.{goes_on, refused_at, step_of, lines_of}
use Rattle.sheet.specs.Reading.{bound_form}
use Rattle.sheet.proofs.Steps.{lines-stopped, one_more}
use Rattle.sheet.proofs.bound_lines.Goals as goal

pub loop-k-init : goal.loop-k-init
unfolding lines_of
loop-k-init c = refl

-- one line, by what it gives
module _ (s : List ℕ) (side : Side) (m : Model) (at k : ℕ) where
  line-faults : (n : Reason) → bound_read (suc k) s at ≡ Err n → step_of (bound_form side) s (goes_on m at k) ≡ refused_at s n at
  unfolding step_of
  line-faults n h = rw h

  line_gives : (b : Option ℤ) (next : ℕ) → bound_read (suc k) s at ≡ Ok (b, next) → step_of (bound_form side) s (goes_on m at k) ≡
      goes_on (with_bound m side k b) next (suc k)
  unfolding step_of
  line_gives b next h = rw h

pub returns-in-Err : goal.returns-in-Err
returns-in-Err c =
    let a = c.args in
    let t = a.s.now in
    let f = bound_form a.side in
    let i = c.loop-k.k in
    let h = line-faults t a.side c.loop-k.to c.loop-k.at i _ (sym (rw add-one at c.bound_at.ensures) ∙ c.in-Err.is) in
    let e : a.n ≡ a.n - suc i + suc i = omega (arith, c.loop-k-test.true) in
    let p = goes_on a.m a.from 0 in
    c.refused.ensures ∙ sym (lines-stopped f t p _ (suc i) (a.n - suc i) a.n e (sym (one_more f t p _ i c.loop-k.invariant) ∙ h))

pub loop-k-preserved : goal.loop-k-preserved
loop-k-preserved c =
    let a = c.args in
    let t = a.s.now in
    let i = c.loop-k.k in
    let h = line_gives t a.side c.loop-k.to c.loop-k.at i _ _ (sym (rw add-one at c.bound_at.ensures) ∙ c.in-Ok.is) in
    rw (add-one, c.with_side.ensures) (sym h ∙ one_more (bound_form a.side) t (goes_on a.m a.from 0) _ i c.loop-k.invariant)
