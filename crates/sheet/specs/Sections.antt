-- A section of a sheet, both ways: what reading it does, and the text that it is. Paper 01, "The sheet".
--   goes_on m at k            the reading goes on at a place: nothing is refused as yet
--   stopped_by r              a refusal ends the reading, with the empty record
--   refused_at s n at         refusal n, told at the line that holds a place
--   on_verdict v a b          a if v accepts, else b
--   onward p q               q, while nothing is refused in p
--   on_count c f g            f of a heading's refusal; g of its count and the place behind it
--   LineForm A               a kind of line: what is read where a reading stands, the text of a value,
--                            and the record and the item number with the value taken in
--   taken f s p x            what the line gave is taken in
--   step_of f s p             one line is read
--   lines_of f n s p          n lines are read
--   section_of f w r m s p    a heading is read with the word w and a count in the range r, then as many lines, from the record m of the count
--   lines_text t vs           the text of lines; the list has the last line in front
--   section_text f w vs       the text of a section with those lines
use Rattle.std.specs.Prelude.{List, [], ◌∷◌, ◌++◌, ℕ, zero, suc, length}
use Rattle.knapsack.specs.declared.Refusal.{Refusal}
use Rattle.knapsack.specs.Verdicts.{Verdict}
use Rattle.std.specs.Prelude.{Ok, Err}
use Rattle.model.specs.declared.Model.{Model}
use Rattle.model.specs.declared.refusals.Reason.{Reason}
use Rattle.model.specs.Records.{empty_model}
use Rattle.lines.specs.declared.number.Range.{Range}
use Rattle.lines.specs.Places.{line_at, refusal_on}
use Rattle.lines.specs.Faults.{Read}
use Rattle.lines.specs.Lines.{count_at}
use Rattle.lines.specs.Layout.{heading_text}
use Rattle.sheet.specs.declared.Progress.{Progress}

-- ---- a reading goes on, or a refusal ends it

abbrev pub goes_on : Model → ℕ → ℕ → Progress
goes_on m at k = record { verdict = Ok tt; model = m; at = at; item = k }

abbrev pub stopped_by : Refusal → Progress
stopped_by r = record { verdict = Err r; model = empty_model; at = 0; item = 0 }

abbrev pub refused_at : List ℕ → Reason → ℕ → Progress
refused_at s n at = stopped_by (refusal_on n (line_at s at))

abbrev pub on_verdict : {A : Type 0} → Verdict → A → A → A
on_verdict (Ok tt) a b = a
on_verdict (Err r) a b = b

abbrev pub onward : Progress → Progress → Progress
onward p q = on_verdict p.verdict q p

abbrev pub on_count : {A : Type 0} → Read ℕ → (Reason → A) → (ℕ → ℕ → A) → A
on_count (Err n) f g = f n
on_count (Ok (m, n)) f g = g m n

-- ---- lines are read

pub record LineForm (A : Type 0) : Type 0 where
  pub read : List ℕ → Progress → Read A
  pub text : A → List ℕ
  pub fill : Progress → A → Model
  pub item : Progress → A → ℕ

abbrev pub taken : {A : Type 0} → LineForm A → List ℕ → Progress → Read A → Progress
taken f s p (Err n) = refused_at s n p.at
taken f s p (Ok (a, n)) = goes_on (f.fill p a) n (f.item p a)

unfoldable pub step_of : {A : Type 0} → LineForm A → List ℕ → Progress → Progress
step_of f s p = onward p (taken f s p (f.read s p))

unfoldable pub lines_of : {A : Type 0} → LineForm A → ℕ → List ℕ → Progress → Progress
lines_of f zero s p = p
lines_of f (suc n) s p = step_of f s (lines_of f n s p)

unfoldable pub section_of : {A : Type 0} → LineForm A → List ℕ → Range → (ℕ → Model) → List ℕ → Progress → Progress
section_of f w r m s p = onward p (on_count (count_at w r s p.at) (λ n. refused_at s n p.at) (λ n next. lines_of f n s (goes_on (m n) next 0)))

-- ---- the text

unfoldable pub lines_text : {A : Type 0} → (A → List ℕ) → List A → List ℕ
lines_text t [] = []
lines_text t (a ∷ vs) = lines_text t vs ++ t a

abbrev pub section_text : {A : Type 0} → LineForm A → List ℕ → List A → List ℕ
section_text f w vs = heading_text w (length vs) ++ lines_text f.text vs
