-- A section of any form of line, both ways (specs/Sections.antt).
-- no-refusal: a refusal is no acceptance. went, step-read: what an accepted step did. step-on: a step where nothing was refused.
-- onward-keeps, step_keeps, lines_keep, section-keeps: what steps keep.
-- section-before: a section is read where nothing was refused.
--   Laws f Fits       what a form owes: a line that is read stands there and fits, and a line that stands there and fits is read
--   Fitting I Fits    each line of a list fits where those before it have been read
-- lines-read, section-read: what is accepted stands there, line by line. lines-back, section-back: what stands there is accepted.
-- Both carry along an invariant I m vs p of a section of m lines, of which vs have been read, the last in front.
use mathlib.Core.Path.{◌≡◌, refl, sym, ap, ◌∙◌}
use mathlib.Core.List.{List, [], ◌∷◌, ◌++◌, append_assoc}
use Prim.Native.Nat.{ℕ, zero, suc, ◌≤◌, ◌<◌}
use native.Mathlib.Omega.{arith}
use lib.ListN.{length, drop}
use Rattle.knapsack.specs.declared.Refusal.{Refusal}
use Rattle.knapsack.specs.Verdicts.{Verdict}
use Rattle.std.specs.Prelude.{Ok, Err}
use Rattle.model.specs.declared.Model.{Model}
use Rattle.lines.specs.declared.number.Range.{Range}
use Rattle.lines.specs.Numbers.{from_to}
use Rattle.lines.specs.Lines.{count_at}
use Rattle.lines.specs.Layout.{heading_text}
use Rattle.lines.proofs.Shapes.{count-parts}
use Rattle.lines.proofs.Standing.{Has, has_join, has-none, Bytes, count-has}
use Rattle.lines.proofs.Rereading.{count-reads}
use Rattle.sheet.specs.declared.Progress.{Progress}
use Rattle.sheet.specs.Sections.{goes_on, stopped_by, refused_at, on_verdict, onward, on_count, LineForm, taken, step_of, lines_of}
use Rattle.sheet.specs.Sections.{section_of, lines_text, section_text}
use Rattle.lines.specs.Faults.{Read}

-- ---- accepted steps

pub no-refusal : {A : Type 0} {r : Refusal} → ◌≡◌ {A = Verdict} (Err r) (Ok tt) → A
no-refusal h = absurd (let z : ◌≡◌ {A = ℕ} 0 1 = cc in omega arith)

pub record Went (p q : Progress) : Type 0 where
  pub before : p.verdict ≡ Ok tt
  pub is : onward p q ≡ q
  pub after : q.verdict ≡ Ok tt

pub went : (p q : Progress) → (onward p q).verdict ≡ Ok tt → Went p q
went p q h = go p.verdict refl h
  where
    go : (v : Verdict) → p.verdict ≡ v → (on_verdict v q p).verdict ≡ Ok tt → Went p q
    go (Ok tt) e h = record { before = e; is = rw e; after = h }
    go (Err r) e h = no-refusal (sym e ∙ h)

record StepRead {A : Type 0} (f : LineForm A) (s : List ℕ) (p : Progress) : Type 0 where
  value : A
  next : ℕ
  before : p.verdict ≡ Ok tt
  line : f.read s p ≡ Ok (value, next)
  is : step_of f s p ≡ goes_on (f.fill p value) next (f.item p value)

step-read : {A : Type 0} (f : LineForm A) (s : List ℕ) (p : Progress) → (step_of f s p).verdict ≡ Ok tt → StepRead f s p
unfolding step_of
step-read {A} f s p h = let w = went p (taken f s p (f.read s p)) h in go (f.read s p) refl w w.after
  where
    go : (x : Read A) → f.read s p ≡ x → Went p (taken f s p (f.read s p)) → (taken f s p x).verdict ≡ Ok tt → StepRead f s p
    go (Err n) e w k = no-refusal k
    go (Ok (a, n)) e w k = record { value = a; next = n; before = w.before; line = e; is = w.is ∙ ap (taken f s p) e }

pub step-on : {A : Type 0} (f : LineForm A) (s : List ℕ) (p : Progress) → p.verdict ≡ Ok tt → step_of f s p ≡ taken f s p (f.read s p)
unfolding step_of
step-on f s p v = ap (λ x. on_verdict x (taken f s p (f.read s p)) p) v

step-taken : {A : Type 0} (f : LineForm A) (s : List ℕ) (p : Progress) (a : A) (n : ℕ) → p.verdict ≡ Ok tt → f.read s p ≡ Ok (a, n) →
    step_of f s p ≡ goes_on (f.fill p a) n (f.item p a)
step-taken f s p a n v e = step-on f s p v ∙ ap (taken f s p) e

-- ---- what steps keep

pub onward-keeps : (P : Progress → Type 0) (p q : Progress) → P p → P q → P (onward p q)
onward-keeps P p q h k = go p.verdict
  where
    go : (v : Verdict) → P (on_verdict v q p)
    go (Ok tt) = k
    go (Err r) = h

pub step_keeps : {A : Type 0} (f : LineForm A) (P : Progress → Type 0) (s : List ℕ) (p : Progress) → ((r : Refusal) → P (stopped_by r)) →
    ((a : A) (n : ℕ) → P (goes_on (f.fill p a) n (f.item p a))) → P p → P (step_of f s p)
unfolding step_of
step_keeps {A} f P s p stop next h = onward-keeps P p _ h (go (f.read s p))
  where
    go : (x : Read A) → P (taken f s p x)
    go (Err n) = stop _
    go (Ok (a, n)) = next a n

pub lines_keep : {A : Type 0} (f : LineForm A) (P : Progress → Type 0) (n : ℕ) (s : List ℕ) (p : Progress) → ((r : Refusal) → P (stopped_by r)) →
    ((p : Progress) (a : A) (n : ℕ) → P p → P (goes_on (f.fill p a) n (f.item p a))) → P p → P (lines_of f n s p)
unfolding lines_of
lines_keep f P zero s p stop next h = h
lines_keep f P (suc n) s p stop next h =
    let k = lines_keep f P n s p stop next h in step_keeps f P s (lines_of f n s p) stop (λ a m. next (lines_of f n s p) a m k) k

pub section-keeps : {A : Type 0} (f : LineForm A) (P : Progress → Type 0) (w : List ℕ) (a b : ℕ) (m : ℕ → Model) (s : List ℕ) (p : Progress) →
    ((r : Refusal) → P (stopped_by r)) → ((p : Progress) (a : A) (n : ℕ) → P p → P (goes_on (f.fill p a) n (f.item p a))) →
    ((n next : ℕ) → n ≤ b → P (goes_on (m n) next 0)) → P p → P (section_of f w (from_to a b) m s p)
unfolding section_of
section-keeps f P w a b m s p stop next first h = onward-keeps P p _ h (go (count_at w (from_to a b) s p.at) refl)
  where
    go : (c : Read ℕ) → count_at w (from_to a b) s p.at ≡ c →
        P (on_count c (λ n. refused_at s n p.at) (λ n next. lines_of f n s (goes_on (m n) next 0)))
    go (Err n) e = stop _
    go (Ok (n, at)) e = lines_keep f P n s _ stop next (first n at (count-parts w a b s p.at n at e).most)

-- a section is read where nothing was refused before
pub section-before : {A : Type 0} (f : LineForm A) (w : List ℕ) (r : Range) (m : ℕ → Model) (s : List ℕ) (p : Progress) →
    (section_of f w r m s p).verdict ≡ Ok tt → p.verdict ≡ Ok tt
unfolding section_of
section-before f w r m s p h = (went p _ h).before

-- ---- both ways

pub record Laws {A : Type 0} (f : LineForm A) (Fits : Progress → A → Type 0) : Type 0 where
  pub has : (s : List ℕ) (p : Progress) (a : A) (n : ℕ) → f.read s p ≡ Ok (a, n) → Fits p a × Has s p.at (f.text a) n
  pub reads : (s : List ℕ) (p : Progress) (a : A) (l : List ℕ) → Fits p a → drop p.at s ≡ f.text a ++ l →
      (n : ℕ) × (f.read s p ≡ Ok (a, n)) × (drop n s ≡ l)

abbrev pub Fitting : {A : Type 0} → (List A → Progress → Type 0) → (Progress → A → Type 0) → List A → Type 0
Fitting I Fits [] = Unit {0}
Fitting I Fits (a ∷ vs) = ((p : Progress) → I vs p → Fits p a) × Fitting I Fits vs

-- lines that were read from the place a on, up to where q stands
pub record LinesRead {A : Type 0} (f : LineForm A) (I : List A → Progress → Type 0) (s : List ℕ) (a n : ℕ) (q : Progress) : Type 0 where
  pub values : List A
  pub many : length values ≡ n
  pub text : Has s a (lines_text f.text values) q.at
  pub holds : I values q

-- those lines have been read, and l is left
pub record Back {A : Type 0} (I : List A → Progress → Type 0) (s l : List ℕ) (vs : List A) (q : Progress) : Type 0 where
  pub accepted : q.verdict ≡ Ok tt
  pub left : drop q.at s ≡ l
  pub holds : I vs q

-- a section that was read from the place at on, up to where q stands
pub record SectionRead {A : Type 0} (f : LineForm A) (I : ℕ → List A → Progress → Type 0) (w s : List ℕ) (a b at : ℕ) (q : Progress) : Type 0 where
  pub values : List A
  pub least : a ≤ length values
  pub most : length values ≤ b
  pub text : Has s at (section_text f w values) q.at
  pub holds : I (length values) values q

module _ {A : Type 0} (f : LineForm A) (Fits : Progress → A → Type 0) (laws : Laws f Fits) (I : ℕ → List A → Progress → Type 0)
    (next : (m : ℕ) (vs : List A) (p : Progress) (a : A) (n : ℕ) → length vs < m → I m vs p → Fits p a →
    I m (a ∷ vs) (goes_on (f.fill p a) n (f.item p a))) where
  lines-read : (m n : ℕ) (s : List ℕ) (p : Progress) → n ≤ m → I m [] p → (lines_of f n s p).verdict ≡ Ok tt → LinesRead f (I m) s p.at n (lines_of f n s p)
  unfolding lines_of lines_text
  lines-read m zero s p l i h = record { values = []; many = refl; text = has-none; holds = i }
  lines-read m (suc n) s p l i h =
      let q = lines_of f n s p in
      let t = step-read f s q h in
      let r = lines-read m n s p (omega arith) i t.before in
      let g = laws.has s q t.value t.next t.line in
      rw t.is (record {
        values = t.value ∷ r.values;
        many = ap suc r.many;
        text = has_join r.text g.1;
        holds = next m r.values q t.value t.next (omega (arith, r.many)) r.holds g.0;
      })

  lines-back : (m : ℕ) (vs : List A) (s l : List ℕ) (p : Progress) → length vs ≤ m → Fitting (I m) Fits vs → p.verdict ≡ Ok tt → I m [] p →
      drop p.at s ≡ lines_text f.text vs ++ l → Back (I m) s l vs (lines_of f (length vs) s p)
  unfolding lines_of lines_text
  lines-back m [] s l p c fit a i h = record { accepted = a; left = h; holds = i }
  lines-back m (b ∷ vs) s l p c fit a i h =
      let q = lines_of f (length vs) s p in
      let r = lines-back m vs s (f.text b ++ l) p (omega arith) fit.1 a i (h ∙ append_assoc (lines_text f.text vs) (f.text b) l) in
      let x = fit.0 q r.holds in
      let g = laws.reads s q b l x r.left in
      rw (step-taken f s q b g.0 r.accepted g.1) (record { accepted = refl; left = g.2; holds = next m vs q b g.0 (omega arith) r.holds x })

  pub section-read : (w : List ℕ) (a b : ℕ) (m : ℕ → Model) (s : List ℕ) (p : Progress) → Bytes w →
      ((n at : ℕ) → a ≤ n → n ≤ b → I n [] (goes_on (m n) at 0)) → (section_of f w (from_to a b) m s p).verdict ≡ Ok tt →
      SectionRead f I w s a b p.at (section_of f w (from_to a b) m s p)
  unfolding section_of
  section-read w a b m s p bytes first h = let g = went p _ h in rw g.is (go (count_at w (from_to a b) s p.at) refl g.after)
    where
      go : (c : Read ℕ) → count_at w (from_to a b) s p.at ≡ c →
          (on_count c (λ n. refused_at s n p.at) (λ n at. lines_of f n s (goes_on (m n) at 0))).verdict ≡ Ok tt →
          SectionRead f I w s a b p.at (on_count c (λ n. refused_at s n p.at) (λ n at. lines_of f n s (goes_on (m n) at 0)))
      go (Err n) e h = no-refusal h
      go (Ok (n, at)) e h =
          let c = count-parts w a b s p.at n at e in
          let r = lines-read n n s (goes_on (m n) at 0) (omega arith) (first n at c.least c.most) h in
          let many = r.many in
          record {
            values = r.values;
            least = omega (arith, c.least);
            most = omega (arith, c.most);
            text = rw many (has_join (count-has w a b s p.at n at bytes e) r.text);
            holds = rw many r.holds;
          }

  pub section-back : (w : List ℕ) (a b : ℕ) (m : ℕ → Model) (s l : List ℕ) (p : Progress) (vs : List A) → a ≤ length vs → length vs ≤ b →
      ((at : ℕ) → I (length vs) [] (goes_on (m (length vs)) at 0)) → Fitting (I (length vs)) Fits vs → p.verdict ≡ Ok tt →
      drop p.at s ≡ section_text f w vs ++ l → Back (I (length vs)) s l vs (section_of f w (from_to a b) m s p)
  unfolding section_of
  section-back w a b m s l p vs least most first fit v h =
      let n = length vs in
      let c = count-reads w a b s p.at n (lines_text f.text vs ++ l) least most (h ∙ append_assoc (heading_text w n) (lines_text f.text vs) l) in
      rw (v, c.1) (lines-back n vs s l (goes_on (m n) c.0 0) (omega arith) fit refl (first c.0) c.2)
