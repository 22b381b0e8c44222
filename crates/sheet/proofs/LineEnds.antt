-- How many lines a text has.
-- ends-append: line ends of texts one behind the other. line-end, lines-ends, section-ends: a line has one at least, and so many lines so many.
-- line-start: where a line begins, of a number up to that of the line ends.
use mathlib.Core.Path.{◌≡◌, refl, ap}
use mathlib.Core.Bool.{Bool, true, false, cond}
use mathlib.Core.List.{List, [], ◌∷◌, ◌++◌}
use Prim.Native.Nat.{ℕ, zero, suc, ◌+◌, ◌-◌, ◌≤◌}
use native.Mathlib.Numerals.{unary_clauses}
use native.Mathlib.Omega.{arith}
use borrow.Author.Tests.{eqb-true}
use lib.Dec.{eqb}
use lib.ListN.{length, take, get_or}
use Rattle.text.specs.Decimal.{decimal}
use Rattle.text.specs.Layout.{field, line}
use Rattle.lines.specs.Places.{ends}
use Rattle.lines.specs.Layout.{heading_text}
use Rattle.sheet.specs.Sections.{LineForm, lines_text, section_text}

pub ends-append : (a b : List ℕ) → ends (a ++ b) ≡ ends a + ends b
unfolding ends
ends-append [] b = omega arith
ends-append (x ∷ a) b = go (eqb x 10) (ends-append a b)
  where
    go : (t : Bool) → ends (a ++ b) ≡ ends a + ends b → cond t (suc (ends (a ++ b))) (ends (a ++ b)) ≡ cond t (suc (ends a)) (ends a) + ends b
    go true h = omega arith
    go false h = h

-- a field that the byte 10 closes
one_end : ends (10 ∷ []) ≡ 1
unfolding ends
one_end = refl

pub line-end : (f : List ℕ) (fs : List (List ℕ)) → 1 ≤ ends (line f fs)
line-end f [] = omega (arith, ends-append f (10 ∷ []), one_end)
line-end f (g ∷ gs) = omega (arith, ends-append (field f 32) (line g gs), line-end g gs)

pub lines-ends : {A : Type 0} (t : A → List ℕ) → ((a : A) → 1 ≤ ends (t a)) → (vs : List A) → length vs ≤ ends (lines_text t vs)
unfolding lines_text
lines-ends t h [] = omega arith
lines-ends t h (a ∷ vs) = omega (arith, ends-append (lines_text t vs) (t a), lines-ends t h vs, h a)

pub section-ends : {A : Type 0} (f : LineForm A) → ((a : A) → 1 ≤ ends (f.text a)) → (w : List ℕ) (vs : List A) → suc (length vs) ≤ ends (section_text f w vs)
section-ends f h w vs =
    omega (arith, ends-append (heading_text w (length vs)) (lines_text f.text vs), line-end w (decimal (length vs) ∷ []), lines-ends f.text h vs)

-- the place behind so many line ends, and the byte 10 before it
pub record Behind (s : List ℕ) (n : ℕ) : Type 0 where
  pub at : ℕ
  pub within : at ≤ length s
  pub counted : ends (take at s) ≡ n
  pub closed : 1 ≤ at → get_or s (at - 1) 0 ≡ 10

pub line-start : (s : List ℕ) (n : ℕ) → n ≤ ends s → Behind s n
unfolding ends
line-start s zero h = record { at = 0; within = omega arith; counted = refl; closed = λ l. absurd (omega arith) }
line-start [] (suc n) h = absurd (omega arith)
line-start (b ∷ s) (suc n) h = go (eqb b 10) refl h (line-start s n) (line-start s (suc n))
  where
    -- the byte before the place, one place on
    later : (a : ℕ) → 1 ≤ a → get_or s (a - 1) 0 ≡ 10 → get_or (b ∷ s) (suc a - 1) 0 ≡ 10
    later zero l e = absurd (omega arith)
    later (suc a) l e = simp unary_clauses (simp unary_clauses at e)

    first : (a : ℕ) → b ≡ 10 → (1 ≤ a → get_or s (a - 1) 0 ≡ 10) → get_or (b ∷ s) (suc a - 1) 0 ≡ 10
    first zero e f = e
    first (suc a) e f = simp unary_clauses (simp unary_clauses at (f (omega arith)))

    more : (a : ℕ) → eqb b 10 ≡ true → ends (take a s) ≡ n → cond (eqb b 10) (suc (ends (take a s))) (ends (take a s)) ≡ suc n
    more a e c = rw e (ap suc c)

    same : (a : ℕ) → eqb b 10 ≡ false → ends (take a s) ≡ suc n → cond (eqb b 10) (suc (ends (take a s))) (ends (take a s)) ≡ suc n
    same a e c = rw e c

    go : (t : Bool) → eqb b 10 ≡ t → suc n ≤ cond t (suc (ends s)) (ends s) → (n ≤ ends s → Behind s n) → (suc n ≤ ends s → Behind s (suc n)) →
        Behind (b ∷ s) (suc n)
    go true e l ih jh =
        let r = ih (omega arith) in
        record {
          at = suc r.at;
          within = omega (arith, r.within);
          counted = more r.at e r.counted;
          closed = λ o. first r.at (eqb-true b 10 e) r.closed;
        }
    go false e l ih jh =
        let r = jh l in
        let some : 1 ≤ r.at = positive r.at r.counted in
        record {
          at = suc r.at;
          within = omega (arith, r.within);
          counted = same r.at e r.counted;
          closed = λ o. later r.at some (r.closed some);
        }
      where
        positive : (a : ℕ) → ends (take a s) ≡ suc n → 1 ≤ a
        positive zero c = absurd (omega (arith, c))
        positive (suc a) c = omega arith
