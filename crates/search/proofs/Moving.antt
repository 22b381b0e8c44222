-- Where a verdict leads: to a level and an amount within its ends. looked-passed, looked-kept, passed_on: what need not be looked at again.
use mathlib.Core.Path.{◌≡◌, refl, sym, ap, ap₂, ◌∙◌, subst, subst₂}
use mathlib.Core.Bool.{Bool, true, false, cond}
use mathlib.Core.List.{List}
use mathlib.Core.Logic.{inl, inr}
use Rattle.std.specs.Prelude.{Some}
use Prim.Native.Nat.{ℕ, suc, ◌≤◌, ◌<◌}
use native.Mathlib.Omega.{arith}
use lib.IntN.{ℤ, pos}
use lib.Signed.{lt_z, ◌≤ℤ◌}
use Rattle.arith.proofs.Parts.{impossible}
use Rattle.greedy.specs.declared.Columns.{Columns}
use Rattle.greedy.specs.declared.Ends.{Ends}
use Rattle.greedy.specs.Fill.{at, fill}
use Rattle.lattice.specs.Lattice.{lattice_at}
use Rattle.places.specs.declared.Settled.{Settled}
use Rattle.places.specs.declared.Settled.TheVariants.{Run, Prefix}
use Rattle.places.specs.Moves.{SettledIn, past_of}
use Rattle.places.proofs.Places.{Sound, carry-sound, run_sound}
use Rattle.places.proofs.Steps.{past-cong}
use Rattle.setting.specs.declared.Setting.{Setting}
use Rattle.setting.specs.declared.Pairs.{Pairs}
use Rattle.search.specs.declared.Incumbent.{Incumbent}
use Rattle.search.specs.declared.Path.{Path}
use Rattle.search.specs.declared.Comparison.{Comparison}
use Rattle.setting.specs.Box.{level_at, fixed_by, Inside, Long}
use Rattle.search.specs.Ahead.{filled_by}
use Rattle.search.specs.Search.{start_by, run_box, cut_by, betters, better_by, tried_by, Removable, Applies}
use Rattle.setting.specs.Ready.{pair_index}
use Rattle.search.specs.Tying.{ReadyTied}
use Rattle.search.specs.Steps.{Started, cut_at, Passed, LookedAs, MovedTo}
use Rattle.search.proofs.Starts.{order_of, start-cong, order-laws}
use Rattle.setting.proofs.Boxes.{fixed-cong}

passed-less : (s : Setting) (p : Pairs) (t : Path) (b : Incumbent) (d j : ℕ) → j ≤ d → Passed s p t b d → Passed s p t b j
passed-less s p t b d j l h = record { uncut = λ i m. h.uncut i (omega arith); unpaired = λ i m. h.unpaired i (omega arith) }

tried-kept : (c : Columns) (e : Ends) (x : List ℤ) (b : Incumbent) → better_by c e b ≡ false → tried_by c e x b ≡ b
unfolding better_by tried_by
tried-kept c e x b f = go (lt_z (fill c e).room (pos 0)) (betters c e b) f
  where
    go : (u v : Bool) → cond u false v ≡ false → cond u b (cond v (filled_by c e x) b) ≡ b
    go true v h = refl
    go false true h = absurd (impossible (sym h))
    go false false h = refl

-- a verdict of a look is within the levels
pub looked-in : (s : Setting) (p : Pairs) (t : Path) (b : Incumbent) (r : Comparison) (w : Settled) → LookedAs s p t b r w → SettledIn s.levels w
looked-in s p t b r (Run d) (e, c) = c.level_in
looked-in s p t b r (Prefix n) (inl h) = omega (arith, h.all)
looked-in s p t b r (Prefix n) (inr (e, c)) = omega (arith, c.last, c.level_in)

-- the levels above one of those that a verdict covers settle nothing
abbrev pub covered : Settled → ℕ
covered (Run d) = suc d
covered (Prefix n) = n

pub looked-passed : (s : Setting) (p : Pairs) (t : Path) (b : Incumbent) (r : Comparison) (w : Settled) → LookedAs s p t b r w → (j : ℕ) → j < covered w
    → Passed s p t b j
looked-passed s p t b r (Run d) (e, c) j l = passed-less s p t b d j (omega arith) c.passed
looked-passed s p t b r (Prefix n) (inl h) j l = passed-less s p t b s.levels j (omega (arith, h.all)) h.passed
looked-passed s p t b r (Prefix n) (inr (e, c)) j l = passed-less s p t b c.level j (omega (arith, c.last)) c.passed

-- an incumbent that is not bettered stays
pub looked-kept : (s : Setting) (p : Pairs) (t : Path) (b : Incumbent) (r : Comparison) (w : Settled) → LookedAs s p t b r w → r.better ≡ false → r.best ≡ b
looked-kept s p t b r (Run d) (e, c) f = ap (λ (r : Comparison). r.best) e
looked-kept s p t b r (Prefix n) (inl h) f = h.tries.best-is ∙ tried-kept s.cols _ t.place b (sym h.tries.better-is ∙ f)
looked-kept s p t b r (Prefix n) (inr (e, c)) f = ap (λ (r : Comparison). r.best) e

pub wider : (w : Settled) (m : ℕ) → m ≤ 16 → SettledIn m w → SettledIn 16 w
wider (Run d) m l h = omega arith
wider (Prefix n) m l h = omega arith

-- the path's starts are the place's
pub past-started : (s : Setting) (t : Path) (w : Settled) → Started s t → SettledIn s.levels w
    → past_of w (at s.low) (at s.high) (at t.starts) (at t.place) ≡ past_of w (at s.low) (at s.high) (start_by s (at t.place)) (at t.place)
past-started s t w h l =
    past-cong w s.levels (at s.low) (at s.high) (at t.starts) (start_by s (at t.place)) (at t.place) l (λ k n. h.starts k n)

pub record MoveIn (s : Setting) (w : Settled) (j : ℕ) (v : ℤ) : Type 0 where
  pub level_in : j < s.levels
  pub below : j < covered w
  pub low : at s.low j ≤ℤ v
  pub high : v ≤ℤ at s.high j

pub move_in : (s : Setting) → ReadyTied s → Long s.ends → (P : ℕ → ℤ) → Inside s P → (w : Settled) → SettledIn s.levels w → (j : ℕ) (v : ℤ)
    → past_of w (at s.low) (at s.high) (start_by s P) P ≡ Some (j, v) → MoveIn s w j v
move_in s r long P inside (Run d) l j v e = sound (suc d) l (subst (Sound (order_of s) (suc d) P) e (run_sound (order-laws s r long) P inside d l)) refl
  where
    sound : (n : ℕ) → n ≤ s.levels → Sound (order_of s) n P (Some (j, v)) → n ≡ suc d → MoveIn s (Run d) j v
    sound n m h e = record { level_in = omega (arith, h.0); below = omega (arith, h.0, e); low = h.1.0; high = h.1.1 }
move_in s r long P inside (Prefix n) l j v e = sound n l (subst (Sound (order_of s) n P) e (carry-sound (order-laws s r long) P inside n l)) refl
  where
    sound : (k : ℕ) → k ≤ s.levels → Sound (order_of s) k P (Some (j, v)) → k ≡ n → MoveIn s (Prefix n) j v
    sound k m h e = record { level_in = omega (arith, h.0); below = omega (arith, h.0, e); low = h.1.0; high = h.1.1 }

-- ---- what settles nothing before a move settles nothing after it

module _ (s : Setting) (p : Pairs) (t r : Path) (b : Incumbent) (j : ℕ) (v : ℤ) (started : Started s t) (level_in : j < s.levels) (h : MovedTo s t j v r) where
  same-starts : (i : ℕ) → i < j → at r.starts i ≡ at t.starts i
  same-starts i l = h.starts i (omega arith) ∙ start-cong s (at r.place) (at t.place) i (λ k m. h.above k (omega arith))
      ∙ sym (started.starts i (omega arith))

  same-cut : (i : ℕ) → i < j → cut_at s r b i ≡ cut_at s t b i
  same-cut i l =
      ap (λ e. cut_by s.cols (lattice_at s.lattice i) (run_box e (level_at s i) (at s.low i) (at s.high i) (at r.place i)
      (at r.starts i)) b) (fixed-cong s (at r.place) (at t.place) i (λ k m. h.above k (omega arith)))
      ∙ ap₂ (λ (x y : ℤ). cut_by s.cols (lattice_at s.lattice i)
      (run_box (fixed_by s (at t.place) i) (level_at s i) (at s.low i) (at s.high i) x y) b) (h.above i l) (same-starts i l)

  same-pairs : (i : ℕ) → i < j → Applies s p (at r.place) i → Applies s p (at t.place) i
  same-pairs i l a = record {
    above = a.above;
    is-above = a.is-above;
    here = subst₂ (λ (x y : ℤ). Removable (at p.first (pair_index (level_at s i) (level_at s a.above)))
        (at p.second (pair_index (level_at s i) (level_at s a.above))) x y (at s.low i) (at s.high i) (at s.low a.above)
        (at s.high a.above)) (h.above i l) (h.above a.above (omega (arith, a.is-above))) a.here;
  }

  pub passed_on : Passed s p t b j → Passed s p r b j
  passed_on q = record { uncut = λ i l. same-cut i l ∙ q.uncut i l; unpaired = λ i l a. q.unpaired i l (same-pairs i l a) }
