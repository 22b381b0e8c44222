-- At the end every place is settled: the incumbent is the first best point, or nothing is feasible.
--   Covered s b q    every place is settled or still to come; at the end, all are settled
--   Fresh s p q      the levels above the one to look from settle nothing
-- filling-good: the filling at a place is a good incumbent.  tried-good, looked-good: a look keeps the incumbent good; tried-filled, looked-filled: and the
-- filling at its place.  settles-verdict, keeps-settled: what a look settles, and that this stays.
-- underway-on, covered-on: a search can go on after a step, and every place is settled or still to come.
-- going_less (end theorem): a step leaves fewer places, so that a search which goes on comes to its end.
-- underway-first, covered-first: so it is at the first place; underway-ran, covered-ran: and after so many steps; ran-steps: which are counted.
-- settled-point, none-feasible, found-leads, found-foremost: what the end says; searched: all of it.
use mathlib.Core.Path.{◌≡◌, refl, sym, ap, ◌∙◌, subst, subst₂}
use mathlib.Core.Bool.{Bool, true, false, cond}
use mathlib.Core.List.{List}
use mathlib.Core.Logic.{◌⊎◌, inl, inr}
use Rattle.std.specs.Prelude.{Option, None, Some}
use Prim.Native.Nat.{ℕ, zero, suc, ◌+◌, ◌≤◌, ◌<◌}
use native.Mathlib.Nat.{mul-le-mul_left, mul-le-mul_right}
use native.Mathlib.Omega.{arith}
use native.Mathlib.Decide.{dec_lt}
use lib.IntN.{ℤ, pos, ◌+ℤ◌, ◌-ℤ◌, ◌*ℤ◌}
use lib.Signed.{◌≤ℤ◌, ◌<ℤ◌, lt_z}
use borrow.Author.Tests.{lt-ltb}
use Rattle.arith.specs.Sum.{Each}
use Rattle.arith.specs.Within.{Within}
use Rattle.arith.proofs.Integers.{split, split3, zed, ≤ℤ-trans, ≤ℤ-antisym, times-≤, times-≤-back}
use Rattle.arith.proofs.Parts.{impossible}
use Rattle.arith.proofs.Words.{no_lt}
use Rattle.knapsack.specs.declared.Mark.{Mark}
use Rattle.knapsack.specs.declared.Mark.TheVariants.{Integer, Continuous}
use Rattle.knapsack.proofs.Common.{KeepsMarkᴰ, valueᴰ, Feasibleᴰ}
use Rattle.knapsack.proofs.Branch.{AtMost, at-most-climb}
use Rattle.greedy.specs.declared.Ends.{Ends}
use Rattle.greedy.specs.declared.Fill.{Fill}
use Rattle.greedy.specs.Amounts.{Countable}
use Rattle.greedy.specs.Fill.{at, price_of, fill}
use Rattle.greedy.specs.Sized.{Sized}
use Rattle.greedy.proofs.Relaxed.{box_of, InOrder}
use Rattle.greedy.proofs.Numerators.{numerator-within}
use Rattle.foremost.proofs.Covering.{fill-some, marks-differ}
use Rattle.foremost.proofs.Earlier.{Agree as AgreeTo}
use Rattle.foremost.proofs.Filling.{parts, filling, fill-first, fill-foremost, parts-some}
use Rattle.foremost.proofs.Foremost.{Foremostᴰ, total-cong, feasible-cong}
use Rattle.foremost.proofs.Leads.{Leads, LeadsAll, leads-above, leads-foremost}
use Rattle.foremost.proofs.Worth.{filling-worth}
use Rattle.greedy.proofs.Sizes.{fill-sized}
use Rattle.lattice.specs.Lattice.{lattice_at}
use Rattle.places.specs.declared.Settled.{Settled}
use Rattle.places.specs.declared.Settled.TheVariants.{Run, Prefix}
use Rattle.places.specs.Moves.{SettledIn, past_of}
use Rattle.places.proofs.Places.{Place, Box, Agree, Moved, Covers, All, μ, covers-mono, covers-first, starts-box}
use Rattle.places.proofs.Steps.{Settles, Goes, step-goes}
use Rattle.setting.specs.declared.Setting.{Setting}
use Rattle.setting.specs.declared.Pairs.{Pairs}
use Rattle.search.specs.declared.Incumbent.{Incumbent}
use Rattle.search.specs.declared.Path.{Path}
use Rattle.search.specs.declared.State.{State}
use Rattle.search.specs.declared.Comparison.{Comparison}
use Rattle.setting.specs.Box.{level_at, fixed_by, Inside, Long}
use Rattle.search.specs.Ahead.{point_of, filled_by}
use Rattle.search.specs.Search.{start_by, run_ends, cut_by, betters, tried_by}
use Rattle.setting.specs.Ready.{ReadyPairs, Marked}
use Rattle.search.specs.Tying.{ReadyTied, ReadySearch}
use Rattle.search.specs.Searched.{Searched}
use Rattle.search.specs.Steps.{Started, Passed, kept, LookedAs, nobody, MovedTo, fresh_by, WentOn, counted_by, Stepped}
use Rattle.search.specs.Steps.{Begun, GoodBest, FilledBest, Underway, Ran}
use Rattle.search.proofs.Starts.{order_of, order-laws}
use Rattle.search.proofs.Boxes.{own_tied, own-rated, own_in, own-order, fixed-sized, fixed-order, fixed-level, fixed-other}
use Rattle.search.proofs.Orders.{point_at, point-beyond}
use Rattle.greedy.proofs.Bounds.{bound-proper, bound-within}
use Rattle.search.proofs.Moving.{looked-in, looked-passed, looked-kept, past-started, move_in, passed_on}
use Rattle.search.proofs.Cuts.{box, AtPlace, NotAhead, Bettered, InBox, rebox, Settled as SettledAt}
use Rattle.search.proofs.Settle.{cut-settles, pair_settles, tried-settles, tried-keeps}

-- the box of a place, all levels fixed, and its filling
abbrev pub place_ends : Setting → List ℤ → Ends
place_ends s x = fixed_by s (at x) s.levels

-- the integer items of a place stand at its amounts
module _ (s : Setting) (r : ReadyTied s) (long : Long s.ends) (x : List ℤ) (inside : Inside s (at x)) where
  abbrev e : Ends
  e = place_ends s x

  abbrev f : Fill
  f = fill s.cols e

  abbrev q : ℕ
  q = parts s.cols e

  sized : Sized s.cols e
  sized = record { columns = r.order.sized; ends = fixed-sized s r long (at x) s.levels (omega arith) inside }

  ordered : InOrder s.cols e
  ordered = fixed-order s r long (at x) s.levels (omega arith)

  module _ (marks : ℕ → Mark) (m : Marked s marks) where
    -- every integer item is at some level, and so fixed
    fixed : (k : ℕ) → k < s.cols.count → marks k ≡ Integer → at e.lo k ≡ at e.hi k
    fixed k l i =
        let v = m.level k l i in
        let h = fixed-level s r long (at x) s.levels v.0 (omega arith) v.1 in
        subst (λ i. at e.lo i ≡ at e.hi i) v.2 (h.0 ∙ sym h.1)

    -- the fixed box lies in the search's
    wider-box : (D : ℕ) (N : ℕ → ℤ) → Feasibleᴰ (box_of s.cols e marks) D N → InBox s.cols s.ends D N
    wider-box D N p k l = go (marks k) refl
      where
        go : (mk : Mark) → marks k ≡ mk → ((at s.ends.lo k *ℤ pos D) ≤ℤ N k) × (N k ≤ℤ (at s.ends.hi k *ℤ pos D))
        go Integer i =
            let v = m.level k l i in
            let h = fixed-level s r long (at x) s.levels v.0 (omega arith) v.1 in
            let i = inside v.0 v.1 in
            let lo : at s.ends.lo k ≤ℤ at e.lo k =
            subst (λ j. at s.ends.lo j ≤ℤ at e.lo j) v.2 (subst₂ ◌≤ℤ◌ (r.ready.low-is v.0 v.1) (sym h.0) i.0) in
            let hi : at e.hi k ≤ℤ at s.ends.hi k =
            subst (λ j. at e.hi j ≤ℤ at s.ends.hi j) v.2 (subst₂ ◌≤ℤ◌ (sym h.1) (r.ready.high_is v.0 v.1) i.1) in
            (≤ℤ-trans (times-≤ D _ _ lo) (p.keeps k l).above, ≤ℤ-trans (p.keeps k l).below (times-≤ D _ _ hi))
        go Continuous i =
            let h = fixed-other s r long (at x) s.levels k (λ j n y. marks-differ (m.integer j n) (ap marks y ∙ i)) in
            (subst (λ x. (x *ℤ pos D) ≤ℤ N k) h.0 (p.keeps k l).above, subst (λ x. N k ≤ℤ (x *ℤ pos D)) h.1 (p.keeps k l).below)

  module _ (room : pos 0 ≤ℤ f.room) where
    same : AgreeTo s.cols.count (filling s.cols e) (at (point_of s.cols e f q))
    same k l = sym (point_at s.cols e f q r.order.sized.few k l)

    countable : (k : ℕ) → k < 16 → Countable s.cols e f q k
    countable k l =
        let z = fill-sized s.cols e sized in
        let p = bound-proper s.cols f z in
        record { sized = sized; filled = z; few = p.few; item_in = l }

    amounts-in : (k : ℕ) → Within 20300000000000 (at (point_of s.cols e f q) k)
    amounts-in k = go (dec_lt k s.cols.count)
      where
        go : Dec (k < s.cols.count) → Within 20300000000000 (at (point_of s.cols e f q) k)
        go (yes l) = subst (Within 20300000000000) (same k l) (numerator-within s.cols e f q k (countable k (omega (arith, r.order.sized.few))))
        go (no l) = rw (point-beyond s.cols e f q r.order.sized.few k (omega arith)) (record { above = omega arith; below = omega arith })

    -- whatever the marks, the filling keeps the ends of its box
    loose : Feasibleᴰ (box_of s.cols e (λ k. Continuous)) q (filling s.cols e)
    loose = (fill-foremost s.cols e (λ k. Continuous) (own_tied s r) ordered room (λ k l i. absurd (marks-differ i refl))).optimal.feasible

    level-amount : (d : ℕ) → d < s.levels → at (point_of s.cols e f q) (level_at s d) ≡ at x d *ℤ pos q
    level-amount d l =
        let k = level_at s d in
        let h = fixed-level s r long (at x) s.levels d (omega arith) l in
        let i = own_in s r d l in
        sym (same k i) ∙ ≤ℤ-antisym (subst (λ z. filling s.cols e k ≤ℤ (z *ℤ pos q)) h.1 (loose.keeps k i).below)
        (subst (λ z. (z *ℤ pos q) ≤ℤ filling s.cols e k) h.0 (loose.keeps k i).above)

    filling-feasible : (marks : ℕ → Mark) → Marked s marks → Feasibleᴰ (box s marks) q (at (point_of s.cols e f q))
    filling-feasible marks m =
        let p = (fill-foremost s.cols e marks (own_tied s r) ordered room (fixed marks m)).optimal.feasible in
        feasible-cong (box s marks) q (filling s.cols e) (at (point_of s.cols e f q)) same
        (rebox s.cols e s.ends marks q (filling s.cols e) (wider-box marks m q (filling s.cols e) p) p)

    pub filling-good : GoodBest s (filled_by s.cols e x)
    filling-good = let z = fill-sized s.cols e sized in record {
      proper = λ h. record { proper = bound-proper s.cols f z; whole_in = bound-within s.cols f z; amounts-in = amounts-in };
      inside = λ h. inside;
      at_place = λ h. level-amount;
      feasible = λ h. filling-feasible;
      value-is = λ h marks. sym (total-cong s.cols.count (price_of s.cols) (filling s.cols e) (at (point_of s.cols e f q)) same)
          ∙ filling-worth s.cols e marks (own_tied s r) (own-rated s r) room;
    }

module _ (s : Setting) (r : ReadyTied s) (long : Long s.ends) where
  -- what holds of the filling at a place and of the incumbent holds of the one that is ahead
  tried-has : (Q : Incumbent → Type 0) (x : List ℤ) (b : Incumbent)
      → (pos 0 ≤ℤ (fill s.cols (place_ends s x)).room → Q (filled_by s.cols (place_ends s x) x)) → Q b → Q (tried_by s.cols (place_ends s x) x b)
  unfolding tried_by
  tried-has Q x b new old = empty? (lt_z (fill s.cols e).room (pos 0)) refl
    where
      e : Ends
      e = place_ends s x

      better? : lt_z (fill s.cols e).room (pos 0) ≡ false → (t : Bool) → Q (cond t (filled_by s.cols e x) b)
      better? q true = new (no_lt q)
      better? q false = old

      empty? : (t : Bool) → lt_z (fill s.cols e).room (pos 0) ≡ t → Q (cond t b (cond (betters s.cols e b) (filled_by s.cols e x) b))
      empty? true q = old
      empty? false q = better? q (betters s.cols e b)

  pub tried-good : (x : List ℤ) (b : Incumbent) → Inside s (at x) → GoodBest s b → GoodBest s (tried_by s.cols (place_ends s x) x b)
  tried-good x b inside g = tried-has (GoodBest s) x b (λ room. filling-good s r long x inside room) g

  pub tried-filled : (x : List ℤ) (b : Incumbent) → Inside s (at x) → FilledBest s b → FilledBest s (tried_by s.cols (place_ends s x) x b)
  tried-filled x b inside g = tried-has (FilledBest s) x b (λ room. record { inside = λ h. inside; roomy = λ h. room; filling-is = λ h. refl }) g

  -- ---- a verdict settles what it covers

  kept-best : {r' : Comparison} {b : Incumbent} → r' ≡ kept b → r'.best ≡ b
  kept-best e = ap (λ (r : Comparison). r.best) e

  module _ (ps : Pairs) (rp : ReadyPairs s.cols ps) (t : Path) (started : Started s t) (b : Incumbent) (r' : Comparison) (g : GoodBest s b) where
    abbrev b' : Incumbent
    b' = r'.best

    pub looked-good : (w : Settled) → LookedAs s ps t b r' w → GoodBest s b'
    looked-good (Run d) (e, c) = rw (kept-best e) g
    looked-good (Prefix n) (inl h) = rw h.tries.best-is (tried-good t.place b started.inside g)
    looked-good (Prefix n) (inr (e, c)) = rw (kept-best e) g

    pub looked-filled : (w : Settled) → LookedAs s ps t b r' w → FilledBest s b → FilledBest s b'
    looked-filled (Run d) (e, c) h = rw (kept-best e) h
    looked-filled (Prefix n) (inl k) h = rw k.tries.best-is (tried-filled t.place b started.inside h)
    looked-filled (Prefix n) (inr (e, c)) h = rw (kept-best e) h

    module _ (marks : ℕ → Mark) (m : Marked s marks) where
      pub keeps-settled : (w : Settled) → LookedAs s ps t b r' w → (y : Place) → SettledAt s marks b y → SettledAt s marks b' y
      keeps-settled (Run d) (e, c) y h = rw (kept-best e) h
      keeps-settled (Prefix n) (inl k) y h =
          rw k.tries.best-is (tried-keeps s r long marks m (at t.place) started.inside t.place b g y h)
      keeps-settled (Prefix n) (inr (e, c)) y h = rw (kept-best e) h

      pub settles-verdict : (w : Settled) → LookedAs s ps t b r' w → Settles (order_of s) w (at t.place) (SettledAt s marks b')
      settles-verdict (Run d) (e, c) =
          λ y bx run. rw (kept-best e) (cut-settles s r long marks m (at t.place) started.inside d b c.level_in g
          (subst (λ v. cut_by s.cols (lattice_at s.lattice d) (run_ends s (at t.place) v d) b ≡ true) (started.starts d c.level_in)
          c.cut) y run)
      settles-verdict (Prefix n) (inl h) = λ y bx a. rw h.tries.best-is
          (tried-settles s r long marks m (at t.place) started.inside t.place b g y (subst (λ k. Agree k (at t.place) y) h.all a))
      settles-verdict (Prefix n) (inr (e, c)) = λ y bx a. rw (kept-best e)
          (pair_settles s r long marks m (at t.place) started.inside ps rp c.level b c.level_in c.paired y
          (subst (λ k. Agree k (at t.place) y) c.last a))

-- ---- the invariant

abbrev pub Covered : Setting → (ℕ → Mark) → State → Type 0
Covered s marks q = (q.done ≡ false → Covers (order_of s) (SettledAt s marks q.best) (at q.path.place))
    × (q.done ≡ true → All (order_of s) (SettledAt s marks q.best))

-- the levels above the first that is to be looked at settle nothing
pub record Fresh (s : Setting) (p : Pairs) (q : State) : Type 0 where
  pub from_in : q.from ≤ s.levels
  pub passed : Passed s p q.path q.best q.from

pub fresh-top : (s : Setting) (p : Pairs) (q : State) → q.from ≡ 0 → Fresh s p q
fresh-top s p q e = record {
  from_in = omega (arith, e);
  passed = record {
    uncut = λ i l. absurd (omega (arith, e));
    unpaired = λ i l. absurd (omega (arith, e));
  };
}

-- what is left of a search
unfoldable pub left : Setting → State → ℕ
left s q = cond q.done 0 (suc (μ (order_of s) (at q.path.place)))

module _ (s : Setting) (ps : Pairs) (q r : State) (g : Underway s ps q) (on : q.done ≡ false) (st : Stepped s ps q r) where
  abbrev ready : ReadySearch s ps
  ready = g.ready

  abbrev t : Path
  t = q.path

  -- the incumbent after the step
  abbrev after : Comparison
  after = record { best = r.best; better = st.better }

  long : Long s.ends
  long = g.started.long

  in-levels : SettledIn s.levels st.verdict
  in-levels = looked-in s ps t q.best after st.verdict st.looked

  good' : GoodBest s r.best
  good' = looked-good s ready.setting long ps ready.true-pairs t g.started q.best after g.good st.verdict st.looked

  abbrev lead : Option (ℕ × ℤ)
  lead = past_of st.verdict (at s.low) (at s.high) (start_by s (at t.place)) (at t.place)

  went : WentOn s q st.better lead r
  went = subst (λ o. WentOn s q st.better o r) (past-started s t st.verdict g.started in-levels) st.went

  goes : (S : Place → Type 0) → Settles (order_of s) st.verdict (at t.place) S → Covers (order_of s) S (at t.place)
      → Goes (order_of s) S (at t.place) lead (at r.path.place)
  goes S h c = step-goes (order-laws s ready.setting long) S (at t.place) g.started.inside (at r.path.place) st.verdict in-levels h c

  moved : (j : ℕ) (v : ℤ) → MovedTo s t j v r.path → Moved (order_of s) (at t.place) j v (at r.path.place)
  moved j v h = record { above = λ k o. sym (h.above k o); here = h.here; deeper = λ k o l. h.deeper k o l }

  settles : (marks : ℕ → Mark) → Marked s marks → Settles (order_of s) st.verdict (at t.place) (SettledAt s marks r.best)
  settles marks m = settles-verdict s ready.setting long ps ready.true-pairs t g.started q.best after g.good marks m st.verdict st.looked

  covers : (marks : ℕ → Mark) → Marked s marks → Covered s marks q → Covers (order_of s) (SettledAt s marks r.best) (at t.place)
  covers marks m c = covers-mono (order_of s) (SettledAt s marks q.best) (SettledAt s marks r.best) (at t.place)
      (λ y. keeps-settled s ready.setting long ps ready.true-pairs t g.started q.best after g.good marks m st.verdict st.looked y)
      (c.0 on)

  no_end : true ≡ false → ⊥
  no_end h = impossible (sym h)

  all : (w : Settled) → Settles (order_of s) w (at t.place) (λ y. Unit {0})
  all (Run d) = λ y bx a. tt
  all (Prefix n) = λ y bx a. tt

  pub covered-on : (marks : ℕ → Mark) → Marked s marks → Covered s marks q → Covered s marks r
  covered-on marks m c = go lead went (goes (SettledAt s marks r.best) (settles marks m) (covers marks m c))
    where
      go : (o : Option (ℕ × ℤ)) → WentOn s q st.better o r → Goes (order_of s) (SettledAt s marks r.best) (at t.place) o (at r.path.place)
          → Covered s marks r
      go None (d, (same, top)) gs = ((λ f. absurd (no_end (sym d ∙ f))), (λ f. gs))
      go (Some (j, v)) (d, (turned, from)) gs = ((λ f. (gs (moved j v turned)).0), (λ f. absurd (no_end (sym f ∙ d))))

  pub going_less : left s r < left s q
  unfolding left
  going_less = rw on (go lead went (goes (λ y. Unit {0}) (all st.verdict) (λ y bx. inl tt)))
    where
      go : (o : Option (ℕ × ℤ)) → WentOn s q st.better o r → Goes (order_of s) (λ y. Unit {0}) (at t.place) o (at r.path.place)
          → cond r.done 0 (suc (μ (order_of s) (at r.path.place))) < suc (μ (order_of s) (at t.place))
      go None (d, (same, top)) gs = rw d (omega arith)
      go (Some (j, v)) (d, (turned, from)) gs = rw d (omega (arith, (gs (moved j v turned)).2))

  started-on : Started s r.path
  started-on = go lead went (goes (λ y. Unit {0}) (all st.verdict) (λ y bx. inl tt))
    where
      go : (o : Option (ℕ × ℤ)) → WentOn s q st.better o r → Goes (order_of s) (λ y. Unit {0}) (at t.place) o (at r.path.place) → Started s r.path
      go None (d, (same, top)) gs = rw same g.started
      go (Some (j, v)) (d, (turned, from)) gs = record { long = long; inside = (gs (moved j v turned)).1; starts = turned.starts }

  fresh_on : Fresh s ps r
  fresh_on = go lead went refl
    where
      kept_above : (j : ℕ) (v : ℤ) → MovedTo s t j v r.path → lead ≡ Some (j, v) → (f : Bool) → st.better ≡ f → r.from ≡ fresh_by f j → Fresh s ps r
      kept_above j v h e true b from = fresh-top s ps r from
      kept_above j v h e false b from =
          let m = move_in s ready.setting long (at t.place) g.started.inside st.verdict in-levels j v e in
          let same = looked-kept s ps t q.best after st.verdict st.looked b in
          let p = passed_on s ps t r.path q.best j v g.started m.level_in h
          (looked-passed s ps t q.best after st.verdict st.looked j m.below) in
          record { from_in = omega (arith, from, m.level_in); passed = rw (from, same) p }

      go : (o : Option (ℕ × ℤ)) → WentOn s q st.better o r → lead ≡ o → Fresh s ps r
      go None (d, (same, top)) e = fresh-top s ps r top
      go (Some (j, v)) (d, (turned, from)) e = kept_above j v turned e st.better refl from

  pub filled_on : FilledBest s q.best → FilledBest s r.best
  filled_on h = looked-filled s ready.setting long ps ready.true-pairs t g.started q.best after g.good st.verdict st.looked h

  pub underway-on : Underway s ps r
  underway-on = record { ready = ready; started = started-on; good = good'; from_in = fresh_on.from_in; passed = fresh_on.passed }

-- ---- after so many steps

module _ (s : Setting) (ps : Pairs) (q : State) (u : Underway s ps q) where
  pub underway-ran : (n : ℕ) (r : State) → Ran s ps q n r → Underway s ps r
  unfolding Ran
  underway-ran zero r h = rw h u
  underway-ran (suc n) r (o, h) = underway-on s ps o r (underway-ran n o h.0) h.1.0 h.1.1

  pub filled-ran : FilledBest s q.best → (n : ℕ) (r : State) → Ran s ps q n r → FilledBest s r.best
  unfolding Ran
  filled-ran f zero r h = rw h f
  filled-ran f (suc n) r (o, h) = filled_on s ps o r (underway-ran n o h.0) h.1.0 h.1.1 (filled-ran f n o h.0)

  pub covered-ran : (marks : ℕ → Mark) → Marked s marks → Covered s marks q → (n : ℕ) (r : State) → Ran s ps q n r → Covered s marks r
  unfolding Ran
  covered-ran marks m c zero r h = rw h c
  covered-ran marks m c (suc n) r (o, h) =
      covered-on s ps o r (underway-ran n o h.0) h.1.0 h.1.1 marks m (covered-ran marks m c n o h.0)

-- as many steps as fit are counted
pub ran-steps : (s : Setting) (ps : Pairs) (q : State) (n : ℕ) (r : State) → q.steps + n ≤ 18446744073709551615 → Ran s ps q n r → r.steps ≡ q.steps + n
unfolding Ran
ran-steps s ps q zero r l h = rw h (omega arith)
ran-steps s ps q (suc n) r l (o, h) =
    let e = ran-steps s ps q n o (omega arith) h.0 in
    let m : o.steps < 18446744073709551615 = omega arith in
    h.1.1.counted ∙ one o.steps m ∙ omega (arith, e)
  where
    one : (k : ℕ) → k < 18446744073709551615 → counted_by k ≡ k + 1
    one k m = rw (lt-ltb k 18446744073709551615 m) refl

-- ---- what the search comes to

module _ (s : Setting) (r : ReadyTied s) (long : Long s.ends) (marks : ℕ → Mark) (m : Marked s marks) where
  whole_of : (D : ℕ) (mk : Mark) (n : ℤ) → mk ≡ Integer → KeepsMarkᴰ D mk n → (z : ℤ) × (n ≡ z *ℤ pos D)
  whole_of D mk n e k = subst (λ (x : Mark). KeepsMarkᴰ D x n) e k

  -- a feasible point's place
  module _ (D : ℕ) (N : ℕ → ℤ) (d≥1 : 1 ≤ D) (p : Feasibleᴰ (box s marks) D N) where
    amount : (d : ℕ) → Dec (d < s.levels) → ℤ
    amount d (yes l) = (whole_of D (marks (level_at s d)) (N (level_at s d)) (m.integer d l) (p.keeps (level_at s d) (own_in s r d l)).marked).0
    amount d (no l) = pos 0

    y : Place
    y d = amount d (dec_lt d s.levels)

    at-amount : (d : ℕ) (k : Dec (d < s.levels)) → d < s.levels → N (level_at s d) ≡ amount d k *ℤ pos D
    unfolding amount
    at-amount d (yes l) n = (whole_of D (marks (level_at s d)) (N (level_at s d)) (m.integer d l) (p.keeps (level_at s d) (own_in s r d l)).marked).1
    at-amount d (no l) n = absurd (l n)

    at_place : AtPlace s marks D N y
    unfolding y
    at_place d l = at-amount d (dec_lt d s.levels) l

    in_place : Box (order_of s) s.levels y
    in_place d l = (
      times-≤-back D (at s.low d) (y d) d≥1 (subst₂ (λ u x. (u *ℤ pos D) ≤ℤ x) (sym (r.ready.low-is d l)) (at_place d l)
          (p.keeps (level_at s d) (own_in s r d l)).above),
      times-≤-back D (y d) (at s.high d) d≥1 (subst₂ (λ u x. x ≤ℤ (u *ℤ pos D)) (sym (r.ready.high_is d l)) (at_place d l)
          (p.keeps (level_at s d) (own_in s r d l)).below),
    )

    pub settled-point : (b : Incumbent) → All (order_of s) (SettledAt s marks b) → NotAhead s marks b D N ⊎ Bettered s marks D N
    settled-point b h = h y in_place D N d≥1 p at_place

  -- values are bounded: by the relaxation of the whole box
  bounded : (D : ℕ) (N : ℕ → ℤ) → 1 ≤ D → Feasibleᴰ (box s marks) D N → (U : ℤ) × ((G : ℕ) × (1 ≤ G) × AtMost (box s marks) U G)
  bounded D N d≥1 p =
      let o = own-order s r s.ends r.ready.in_order in
      let room = fill-some s.cols s.ends marks (own_tied s r) o D N d≥1 p in (
        valueᴰ (box s marks) (filling s.cols s.ends),
        (
          parts s.cols s.ends,
          parts-some s.cols s.ends marks (own_tied s r) o room,
          λ D' N' d' p'. (fill-first s.cols s.ends marks (own_tied s r) o room D' N' d' p').worth,
        ),
      )

  module _ (b : Incumbent) (g : GoodBest s b) (all : All (order_of s) (SettledAt s marks b)) where
    pub none-feasible : b.found ≡ false → (D : ℕ) (N : ℕ → ℤ) → 1 ≤ D → ¬ Feasibleᴰ (box s marks) D N
    none-feasible f D N d≥1 p =
        let u = bounded D N d≥1 p in
        under (valueᴰ (box s marks) N) (at-most-climb (box s marks) (valueᴰ (box s marks) N -ℤ pos 1) u.0 D u.1.0 d≥1 u.1.1 u.1.2
        (λ D' N' d' p'. inr (step D' N' (settled-point D' N' d' p' b all))) D N d≥1 p)
      where
        step : (D' : ℕ) (N' : ℕ → ℤ) → NotAhead s marks b D' N' ⊎ Bettered s marks D' N' → Bettered s marks D' N'
        step D' N' (inl (q, h)) = absurd (impossible (sym f ∙ q))
        step D' N' (inr h) = h

        under : (v : ℤ) → (v *ℤ pos D) ≤ℤ ((v -ℤ pos 1) *ℤ pos D) → ⊥
        under = split _ (λ a c. simp zed (λ h. omega (arith, d≥1)))

    module _ (f : b.found ≡ true) where
      E≥1 : 1 ≤ b.value.parts
      E≥1 = omega (arith, (g.proper f).proper.low)

      -- nothing is worth more
      found-most : AtMost (box s marks) (valueᴰ (box s marks) (at b.point)) b.value.parts
      found-most D N d≥1 p =
          let u = bounded D N d≥1 p in
          at-most-climb (box s marks) (valueᴰ (box s marks) (at b.point)) u.0 b.value.parts u.1.0 E≥1 u.1.1 u.1.2
          (λ D' N' d' p'. step D' N' (settled-point D' N' d' p' b all)) D N d≥1 p
        where
          step : (D' : ℕ) (N' : ℕ → ℤ) → NotAhead s marks b D' N' ⊎ Bettered s marks D' N'
              → ((valueᴰ (box s marks) N' *ℤ pos b.value.parts) ≤ℤ (valueᴰ (box s marks) (at b.point) *ℤ pos D')) ⊎ Bettered s marks D' N'
          step D' N' (inl (q, h)) = inl h.worth
          step D' N' (inr h) = inr h

      -- what is bettered is worth less
      pub found-leads : LeadsAll (box s marks) b.value.parts (at b.point)
      found-leads D N d≥1 p = go (settled-point D N d≥1 p b all)
        where
          below : (D E : ℕ) → 1 ≤ D → 1 ≤ E → (v w m : ℤ) → (v +ℤ pos D) ≤ℤ w → (w *ℤ pos E) ≤ℤ (m *ℤ pos D) → (v *ℤ pos E) <ℤ (m *ℤ pos D)
          below D E d e = split3 _ (λ a b c f g h. simp zed (λ i k. omega (arith, mul-le-mul_right E i, k, mul-le-mul_left D e, d)))

          go : NotAhead s marks b D N ⊎ Bettered s marks D N → Leads (valueᴰ (box s marks)) s.cols.count b.value.parts (at b.point) D N
          go (inl (q, h)) = h
          go (inr (N', p', h)) = leads-above (valueᴰ (box s marks)) s.cols.count b.value.parts D (at b.point) N
              (below D b.value.parts d≥1 E≥1 (valueᴰ (box s marks) N) (valueᴰ (box s marks) N') (valueᴰ (box s marks) (at b.point)) h
              (found-most D N' d≥1 p'))

      pub found-foremost : Foremostᴰ (box s marks) b.value.parts (at b.point)
      found-foremost = leads-foremost (box s marks) b.value.parts (at b.point) (g.feasible f marks m) found-leads

pub searched : (s : Setting) (ps : Pairs) (q : State) → Underway s ps q → ((marks : ℕ → Mark) → Marked s marks → Covered s marks q) → q.done ≡ true
    → Searched s q.best
searched s ps q g covered d =
    let r = g.ready.setting in
    let long = g.started.long in
    record {
      good = g.good;
      foremost = λ f marks m. found-foremost s r long marks m q.best g.good ((covered marks m).1 d) f;
      empty = λ f marks m. none-feasible s r long marks m q.best g.good ((covered marks m).1 d) f;
    }

-- ---- the beginning

-- no incumbent is a good one
good-nobody : (s : Setting) → GoodBest s nobody
good-nobody s = record {
  proper = λ h. absurd (impossible h);
  inside = λ h. absurd (impossible h);
  at_place = λ h. absurd (impossible h);
  feasible = λ h. absurd (impossible h);
  value-is = λ h. absurd (impossible h);
}

filled-nobody : (s : Setting) → FilledBest s nobody
filled-nobody s = record { inside = λ h. absurd (impossible h); roomy = λ h. absurd (impossible h); filling-is = λ h. absurd (impossible h) }

module _ (s : Setting) (ps : Pairs) (ready : ReadySearch s ps) (long : Long s.ends) (q : State) (b : Begun s q) where
  first-starts : Each s.levels (λ k. at q.path.place k ≡ start_by s (at q.path.place) k)
  first-starts k l = (b.first.filled k (omega arith) l).0

  pub underway-first : Underway s ps q
  underway-first =
      let f = fresh-top s ps q b.top in
      record {
        ready = ready;
        started = record {
          long = long;
          inside = starts-box (order-laws s ready.setting long) (at q.path.place) first-starts s.levels (omega arith);
          starts = λ i l. let h = b.first.filled i (omega arith) l in h.1 ∙ h.0;
        };
        good = subst (GoodBest s) (sym b.nothing) (good-nobody s);
        from_in = f.from_in;
        passed = f.passed;
      }

  pub filled-first : FilledBest s q.best
  filled-first = subst (FilledBest s) (sym b.nothing) (filled-nobody s)

  pub covered-first : (marks : ℕ → Mark) → Marked s marks → Covered s marks q
  covered-first marks m = (
    (λ f. covers-first (order-laws s ready.setting long) (SettledAt s marks q.best) (at q.path.place) first-starts),
    (λ f. absurd (no b.going f)),
  )
    where
      no : q.done ≡ false → q.done ≡ true → ⊥
      no x y = impossible (sym x ∙ y)
