-- Each verdict of a look settles what it covers.
-- cut-settles: a run whose relaxation is empty or not ahead of the incumbent, or whose lattice has nothing that can be.
-- pair_settles: a prefix from which a domination pair can be taken away.
-- tried-settles, tried-keeps: the place itself, and that what was settled stays so.
use mathlib.Core.Path.{◌≡◌, refl, sym, ap, ◌∙◌, subst, subst₂}
use mathlib.Core.Bool.{Bool, true, false, cond}
use mathlib.Core.List.{List}
use mathlib.Core.Logic.{◌≢◌, ◌⊎◌, inl, inr}
use Prim.Native.Nat.{ℕ, suc, ◌≤◌, ◌<◌}
use native.Mathlib.Nat.{mul-le-mul_left, mul-le-mul_right}
use native.Mathlib.Omega.{arith}
use lib.IntN.{ℤ, pos, ◌+ℤ◌, ◌-ℤ◌, ◌*ℤ◌}
use lib.Signed.{◌≤ℤ◌, ◌<ℤ◌, lt_z, clash_ℤ}
use Rattle.arith.specs.Mixed.{Proper}
use Rattle.arith.proofs.Integers.{split2, split3, zed}
use Rattle.arith.proofs.Parts.{impossible}
use Rattle.arith.proofs.Words.{yes_lt, no_lt}
use Rattle.arith.proofs.Mixes.{over}
use Rattle.knapsack.specs.declared.Mark.{Mark}
use Rattle.knapsack.proofs.Common.{valueᴰ, Feasibleᴰ}
use Rattle.knapsack.proofs.Moves.{pair-discard}
use Rattle.foremost.proofs.Covering.{fill-some}
use Rattle.foremost.proofs.Filling.{parts, filling, fill-first}
use Rattle.foremost.proofs.Foremost.{total-cong}
use Rattle.foremost.proofs.Leads.{Leads, leads-trans, leads-above}
use Rattle.foremost.proofs.Worth.{filling-worth}
use Rattle.greedy.specs.declared.Ends.{Ends}
use Rattle.greedy.specs.declared.Fill.{Fill}
use Rattle.greedy.specs.Fill.{at, price_of, fill, bound}
use Rattle.greedy.proofs.Relaxed.{box_of}
use Rattle.greedy.proofs.Sizes.{fill-sized}
use Rattle.lattice.specs.Lattice.{lattice_at}
use Rattle.places.proofs.Places.{Agree, Run}
use Rattle.setting.specs.declared.Setting.{Setting}
use Rattle.setting.specs.declared.Pairs.{Pairs}
use Rattle.search.specs.declared.Incumbent.{Incumbent}
use Rattle.setting.specs.Box.{level_at, fixed_by, Inside, Long}
use Rattle.search.specs.Ahead.{corner_sooner, ahead_by, point_of, filled_by}
use Rattle.search.specs.Search.{start_by, run_ends, sparse_by, lowered, threshold_at, threshold_by, cut_by, betters, tried_by, Applies}
use Rattle.setting.specs.Ready.{pair_index, ReadyPairs, TruePair, Marked}
use Rattle.search.specs.Tying.{ReadyTied}
use Rattle.search.specs.Steps.{BoxInRange, GoodBest}
use Rattle.search.proofs.Starts.{order_of}
use Rattle.search.proofs.Boxes.{own_tied, own-rated, own_in, item<16}
use Rattle.search.proofs.Orders.{first-leads, second-leads, corner-leads, leads-cong, point_at}
use Rattle.greedy.proofs.Bounds.{bound-proper}
use Rattle.search.proofs.Runs.{fixed-in-range, run-in-range}
use Rattle.search.proofs.Cuts.{box, NotAhead, Bettered, Settled, rebox, in-fixed, in-run, run-leads, sparse-most}

-- what is at most one less than the whole part is below the number
whole_below : (n k D : ℕ) → 1 ≤ n → 1 ≤ D → (v w : ℤ) → v ≤ℤ ((w -ℤ pos 1) *ℤ pos D) → (v *ℤ pos n) <ℤ ((w *ℤ pos n +ℤ pos k) *ℤ pos D)
whole_below n k D n≥1 d≥1 = split2 _ (λ a b c e. simp zed (λ h. omega (arith, mul-le-mul_right n h, mul-le-mul_left D n≥1, d≥1)))

-- what is at most the whole part is at most the number
whole-most : (n k D : ℕ) (v w : ℤ) → v ≤ℤ (w *ℤ pos D) → (v *ℤ pos n) ≤ℤ ((w *ℤ pos n +ℤ pos k) *ℤ pos D)
whole-most n k D = split2 _ (λ a b c e. simp zed (λ h. omega (arith, mul-le-mul_right n h)))

-- what a filling is worth, and that it can be compared
module _ (s : Setting) (r : ReadyTied s) (marks : ℕ → Mark) (e : Ends) (b : Incumbent) (j : BoxInRange s.cols e b) (room : pos 0 ≤ℤ (fill s.cols e).room)
  where
    own-proper : Proper (bound s.cols (fill s.cols e))
    own-proper = bound-proper s.cols (fill s.cols e) (fill-sized s.cols e j.sized)

    own-worth : valueᴰ (box s marks) (filling s.cols e) ≡ over (bound s.cols (fill s.cols e))
    own-worth = filling-worth s.cols e marks (own_tied s r) (own-rated s r) room

    -- by the tests, the filling leads the incumbent or is led by it
    module _ (q : b.found ≡ true) (worth : valueᴰ (box s marks) (at b.point) ≡ over b.value) where
      pub ahead-leads : ahead_by s.cols e (fill s.cols e) b ≡ true
          → Leads (valueᴰ (box s marks)) s.cols.count (parts s.cols e) (filling s.cols e) b.value.parts (at b.point)
      unfolding ahead_by
      ahead-leads h = first-leads (valueᴰ (box s marks)) s.cols.count (bound s.cols (fill s.cols e)) b.value (filling s.cols e) (at b.point)
          own-proper (j.proper q).proper own-worth worth h

      pub behind-leads : ahead_by s.cols e (fill s.cols e) b ≡ false
          → Leads (valueᴰ (box s marks)) s.cols.count b.value.parts (at b.point) (parts s.cols e) (filling s.cols e)
      unfolding ahead_by
      behind-leads h = second-leads (valueᴰ (box s marks)) s.cols.count (bound s.cols (fill s.cols e)) b.value (filling s.cols e)
          (at b.point) own-proper (j.proper q).proper own-worth worth h

    pub own-parts : 1 ≤ parts s.cols e
    own-parts = omega (arith, own-proper.low)

module _ (s : Setting) (r : ReadyTied s) (long : Long s.ends) (marks : ℕ → Mark) (m : Marked s marks) (P : ℕ → ℤ) (inside : Inside s P) where
  pub cut-settles : (d : ℕ) (b : Incumbent) → d < s.levels → GoodBest s b
      → cut_by s.cols (lattice_at s.lattice d) (run_ends s P (start_by s P d) d) b ≡ true → (y : ℕ → ℤ) → Run (order_of s) d P y
      → Settled s marks b y
  unfolding cut_by threshold_at
  cut-settles d b l good h y run D N d≥1 p a = empty? (lt_z f.room (pos 0)) refl (subst (λ t. t ≡ true) refl h)
    where
      e : Ends
      e = run_ends s P (start_by s P d) d

      f : Fill
      f = fill s.cols e

      j : BoxInRange s.cols e b
      j = run-in-range s r long P inside (start_by s P d) d b l good.proper

      in_e : Feasibleᴰ (box_of s.cols e marks) D N
      in_e = rebox s.cols s.ends e marks D N (in-run s r long marks m D N d≥1 p y a P d l run) p

      -- what the point is worth, where the lattice has nothing above w
      most : pos 0 ≤ℤ f.room → (w : ℤ) → sparse_by s.cols (lattice_at s.lattice d) f w ≡ true → valueᴰ (box s marks) N ≤ℤ (w *ℤ pos D)
      most room w x = sparse-most s r long marks m D N d≥1 p y a P d l run j.in_order room (fill-sized s.cols e j.sized) w x

      -- where the lattice has nothing as good; or nothing better, and what is as good does not come before
      sparse : pos 0 ≤ℤ f.room → b.found ≡ true → (t : Bool) → corner_sooner e.lo b.point s.cols.count b.value.parts ≡ t
          → sparse_by s.cols (lattice_at s.lattice d) f (lowered t b.value.whole) ≡ true → NotAhead s marks b D N
      sparse room q true z x = (
        q,
        leads-above (valueᴰ (box s marks)) s.cols.count b.value.parts D (at b.point) N
            (subst (λ z. (valueᴰ (box s marks) N *ℤ pos b.value.parts) <ℤ (z *ℤ pos D)) (sym (good.value-is q marks))
            (whole_below b.value.parts b.value.part D (omega (arith, (good.proper q).proper.low)) d≥1 (valueᴰ (box s marks) N) b.value.whole
            (most room (lowered true b.value.whole) x))),
      )
      sparse room q false z x = (
        q,
        corner-leads (valueᴰ (box s marks)) s.cols.count b.value.parts D (at e.lo) (at b.point) N d≥1 z (λ k l. (in_e.keeps k l).above)
            (subst (λ z. (valueᴰ (box s marks) N *ℤ pos b.value.parts) ≤ℤ (z *ℤ pos D)) (sym (good.value-is q marks))
            (whole-most b.value.parts b.value.part D (valueᴰ (box s marks) N) b.value.whole (most room (lowered false b.value.whole) x))),
      )

      -- where the filling is not ahead, and where it is
      ahead? : pos 0 ≤ℤ f.room → b.found ≡ true → (t : Bool) → ahead_by s.cols e f b ≡ t
          → cond t (sparse_by s.cols (lattice_at s.lattice d) f (threshold_by s.cols e b)) true ≡ true → NotAhead s marks b D N ⊎ Bettered s marks D N
      ahead? room q false z k = inl (
        q,
        leads-trans (valueᴰ (box s marks)) s.cols.count (filling s.cols e) N (at b.point) d≥1 (own-parts s r marks e b j room)
            (omega (arith, (good.proper q).proper.low)) (behind-leads s r marks e b j room q (good.value-is q marks) z)
            (run-leads s r long marks m D N d≥1 p y a P d l run j.in_order room),
      )
      ahead? room q true z k = inl (sparse room q (corner_sooner e.lo b.point s.cols.count b.value.parts) refl k)

      compared : pos 0 ≤ℤ f.room → (t : Bool) → b.found ≡ t
          → cond t (cond (ahead_by s.cols e f b) (sparse_by s.cols (lattice_at s.lattice d) f (threshold_by s.cols e b)) true) false ≡ true
          → NotAhead s marks b D N ⊎ Bettered s marks D N
      compared room false q k = absurd (impossible k)
      compared room true q k = ahead? room q (ahead_by s.cols e f b) refl k

      empty? : (t : Bool) → lt_z f.room (pos 0) ≡ t → cond (lt_z f.room (pos 0)) true
          (cond b.found (cond (ahead_by s.cols e f b) (sparse_by s.cols (lattice_at s.lattice d) f (threshold_by s.cols e b)) true) false) ≡ true
          → NotAhead s marks b D N ⊎ Bettered s marks D N
      empty? true q k = absurd (clash_ℤ (yes_lt q) (fill-some s.cols e marks (own_tied s r) j.in_order D N d≥1 in_e))
      empty? false q k = compared (no_lt q) b.found refl (rw q at k)

  pub pair_settles : (ps : Pairs) → ReadyPairs s.cols ps → (d : ℕ) (b : Incumbent) → d < s.levels → Applies s ps P d → (y : ℕ → ℤ) → Agree (suc d) P y
      → Settled s marks b y
  pair_settles ps rp d b l q y h D N d≥1 p a =
      inr (pair-discard (box s marks) D N i k rr tt' (own_in s r d l) (own_in s r q.above above_in) ne p true-pair.heavy true-pair.loss
      (record { above = low d l q.here.own.low; below = high d l q.here.own.high })
      (record { above = low' q.here.other.low; below = high' q.here.other.high }))
    where
      i : ℕ
      i = level_at s d

      k : ℕ
      k = level_at s q.above

      rr : ℤ
      rr = at ps.first (pair_index i k)

      tt' : ℤ
      tt' = at ps.second (pair_index i k)

      above_in : q.above < s.levels
      above_in = omega (arith, q.is-above)

      true-pair : TruePair s.cols ps i k
      true-pair = rp.pairs i k (item<16 s r long d l) (item<16 s r long q.above above_in) q.here.moves

      ne : k ≢ i
      ne z = apart (r.ready.distinct q.above d above_in l z)
        where
          apart : q.above ≡ d → ⊥
          apart z = omega (arith, q.is-above)

      own : (j : ℕ) → j < s.levels → j < suc d → N (level_at s j) ≡ P j *ℤ pos D
      own j n o = a j n ∙ ap (λ z. z *ℤ pos D) (sym (h j o))

      less : (x t u : ℤ) → u ≤ℤ (x -ℤ t) → (u *ℤ pos D) ≤ℤ (x *ℤ pos D -ℤ t *ℤ pos D)
      less = split3 _ (λ a b c e f g. simp zed (λ k. omega (arith, mul-le-mul_right D k)))

      more : (x t u : ℤ) → (x -ℤ t) ≤ℤ u → (x *ℤ pos D -ℤ t *ℤ pos D) ≤ℤ (u *ℤ pos D)
      more = split3 _ (λ a b c e f g. simp zed (λ k. omega (arith, mul-le-mul_right D k)))

      low : (j : ℕ) → j < s.levels → at s.low d ≤ℤ (P d -ℤ rr) → (at s.ends.lo i *ℤ pos D) ≤ℤ (N i -ℤ rr *ℤ pos D)
      low j n z = subst₂ (λ u x. (u *ℤ pos D) ≤ℤ (x -ℤ rr *ℤ pos D)) (r.ready.low-is d l) (sym (own d l (omega arith))) (less (P d) rr (at s.low d) z)

      high : (j : ℕ) → j < s.levels → (P d -ℤ rr) ≤ℤ at s.high d → (N i -ℤ rr *ℤ pos D) ≤ℤ (at s.ends.hi i *ℤ pos D)
      high j n z = subst₂ (λ u x. (x -ℤ rr *ℤ pos D) ≤ℤ (u *ℤ pos D)) (r.ready.high_is d l) (sym (own d l (omega arith))) (more (P d) rr (at s.high d) z)

      low' : at s.low q.above ≤ℤ (P q.above -ℤ tt') → (at s.ends.lo k *ℤ pos D) ≤ℤ (N k -ℤ tt' *ℤ pos D)
      low' z = subst₂ (λ u x. (u *ℤ pos D) ≤ℤ (x -ℤ tt' *ℤ pos D)) (r.ready.low-is q.above above_in)
          (sym (own q.above above_in (omega (arith, q.is-above))))
          (less (P q.above) tt' (at s.low q.above) z)

      high' : (P q.above -ℤ tt') ≤ℤ at s.high q.above → (N k -ℤ tt' *ℤ pos D) ≤ℤ (at s.ends.hi k *ℤ pos D)
      high' z = subst₂ (λ u x. (x -ℤ tt' *ℤ pos D) ≤ℤ (u *ℤ pos D)) (r.ready.high_is q.above above_in)
          (sym (own q.above above_in (omega (arith, q.is-above)))) (more (P q.above) tt' (at s.high q.above) z)

  -- ---- the place itself

  module _ (x : List ℤ) (b : Incumbent) (good : GoodBest s b) where
    abbrev e : Ends
    e = fixed_by s P s.levels

    abbrev f : Fill
    f = fill s.cols e

    j : BoxInRange s.cols e b
    j = fixed-in-range s r long P inside s.levels b (omega arith) good.proper

    -- the filling's list of amounts leads what the filling leads
    taken-leads : (D : ℕ) (N : ℕ → ℤ) → Leads (valueᴰ (box s marks)) s.cols.count (parts s.cols e) (filling s.cols e) D N
        → NotAhead s marks (filled_by s.cols e x) D N
    taken-leads D N h =
        let few = r.order.sized.few in
        let same : Agree s.cols.count (filling s.cols e) (at (point_of s.cols e f (parts s.cols e))) =
        λ k l. sym (point_at s.cols e f (parts s.cols e) few k l) in (
          refl,
          leads-cong (valueᴰ (box s marks)) s.cols.count (parts s.cols e) D (filling s.cols e) (at (point_of s.cols e f (parts s.cols e))) N same
              (total-cong s.cols.count (price_of s.cols) (filling s.cols e) (at (point_of s.cols e f (parts s.cols e))) same) h,
        )

    -- an incumbent that is kept, or the place
    pub tried-settles : (y : ℕ → ℤ) → Agree s.levels P y → Settled s marks (tried_by s.cols e x b) y
    unfolding tried_by
    tried-settles y h D N d≥1 p a = empty? (lt_z f.room (pos 0)) refl
      where
        in_e : Feasibleᴰ (box_of s.cols e marks) D N
        in_e = rebox s.cols s.ends e marks D N (in-fixed s r long marks m D N d≥1 p y a P s.levels (omega arith) h) p

        most : pos 0 ≤ℤ f.room → Leads (valueᴰ (box s marks)) s.cols.count (parts s.cols e) (filling s.cols e) D N
        most room = fill-first s.cols e marks (own_tied s r) j.in_order room D N d≥1 in_e

        better? : pos 0 ≤ℤ f.room → (found : Bool) → b.found ≡ found → (t : Bool) → ahead_by s.cols e f b ≡ t
            → NotAhead s marks (cond (cond found t true) (filled_by s.cols e x) b) D N ⊎ Bettered s marks D N
        better? room false q t z = inl (taken-leads D N (most room))
        better? room true q true z = inl (taken-leads D N (most room))
        better? room true q false z = inl (
          q,
          leads-trans (valueᴰ (box s marks)) s.cols.count (filling s.cols e) N (at b.point) d≥1 (own-parts s r marks e b j room)
              (omega (arith, (good.proper q).proper.low)) (behind-leads s r marks e b j room q (good.value-is q marks) z) (most room),
        )

        empty? : (t : Bool) → lt_z f.room (pos 0) ≡ t → NotAhead s marks (cond t b (cond (betters s.cols e b) (filled_by s.cols e x) b)) D N
            ⊎ Bettered s marks D N
        empty? true q = absurd (clash_ℤ (yes_lt q) (fill-some s.cols e marks (own_tied s r) j.in_order D N d≥1 in_e))
        empty? false q = better? (no_lt q) b.found refl (ahead_by s.cols e f b) refl

    pub tried-keeps : (y : ℕ → ℤ) → Settled s marks b y → Settled s marks (tried_by s.cols e x b) y
    unfolding tried_by
    tried-keeps y h D N d≥1 p a = keep (h D N d≥1 p a)
      where
        kept : NotAhead s marks b D N → (t : Bool) → lt_z f.room (pos 0) ≡ t → (u : Bool) → ahead_by s.cols e f b ≡ u
            → NotAhead s marks (cond t b (cond (cond b.found u true) (filled_by s.cols e x) b)) D N
        kept k true w u z = k
        kept (q, k) false w true z = rw q (taken-leads D N
            (leads-trans (valueᴰ (box s marks)) s.cols.count (at b.point) N (filling s.cols e) d≥1 (omega (arith, (good.proper q).proper.low))
            (own-parts s r marks e b j (no_lt w)) (ahead-leads s r marks e b j (no_lt w) q (good.value-is q marks) z) k))
        kept (q, k) false w false z = rw q (refl, k)

        keep : NotAhead s marks b D N ⊎ Bettered s marks D N → NotAhead s marks (tried_by s.cols e x b) D N ⊎ Bettered s marks D N
        keep (inl k) = inl (kept k (lt_z f.room (pos 0)) refl (ahead_by s.cols e f b) refl)
        keep (inr k) = inr k
