-- Why a look may set places aside.
--   InBox e D N       N / D keeps the ends of e
--   AtPlace D N y     the levels' items have the amounts y
--   NotAhead b D N    N / D is not ahead of the incumbent
--   Bettered D N      some feasible point is worth at least 1 more
--   Settled b y       every feasible point at y is the one or the other
-- in-fixed, in-run: a point is in the box of each prefix and run that it shares. run-leads: the run's filling leads it.
-- point-lies, sparse-most: what it changes is on the lattice; so where that has nothing better, nor has the run.
use mathlib.Core.Path.{◌≡◌, refl, sym, ap, ◌∙◌, subst, subst₂}
use mathlib.Core.Bool.{Bool, true, false, cond}
use mathlib.Core.Logic.{◌≢◌, ◌⊎◌, inl, inr}
use Prim.Native.Nat.{ℕ, zero, suc, ◌≤◌, ◌<◌}
use native.Mathlib.Omega.{arith}
use native.Mathlib.Decide.{dec_lt, ℕ_discrete}
use lib.Dec.{ltb}
use lib.IntN.{ℤ, pos, ◌+ℤ◌, ◌-ℤ◌, ◌*ℤ◌}
use lib.Signed.{◌≤ℤ◌, ◌<ℤ◌, lt_z, clash_ℤ}
use borrow.Author.Tests.{ltb-true}
use Rattle.arith.specs.Sum.{sum}
use Rattle.arith.proofs.Integers.{split2, split3, split4, zed, ≤ℤ-reflexive, ≤ℤ-antisym, times-≤, times-≤-back}
use Rattle.arith.proofs.Sums.{sum-times, sum-diff}
use Rattle.arith.proofs.Parts.{impossible}
use Rattle.arith.proofs.Words.{yes_lt, no_lt}
use Rattle.knapsack.specs.declared.Mark.{Mark}
use Rattle.knapsack.specs.declared.Mark.TheVariants.{Integer, Continuous}
use Rattle.knapsack.specs.Meaning.{Instance}
use Rattle.knapsack.proofs.Common.{weighsᴰ, valueᴰ, Feasibleᴰ}
use Rattle.greedy.specs.declared.Columns.{Columns}
use Rattle.greedy.specs.declared.Ends.{Ends}
use Rattle.greedy.specs.declared.Fill.{Fill}
use Rattle.greedy.specs.Fill.{at, weight_of, price_of, rank_of, fill, stand}
use Rattle.greedy.proofs.Relaxed.{box_of, InOrder}
use Rattle.foremost.proofs.Filling.{parts, filling, fill-first}
use Rattle.foremost.proofs.Leads.{Leads}
use Rattle.foremost.proofs.Slope.{stand-level, tied-slope}
use Rattle.foremost.proofs.Worth.{fill-worth}
use Rattle.greedy.specs.Sized.{SizedFill}
use Rattle.lattice.specs.declared.Lattice.{Lattice}
use Rattle.lattice.specs.Lattice.{On, lattice_at, barren_by}
use Rattle.lattice.proofs.Members.{on-zero, on-scale, Lies, sum_lies}
use Rattle.lattice.proofs.Descent.{barren-true, known}
use Rattle.places.proofs.Places.{Agree, Run}
use Rattle.setting.specs.declared.Setting.{Setting}
use Rattle.search.specs.declared.Incumbent.{Incumbent}
use Rattle.setting.specs.Box.{level_at, spanned, fixed_in, fixed_by, Long}
use Rattle.search.specs.Search.{start_by, run_ends, slope_of, sparse_by}
use Rattle.setting.specs.Ready.{Marked}
use Rattle.search.specs.Tying.{ReadyTied}
use Rattle.setting.proofs.Boxes.{at_same, at_other}
use Rattle.search.proofs.Boxes.{own_tied, own-rated, own_in, own-changes, item<16, fixed-long, fixed-level, fixed-other}
use Rattle.search.proofs.Starts.{order_of}
use Rattle.search.proofs.Slopes.{steep}

-- ---- points of a box

abbrev pub InBox : Columns → Ends → ℕ → (ℕ → ℤ) → Type 0
InBox c e D N = (k : ℕ) → k < c.count → ((at e.lo k *ℤ pos D) ≤ℤ N k) × (N k ≤ℤ (at e.hi k *ℤ pos D))

pub in-box : (c : Columns) (e : Ends) (marks : ℕ → Mark) (D : ℕ) (N : ℕ → ℤ) → Feasibleᴰ (box_of c e marks) D N → InBox c e D N
in-box c e marks D N p k l = ((p.keeps k l).above, (p.keeps k l).below)

-- marks and weight do not look at the ends
pub rebox : (c : Columns) (e e' : Ends) (marks : ℕ → Mark) (D : ℕ) (N : ℕ → ℤ) → InBox c e' D N → Feasibleᴰ (box_of c e marks) D N
    → Feasibleᴰ (box_of c e' marks) D N
rebox c e e' marks D N h p = record { keeps = λ k l. record { marked = (p.keeps k l).marked; above = (h k l).0; below = (h k l).1 }; fits = p.fits }

in_span : (c : Columns) (e : Ends) (i : ℕ) (l u : ℤ) (D : ℕ) (N : ℕ → ℤ) → Long e → i < 16 → InBox c e D N → (l *ℤ pos D) ≤ℤ N i → N i ≤ℤ (u *ℤ pos D)
    → InBox c (spanned e i l u) D N
in_span c e i l u D N g n h a b k m = go (ℕ_discrete k i)
  where
    go : Dec (k ≡ i) → ((at (spanned e i l u).lo k *ℤ pos D) ≤ℤ N k) × (N k ≤ℤ (at (spanned e i l u).hi k *ℤ pos D))
    go (yes q) = rw (q, at_same e.lo i l (omega (arith, g.lo-long)), at_same e.hi i u (omega (arith, g.hi-long))) (a, b)
    go (no q) = rw (at_other e.lo i l k q, at_other e.hi i u k q) (h k m)

-- ---- fixed items

cond_same : {A : Type 0} (b : Bool) (x : A) → cond b x x ≡ x
cond_same true x = refl
cond_same false x = refl

-- an item with equal ends stands there
stand-fixed : (c : Columns) (e : Ends) (t k : ℕ) → at e.lo k ≡ at e.hi k → stand c e t k ≡ at e.lo k
stand-fixed c e t k h =
    rw (
      ← h,
      cond_same (lt_z (pos 0) (price_of c k)) (at e.lo k),
      cond_same (lt_z (weight_of c k) (pos 0)) (at e.lo k),
      cond_same (lt_z (pos 0) (weight_of c k)) (at e.lo k),
      cond_same (ltb (rank_of c k) t) (at e.lo k),
    )

-- ---- settled places

module _ (s : Setting) (marks : ℕ → Mark) where
  abbrev pub box : Instance
  box = box_of s.cols s.ends marks

  abbrev pub AtPlace : ℕ → (ℕ → ℤ) → (ℕ → ℤ) → Type 0
  AtPlace D N y = (d : ℕ) → d < s.levels → N (level_at s d) ≡ y d *ℤ pos D

  abbrev pub NotAhead : Incumbent → ℕ → (ℕ → ℤ) → Type 0
  NotAhead b D N = (b.found ≡ true) × Leads (valueᴰ box) s.cols.count b.value.parts (at b.point) D N

  abbrev pub Bettered : ℕ → (ℕ → ℤ) → Type 0
  Bettered D N = (N' : ℕ → ℤ) × Feasibleᴰ box D N' × ((valueᴰ box N +ℤ pos D) ≤ℤ valueᴰ box N')

  abbrev pub Settled : Incumbent → (ℕ → ℤ) → Type 0
  Settled b y = (D : ℕ) (N : ℕ → ℤ) → 1 ≤ D → Feasibleᴰ box D N → AtPlace D N y → NotAhead b D N ⊎ Bettered D N

module _ (s : Setting) (r : ReadyTied s) (long : Long s.ends) (marks : ℕ → Mark) (m : Marked s marks) where
  module _ (D : ℕ) (N : ℕ → ℤ) (d≥1 : 1 ≤ D) (p : Feasibleᴰ (box s marks) D N) (y : ℕ → ℤ) (a : AtPlace s marks D N y) where
    -- the point is in the box of each prefix that it shares
    pub in-fixed : (P : ℕ → ℤ) (d : ℕ) → d ≤ s.levels → Agree d P y → InBox s.cols (fixed_by s P d) D N
    unfolding fixed_in
    in-fixed P zero l h = in-box s.cols s.ends marks D N p
    in-fixed P (suc d) l h =
        let e : N (level_at s d) ≡ P d *ℤ pos D = a d l ∙ ap (λ z. z *ℤ pos D) (sym (h d (omega arith))) in
        in_span s.cols (fixed_by s P d) (level_at s d) (P d) (P d) D N (fixed-long s r long P d) (item<16 s r long d l)
        (in-fixed P d (omega arith) (λ k n. h k (omega arith))) (≤ℤ-reflexive (sym e)) (≤ℤ-reflexive e)

    own-low : (d : ℕ) → d < s.levels → (at s.low d *ℤ pos D) ≤ℤ N (level_at s d)
    own-low d l = subst (λ z. (z *ℤ pos D) ≤ℤ N (level_at s d)) (sym (r.ready.low-is d l)) (p.keeps (level_at s d) (own_in s r d l)).above

    own-high : (d : ℕ) → d < s.levels → N (level_at s d) ≤ℤ (at s.high d *ℤ pos D)
    own-high d l = subst (λ z. N (level_at s d) ≤ℤ (z *ℤ pos D)) (sym (r.ready.high_is d l)) (p.keeps (level_at s d) (own_in s r d l)).below

    -- and in the box of each run that it is in
    pub in-run : (P : ℕ → ℤ) (d : ℕ) → d < s.levels → Run (order_of s) d P y → InBox s.cols (run_ends s P (start_by s P d) d) D N
    in-run P d l (h, seg) = go (lt_z (P d) (start_by s P d)) refl seg
      where
        base : InBox s.cols (fixed_by s P d) D N
        base = in-fixed P d (omega arith) h

        spans : (x u : ℤ) → (x *ℤ pos D) ≤ℤ N (level_at s d) → N (level_at s d) ≤ℤ (u *ℤ pos D) → InBox s.cols (spanned (fixed_by s P d) (level_at s d) x u) D N
        spans x u low high = in_span s.cols (fixed_by s P d) (level_at s d) x u D N (fixed-long s r long P d) (item<16 s r long d l) base low high

        below : y d ≤ℤ P d → N (level_at s d) ≤ℤ (P d *ℤ pos D)
        below h = subst (λ z. z ≤ℤ (P d *ℤ pos D)) (sym (a d l)) (times-≤ D (y d) (P d) h)

        above : P d ≤ℤ y d → (P d *ℤ pos D) ≤ℤ N (level_at s d)
        above h = subst (λ z. (P d *ℤ pos D) ≤ℤ z) (sym (a d l)) (times-≤ D (P d) (y d) h)

        go : (t : Bool) → lt_z (P d) (start_by s P d) ≡ t → ((start_by s P d ≤ℤ P d) × (P d ≤ℤ y d)) ⊎ ((P d <ℤ start_by s P d) × (y d ≤ℤ P d))
            → InBox s.cols (spanned (fixed_by s P d) (level_at s d) (cond t (at s.low d) (P d)) (cond t (P d) (at s.high d))) D N
        go true q (inl (v, w)) = clash_ℤ (yes_lt q) v
        go true q (inr (v, w)) = spans (at s.low d) (P d) (own-low d l) (below w)
        go false q (inl (v, w)) = spans (P d) (at s.high d) (above w) (own-high d l)
        go false q (inr (v, w)) = clash_ℤ v (no_lt q)

    -- ---- cut by the relaxation of a run and by its lattice

    module _ (P : ℕ → ℤ) (d : ℕ) (l : d < s.levels) (run : Run (order_of s) d P y) (ordered : InOrder s.cols (run_ends s P (start_by s P d) d)) where
      abbrev e : Ends
      e = run_ends s P (start_by s P d) d

      abbrev f : Fill
      f = fill s.cols e

      pub in_e : Feasibleᴰ (box_of s.cols e marks) D N
      in_e = rebox s.cols s.ends e marks D N (in-run P d l run) p

      pub run-leads : pos 0 ≤ℤ f.room → Leads (valueᴰ (box s marks)) s.cols.count (parts s.cols e) (filling s.cols e) D N
      run-leads room = fill-first s.cols e marks (own_tied s r) ordered room D N d≥1 in_e

      -- the ends of an item that is not level d's: as in the prefix's box
      pub other-ends : (k : ℕ) → k ≢ level_at s d → (at e.lo k ≡ at (fixed_by s P d).lo k) × (at e.hi k ≡ at (fixed_by s P d).hi k)
      other-ends k ne = (at_other (fixed_by s P d).lo (level_at s d) _ k ne, at_other (fixed_by s P d).hi (level_at s d) _ k ne)

      -- an item with equal ends stands there
      pub fixed-stands : (t k : ℕ) → k < s.cols.count → at e.lo k ≡ at e.hi k → N k ≡ stand s.cols e t k *ℤ pos D
      fixed-stands t k n h = at-lo ∙ ap (λ z. z *ℤ pos D) (sym (stand-fixed s.cols e t k h))
        where
          at-lo : N k ≡ at e.lo k *ℤ pos D
          at-lo = ≤ℤ-antisym (subst (λ z. N k ≤ℤ (z *ℤ pos D)) (sym h) (in_e.keeps k n).below) (in_e.keeps k n).above

      -- so does one of no level that is fixed in the box
      pub box-stands : (t k : ℕ) → k < s.cols.count → marks k ≡ Continuous
          → (((j : ℕ) → j < s.levels → level_at s j ≢ k) → at s.ends.lo k ≡ at s.ends.hi k) → N k ≡ stand s.cols e t k *ℤ pos D
      box-stands t k n q g =
          let free : (j : ℕ) → j < s.levels → level_at s j ≢ k = λ j o x. unlike (sym (m.integer j o) ∙ ap marks x ∙ q) in
          let h = other-ends k (λ x. free d l (sym x)) in
          let b = fixed-other s r long P d k (λ j o. free j (omega arith)) in
          fixed-stands t k n (h.0 ∙ b.0 ∙ g free ∙ sym b.1 ∙ sym h.1)
        where
          unlike : Integer ≡ Continuous → ⊥
          unlike x = let z : ◌≡◌ {A = ℕ} 0 1 = cc in omega arith

      -- where the levels' items are on a lattice L, and continuous ones stand
      module _ (L : Lattice) (on : (j : ℕ) → d ≤ j → j < s.levels → On L (weight_of s.cols (level_at s j)) (price_of s.cols (level_at s j)))
          (still : (k : ℕ) → k < s.cols.count → marks k ≡ Continuous → N k ≡ stand s.cols e f.at k *ℤ pos D) where
        -- what item k changes, against the whole amounts
        abbrev Term : ℕ → Type 0
        Term k = Lies L D (weight_of s.cols k *ℤ (N k -ℤ stand s.cols e f.at k *ℤ pos D))
            (price_of s.cols k *ℤ (N k -ℤ stand s.cols e f.at k *ℤ pos D))

        -- an item that stands changes nothing
        still-term : (k : ℕ) → N k ≡ stand s.cols e f.at k *ℤ pos D → Term k
        still-term k h = record {
          weight = pos 0;
          worth = pos 0;
          on = on-zero L;
          weight_is = none (weight_of s.cols k);
          worth-is = none (price_of s.cols k);
        }
          where
            zero-term : (c x : ℤ) → c *ℤ (x *ℤ pos D -ℤ x *ℤ pos D) ≡ pos 0 *ℤ pos D
            zero-term = split2 _ (λ a b c e. simp zed (omega arith))

            none : (c : ℤ) → c *ℤ (N k -ℤ stand s.cols e f.at k *ℤ pos D) ≡ pos 0 *ℤ pos D
            none c = ap (λ x. c *ℤ (x -ℤ stand s.cols e f.at k *ℤ pos D)) h ∙ zero-term c (stand s.cols e f.at k)

        -- a level's item
        level-term : (j : ℕ) → j < s.levels → Dec (j < d) → Term (level_at s j)
        level-term j n (yes o) =
            let ne : level_at s j ≢ level_at s d = λ q. apart (r.ready.distinct j d n l q) in
            let h = other-ends (level_at s j) ne in
            let b = fixed-level s r long P d j (omega arith) o in
            still-term (level_at s j) (fixed-stands f.at (level_at s j) (own_in s r j n) (h.0 ∙ b.0 ∙ sym b.1 ∙ sym h.1))
          where
            apart : j ≡ d → ⊥
            apart q = omega arith
        level-term j n (no o) =
            let z = y j -ℤ stand s.cols e f.at (level_at s j) in
            record {
              weight = weight_of s.cols (level_at s j) *ℤ z;
              worth = price_of s.cols (level_at s j) *ℤ z;
              on = on-scale L (on j (omega arith) n) z;
              weight_is = scaled (weight_of s.cols (level_at s j));
              worth-is = scaled (price_of s.cols (level_at s j));
            }
          where
            join : (c x z : ℤ) → c *ℤ (x *ℤ pos D -ℤ z *ℤ pos D) ≡ (c *ℤ (x -ℤ z)) *ℤ pos D
            join = split3 _ (λ a b c e f g. simp zed (omega arith))

            scaled : (c : ℤ) → c *ℤ (N (level_at s j) -ℤ stand s.cols e f.at (level_at s j) *ℤ pos D) ≡
                (c *ℤ (y j -ℤ stand s.cols e f.at (level_at s j))) *ℤ pos D
            scaled c = ap (λ x. c *ℤ (x -ℤ stand s.cols e f.at (level_at s j) *ℤ pos D)) (a j n) ∙ join c (y j) (stand s.cols e f.at (level_at s j))

        term : (k : ℕ) → k < s.cols.count → Term k
        term k n = go (marks k) refl
          where
            go : (mk : Mark) → marks k ≡ mk → Term k
            go Integer q = let v = m.level k n q in subst Term v.2 (level-term v.0 v.1 (dec_lt v.0 d))
            go Continuous q = still-term k (still k n q)

        -- what the point changes is on the lattice
        pub point-lies : pos 0 ≤ℤ f.room
            → Lies L D (weighsᴰ (box s marks) N -ℤ (s.cols.capacity -ℤ f.room) *ℤ pos D) (valueᴰ (box s marks) N -ℤ f.worth *ℤ pos D)
        point-lies room =
            let q = sum_lies L s.cols.count D (λ k. weight_of s.cols k *ℤ (N k -ℤ stand s.cols e f.at k *ℤ pos D))
            (λ k. price_of s.cols k *ℤ (N k -ℤ stand s.cols e f.at k *ℤ pos D)) (λ k n. term k n) in
            subst₂ (Lies L D) (differ (weight_of s.cols) (s.cols.capacity -ℤ f.room)
            (left _ f.room s.cols.capacity (stand-level s.cols e marks (own_tied s r) ordered room)))
            (differ (price_of s.cols) f.worth (fill-worth s.cols e marks (own_tied s r) (own-rated s r)).1) q
          where
            left : (w r b : ℤ) → w +ℤ r ≡ b → w ≡ b -ℤ r
            left = split3 _ (λ a b c e f g. simp zed (omega arith))

            differ : (c : ℕ → ℤ) (w : ℤ) → sum s.cols.count (λ k. c k *ℤ stand s.cols e f.at k) ≡ w
                → sum s.cols.count (λ k. c k *ℤ (N k -ℤ stand s.cols e f.at k *ℤ pos D)) ≡ sum s.cols.count (λ k. c k *ℤ N k) -ℤ w *ℤ pos D
            differ c w h = sum-diff s.cols.count c N (λ k. stand s.cols e f.at k *ℤ pos D)
                ∙ ap (λ x. sum s.cols.count (λ k. c k *ℤ N k) -ℤ x) (sum-times s.cols.count c (stand s.cols e f.at) D ∙ ap (λ x. x *ℤ pos D) h)

      abbrev L : Lattice
      L = lattice_at s.lattice d

      -- nothing in a sparse run is worth more than b
      pub sparse-most : pos 0 ≤ℤ f.room → SizedFill s.cols f → (b : ℤ) → sparse_by s.cols L f b ≡ true → valueᴰ (box s marks) N ≤ℤ (b *ℤ pos D)
      unfolding sparse_by
      sparse-most room z b h = go (ltb f.at s.cols.live) refl h
        where
          ended : f.at < s.cols.live → barren_by L (slope_of s.cols f) f.room b ≡ true → valueᴰ (box s marks) N ≤ℤ (b *ℤ pos D)
          ended k h =
              let g = own-changes s r d l (known L (slope_of s.cols f) f.room b h) in
              let q = point-lies L g.on (λ k n z. box-stands f.at k n z (g.fixed k n)) room in
              let rise = tied-slope s.cols e marks (own_tied s r) ordered (own-rated s r) room k D N in_e.keeps in
              let slope = cancel D d≥1 (at s.cols.size f.at) (at s.cols.rate f.at) q.worth q.weight
              (subst₂ (λ v w. (at s.cols.size f.at *ℤ v) ≤ℤ (at s.cols.rate f.at *ℤ w)) q.worth-is q.weight_is rise) in
              let within = fits D d≥1 q.weight (weighsᴰ (box s marks) N) s.cols.capacity f.room q.weight_is p.fits in
              up (valueᴰ (box s marks) N) f.worth q.worth b q.worth-is
              (barren-true L f.room (r.ready.tame d (omega (arith, r.ready.few))) (slope_of s.cols f)
              (steep s.cols f (own_tied s r) (own-rated s r) z k) b h q.weight q.worth q.on within slope)
            where
              cancel : (D : ℕ) → 1 ≤ D → (x y v w : ℤ) → (x *ℤ (v *ℤ pos D)) ≤ℤ (y *ℤ (w *ℤ pos D)) → (x *ℤ v) ≤ℤ (y *ℤ w)
              cancel D d≥1 x y v w h = times-≤-back D (x *ℤ v) (y *ℤ w) d≥1 (subst₂ ◌≤ℤ◌ (out x v) (out y w) h)
                where
                  out : (x v : ℤ) → x *ℤ (v *ℤ pos D) ≡ (x *ℤ v) *ℤ pos D
                  out = split2 _ (λ a b c e. simp zed (omega arith))

              fits : (D : ℕ) → 1 ≤ D → (a w b r : ℤ) → w -ℤ (b -ℤ r) *ℤ pos D ≡ a *ℤ pos D → w ≤ℤ (b *ℤ pos D) → a ≤ℤ r
              fits D d≥1 a w b r h k = times-≤-back D a r d≥1 (close a w b r h k)
                where
                  close : (a w b r : ℤ) → w -ℤ (b -ℤ r) *ℤ pos D ≡ a *ℤ pos D → w ≤ℤ (b *ℤ pos D) → (a *ℤ pos D) ≤ℤ (r *ℤ pos D)
                  close = split4 _ (λ a b c e f g h i. simp zed (omega arith))

              up : (v w c b : ℤ) → v -ℤ w *ℤ pos D ≡ c *ℤ pos D → (w +ℤ c) ≤ℤ b → v ≤ℤ (b *ℤ pos D)
              up v w c b h k = subst (λ z. z ≤ℤ (b *ℤ pos D)) (sym (total v w c h)) (times-≤ D (w +ℤ c) b k)
                where
                  total : (v w c : ℤ) → v -ℤ w *ℤ pos D ≡ c *ℤ pos D → v ≡ (w +ℤ c) *ℤ pos D
                  total = split3 _ (λ a b c e f g. simp zed (omega arith))

          go : (v : Bool) → ltb f.at s.cols.live ≡ v → cond v (barren_by L (slope_of s.cols f) f.room b) false ≡ true
              → valueᴰ (box s marks) N ≤ℤ (b *ℤ pos D)
          go false q h = absurd (impossible h)
          go true q h = ended (ltb-true f.at s.cols.live q) h
