-- What a search and the scales say of a box, and what the scales rely on.
-- boxes: the setting's box is one that they take; tried: so is an incumbent.
-- settled-best: the place that they find is best.  optimal-at: a best place is an optimal place.
-- tied-ready: a setting with its columns tied is one to search.  ended-best: the place of a search that has ended is best; ended-first: and its
-- filling the first best point.  stopped-stands: before, it is a place with room.
use mathlib.Core.Path.{◌≡◌, refl, sym, ap, subst}
use mathlib.Core.Bool.{Bool, true}
use Rattle.std.specs.Prelude.{Option, Some, None, List, is_some, unwrap_or, replicate}
use mathlib.Core.Logic.{◌⊎◌, inl, inr}
use Prim.Native.Nat.{ℕ, ◌≤◌, ◌<◌}
use native.Mathlib.Omega.{arith}
use lib.IntN.{ℤ, pos, ◌*ℤ◌}
use lib.Signed.{◌≤ℤ◌, ◌<ℤ◌}
use Rattle.arith.specs.Mixed.{Proper}
use Rattle.arith.specs.declared.Fraction.{Fraction}
use Rattle.arith.proofs.Integers.{≤ℤ-antisym, ≤ℤ-or-<}
use Rattle.arith.proofs.Mixes.{over}
use Rattle.arith.proofs.Parts.{impossible}
use Rattle.ceiling.specs.Sizes.{Spanned}
use Rattle.firsts.specs.Leading.{OptimalAt, Shows, FirstBest}
use Rattle.firsts.proofs.Places.{some-marks}
use Rattle.foremost.specs.Order.{TiedOf}
use Rattle.foremost.proofs.Covering.{marks-differ}
use Rattle.foremost.proofs.Earlier.{Agree, not-after-cong}
use Rattle.foremost.proofs.Filling.{parts, filling, fill-foremost}
use Rattle.foremost.proofs.First.{tied-box}
use Rattle.foremost.proofs.Foremost.{Foremostᴰ, feasible-cong, total-cong}
use Rattle.foremost.proofs.Worth.{filling-worth}
use Rattle.greedy.specs.Fill.{at, fill, solution}
use Rattle.greedy.proofs.Bounds.{bound-proper}
use Rattle.greedy.specs.declared.Columns.{Columns}
use Rattle.greedy.specs.declared.Ends.{Ends}
use Rattle.greedy.proofs.Relaxed.{box_of, InOrder, fill-empty, fill-stopped, fill-point}
use Rattle.greedy.proofs.Sizes.{fill-sized}
use Rattle.knapsack.specs.Meaning.{Instance, prices}
use Rattle.knapsack.specs.declared.Mark.{Mark}
use Rattle.knapsack.specs.declared.Mark.TheVariants.{Continuous}
use Rattle.knapsack.proofs.Common.{valueᴰ, Feasibleᴰ, Optimalᴰ}
use Rattle.search.specs.Ahead.{point_of}
use Rattle.search.specs.declared.Incumbent.{Incumbent}
use Rattle.search.specs.Searched.{Searched}
use Rattle.search.specs.Steps.{FilledBest}
use Rattle.search.specs.Tying.{with_cols, ReadyTied}
use Rattle.search.proofs.Orders.{point_at}
use Rattle.setting.specs.declared.Setting.{Setting}
use Rattle.setting.specs.Box.{level_at, fixed_by, Long, Inside}
use Rattle.setting.specs.Ready.{ReadySetting, Marked}
use Rattle.setting.proofs.Boxes.{fixed-level, fixed-other, fixed-sized, fixed-order}
use Rattle.settling.specs.declared.Settled.{Settled}
use Rattle.settling.specs.Settling.{Boxes, Levels, Fixes, Between, Tried, BestAt, Settles}
use Rattle.solver.specs.Outcomes.{box_at, fill_at, value_at, BestIn, Standing}

module _ (s : Setting) (r : ReadySetting s) where
  pub boxes : Spanned s.cols s.ends → Boxes s.cols s.ends s.level s.levels
  boxes z = record { sized = r.sized; ordered = r.ordered; in_order = r.in_order; spanned = z; few = r.few; level_in = r.level_in }

  -- by level and by item the ends are the same
  between : (P : ℕ → ℤ) → Inside s P → Between s.ends s.level s.levels P
  between P h d l = (subst (λ x. x ≤ℤ P d) (r.low-is d l) (h d l).0, subst (λ x. P d ≤ℤ x) (r.high_is d l) (h d l).1)

  inside : (P : ℕ → ℤ) → Between s.ends s.level s.levels P → Inside s P
  inside P h d l = (subst (λ x. x ≤ℤ P d) (sym (r.low-is d l)) (h d l).0, subst (λ x. P d ≤ℤ x) (sym (r.high_is d l)) (h d l).1)

  levels : (marks : ℕ → Mark) → Marked s marks → Levels s.cols s.level s.levels marks
  levels marks m = record { integer = m.integer; of = m.level }

  module _ (long : Long s.ends) where
    fixes : (P : ℕ → ℤ) → Fixes s.ends s.level s.levels P (fixed_by s P s.levels)
    fixes P = record {
      own = λ d l. fixed-level s r long P s.levels d (omega arith) l;
      other = λ k h. fixed-other s r long P s.levels k h;
    }

    -- what the filling at a place is worth can be compared
    own-proper : (x : List ℤ) → Inside s (at x) → Proper (value_at s s.cols x)
    own-proper x h = bound-proper s.cols (fill_at s s.cols x) (fill-sized s.cols (box_at s x)
        (record { columns = r.sized.columns; ends = fixed-sized s r long (at x) s.levels (omega arith) h }))

    pub tried : (x : List ℤ) → Standing s x → Tried s.cols s.ends s.level s.levels (at x) (value_at s s.cols x)
    tried x g = record {
      between = between (at x) g.inside;
      ends = box_at s x;
      fixes = fixes (at x);
      roomy = g.roomy;
      value-is = refl;
      proper = own-proper x g.inside;
    }

    module _ (t : Settled) (h : Settles s.cols s.ends s.level s.levels t) where
      best : (x : List ℤ) → t.place ≡ Some x → (marks : ℕ → Mark) → Marked s marks → BestAt s.cols s.ends marks (box_at s x)
      best x e marks m = (h.found x e).best (box_at s x) (fixes (at x)) marks (levels marks m)

      by-place : (o : Option (List ℤ)) → t.place ≡ o → BestIn s s.cols (is_some o) (unwrap_or o (replicate 16 (pos 0)))
      by-place (Some x) e = record {
        inside = λ f. stands;
        roomy = λ f. let m = some-marks s in (best x e m.0 m.1).roomy;
        optimal = λ f marks m. (best x e marks m).optimal;
        value-is = λ f marks m. (best x e marks m).value-is;
        proper = λ f. own-proper x stands;
        empty = λ f. absurd (impossible (sym f));
      }
        where
          stands : Inside s (at x)
          stands = inside (at x) (h.found x e).between
      by-place None e = record {
        inside = λ f. absurd (impossible f);
        roomy = λ f. absurd (impossible f);
        optimal = λ f. absurd (impossible f);
        value-is = λ f. absurd (impossible f);
        proper = λ f. absurd (impossible f);
        empty = λ f marks m. h.none e marks;
      }

      pub settled-best : BestIn s s.cols (is_some t.place) (unwrap_or t.place (replicate 16 (pos 0)))
      settled-best = by-place t.place refl

-- ---- a setting to search

module _ (s : Setting) (r : ReadySetting s) (c : Columns) (t : TiedOf s.cols c) where
  pub tied-ready : ReadyTied (with_cols s c)
  tied-ready = record { plain = s.cols; ready = r; order = t }

  -- marks do not look at columns
  tied-marked : (marks : ℕ → Mark) → Marked s marks → Marked (with_cols s c) marks
  tied-marked marks m = record { integer = m.integer; level = λ k l i. m.level k (subst (λ n. k < n) t.count l) i }

  module _ (long : Long s.ends) (x : List ℤ) (inside : Inside s (at x)) where
    abbrev e : Ends
    e = box_at s x

    order : InOrder c e
    order k l = fixed-order s r long (at x) s.levels (omega arith) k (subst (λ n. k < n) t.count l)

    own-parts : Proper (value_at s c x)
    own-parts = bound-proper c (fill_at s c x) (fill-sized c e
        (record { columns = t.sized; ends = fixed-sized s r long (at x) s.levels (omega arith) inside }))

    module _ (room : pos 0 ≤ℤ (fill_at s c x).room) where
      loose : Feasibleᴰ (box_of c e (λ k. Continuous)) (parts c e) (filling c e)
      loose = (fill-foremost c e (λ k. Continuous) t.tied order room (λ k l i. absurd (marks-differ i refl))).optimal.feasible

      -- where the one order of filling leaves room, so does the other
      pub plain-room : pos 0 ≤ℤ (fill_at s s.cols x).room
      plain-room = go (≤ℤ-or-< (pos 0) (fill_at s s.cols x).room)
        where
          go : (pos 0 ≤ℤ (fill_at s s.cols x).room) ⊎ ((fill_at s s.cols x).room <ℤ pos 0) → pos 0 ≤ℤ (fill_at s s.cols x).room
          go (inl h) = h
          go (inr h) = absurd (fill-empty s.cols e (λ k. Continuous) r.ordered (fixed-order s r long (at x) s.levels (omega arith)) h (parts c e)
              (filling c e) (omega (arith, own-parts.low))
              (subst (λ (i : Instance). Feasibleᴰ i (parts c e) (filling c e)) (tied-box s.cols c e (λ k. Continuous) t) loose))

      pub level-amount : (d : ℕ) → d < s.levels → filling c e (level_at s d) ≡ at x d *ℤ pos (parts c e)
      level-amount d l =
          let k = level_at s d in
          let h = fixed-level s r long (at x) s.levels d (omega arith) l in
          let i = loose.keeps k (subst (λ n. k < n) (sym t.count) (r.level_in d l)) in
          ≤ℤ-antisym (subst (λ z. filling c e k ≤ℤ (z *ℤ pos (parts c e))) h.1 i.below)
          (subst (λ z. (z *ℤ pos (parts c e)) ≤ℤ filling c e k) h.0 i.above)

  -- ---- a search that has ended

  foremost-cong : (i : Instance) (E : ℕ) (M M' : ℕ → ℤ) → Agree i.count M M' → Foremostᴰ i E M → Foremostᴰ i E M'
  foremost-cong i E M M' a h =
      let v : valueᴰ i M ≡ valueᴰ i M' = total-cong i.count (prices i) M M' a in
      record {
        optimal = record {
          feasible = feasible-cong i E M M' a h.optimal.feasible;
          highest = λ D N d p. subst (λ z. (valueᴰ i N *ℤ pos E) ≤ℤ (z *ℤ pos D)) v (h.optimal.highest D N d p);
        };
        first = λ D N d p w. not-after-cong (λ k l. ap (λ z. z *ℤ pos D) (a k l)) (λ k l. refl)
            (h.first D N d p (subst (λ z. (z *ℤ pos D) ≤ℤ (valueᴰ i N *ℤ pos E)) (sym v) w));
      }

  module _ (long : Long s.ends) (b : Incumbent) (g : Searched (with_cols s c) b) (f : FilledBest (with_cols s c) b) where
    abbrev x : List ℤ
    x = b.place

    abbrev h : Ends
    h = box_at s x

    pub ended-first : b.found ≡ true → (marks : ℕ → Mark) → Marked s marks → Foremostᴰ (box_of c s.ends marks) (parts c h) (filling c h)
    ended-first y marks m = foremost-cong (box_of c s.ends marks) (parts c h) (at (point_of c h (fill c h) (parts c h))) (filling c h)
        (λ k l. point_at c h (fill c h) (parts c h) t.sized.few k l)
        (subst (λ (z : Incumbent). Foremostᴰ (box_of c s.ends marks) z.value.parts (at z.point)) (f.filling-is y)
        (g.foremost y marks (tied-marked marks m)))

    pub ended-best : BestIn s c b.found x
    ended-best = record {
      inside = f.inside;
      roomy = f.roomy;
      optimal = λ y marks m. subst (λ (i : Instance). Optimalᴰ i (parts c h) (filling c h)) (tied-box s.cols c s.ends marks t)
          (ended-first y marks m).optimal;
      value-is = λ y marks m. subst (λ (i : Instance). valueᴰ i (filling c h) ≡ over (value_at s c x)) (tied-box s.cols c s.ends marks t)
          (filling-worth c h marks t.tied t.rated (f.roomy y));
      proper = λ y. own-parts long x (f.inside y);
      empty = λ y marks m. subst (λ (i : Instance). (D : ℕ) (N : ℕ → ℤ) → 1 ≤ D → ¬ Feasibleᴰ i D N) (tied-box s.cols c s.ends marks t)
          (g.empty y marks (tied-marked marks m));
    }

    pub ended-lead : b.found ≡ true → (l : List Fraction) → Shows s c (at x) l → FirstBest s (record { point = l; written = 0 })
    ended-lead y l a = record {
      long = long;
      cols = c;
      tied = t;
      place = at x;
      inside = f.inside y;
      room = f.roomy y;
      shows = a;
      first = ended-first y;
    }

    pub ended_at : b.found ≡ true → OptimalAt s (at x)
    ended_at y = record {
      inside = f.inside y;
      divisor = parts c h;
      point = filling c h;
      some = omega (arith, (own-parts long x (f.inside y)).low);
      at_place = level-amount long x (f.inside y) (f.roomy y);
      optimal = ended-best.optimal y;
    }

  -- ---- one that has not

  pub stopped-stands : Long s.ends → (b : Incumbent) → FilledBest (with_cols s c) b → b.found ≡ true → Standing s b.place
  stopped-stands long b f y = record { inside = f.inside y; roomy = plain-room long b.place (f.inside y) (f.roomy y) }

-- ---- the place of a best filling in the setting's own order

module _ (s : Setting) (r : ReadySetting s) (long : Long s.ends) (f : Bool) (x : List ℤ) (g : BestIn s s.cols f x) (y : f ≡ true) where
  abbrev own : Ends
  own = box_at s x

  abbrev N : ℕ → ℤ
  N = solution s.cols own (fill_at s s.cols x)

  abbrev D : ℕ
  D = (value_at s s.cols x).parts

  point-keeps : Feasibleᴰ (box_of s.cols own (λ k. Continuous)) D N
  point-keeps = fill-point s.cols own (λ k. Continuous) r.ordered ordered (λ k l i. absurd (marks-differ i refl)) (fill_at s s.cols x)
      (fill-stopped s.cols own (λ k. Continuous) r.ordered ordered (g.roomy y))
    where
      ordered : InOrder s.cols own
      ordered = fixed-order s r long (at x) s.levels (omega arith)

  stands_at : (d : ℕ) → d < s.levels → N (level_at s d) ≡ at x d *ℤ pos D
  stands_at d l = let k = point-keeps.keeps (level_at s d) (r.level_in d l) in
      let h = fixed-level s r long (at x) s.levels d (omega arith) l in
      ≤ℤ-antisym (subst (λ z. N (level_at s d) ≤ℤ (z *ℤ pos D)) h.1 k.below) (subst (λ z. (z *ℤ pos D) ≤ℤ N (level_at s d)) h.0 k.above)

  pub optimal-at : OptimalAt s (at x)
  optimal-at = record {
    inside = g.inside y;
    divisor = D;
    point = N;
    some = omega (arith, (g.proper y).low);
    at_place = stands_at;
    optimal = g.optimal y;
  }
