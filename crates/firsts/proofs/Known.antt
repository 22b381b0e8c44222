-- A place that is known to come first: where no continuous item can change, its filling is the optimal point of the box that comes first.
-- still-made, still-not: item by item, whether no continuous item can change.  known-first: the filling then comes first.  known-best: as `FirstBest` says.
use mathlib.Core.Path.{◌≡◌, refl, sym, ap, ◌∙◌, subst}
use mathlib.Core.Bool.{Bool, true, false, cond}
use mathlib.Core.List.{List}
use mathlib.Core.Logic.{◌≢◌, inl, inr}
use Prim.Native.Nat.{ℕ, ◌≤◌, ◌<◌}
use native.Mathlib.Omega.{arith}
use borrow.Author.Tests.{le-ltb}
use lib.IntN.{ℤ, pos, nat_abs, ◌*ℤ◌}
use lib.Signed.{◌≤ℤ◌}
use Rattle.arith.proofs.Integers.{≤ℤ-antisym, times-≤-back}
use Rattle.arith.proofs.Parts.{impossible}
use Rattle.greedy.specs.declared.Columns.{Columns}
use Rattle.greedy.specs.declared.Ends.{Ends}
use Rattle.greedy.specs.Fill.{at, item_of, fill}
use Rattle.greedy.proofs.Relaxed.{box_of}
use Rattle.knapsack.proofs.Common.{valueᴰ, Feasibleᴰ}
use Rattle.knapsack.specs.Meaning.{Instance}
use Rattle.knapsack.specs.declared.Mark.{Mark}
use Rattle.knapsack.specs.declared.Mark.TheVariants.{Integer, Continuous}
use Rattle.ceiling.specs.Frames.{whole_at, Levelled}
use Rattle.ceiling.specs.Least as least
use Rattle.foremost.proofs.Covering.{marks-differ}
use Rattle.foremost.proofs.Earlier.{NotAfter, not-after-times}
use Rattle.foremost.proofs.Filling.{parts, filling}
use Rattle.foremost.proofs.First.{tied-box}
use Rattle.foremost.proofs.Foremost.{Foremostᴰ}
use Rattle.foremost.proofs.Frames.{scale_at, Frame, last, cuts, LeadsFrame, foremost-of-frames}
use Rattle.foremost.proofs.Leads.{Leads, leads-trans}
use Rattle.setting.specs.declared.Setting.{Setting}
use Rattle.setting.specs.Box.{level_at}
use Rattle.setting.specs.Ready.{Marked}
use Rattle.settling.specs.Settling.{Levels, FirstPlace}
use Rattle.firsts.specs.declared.Lead.{Lead}
use Rattle.firsts.specs.Leading.{Tying, ends_at, Shows, OptimalAt, FirstBest, Still, Held}
use Rattle.firsts.proofs.Places.{tied-order, place-leads, place-feasible, place-parts}
use Rattle.firsts.proofs.Worth.{worth-room}

-- ---- item by item

module _ (s : Setting) (w : List Bool) (lw : Levelled s.level s.levels w) where
  -- an item of no level is not whole
  other : (k : ℕ) → ((d : ℕ) → d < s.levels → level_at s d ≢ k) → whole_at w k ≡ false
  other k h = go (whole_at w k) refl
    where
      go : (x : Bool) → whole_at w k ≡ x → whole_at w k ≡ false
      go false o = o
      go true o = let d = lw.level k o in absurd (h d.0 d.1 d.2)

  pub still-made : ((k : ℕ) → k < s.cols.count → Held s.ends w k) → Still s
  still-made h k l n = h k l (other k n)

  pub still-not : (k : ℕ) → k < s.cols.count → (Held s.ends w k → ⊥) → Still s → ⊥
  still-not k l n h = n (λ o. h k l (λ d i q. impossible (sym o ∙ subst (λ j. whole_at w j ≡ true) q (lw.marked d i))))

-- ---- the filling comes first

module _ (s : Setting) (c : Columns) (y : Tying s c) (P : ℕ → ℤ) (b : OptimalAt s P) (still : Still s)
    (h : FirstPlace s.cols s.ends s.level s.levels 1 P) (marks : ℕ → Mark) (m : Marked s marks) where
  abbrev e : Ends
  e = s.ends

  abbrev f : Ends
  f = ends_at s P

  -- the box, by either order of filling
  abbrev I : Instance
  I = box_of s.cols e marks

  same-box : box_of c e marks ≡ I
  same-box = tied-box s.cols c e marks y.tied

  levels : Levels s.cols s.level s.levels marks
  levels = record { integer = m.integer; of = m.level }

  -- a continuous item has one amount
  held : (k : ℕ) → k < s.cols.count → marks k ≡ Continuous → at e.lo k ≡ at e.hi k
  held k l i = still k l (λ d j q. marks-differ (subst (λ n. marks n ≡ Integer) q (m.integer d j)) i)

  one : (k : ℕ) → k < s.cols.count → marks k ≡ Continuous → (X : ℕ → ℤ) → Feasibleᴰ I 1 X → X k ≡ at e.lo k *ℤ pos 1
  one k l i X p = ≤ℤ-antisym (subst (λ z. X k ≤ℤ (z *ℤ pos 1)) (sym (held k l i)) (p.keeps k l).below) (p.keeps k l).above

  -- the orders of both crates are one
  turn : (n : ℕ) (x z : ℕ → ℤ) → least.NotAfter n x z → NotAfter n x z
  turn n x z (inl a) = inl a
  turn n x z (inr a) = inr (record { place = a.place; below = a.below; same = a.same; less = a.less })

  leads-whole : (X : ℕ → ℤ) → Feasibleᴰ I 1 X → Leads (valueᴰ I) s.cols.count 1 h.point 1 X
  leads-whole X p = record {
    worth = (h.optimal marks levels).highest 1 X (omega arith) p;
    sooner = λ k. not-after-times 1 (omega arith) (turn s.cols.count h.point X
        (h.first marks levels X p (times-≤-back 1 _ _ (omega arith) k)
        (λ j l i. one j l i X p ∙ sym (one j l i h.point (h.optimal marks levels).feasible))));
  }

  room : pos 0 ≤ℤ (fill c f).room
  room = worth-room s c y P b

  parts≥1 : 1 ≤ parts c f
  parts≥1 = place-parts s c y P b.inside marks m room

  over-point : Leads (valueᴰ (box_of c e marks)) c.count (parts c f) (filling c f) 1 h.point
  over-point = place-leads s c y P b.inside marks m 1 h.point (omega arith)
      (subst (λ i. Feasibleᴰ i 1 h.point) (sym same-box) (h.optimal marks levels).feasible) h.at_place

  over-whole : (X : ℕ → ℤ) → Feasibleᴰ (box_of c e marks) 1 X → Leads (valueᴰ (box_of c e marks)) c.count (parts c f) (filling c f) 1 X
  over-whole X p = leads-trans (valueᴰ (box_of c e marks)) c.count h.point X (filling c f) (omega arith) (omega arith) parts≥1 over-point
      (subst (λ (i : Instance). Leads (valueᴰ i) i.count 1 h.point 1 X) (sym same-box) (leads-whole X (subst (λ i. Feasibleᴰ i 1 X) same-box p)))

  all-frames : (t : ℕ) → Frame c e marks t → LeadsFrame c e marks (parts c f) (filling c f) t
  all-frames t (cuts l i n) X p = absurd (n (held (item_of c t) (subst (λ k. item_of c t < k) y.tied.count
      (y.tied.tied.item_in t (omega (arith, y.tied.tied.live_in)))) i))
  all-frames t (last q) X p = subst (λ D. Leads (valueᴰ (box_of c e marks)) c.count (parts c f) (filling c f) D X) (sym scale)
      (over-whole X (subst (λ D. Feasibleᴰ (box_of c e marks) D X) scale p.feasible))
    where
      scale : scale_at c t ≡ 1
      scale = ap (λ x. cond x (nat_abs (at c.size t)) 1) (le-ltb t c.live (omega (arith, q)))

  pub known-first : Foremostᴰ (box_of c e marks) (parts c f) (filling c f)
  known-first = foremost-of-frames c e marks y.tied.tied (tied-order s c y) (parts c f) (filling c f) parts≥1
      (place-feasible s c y P b.inside marks m room) all-frames

pub known-best : (s : Setting) (c : Columns) (y : Tying s c) (P : ℕ → ℤ) (b : OptimalAt s P) → Still s
    → FirstPlace s.cols s.ends s.level s.levels 1 P → (r : Lead) → Shows s c P r.point → FirstBest s r
known-best s c y P b still h r shows = record {
  long = y.long;
  cols = c;
  tied = y.tied;
  place = P;
  inside = b.inside;
  room = worth-room s c y P b;
  shows = shows;
  first = λ marks m. known-first s c y P b still h marks m;
}
