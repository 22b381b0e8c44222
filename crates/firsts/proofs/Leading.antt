-- Frame after frame: the point that leads those of the frames so far.
-- led-first: an optimal filling leads no frame yet.
-- frame-over, frame-rest, frame-few, floor-made: what the scales are asked for in a frame.
-- led-skip: a frame that cannot be needed has no points that matter.  led-apart: nor has one that cannot lose as much as the optimum.
-- led-none: nor has one that does not.  seen-inside: the first point of a frame has a place.  led-sooner: with it, the first of the two leads.
-- led-done: what leads all frames is the optimal point that comes first.  led-short: so is what leads all but the last, where another can be needed.
use mathlib.Core.Path.{◌≡◌, refl, sym, ap, ◌∙◌, subst}
use mathlib.Core.Bool.{Bool, true, false}
use Rattle.std.specs.Prelude.{List, None, Some}
use mathlib.Core.Logic.{◌⊎◌, inl, inr}
use Prim.Native.Nat.{ℕ, ◌+◌, ◌*◌, ◌/◌, ◌%◌, ◌≤◌, ◌<◌}
use native.Mathlib.Omega.{arith}
use native.Mathlib.Decide.{ℕ_discrete, dec_lt}
use native.Mathlib.Nat.{mul-le-mul_left, div-add-mod', mod-lt}
use lib.IntN.{ℤ, pos, ◌-ℤ◌, ◌*ℤ◌}
use lib.Signed.{◌≤ℤ◌, ◌<ℤ◌}
use Rattle.arith.proofs.Integers.{zed, times-≤-back}
use Rattle.arith.proofs.Parts.{impossible}
use Rattle.greedy.specs.declared.Columns.{Columns}
use Rattle.greedy.specs.declared.Ends.{Ends}
use Rattle.greedy.specs.Fill.{at, item_of, fill, bound}
use Rattle.greedy.proofs.Relaxed.{box_of}
use Rattle.knapsack.proofs.Common.{valueᴰ}
use Rattle.knapsack.specs.declared.Mark.{Mark}
use Rattle.knapsack.specs.declared.Mark.TheVariants.{Integer, Continuous}
use Rattle.fillings.specs.Foremost.{first_cells}
use Rattle.ceiling.specs.Frames as ceil
use Rattle.ceiling.specs.Frames.{whole_at, cut_of, scale_of, Framed, Usable, FrameFloor, Levelled}
use Rattle.ceiling.specs.Least as least
use Rattle.ceiling.specs.Least.{FirstIn, FrameFirst}
use Rattle.ceiling.specs.Loss.{loss_of}
use Rattle.ceiling.specs.Loss as loss
use Rattle.ceiling.specs.declared.Seen.{Seen}
use Rattle.ceiling.proofs.Covering.{framed_ends, framed-ends}
use Rattle.ceiling.proofs.Framing.{scale_in, loose-cut}
use Rattle.ceiling.proofs.Limits.{levels-marked, levels-unmarked}
use Rattle.foremost.proofs.Covering.{marks-differ}
use Rattle.foremost.proofs.Earlier as order
use Rattle.foremost.proofs.Filling.{parts, filling}
use Rattle.foremost.proofs.Frames.{Frame, last, cuts, FramePoint, LeadsFrame, by-mark, frame-trans, foremost-of-frames}
use Rattle.foremost.proofs.Framed.{PointOf, within-frame, frame-leads, frame-none, frame-floor, frame_apart, is-loss}
use Rattle.foremost.proofs.Leads.{Leads}
use Rattle.foremost.proofs.Losses.{loss_by, LosesJust, LosesMore, loses-worth, loses-as-much}
use Rattle.foremost.proofs.Worth.{filling-worth}
use Rattle.setting.specs.declared.Setting.{Setting}
use Rattle.setting.specs.Box.{level_at, Inside}
use Rattle.setting.specs.Ready.{Marked}
use Rattle.firsts.specs.Order.{point_in, NoLater}
use Rattle.firsts.specs.declared.Optimum.{Optimum}
use Rattle.firsts.specs.declared.Lead.{Lead}
use Rattle.firsts.specs.Leading.{Tying, ends_at, Shows, OptimalAt, IsLosing, LossOf, InsideBy, Sooner, Led, FirstBest, Cutting}
use Rattle.firsts.proofs.Places.{some-marks, tied-order, place-room, place-leads, place-feasible, place-parts}
use Rattle.firsts.proofs.Shown.{no-later}
use Rattle.firsts.proofs.Worth.{worth-room}
use Rattle.firsts.proofs.Uncut.{last-led}

-- ---- the first point

pub led-first : (s : Setting) (c : Columns) (y : Tying s c) (P : ℕ → ℤ) (b : OptimalAt s P) (l : Optimum)
    → LossOf (bound c (fill c (ends_at s P))) l → (x : Lead) → Shows s c P x.point → x.written ≡ 0 → Led s c l 0 x
led-first s c y P b l lv x sh w = record {
  place = P;
  inside = b.inside;
  room = worth-room s c y P b;
  shows = sh;
  just = λ marks m. subst (λ d. LosesJust l.top l.q (valueᴰ (box_of c s.ends marks)) l.num d (parts c (ends_at s P)) (filling c (ends_at s P)))
      (sym lv.den-is) (own (parts c (ends_at s P)) l.q l.num l.top (valueᴰ (box_of c s.ends marks) (filling c (ends_at s P)))
      (lv.num-is ∙ ap (λ z. l.top *ℤ pos (parts c (ends_at s P)) -ℤ pos l.q *ℤ z)
      (sym (filling-worth c (ends_at s P) marks y.tied.tied y.tied.rated (worth-room s c y P b)))));
  leads = λ marks m u i. absurd (omega arith);
  few = omega arith;
}
  where
    own : (m q n : ℕ) (t x : ℤ) → pos n ≡ t *ℤ pos m -ℤ pos q *ℤ x → pos m *ℤ (t *ℤ pos m -ℤ pos q *ℤ x) ≡ pos n *ℤ pos m
    own m q n t x h = subst (λ z. pos m *ℤ z ≡ pos n *ℤ pos m) h (swap m n)
      where
        swap : (m n : ℕ) → pos m *ℤ pos n ≡ pos n *ℤ pos m
        swap m n = simp zed (omega arith)

-- ---- what a frame is asked for

pub frame-over : (E n d : ℕ) → 1 ≤ d → (0 < (E * n) % d → ⊥) → d * ((E * n) / d) ≡ n * E
frame-over E n d h k = omega (arith, div-add-mod' (E * n) d)

pub frame-rest : (E n d : ℕ) → 1 ≤ d → 0 < (E * n) % d → (x : ℕ) → d * x ≡ n * E → ⊥
frame-rest E n d h k x e = off (E * n) ((E * n) / d) ((E * n) % d) x d (omega (arith, div-add-mod' (E * n) d)) (mod-lt (E * n) h) k (omega arith)
  where
    off : (m a r x d : ℕ) → d * a + r ≡ m → r < d → 0 < r → d * x ≡ m → ⊥
    off m a r x d h i j e = go (dec_lt a x)
      where
        go : Dec (a < x) → ⊥
        go (yes l) = omega (arith, mul-le-mul_left d l)
        go (no l) = omega (arith, mul-le-mul_left {m = x} {n = a} d (omega arith))

pub frame-few : (E n d r : ℕ) → 1 ≤ d → E ≤ 1000 → n < 10000000 * d → d * r ≡ n * E → r < 10000000000
frame-few E n d r h e s k = go (dec_lt r 10000000000)
  where
    go : Dec (r < 10000000000) → r < 10000000000
    go (yes l) = l
    go (no l) = absurd (off d r n E h e s k (omega arith))
      where
        off : (d r n E : ℕ) → 1 ≤ d → E ≤ 1000 → n < 10000000 * d → d * r ≡ n * E → 10000000000 ≤ r → ⊥
        off d r n E h e s k l = omega (arith, mul-le-mul_left d l, mul-le-mul_left n e)

-- ---- one frame

module _ (s : Setting) (c : Columns) (y : Tying s c) (l : Optimum) (g : IsLosing s c l) (t : ℕ) (b : Lead) (h : Led s c l t b) where
  abbrev e : Ends
  e = s.ends

  abbrev worth : (ℕ → Mark) → (ℕ → ℤ) → ℤ
  worth marks = valueᴰ (box_of c e marks)

  abbrev f : Ends
  f = ends_at s h.place

  -- the frames up to t, from those before it
  next : (F : ℕ → Type 0) → ((u : ℕ) → u < t → F u) → F t → (u : ℕ) → u < t + 1 → F u
  next F old new u i = go (ℕ_discrete u t)
    where
      go : Dec (u ≡ t) → F u
      go (yes q) = subst F (sym q) new
      go (no q) = old u (omega arith)

  -- the same point, where it leads frame t
  kept : (r : Lead) → r.point ≡ b.point → r.written ≤ b.written + first_cells
      → ((marks : ℕ → Mark) → Marked s marks → Frame c e marks t → LeadsFrame c e marks (parts c f) (filling c f) t) → Led s c l (t + 1) r
  kept r p w new = record {
    place = h.place;
    inside = h.inside;
    room = h.room;
    shows = subst (λ x. Shows s c h.place x) (sym p) h.shows;
    just = h.just;
    leads = λ marks m. next (λ u. Frame c e marks u → LeadsFrame c e marks (parts c f) (filling c f) u) (h.leads marks m) (new marks m);
    few = omega (arith, w, h.few);
  }

  parts_in : 1 ≤ parts c f
  parts_in = let m = some-marks s in place-parts s c y h.place h.inside m.0 m.1 h.room

  -- points of a frame are feasible
  frame-all : (marks : ℕ → Mark) → Marked s marks → (X : ℕ → ℤ) → FramePoint c e marks t X → LosesMore l.top l.q (worth marks) l.num l.den
      (scale_of c t) X
  frame-all marks m X x = g.all marks m (scale_of c t) X (scale_in c t y.tied.sized).0 x.feasible

  pub led-apart : 0 < (scale_of c t * l.num) % l.den → Led s c l (t + 1) b
  led-apart r = kept b refl (omega arith) (λ marks m fr. frame_apart c e marks l.top l.q l.num l.den g.priced.q≥1 g.den≥1 (parts c f)
      (filling c f) parts_in (h.just marks m) t (frame-all marks m) (frame-rest (scale_of c t) l.num l.den g.den≥1 r))

  module _ (w : List Bool) (lw : Levelled s.level s.levels w) where
    marked : (marks : ℕ → Mark) → Marked s marks → ceil.Marked c w marks
    marked marks m = levels-marked c s.level s.levels w marks lw m.integer

    unmarked : (marks : ℕ → Mark) → Marked s marks → ceil.Unmarked c w marks
    unmarked marks m = levels-unmarked c s.level s.levels w marks lw (λ k i j. m.level k (subst (λ n. k < n) y.tied.count i) j)

    pub led-skip : t < c.live → (Usable c e w t → ⊥) → Led s c l (t + 1) b
    led-skip i n = kept b refl (omega arith) (λ marks m fr. go marks m fr)
      where
        go : (marks : ℕ → Mark) → Marked s marks → Frame c e marks t → LeadsFrame c e marks (parts c f) (filling c f) t
        go marks m (last q) = absurd (omega arith)
        go marks m (cuts q i k) = absurd (n (record { loose = loose (whole_at w (item_of c t)) refl; free = k }))
          where
            loose : (x : Bool) → whole_at w (item_of c t) ≡ x → whole_at w (item_of c t) ≡ false
            loose false o = o
            loose true o = absurd (marks-differ (marked marks m (item_of c t) (y.tied.tied.item_in t (omega (arith, y.tied.tied.live_in))) o) i)

    module _ (t-in : t ≤ c.live) (usable : t < c.live → Usable c e w t) (r : ℕ) (over : l.den * r ≡ l.num * scale_of c t) where
      few : c.count ≤ 16
      few = y.tied.sized.few

      abbrev E : ℕ
      E = scale_of c t

      E≥1 : 1 ≤ E
      E≥1 = (scale_in c t y.tied.sized).0

      free : (marks : ℕ → Mark) → Marked s marks → t < c.live → marks (item_of c t) ≡ Continuous
      free marks m i = go (by-mark (marks (item_of c t)))
        where
          go : (marks (item_of c t) ≡ Integer) ⊎ (marks (item_of c t) ≡ Continuous) → marks (item_of c t) ≡ Continuous
          go (inr k) = k
          go (inl k) = absurd (impossible (sym (usable i).loose ∙ unmarked marks m (item_of c t)
              (y.tied.tied.item_in t (omega (arith, y.tied.tied.live_in))) k))

      loss-same : (marks : ℕ → Mark) (X : ℕ → ℤ) → loss_of l.p l.q c e E X ≡ loss_by l.top l.q (worth marks) E X
      unfolding loss_of
      loss-same marks X = ap (λ T. T *ℤ pos E -ℤ pos l.q *ℤ worth marks X) (sym g.top-is)

      -- a point by its ends, here and there
      to : (e' : Ends) (X : ℕ → ℤ) → PointOf c e' E (cut_of c t) X → loss.Point c e' E (cut_of c t) X
      to e' X p = record { above = p.above; below = p.below; fits = p.fits; whole = p.whole }

      from : (e' : Ends) (X : ℕ → ℤ) → loss.Point c e' E (cut_of c t) X → PointOf c e' E (cut_of c t) X
      from e' X p = record { above = p.above; below = p.below; fits = p.fits; whole = p.whole }

      pub floor-made : FrameFloor l.p l.q c e w t r
      floor-made = record {
        floor = λ e' fr M p. subst (λ z. pos r ≤ℤ z) (sym (loss-same (some-marks s).0 M))
            (frame-floor c e (some-marks s).0 y.tied.tied few (whole_at w) (marked (some-marks s).0 (some-marks s).1)
            (unmarked (some-marks s).0 (some-marks s).1)
            t e' fr.low fr.high l.top l.q l.num l.den r g.priced.q≥1 g.den≥1 over (frame-all (some-marks s).0 (some-marks s).1)
            (tied-order s c y) (free (some-marks s).0 (some-marks s).1) M (from e' M p));
      }

      module _ (x : Seen) (q : FrameFirst l.p l.q c e w t r x) where
        pub led-none : x.place ≡ None → (z : Lead) → z.point ≡ b.point → z.written ≡ b.written + x.written → Led s c l (t + 1) z
        led-none n z p i = kept z p (omega (arith, q.few)) (λ marks m fr. frame-none c e marks y.tied.tied few (whole_at w) (marked marks m)
            (unmarked marks m)
            t (framed_ends c e w t) (framed-ends c e w t few).low (framed-ends c e w t few).high l.top l.q l.num l.den r g.priced.q≥1
            g.den≥1 over (frame-all marks m) (parts c f) (filling c f) parts_in (h.just marks m)
            (λ M pt. subst (λ a. pos r <ℤ a) (loss-same marks M) (q.none n (framed_ends c e w t) (framed-ends c e w t few) M (to (framed_ends c e w t) M pt))))

        -- ---- the first point of the frame

        module _ (place : List ℤ) (found : x.place ≡ Some place) where
          first : FirstIn l.p l.q c e w t r place
          first = q.found place found

          abbrev Y : ℕ → ℤ
          Y = first.point

          in_frame : (marks : ℕ → Mark) → Marked s marks → FramePoint c e marks t Y
          in_frame marks m = within-frame c e marks y.tied.tied few (whole_at w) (marked marks m) (unmarked marks m) t first.ends first.framed.low
              first.framed.high (tied-order s c y) (free marks m) Y (from first.ends Y first.is-point)

          level_in : (d : ℕ) → d < s.levels → level_at s d < c.count
          level_in d i = subst (λ n. level_at s d < n) (sym y.tied.count) (y.ready.level_in d i)

          at_level : (d : ℕ) → d < s.levels → Y (level_at s d) ≡ at place (level_at s d) *ℤ pos E
          at_level d i = first.shown (level_at s d) (level_in d i)
              (loose-cut c w t few t-in (λ j. (usable j).loose) (level_at s d) (level_in d i) (lw.marked d i))

          pub seen-inside : InsideBy s place
          seen-inside d i = let k = (in_frame (some-marks s).0 (some-marks s).1).feasible.keeps (level_at s d) (level_in d i) in (
            subst (λ a. a ≤ℤ at place (level_at s d)) (sym (y.ready.low-is d i))
                (times-≤-back E _ _ E≥1 (subst (λ a. (at e.lo (level_at s d) *ℤ pos E) ≤ℤ a) (at_level d i) k.above)),
            subst (λ a. at place (level_at s d) ≤ℤ a) (sym (y.ready.high_is d i))
                (times-≤-back E _ _ E≥1 (subst (λ a. a ≤ℤ (at e.hi (level_at s d) *ℤ pos E)) (at_level d i) k.below)),
          )

          -- it leads its frame
          leads-own : (marks : ℕ → Mark) → Marked s marks → LeadsFrame c e marks E Y t
          leads-own marks m = frame-leads c e marks y.tied.tied few (whole_at w) (marked marks m) (unmarked marks m) t first.ends first.framed.low
              first.framed.high l.top l.q l.num l.den r g.priced.q≥1 g.den≥1 over (frame-all marks m) Y
              (sym (loss-same marks Y) ∙ first.loses)
              (λ M p i. turn (first.first M (to first.ends M p) (loss-same marks M ∙ i)))
            where
              turn : {M : ℕ → ℤ} → least.NotAfter c.count Y M → order.NotAfter c.count Y M
              turn (inl a) = inl a
              turn (inr a) = inr (record { place = a.place; below = a.below; same = a.same; less = a.less })

          module _ (z : Lead) (o : Sooner s c b.point place z.point) (few-z : z.written ≡ b.written + x.written) where
            abbrev P : ℕ → ℤ
            P = o.place

            inside : Inside s P
            inside d i = subst (λ a. (at s.low d ≤ℤ a) × (a ≤ℤ at s.high d)) (sym (o.same d i)) (seen-inside d i)

            abbrev f' : Ends
            f' = ends_at s P

            at_place : (d : ℕ) → d < s.levels → Y (level_at s d) ≡ P d *ℤ pos E
            at_place d i = at_level d i ∙ ap (λ a. a *ℤ pos E) (sym (o.same d i))

            room' : pos 0 ≤ℤ (fill c f').room
            room' = let m = some-marks s in place-room s c y P inside m.0 m.1 E Y E≥1 (in_frame m.0 m.1).feasible at_place

            parts' : 1 ≤ parts c f'
            parts' = let m = some-marks s in place-parts s c y P inside m.0 m.1 room'

            over-own : (marks : ℕ → Mark) → Marked s marks → Leads (worth marks) c.count (parts c f') (filling c f') E Y
            over-own marks m = place-leads s c y P inside marks m E Y E≥1 (in_frame marks m).feasible at_place

            leads-new : (marks : ℕ → Mark) → Marked s marks → LeadsFrame c e marks (parts c f') (filling c f') t
            leads-new marks m = frame-trans c e marks y.tied.tied (parts c f') E (filling c f') Y t parts' E≥1 (over-own marks m) (leads-own marks m)

            more-new : (marks : ℕ → Mark) → Marked s marks → LosesMore l.top l.q (worth marks) l.num l.den (parts c f') (filling c f')
            more-new marks m = g.all marks m (parts c f') (filling c f') parts' (place-feasible s c y P inside marks m room')

            more-old : (marks : ℕ → Mark) → Marked s marks → LosesMore l.top l.q (worth marks) l.num l.den (parts c f) (filling c f)
            more-old marks m = g.all marks m (parts c f) (filling c f) parts_in (place-feasible s c y h.place h.inside marks m h.room)

            just-new : (marks : ℕ → Mark) → Marked s marks → LosesJust l.top l.q (worth marks) l.num l.den (parts c f') (filling c f')
            just-new marks m = loses-as-much l.top l.q (worth marks) l.num l.den g.priced.q≥1 g.den≥1 E (parts c f') Y (filling c f')
                (is-loss l.num l.den E r (loss_by l.top l.q (worth marks) E Y) over (sym (loss-same marks Y) ∙ first.loses)) E≥1
                (more-new marks m)
                (over-own marks m).worth

            pub led-sooner : Led s c l (t + 1) z
            led-sooner = go o.which
              where
                go : ((z.point ≡ b.point) × NoLater c.count (point_in b.point) (point_in o.other))
                    ⊎ ((z.point ≡ o.other) × NoLater c.count (point_in o.other) (point_in b.point)) → Led s c l (t + 1) z
                go (inl (i, n)) = kept z i (omega (arith, q.few, few-z)) (λ marks m fr. frame-trans c e marks y.tied.tied (parts c f) (parts c f')
                    (filling c f)
                    (filling c f') t parts_in parts' (record {
                      worth = loses-worth l.top l.q (worth marks) l.num l.den g.priced.q≥1 g.den≥1 (parts c f) (parts c f') (filling c f)
                          (filling c f')
                          (h.just marks m) (more-new marks m);
                      sooner = λ k. no-later s c y h.place P h.inside inside h.room room' b.point o.other h.shows o.shows n;
                    }) (leads-new marks m))
                go (inr (i, n)) = record {
                  place = P;
                  inside = inside;
                  room = room';
                  shows = subst (λ a. Shows s c P a) (sym i) o.shows;
                  just = just-new;
                  leads = λ marks m. next (λ u. Frame c e marks u → LeadsFrame c e marks (parts c f') (filling c f') u)
                      (λ u j fr. frame-trans c e marks y.tied.tied (parts c f') (parts c f) (filling c f') (filling c f) u parts' parts_in (record {
                        worth = loses-worth l.top l.q (worth marks) l.num l.den g.priced.q≥1 g.den≥1 (parts c f') (parts c f) (filling c f')
                            (filling c f)
                            (just-new marks m) (more-old marks m);
                        sooner = λ k. no-later s c y P h.place inside h.inside room' h.room o.other b.point o.shows h.shows n;
                      }) (h.leads marks m u j fr))
                      (λ fr. leads-new marks m);
                  few = omega (arith, q.few, few-z, h.few);
                }

-- ---- all frames

module _ (s : Setting) (c : Columns) (y : Tying s c) (l : Optimum) (b : Lead) (t : ℕ) (h : Led s c l t b) where
  -- what leads all frames
  led-all : ((marks : ℕ → Mark) → Marked s marks → (u : ℕ) → Frame c s.ends marks u
      → LeadsFrame c s.ends marks (parts c (ends_at s h.place)) (filling c (ends_at s h.place)) u) → FirstBest s b
  led-all all = record {
    long = y.long;
    cols = c;
    tied = y.tied;
    place = h.place;
    inside = h.inside;
    room = h.room;
    shows = h.shows;
    first = λ marks m. foremost-of-frames c s.ends marks y.tied.tied (tied-order s c y) (parts c (ends_at s h.place))
        (filling c (ends_at s h.place)) (place-parts s c y h.place h.inside marks m h.room)
        (place-feasible s c y h.place h.inside marks m h.room)
        (all marks m);
  }

  pub led-done : t ≡ c.live + 1 → FirstBest s b
  led-done q = led-all (λ marks m u fr. h.leads marks m u (below marks fr) fr)
    where
      below : (marks : ℕ → Mark) {u : ℕ} → Frame c s.ends marks u → u < t
      below marks (last e) = omega arith
      below marks (cuts l i n) = omega arith

  -- without the last one, where another can be needed
  pub led-short : (w : List Bool) → Levelled s.level s.levels w → t ≡ c.live → Cutting c s.ends w → FirstBest s b
  led-short w lw q k = led-all each
    where
      free : (marks : ℕ → Mark) → Marked s marks → (marks (item_of c k.frame) ≡ Integer) ⊎ (marks (item_of c k.frame) ≡ Continuous)
          → marks (item_of c k.frame) ≡ Continuous
      free marks m (inr i) = i
      free marks m (inl i) = absurd (impossible (sym k.usable.loose ∙ levels-unmarked c s.level s.levels w marks lw
          (λ j a z. m.level j (subst (λ n. j < n) y.tied.count a) z) (item_of c k.frame)
          (y.tied.tied.item_in k.frame (omega (arith, k.below, y.tied.tied.live_in))) i))

      each : (marks : ℕ → Mark) → Marked s marks → (u : ℕ) → Frame c s.ends marks u
          → LeadsFrame c s.ends marks (parts c (ends_at s h.place)) (filling c (ends_at s h.place)) u
      each marks m u (cuts i j n) = h.leads marks m u (omega arith) (cuts i j n)
      each marks m u (last e) = subst (λ v. LeadsFrame c s.ends marks (parts c (ends_at s h.place)) (filling c (ends_at s h.place)) v) (sym e)
          (last-led c s.ends marks y.tied.tied (tied-order s c y) (parts c (ends_at s h.place)) (filling c (ends_at s h.place))
          (place-parts s c y h.place h.inside marks m h.room) (λ v i. h.leads marks m v (omega arith)) c.live (omega arith)
          (λ v i j. absurd (omega arith)) k.frame k.below
          (cuts k.below (free marks m (by-mark (marks (item_of c k.frame)))) k.usable.free))
