use Rattle.std.proofs.Common.{◌≡◌, ◌∙◌, refl, ap, subst, ◌+◌, ◌*◌, ◌/◌, ◌%◌, ◌≤◌, ◌<◌, arith}
use native.Mathlib.Nat.{mul-le-mul}
use Rattle.arith.proofs.Parts.{within-back}
use Rattle.ceiling.specs.Frames.{scale_of}
use Rattle.ceiling.specs.Least.{FrameFirst}
use Rattle.ceiling.proofs.Framing.{scale_in}
use Rattle.firsts.specs.Leading.{ends_at, TryWrites, apart, asked}
use Rattle.firsts.proofs.Places.{tied-sized, tied-ranked, tied-order, tied-spanned, place-sized}
use Rattle.firsts.proofs.Shown.{shown-small}
use Rattle.firsts.proofs.Leading.{frame-over, frame-few, floor-made, led-apart, led-none, led-sooner, seen-inside}
use Rattle.firsts.proofs.tried.Goals.{After-scale_of-scale, Else-m-d-gt0, After-first_of_frame-seen}
use Rattle.firsts.proofs.tried.Goals as goal

-- the scale, by the code and by the order of filling
scale≤ : (c : After-scale_of-scale) → c.scale_of-scale.result ≤ 1000
scale≤ c = omega (arith, c.scale_of-scale.ensures, (scale_in c.args.c c.args.t c.requires.tying.0.tied.sized).1)

pub overflow_mul-m : goal.overflow_mul-m
overflow_mul-m c =
    let g = c.requires.tying.1.0 in
    let h : c.args.l.num ≤ 10000000000 = omega (arith, g.small, g.den-in) in
    omega (arith, mul-le-mul (scale≤ (goal.at.overflow_mul-m c).After-scale_of-scale) h)

pub returns-then-m-d-gt0 : goal.returns-then-m-d-gt0
returns-then-m-d-gt0 c =
    let a = c.args in
    let p = c.requires.tying in
    let rest = subst (λ e. 0 < (e * a.l.num) % a.l.den) c.scale_of-scale.ensures c.if-m-d-gt0.true in
    record { led = led-apart a.s a.c p.0 a.l p.1.0 a.t a.b p.1.1.1 rest; try_writes = apart rest }

-- what the frame is asked for
over : (c : Else-m-d-gt0) → let a = c.args in a.l.den * ((c.scale_of-scale.result * a.l.num) / a.l.den) ≡ a.l.num * scale_of a.c a.t
over c =
    let a = c.args in
    frame-over c.scale_of-scale.result a.l.num a.l.den c.requires.tying.1.0.den≥1 (λ h. omega (arith, c.if-m-d-gt0.false))
    ∙ ap (λ e. a.l.num * e) c.scale_of-scale.ensures

pub first_of_frame-seen-requires : goal.first_of_frame-seen-requires
first_of_frame-seen-requires c =
    let a = c.args in
    let y = c.requires.tying.0 in
    let g = c.requires.tying.1.0 in
    let h = c.requires.tying.1.1 in
    let e = over (goal.at.first_of_frame-seen-requires c).Else-m-d-gt0 in
    let r = (c.scale_of-scale.result * a.l.num) / a.l.den in
    rw (within-back tt g.top_in) (record {
      ready = (
        record {
          sized = tied-sized a.s a.c y;
          ranked = tied-ranked a.s a.c y;
          in_order = tied-order a.s a.c y;
          p-in = g.priced.p-in;
          q-in = g.priced.q-in;
        },
        (g.top-is, (g.top_in, tied-spanned a.s a.c y)),
      );
      r_bound = (
        frame-few (scale_of a.c a.t) a.l.num a.l.den r g.den≥1 (scale_in a.c a.t y.tied.sized).1 g.small e,
        (
          floor-made a.s a.c y a.l g a.t a.b h.1 a.whole h.0 c.requires.t_le_live.0 c.requires.t_le_live.1.0 r e,
          c.requires.t_le_live.1.1,
        ),
      );
    })

pub overflow_add-written : goal.overflow_add-written
overflow_add-written c =
    omega (arith, c.first_of_frame-seen.ensures.few, c.requires.tying.1.1.1.few, c.requires.t_le_live.0, c.requires.tying.0.tied.sized.live-few)

-- what the frame adds
told : (c : After-first_of_frame-seen) → let a = c.args in
    TryWrites a.c a.s.ends a.whole a.l a.t a.b.written (a.b.written + c.first_of_frame-seen.result.written)
told c =
    let a = c.args in
    let x = c.first_of_frame-seen.result in
    let n = a.l.num in
    let d = a.l.den in
    let f = subst (λ e. ((e * n) % d ≡ 0) × FrameFirst a.l.p a.l.q a.c a.s.ends a.whole a.t ((e * n) / d) x)
    c.scale_of-scale.ensures (omega (arith, c.if-m-d-gt0.false), c.first_of_frame-seen.ensures) in
    asked x f.0 f.1

pub sooner-requires : goal.sooner-requires
sooner-requires c =
    let a = c.args in
    let y = c.requires.tying.0 in
    let h = c.requires.tying.1.1 in
    let t = c.requires.t_le_live in (
      y,
      (
        shown-small a.c (ends_at a.s h.1.place) (place-sized a.s a.c y h.1.place h.1.inside) a.s a.b.point h.1.shows,
        seen-inside a.s a.c y a.l c.requires.tying.1.0 a.t a.b h.1 a.whole h.0 t.0 t.1.0 _ (over (goal.at.sooner-requires c).Else-m-d-gt0)
            c.first_of_frame-seen.result c.first_of_frame-seen.ensures c.in-Some.xs c.in-Some.is,
      ),
    )

pub returns-in-Some : goal.returns-in-Some
returns-in-Some c =
    let a = c.args in
    let h = c.requires.tying.1.1 in
    let t = c.requires.t_le_live in
    let g = c.first_of_frame-seen in
    let at = goal.at.returns-in-Some c in
    record {
      led = led-sooner a.s a.c c.requires.tying.0 a.l c.requires.tying.1.0 a.t a.b h.1 a.whole h.0 t.0 t.1.0 _ (over at.Else-m-d-gt0)
          g.result g.ensures c.in-Some.xs c.in-Some.is _ c.sooner.ensures refl;
      try_writes = told at.After-first_of_frame-seen;
    }

pub returns-in-None : goal.returns-in-None
returns-in-None c =
    let a = c.args in
    let h = c.requires.tying.1.1 in
    let t = c.requires.t_le_live in
    let g = c.first_of_frame-seen in
    let at = goal.at.returns-in-None c in
    record {
      led = led-none a.s a.c c.requires.tying.0 a.l c.requires.tying.1.0 a.t a.b h.1 a.whole h.0 t.0 t.1.0 _ (over at.Else-m-d-gt0)
          g.result g.ensures c.in-None.is _ refl refl;
      try_writes = told at.After-first_of_frame-seen;
    }
