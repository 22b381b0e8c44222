use Rattle.std.proofs.Common.{refl, sym, subst, arith, ◌≤ℤ◌}
use mathlib.Core.Logic.{inl, inr}
use Rattle.greedy.specs.Fill.{at}
use Rattle.setting.specs.Box.{Inside}
use Rattle.firsts.specs.Leading.{ends_at}
use Rattle.firsts.proofs.Places.{place-sized}
use Rattle.firsts.proofs.Shown.{shown-small}
use Rattle.firsts.proofs.sooner.Goals as goal

pub by_level-y-requires : goal.by_level-y-requires
by_level-y-requires c =
    let y = c.requires.0 in
    (y.ready.few, λ d l. omega (arith, y.ready.level_in d l, y.ready.sized.columns.few))

pub filling_at-z-requires : goal.filling_at-z-requires
filling_at-z-requires c = (
  c.requires.0,
  λ d l. subst (λ x. (at c.args.s.low d ≤ℤ x) × (x ≤ℤ at c.args.s.high d)) (sym (c.by_level-y.ensures.each d l)) (c.requires.1.1 d l),
)

pub comes_before-requires : goal.comes_before-requires
comes_before-requires c =
    let a = c.args in
    let y = at c.by_level-y.result in
    let inside : Inside a.s y
    = λ d l. subst (λ x. (at a.s.low d ≤ℤ x) × (x ≤ℤ at a.s.high d)) (sym (c.by_level-y.ensures.each d l)) (c.requires.1.1 d l) in (
      c.requires.0.tied.sized.few,
      (
        shown-small a.c (ends_at a.s y) (place-sized a.s a.c c.requires.0 y inside) a.s c.filling_at-z.result.point c.filling_at-z.ensures.shows,
        c.requires.1.0,
      ),
    )

pub returns-then-comes_before : goal.returns-then-comes_before
returns-then-comes_before c = record {
  place = at c.by_level-y.result;
  same = c.by_level-y.ensures.each;
  other = c.filling_at-z.result.point;
  shows = c.filling_at-z.ensures.shows;
  which = inr (refl, inr (c.comes_before.ensures.before c.if-comes_before.true));
}

pub returns : goal.returns
returns c = record {
  place = at c.by_level-y.result;
  same = c.by_level-y.ensures.each;
  other = c.filling_at-z.result.point;
  shows = c.filling_at-z.ensures.shows;
  which = inl (refl, c.comes_before.ensures.after c.if-comes_before.false);
}
