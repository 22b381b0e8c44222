use Rattle.std.proofs.Common.{◌≡◌, ◌+◌, ℕ, ℤ, Some, false, refl, sym, ◌∙◌, w64, arith, to_z-of_z}
use lib.ListN.{length-set}
use mir.Val.{SFits}
use Rattle.greedy.specs.Fill.{at}
use Rattle.places.specs.Moves.{SettledIn, past_of}
use Rattle.setting.specs.declared.Setting.{Setting}
use Rattle.setting.specs.declared.Pairs.{Pairs}
use Rattle.search.specs.declared.Path.{Path}
use Rattle.search.specs.declared.Sighting.{Sighting}
use Rattle.search.specs.declared.State.{State}
use Rattle.search.specs.Steps.{LongPath, Dived, MoveInRange, Looks, Looked, moved_at, fresh_by, counted_by, Stepped}
use Rattle.search.proofs.Dives.{dived-none, moved_inside, moved_by}
use Rattle.search.proofs.Moving.{looked-in, past-started, MoveIn, move_in}
use Rattle.search.proofs.step.Goals as goal

-- a look that settled something before the end: past it, level j goes to v
module _ (s : Setting) (p : Pairs) (q : State) (h : Looks s p q.path q.best q.from) (l : Sighting) (k : Looked s p q.path q.best l) (j : ℕ) (v : ℤ)
    (w : past_of l.settled (at s.low) (at s.high) (at q.path.starts) (at q.path.place) ≡ Some (j, v)) where
  moves : MoveIn s l.settled j v
  moves =
      let i : SettledIn s.levels l.settled = looked-in s p q.path q.best (record { best = l.best; better = l.better }) l.settled k in
      move_in s h.ready.setting h.started.long (at q.path.place) h.started.inside l.settled i j v (sym (past-started s q.path l.settled h.started i) ∙ w)

  range : MoveInRange s q.path j v
  range = record { ready = h.ready.setting; started = h.started; level_in = moves.level_in; low = moves.low; high = moves.high }

  -- a step that goes on along the path r
  onward : (r : Path) (n f : ℕ) → LongPath q.path → n ≡ counted_by q.steps → f ≡ fresh_by l.better j → Dived s (j + 1) (moved_at q.path j v) r
      → Stepped s p q (record { path = r; best = l.best; steps = n; from = f; done = false })
  onward r n f g e i d = record {
    verdict = l.settled;
    better = l.better;
    looked = k;
    went = rw w (refl, (moved_by s q.path j v range g r d, i));
    counted = e;
  }

pub move_to-u-requires : goal.move_to-u-requires
move_to-u-requires c =
    let a = c.args in
    let w : past_of c.look-l.result.settled (at a.s.low) (at a.s.high) (at a.q.path.starts) (at a.q.path.place) ≡ Some (c.in-Some.j, c.in-Some.v) = cc in
    let m = moves a.s a.p a.q c.requires c.look-l.result c.look-l.ensures c.in-Some.j c.in-Some.v w in
    omega (arith, m.level_in, c.requires.ready.setting.ready.few)

pub overflow_add-j : goal.overflow_add-j
overflow_add-j c =
    let a = c.args in
    let w : past_of c.look-l.result.settled (at a.s.low) (at a.s.high) (at a.q.path.starts) (at a.q.path.place) ≡ Some (c.in-Some.j, c.in-Some.v) = cc in
    let m = moves a.s a.p a.q c.requires c.look-l.result c.look-l.ensures c.in-Some.j c.in-Some.v w in
    record { fits = omega (arith, m.level_in, c.requires.ready.setting.ready.few) }

pub dive-requires : goal.dive-requires
dive-requires c =
    let a = c.args in
    let w : past_of c.look-l.result.settled (at a.s.low) (at a.s.high) (at a.q.path.starts) (at a.q.path.place) ≡ Some (c.in-Some.j, c.in-Some.v) = cc in
    let m = range a.s a.p a.q c.requires c.look-l.result c.look-l.ensures c.in-Some.j c.in-Some.v w in
    let f : SFits w64 c.in-Some.v = record { sfits = omega arith } in
    rw (c.move_to-u.ensures.0, to_z-of_z f) (
      c.requires.ready.setting,
      (omega (arith, m.level_in), moved_inside a.s a.q.path c.in-Some.j c.in-Some.v m c.move_to-u.ensures.1),
    )

pub returns-then-j-s : goal.returns-then-j-s
returns-then-j-s c =
    let a = c.args in
    let w : past_of c.look-l.result.settled (at a.s.low) (at a.s.high) (at a.q.path.starts) (at a.q.path.place) ≡ Some (c.in-Some.j, c.in-Some.v) = cc in
    let f : SFits w64 c.in-Some.v = record { sfits = omega arith } in
    onward a.s a.p a.q c.requires c.look-l.result c.look-l.ensures c.in-Some.j c.in-Some.v w c.dive.result _ _ c.move_to-u.ensures.1 c.counted-n.ensures
    c.fresh-from.ensures (rw (c.move_to-u.ensures.0, to_z-of_z f) at c.dive.ensures)

-- at the last level there is no farther to go
pub returns-else-j-s : goal.returns-else-j-s
returns-else-j-s c =
    let a = c.args in
    let w : past_of c.look-l.result.settled (at a.s.low) (at a.s.high) (at a.q.path.starts) (at a.q.path.place) ≡ Some (c.in-Some.j, c.in-Some.v) = cc in
    let f : SFits w64 c.in-Some.v = record { sfits = omega arith } in
    let g = c.move_to-u.ensures.1 in
    let u = moved_at a.q.path c.in-Some.j c.in-Some.v in
    let long : LongPath u = record { place-long = simp length-set g.place-long; starts-long = g.starts-long } in
    rw (c.move_to-u.ensures.0, to_z-of_z f) (onward a.s a.p a.q c.requires c.look-l.result c.look-l.ensures c.in-Some.j c.in-Some.v w u _ _ g
    c.counted-n.ensures c.fresh-from.ensures (dived-none a.s _ u c.if-j-s.false long))
