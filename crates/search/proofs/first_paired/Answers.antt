use Rattle.std.proofs.Common.{◌≡◌, ◌<◌, ℕ, ℤ, List, w64, to_z, of_z, arith, to_z-of_z}
use borrow.Author.Count.{below_more}
use lib.Dec.{lit<}
use mir.Syntax.{w16}
use mir.Val.{SFits}
use Rattle.arith.specs.Limits.{farthest}
use Rattle.arith.specs.Within.{Within}
use Rattle.arith.proofs.Parts.{abs-within, within-width, within-back, within-sfits}
use Rattle.greedy.specs.Fill.{at}
use Rattle.setting.specs.declared.Setting.{Setting}
use Rattle.setting.specs.declared.Pairs.{Pairs}
use Rattle.setting.specs.Box.{level_at}
use Rattle.setting.specs.Ready.{pair_index}
use Rattle.setting.proofs.Boxes.{between}
use Rattle.search.specs.Search.{AppliesAt, Reflects}
use Rattle.search.specs.Steps.{Unpaired}
use Rattle.search.proofs.first_paired.Goals.{After-removable}
use Rattle.search.proofs.first_paired.Goals as goal

module _ (s : Setting) (p : Pairs) (x : List ℤ) (from : ℕ) (u : Unpaired s p x from) where
  amount-within : (d : ℕ) → d < s.levels → Within farthest (at x d)
  amount-within d l =
      let r = u.ready.setting.ready in
      let i = u.inside d l in
      between (at s.low d) (at s.high d) (at x d) (rw (r.low-is d l) (r.sized.ends.lo-in (level_at s d)))
      (rw (r.high_is d l) (r.sized.ends.hi-in (level_at s d))) i.0 i.1

  first-within : (k : ℕ) → Within 1000 (at p.first k)
  first-within k = abs-within _ (u.ready.true-pairs.steps-in k).0

  second-within : (k : ℕ) → Within 1000 (at p.second k)
  second-within k = abs-within _ (u.ready.true-pairs.steps-in k).1

  -- a step is read back from its few bits
  first_back : (k : ℕ) → to_z w16 (of_z w16 (at p.first k)) ≡ at p.first k
  first_back k = to_z-of_z (within-width w16 (lit< tt) (first-within k))

  second_back : (k : ℕ) → to_z w16 (of_z w16 (at p.second k)) ≡ at p.second k
  second_back k = to_z-of_z (within-width w16 (lit< tt) (second-within k))

pub loop-d-init : goal.loop-d-init
loop-d-init c = c.requires.unpaired

pub overflow_cast-r : goal.overflow_cast-r
overflow_cast-r c =
    let a = c.args in
    let k = pair_index (level_at a.s c.loop-d.d) (level_at a.s c.loop-j.j) in
    rw (first_back a.s a.p a.x a.from c.requires k) (within-sfits (lit< tt) (first-within a.s a.p a.x a.from c.requires k))

pub overflow_cast-t : goal.overflow_cast-t
overflow_cast-t c =
    let a = c.args in
    let k = pair_index (level_at a.s c.loop-d.d) (level_at a.s c.loop-j.j) in
    rw (second_back a.s a.p a.x a.from c.requires k) (within-sfits (lit< tt) (second-within a.s a.p a.x a.from c.requires k))

pub removable-requires : goal.removable-requires
removable-requires c =
    let a = c.args in
    let h = c.requires in
    let k = pair_index (level_at a.s c.loop-d.d) (level_at a.s c.loop-j.j) in
    let r = first-within a.s a.p a.x a.from h k in
    let t = second-within a.s a.p a.x a.from h k in
    let x = amount-within a.s a.p a.x a.from h c.loop-d.d (omega arith) in
    let y = amount-within a.s a.p a.x a.from h c.loop-j.j (omega arith) in
    rw (
      first_back a.s a.p a.x a.from h k,
      second_back a.s a.p a.x a.from h k,
      within-back tt r,
      within-back tt t,
      within-back tt x,
      within-back tt y,
    ) (r, (t, (x, y)))

-- what the test decides, of the figures themselves
decided : (c : After-removable) → Reflects (AppliesAt c.args.s c.args.p (at c.args.x) c.loop-d.d c.loop-j.j) c.removable.result
decided c =
    let a = c.args in
    let h = c.requires in
    let d = c.loop-d.d in
    let j = c.loop-j.j in
    let k = pair_index (level_at a.s d) (level_at a.s j) in
    let l : SFits w64 (at a.s.low d) = record { sfits = omega arith } in
    let u : SFits w64 (at a.s.high d) = record { sfits = omega arith } in
    let m : SFits w64 (at a.s.low j) = record { sfits = omega arith } in
    let w : SFits w64 (at a.s.high j) = record { sfits = omega arith } in
    rw (
      first_back a.s a.p a.x a.from h k,
      second_back a.s a.p a.x a.from h k,
      within-back tt (first-within a.s a.p a.x a.from h k),
      within-back tt (second-within a.s a.p a.x a.from h k),
      within-back tt (amount-within a.s a.p a.x a.from h d (omega arith)),
      within-back tt (amount-within a.s a.p a.x a.from h j (omega arith)),
      to_z-of_z l,
      to_z-of_z u,
      to_z-of_z m,
      to_z-of_z w,
    ) at c.removable.ensures

pub returns-then-removable : goal.returns-then-removable
returns-then-removable c = record {
  most = omega arith;
  here = λ h. record {
    above = c.loop-j.j;
    is-above = omega arith;
    here = (decided (goal.at.returns-then-removable c).After-removable).holds c.if-removable.true;
  };
  before = c.loop-d.invariant;
}

pub loop-j-preserved : goal.loop-j-preserved
loop-j-preserved c = below_more _ _ c.loop-j.invariant ((decided (goal.at.loop-j-preserved c).After-removable).fails c.if-removable.false)

-- a level whose pairs were all looked at
pub loop-d-preserved : goal.loop-d-preserved
loop-d-preserved c = below_more _ _ c.loop-d.invariant (λ q. c.loop-j.invariant q.above (omega (arith, q.is-above)) q.here)

pub returns : goal.returns
returns c = record { most = omega arith; here = λ h. absurd (omega arith); before = λ d h. c.loop-d.invariant d (omega arith) }
