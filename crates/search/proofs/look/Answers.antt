use Rattle.std.proofs.Common.{◌≡◌, ℕ, ℤ, Bool, List, inl, inr, refl, sym, ap, ap₂, ◌∙◌, subst, w64, to_z, of_z, arith, add-one, to_z-of_z}
use borrow.Author.Count.{below_more}
use lib.Seq.{set-set}
use mir.Val.{SFits}
use Rattle.arith.proofs.Words.{back}
use Rattle.greedy.specs.declared.Ends.{Ends}
use Rattle.greedy.specs.Fill.{at}
use Rattle.lattice.specs.Lattice.{lattice_at}
use Rattle.search.specs.Steps.{cut_at}
use Rattle.setting.specs.Box.{level_at, spanned, fixed_in, fixed_by}
use Rattle.search.specs.Search.{run_box, run_ends, cut_by, Applies}
use Rattle.search.proofs.Boxes.{item<16}
use Rattle.search.proofs.Runs.{fixed-in-range, run-in-range}
use Rattle.search.proofs.look.Goals.{After-by_side-h}
use Rattle.search.proofs.look.Goals as goal

module _ (c : After-by_side-h) where
  -- the box of the run, as it is written
  abbrev Ran : Ends
  Ran = spanned c.loop-d.e (level_at c.args.s c.loop-d.d) (to_z w64 (of_z w64 c.by_side-l.result)) (to_z w64 (of_z w64 c.by_side-h.result))

  run_is : Ran ≡ run_ends c.args.s (at c.args.t.place) (at c.args.t.starts c.loop-d.d) c.loop-d.d
  run_is =
      let s = c.args.s in
      let t = c.args.t in
      let d = c.loop-d.d in
      let k = level_at s d in
      let x : SFits w64 (at t.place d) = record { sfits = omega arith } in
      let y : SFits w64 (at t.starts d) = record { sfits = omega arith } in
      let u : SFits w64 (at s.low d) = record { sfits = omega arith } in
      let v : SFits w64 (at s.high d) = record { sfits = omega arith } in
      let l = rw (to_z-of_z x, to_z-of_z y, to_z-of_z u) at c.by_side-l.ensures in
      let h = rw (to_z-of_z x, to_z-of_z y, to_z-of_z v) at c.by_side-h.ensures in
      ap₂ (λ (x y : ℤ). spanned c.loop-d.e k x y) (back c.by_side-l.result c.by_side-l.type_inv ∙ l) (back c.by_side-h.result c.by_side-h.type_inv ∙ h)
      ∙ ap (λ e. run_box e k (at s.low d) (at s.high d) (at t.place d) (at t.starts d)) c.loop-d.invariant.box

  -- whether the run of the level is cut
  cut-is : (r : Bool) → r ≡ cut_by c.args.s.cols (lattice_at c.args.s.lattice c.loop-d.d) Ran c.args.best → r ≡ cut_at c.args.s c.args.t c.args.best c.loop-d.d
  cut-is r e = e ∙ ap (λ e. cut_by c.args.s.cols (lattice_at c.args.s.lattice c.loop-d.d) e c.args.best) run_is

-- ends written twice are those written last
rewritten : (e : Ends) (k : ℕ) (l h u : ℤ) → spanned (spanned e k l h) k u u ≡ spanned e k u u
rewritten e k l h u = ap₂ (λ (x y : List ℤ). record { lo = x; hi = y }) (set-set e.lo k l u) (set-set e.hi k h u)

pub cut-requires : goal.cut-requires
cut-requires c =
    let r = c.requires.ready.setting in
    let t = c.args.t in
    let d = c.loop-d.d in
    rw (run_is (goal.at.cut-requires c).After-by_side-h) (
      run-in-range c.args.s r c.requires.started.long (at t.place) c.requires.started.inside (at t.starts d) d c.args.best (omega arith) c.requires.proper,
      r.ready.tame d (omega (arith, r.ready.few)),
    )

pub returns-then-cut : goal.returns-then-cut
returns-then-cut c =
    let b = (goal.at.returns-then-cut c).After-by_side-h in (
      refl,
      record {
        level_in = omega arith;
        passed = record {
          uncut = c.loop-d.invariant.uncut;
          unpaired = λ i g. c.first_paired-m.ensures.before i (omega (arith, c.loop-d.invariant.before));
        };
        cut = sym (cut-is b c.cut.result c.cut.ensures) ∙ c.if-cut.true;
      },
    )

-- the level that a pair discards
pub returns-then-d-m : goal.returns-then-d-m
returns-then-d-m c =
    let b = (goal.at.returns-then-d-m c).After-by_side-h in
    let q = c.if-d-m.true in
    inr (
      refl,
      record {
        level = c.loop-d.d;
        level_in = omega arith;
        last = add-one c.loop-d.d;
        passed = record {
          uncut = c.loop-d.invariant.uncut;
          unpaired = λ i g. c.first_paired-m.ensures.before i (omega (arith, c.loop-d.invariant.before));
        };
        uncut = sym (cut-is b c.cut.result c.cut.ensures) ∙ c.if-cut.false;
        paired = subst (λ k. Applies c.args.s c.args.p (at c.args.t.place) k) (sym q) (c.first_paired-m.ensures.here (omega (arith, q)));
      },
    )

pub bounds-e-i-in-loop-d-2 : goal.bounds-e-i-in-loop-d-2
bounds-e-i-in-loop-d-2 c = item<16 c.args.s c.requires.ready.setting c.requires.started.long c.loop-d.d (omega arith)

pub bounds-e-i-in-loop-d-3 : goal.bounds-e-i-in-loop-d-3
bounds-e-i-in-loop-d-3 c = item<16 c.args.s c.requires.ready.setting c.requires.started.long c.loop-d.d (omega arith)

pub offset_bounds-e-i-in-loop-d-2 : goal.offset_bounds-e-i-in-loop-d-2
offset_bounds-e-i-in-loop-d-2 c =
    let l = item<16 c.args.s c.requires.ready.setting c.requires.started.long c.loop-d.d (omega arith) in record { fits = omega arith }

pub offset_bounds-e-i-in-loop-d-3 : goal.offset_bounds-e-i-in-loop-d-3
offset_bounds-e-i-in-loop-d-3 c =
    let l = item<16 c.args.s c.requires.ready.setting c.requires.started.long c.loop-d.d (omega arith) in record { fits = omega arith }

pub loop-d-preserved : goal.loop-d-preserved
unfolding fixed_in
loop-d-preserved c =
    let b = (goal.at.loop-d-preserved c).After-by_side-h in
    let x = at c.args.t.place c.loop-d.d in
    let f : SFits w64 x = record { sfits = omega arith } in
    let k = level_at c.args.s c.loop-d.d in
    record {
      box = rw (add-one, to_z-of_z f)
          (rewritten c.loop-d.e k (to_z w64 (of_z w64 c.by_side-l.result)) (to_z w64 (of_z w64 c.by_side-h.result)) x
          ∙ ap (λ e. spanned e k x x) c.loop-d.invariant.box);
      before = omega (arith, c.loop-d.invariant.before, c.if-d-m.false);
      uncut = below_more _ _ c.loop-d.invariant.uncut (sym (cut-is b c.cut.result c.cut.ensures) ∙ c.if-cut.false);
    }

pub tried-r-requires : goal.tried-r-requires
tried-r-requires c =
    rw c.loop-d.invariant.box (fixed-in-range c.args.s c.requires.ready.setting c.requires.started.long (at c.args.t.place) c.requires.started.inside
    c.loop-d.d c.args.best (omega (arith, c.requires.from_in)) c.requires.proper)

pub returns : goal.returns
returns c =
    let n : c.loop-d.d ≡ c.args.s.levels = omega (arith, c.requires.from_in) in
    let e = c.loop-d.invariant.box ∙ ap (fixed_by c.args.s (at c.args.t.place)) n in
    inl (record {
      all = refl;
      passed = record {
        uncut = λ i g. c.loop-d.invariant.uncut i (omega (arith, n));
        unpaired = λ i g. c.first_paired-m.ensures.before i (omega (arith, n, c.loop-d.invariant.before));
      };
      tries = rw e at c.tried-r.ensures;
    })
