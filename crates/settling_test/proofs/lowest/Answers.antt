use Rattle.std.proofs.Common.{ap, ◌∙◌, arith, rules}
use lib.Signed.{≤ℤ_refl}
use Rattle.arith.proofs.Parts.{within-back}
use Rattle.arith.proofs.Words.{no_lt}
use Rattle.greedy.specs.declared.Ends.{Ends}
use Rattle.greedy.specs.Fill.{at, fill, bound}
use Rattle.greedy.specs.Sized.{Sized, SizedFill}
use Rattle.greedy.proofs.Bounds.{bound-proper}
use Rattle.greedy.proofs.Sizes.{fill-sized}
use Rattle.setting.specs.declared.Setting.{Setting}
use Rattle.setting.specs.Box.{Long, Inside, fixed_by}
use Rattle.setting.specs.Ready.{ReadySetting}
use Rattle.setting.proofs.Boxes.{fixed-level, fixed-other, fixed-sized}
use Rattle.settling.specs.Settling.{Between, Fixes}
use Rattle.settling_test.proofs.lowest.Goals as goal

-- ---- the place at the lower ends is between the ends

between : (s : Setting) → ReadySetting s → Between s.ends s.level s.levels (at s.low)
between s r d l = rw (r.low-is d l) (≤ℤ_refl _, r.in_order _ (r.level_in d l))

inside : (s : Setting) → ReadySetting s → Inside s (at s.low)
inside s r d l = (≤ℤ_refl _, rw (r.low-is d l, r.high_is d l) (r.in_order _ (r.level_in d l)))

fixes : (s : Setting) (r : ReadySetting s) → Long s.ends → Fixes s.ends s.level s.levels (at s.low) (fixed_by s (at s.low) s.levels)
fixes s r g = record {
  own = λ d l. fixed-level s r g (at s.low) s.levels d (omega arith) l;
  other = λ k h. fixed-other s r g (at s.low) s.levels k h;
}

-- ---- its filling

abbrev box : Setting → Ends
box s = fixed_by s (at s.low) s.levels

sized : (s : Setting) → ReadySetting s → Long s.ends → Sized s.cols (box s)
sized s r g = record {
  columns = r.sized.columns;
  ends = fixed-sized s r g (at s.low) s.levels (omega arith) (inside s r);
}

filled : (s : Setting) → ReadySetting s → Long s.ends → SizedFill s.cols (fill s.cols (box s))
filled s r g = fill-sized s.cols (box s) (sized s r g)

pub fill_up-f-requires : goal.fill_up-f-requires
fill_up-f-requires c =
    let g : Long c.args.s.ends = record { lo-long = search rules; hi-long = search rules } in
    rw c.fixed-e.ensures (sized c.args.s c.requires g)

pub bound_of-value-requires : goal.bound_of-value-requires
bound_of-value-requires c =
    let g : Long c.args.s.ends = record { lo-long = search rules; hi-long = search rules } in
    rw (c.fill_up-f.ensures ∙ ap (fill c.args.s.cols) c.fixed-e.ensures) (filled c.args.s c.requires g)

pub returns : goal.returns
returns c = λ i.
    let s = c.args.s in
    let g : Long s.ends = record { lo-long = search rules; hi-long = search rules } in
    let z = filled s c.requires g in
    let e = c.fill_up-f.ensures ∙ ap (fill s.cols) c.fixed-e.ensures in
    let r = rw (e, within-back tt z.room_in) at c.if-f-lt0.false in
    record {
      between = between s c.requires;
      ends = box s;
      fixes = fixes s c.requires g;
      roomy = no_lt r;
      value-is = c.bound_of-value.ensures ∙ ap (bound s.cols) e;
      proper = rw (c.bound_of-value.ensures, e) (bound-proper s.cols (fill s.cols (box s)) z);
    }
