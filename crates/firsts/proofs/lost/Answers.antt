use Rattle.std.proofs.Common.{◌≡◌, ◌∙◌, sym, ap, subst, arith, pos, nat_abs, ◌-ℤ◌, ◌*ℤ◌, to_z, of_z, w64}
use native.Mathlib.Nat.{mul-le-mul}
use lib.Dec.{lit<}
use mir.Facts.{to_z_pos}
use Rattle.arith.specs.Within.{Within}
use Rattle.arith.proofs.Parts.{abs-within, within_more, within-sfits, within-back}
use Rattle.arith.proofs.Words.{back}
use Rattle.firsts.proofs.Worth.{Fits, fits-made}
use Rattle.firsts.proofs.lost.Goals.{Start}
use Rattle.firsts.proofs.lost.Goals as goal

fit : (s : Start) → Fits s.args.top s.args.q s.args.v
fit s = fits-made s.args.top s.args.q s.args.v s.requires.0 s.requires.1.0 s.requires.1.1.0 s.requires.1.1.1

q-is : (s : Start) → to_z w64 s.args.q ≡ pos s.args.q
q-is s = to_z_pos w64 (omega (arith, s.requires.0))

w-is : (s : Start) → to_z w64 (of_z w64 s.args.v.whole) ≡ s.args.v.whole
w-is s = back s.args.v.whole s.well_formed.1.1.0.1.1.0.1

whole_in : (s : Start) → Within 10001000 (s.args.top -ℤ pos s.args.q *ℤ s.args.v.whole)
whole_in s = subst (Within 10001000) (fit s).whole_is (abs-within (pos (fit s).whole) (fit s).small)

n-is : (s : Start) → let a = s.args in
    to_z w64 (of_z w64 (to_z w64 (of_z w64 a.top) -ℤ to_z w64 (of_z w64 (to_z w64 a.q *ℤ to_z w64 (of_z w64 a.v.whole))))) ≡ pos (fit s).whole
n-is s = rw (within-back tt s.requires.1.0, q-is s, w-is s, within-back tt (fit s).product) (within-back tt (whole_in s) ∙ sym (fit s).whole_is)

pub overflow_mul-q : goal.overflow_mul-q
overflow_mul-q c = let s = (goal.at.overflow_mul-q c).Start in rw (q-is s, w-is s) (within-sfits (lit< tt) (fit s).product)

pub overflow_sub-top : goal.overflow_sub-top
overflow_sub-top c =
    let s = (goal.at.overflow_sub-top c).Start in
    rw (within-back tt s.requires.1.0, q-is s, w-is s, within-back tt (fit s).product) (within-sfits (lit< tt) (whole_in s))

pub magnitude-n-requires : goal.magnitude-n-requires
magnitude-n-requires c =
    let s = (goal.at.magnitude-n-requires c).Start in
    rw (n-is s) (within_more (omega arith) (abs-within (pos (fit s).whole) (fit s).small))

pub overflow_mul-result : goal.overflow_mul-result
overflow_mul-result c =
    let s = (goal.at.overflow_mul-result c).Start in
    rw (c.magnitude-n.ensures ∙ ap nat_abs (n-is s)) (omega (arith, mul-le-mul (fit s).small s.requires.1.1.0.few))

pub overflow_sub-result : goal.overflow_sub-result
overflow_sub-result c =
    let s = (goal.at.overflow_sub-result c).Start in
    rw (c.magnitude-n.ensures ∙ ap nat_abs (n-is s)) (fit s).part

pub returns : goal.returns
returns c =
    let s = (goal.at.returns c).Start in
    rw (c.magnitude-n.ensures ∙ ap nat_abs (n-is s)) ((fit s).num-is, (fit s).num-in)
