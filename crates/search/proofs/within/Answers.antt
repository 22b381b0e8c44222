use Rattle.std.proofs.Common.{◌≡◌, refl, sym, Bool, true, false, not, ℤ, ◌-ℤ◌, ◌≤ℤ◌}
use lib.Dec.{lit<}
use lib.Signed.{lt_z, clash_ℤ}
use mir.Facts.{to_z-of_z}
use Rattle.arith.proofs.Parts.{impossible, within-sub, within-sfits, within-back}
use Rattle.arith.proofs.Words.{yes_lt, no_lt}
use Rattle.search.specs.Search.{Stays, Reflects}
use Rattle.search.proofs.within.Goals as goal

pub overflow_sub-y : goal.overflow_sub-y
overflow_sub-y c = rw (to_z-of_z c.ranges.x, to_z-of_z c.ranges.r) (within-sfits (lit< tt) (within-sub c.requires.0 c.requires.1))

pub returns-then-y-l : goal.returns-then-y-l
returns-then-y-l c =
    let low = yes_lt (rw (to_z-of_z c.ranges.x, to_z-of_z c.ranges.r, within-back tt (within-sub c.requires.0 c.requires.1), to_z-of_z c.ranges.l)
    at c.if-y-l.true) in
    record { holds = λ e. absurd (impossible e); fails = λ e q. clash_ℤ low q.low }

pub returns : goal.returns
returns c =
    let back = within-back tt (within-sub c.requires.0 c.requires.1) in
    let low = rw (to_z-of_z c.ranges.x, to_z-of_z c.ranges.r, back, to_z-of_z c.ranges.l) at c.if-y-l.false in
    rw (to_z-of_z c.ranges.x, to_z-of_z c.ranges.r, back, to_z-of_z c.ranges.u)
    (decided c.args.x c.args.r c.args.l c.args.u (no_lt low) (lt_z c.args.u (c.args.x -ℤ c.args.r)) refl)
  where
    decided : (x r l u : ℤ) → l ≤ℤ (x -ℤ r) → (t : Bool) → lt_z u (x -ℤ r) ≡ t → Reflects (Stays x r l u) (not t)
    decided x r l u h true q = record { holds = λ e. absurd (impossible e); fails = λ e z. clash_ℤ (yes_lt q) z.high }
    decided x r l u h false q = record { holds = λ e. record { low = h; high = no_lt q }; fails = λ e z. absurd (impossible (sym e)) }
