use Rattle.std.proofs.Common.{ℕ, ◌<◌}
use Rattle.ceiling.specs.Frames.{Usable}
use Rattle.firsts.proofs.cuts_some.Given as goal

-- none of the frames before u can be needed
abbrev pub invariant-loop-u : goal.invariant-loop-u
invariant-loop-u l = (t : ℕ) → t < l.u → Usable l.c l.s.ends l.whole t → ⊥
