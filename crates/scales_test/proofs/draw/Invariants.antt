use Rattle.std.specs.Prelude.{◌≡◌, ℕ, ◌<◌, length, get_or}
use Rattle.scales_test.proofs.draw.Given as goal

-- the first j numbers are below b
abbrev pub invariant-loop-j : goal.invariant-loop-j
invariant-loop-j l = ((l.seed < 2147483648) × (length l.list ≡ 3)) × ((k : ℕ) → k < l.j → get_or l.list k 0 < l.b)
