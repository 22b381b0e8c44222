use Rattle.std.proofs.Common.{ℕ, ◌<◌, ◌≤◌, refl, ap, ◌∙◌, add-one, arith}
use native.Mathlib.Decide.{dec_lt}
use borrow.Author.Count.{below_more}
use Rattle.scales.specs.Digits.{rest, rest_at}
use Rattle.scales.proofs.Counts.{rest-small}
use Rattle.scales.proofs.scales_of.Goals as goal

later : {k n : ℕ} {P : Type 0} → (k < n → P → ⊥) → P → n ≤ k
later {k} {n} f p = go (dec_lt k n)
  where
    go : Dec (k < n) → n ≤ k
    go (yes h) = absurd (f h p)
    go (no h) = omega arith

pub loop-r-init : goal.loop-r-init
unfolding rest_at
loop-r-init c = record { rests = refl; falls = omega arith; before = λ i l. absurd (omega arith) }

pub loop-r-preserved : goal.loop-r-preserved
unfolding rest_at
loop-r-preserved c =
    let i = c.loop-r.invariant in
    record { rests = rw add-one (c.rest_of-r.ensures ∙ ap rest i.rests); falls = omega arith; before = below_more _ _ i.before (λ e. omega arith) }

pub returns : goal.returns
returns c =
    let i = c.loop-r.invariant in
    record { done = omega arith; soonest = λ k e. later (i.before k) e; few = later (i.before 64) (rest-small 64 c.args.u (omega arith)) }
