-- The amounts before item k are the same; those of item k decide.
use Rattle.std.proofs.Common.{◌≡◌, ℕ, ◌<◌, List, length, get_or, sym, ◌∙◌, arith, rules, pos}
use Rattle.arith.specs.declared.Fraction.{Fraction}
use Rattle.arith.proofs.Parts.{impossible}
use Rattle.arith.proofs.Words.{yes_lt, no_lt}
use Rattle.comparing.specs.Comparing.{amount_in, point_in}
use Rattle.comparing.proofs.Order.{alike-step, alike-back, earlier-made, default_free, alike-not, earlier-not}
use Rattle.comparing.proofs.comes_before.Goals as goal

-- an amount as the code reads it
read : (l : List Fraction) (k : ℕ) → length l ≡ 16 → k < 16 → get_or l k (record { p = pos 0; q = 0 }) ≡ amount_in l k
read l k e h = default_free l k _ _ (omega arith)

pub less_fraction-requires-in-loop-k : goal.less_fraction-requires-in-loop-k
less_fraction-requires-in-loop-k c =
    let k = c.loop-k.k in
    rw (read c.args.x k (search rules) (omega arith), read c.args.y k (search rules) (omega arith))
    (c.requires.1.1 k (omega arith), c.requires.1.0 k (omega arith))

pub returns-then-less_fraction : goal.returns-then-less_fraction
returns-then-less_fraction c =
    let k = c.loop-k.k in
    let x = c.args.x in
    let y = c.args.y in
    let less = rw (read x k (search rules) (omega arith), read y k (search rules) (omega arith)) at (sym c.less_fraction.ensures ∙ c.if-less_fraction.true) in
    record {
      before = λ e. earlier-made x y k (c.requires.1.0 k (omega arith)) (c.requires.1.1 k (omega arith)) c.args.n (omega arith) c.loop-k.invariant (yes_lt less);
      after = λ e. absurd (impossible (sym e));
    }

pub returns-then-less_fraction-2 : goal.returns-then-less_fraction-2
returns-then-less_fraction-2 c =
    let k = c.loop-k.k in
    let x = c.args.x in
    let y = c.args.y in
    let n = c.args.n in
    let less = rw (read y k (search rules) (omega arith), read x k (search rules) (omega arith)) at (sym c.less_fraction-in-loop-k.ensures ∙ c.if-less_fraction-2.true) in
    record {
      before = λ e. absurd (impossible e);
      after = λ e. earlier-not n (point_in x) (point_in y)
          (earlier-made y x k (c.requires.1.1 k (omega arith)) (c.requires.1.0 k (omega arith)) n (omega arith) (alike-back x y k c.loop-k.invariant) (yes_lt less));
    }

pub loop-k-preserved : goal.loop-k-preserved
loop-k-preserved c =
    let k = c.loop-k.k in
    let x = c.args.x in
    let y = c.args.y in
    let mine = read x k (search rules) (omega arith) in
    let yours = read y k (search rules) (omega arith) in
    let first = rw (mine, yours) at (sym c.less_fraction.ensures ∙ c.if-less_fraction.false) in
    let second = rw (yours, mine) at (sym c.less_fraction-in-loop-k.ensures ∙ c.if-less_fraction-2.false) in
    alike-step x y k (c.requires.1.0 k (omega arith)) (c.requires.1.1 k (omega arith)) c.loop-k.invariant (no_lt first) (no_lt second)

pub returns : goal.returns
returns c =
    let e : c.loop-k.k ≡ c.args.n = omega arith in
    record {
      before = λ i. absurd (impossible i);
      after = λ i. alike-not c.args.n (point_in c.args.x) (point_in c.args.y) (rw e at c.loop-k.invariant);
    }
