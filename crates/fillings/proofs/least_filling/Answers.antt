use Rattle.std.proofs.Common.{◌≡◌, ℕ, suc, ◌+◌, ◌<◌, ◌≤◌, sym, subst, arith}
use native.Mathlib.Nat.{mul-le-mul_right}
use Rattle.scales.specs.Filling.{Least}
use Rattle.fillings.specs.Ranges.{num, items_in}
use Rattle.fillings.specs.Foremost.{FirstAt, barren, fruitful}
use Rattle.fillings.proofs.Foremost.{whole-least, bounds-begun, sought-begun, begun-found}
use Rattle.fillings.proofs.least_filling.Goals.{After-run_over-n}
use Rattle.fillings.proofs.least_filling.Goals as goal

-- something was found
found : (c : After-run_over-n) → (c.run_over-n.result.cost ≡ c.args.cap → ⊥) → c.run_over-n.result.cost < c.args.cap
found c ne = omega (arith, c.run_over-n.ensures.runs.capped, ne)

up : {m n : ℕ} → m < n → m + 1 ≤ n
up l = omega (arith, l)

pub returns-then-n-cap : goal.returns-then-n-cap
returns-then-n-cap c =
    let a = c.args in
    let w = c.whole_of in
    let e = c.run_over-n.ensures in
    record {
      few = omega (arith, e.runs.few);
      writes = barren w.result c.run_over-n.result w.ensures e.runs e.run_writes c.if-n-cap.true;
      least = subst (λ m. Least a.cap (items_in a.p) a.capacity m) c.if-n-cap.true
          (whole-least a.p w.result a.capacity a.cap 0 c.run_over-n.result c.requires.fair.0.long w.ensures e.runs);
      found = λ l. absurd (omega arith);
    }

pub onward-f-requires : goal.onward-f-requires
onward-f-requires c =
    let a = c.args in
    let w = c.whole_of in
    let e = c.run_over-n.ensures in
    let x = c.requires.fair in
    let below = found (goal.at.onward-f-requires c).After-run_over-n c.if-n-cap.false in
    record {
      fair = (
        x.0,
        (
          omega arith,
          (
            omega (arith, below, x.1.0),
            (
              (λ j l. omega (arith, x.1.1 j l, mul-le-mul_right (suc (num a.p.range j)) (up below))),
              bounds-begun a.p w.result a.capacity a.cap c.run_over-n.result x.0.long w.ensures e.runs below,
            ),
          ),
        ),
      );
      sought = (
        sought-begun a.p w.result a.capacity a.cap c.run_over-n.result x.0.long w.ensures e.runs below x.1.1,
        (omega (arith, e.runs.few), omega arith),
      );
    }

pub returns : goal.returns
returns c =
    let a = c.args in
    let w = c.whole_of in
    let e = c.run_over-n.ensures in
    let x = c.requires.fair in
    let below = found (goal.at.returns c).After-run_over-n c.if-n-cap.false in
    let g = c.onward-f.ensures in
    record {
      few = omega (arith, g.few, e.runs.few);
      writes = fruitful w.result c.run_over-n.result _ w.ensures e.runs e.run_writes below g.writes;
      least = whole-least a.p w.result a.capacity a.cap 0 c.run_over-n.result x.0.long w.ensures e.runs;
      found = λ l. subst (FirstAt a.p a.capacity _) (sym c.unwrap_or.ensures)
          (begun-found a.p w.result a.capacity a.cap c.run_over-n.result x.0.long w.ensures e.runs below c.run_over-n.result c.onward-f.result g);
    }
