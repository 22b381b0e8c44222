use Rattle.std.proofs.Common.{◌≡◌, ℕ, ◌-◌, ◌≤◌, ◌<◌, length, subst, arith}
use native.Mathlib.Decide.{dec_lt}
use Rattle.scales.specs.Filling.{load, cost}
use Rattle.fillings.specs.declared.Parts.{Parts}
use Rattle.fillings.specs.declared.Ranges.{Ranges}
use Rattle.fillings.specs.Ranges.{num, items_in, Inside, offset_of, Among, Narrows}
use Rattle.fillings.specs.Runs.{Fills, costly, heavy, scaled}
use Rattle.fillings.proofs.Boxes.{offset-least, low-least}
use Rattle.fillings.proofs.Narrow.{near-among, near-offset, near-keeps}
use Rattle.fillings.proofs.Runs.{runs_none, runs-wider}
use Rattle.fillings.proofs.run_over.Goals.{After-narrowed-n}
use Rattle.fillings.proofs.run_over.Goals as goal

-- what costs less than the cap is within the narrowed ranges, so not lighter than their least amounts
too-heavy : (p : Parts) (r n : Ranges) (C cap left : ℕ) → length p.weight ≡ 17 → Among p r → left ≡ cap - offset_of p r → 1 ≤ left → Narrows p left r n →
    C < load (items_in p) (num n.low)
    → (y : ℕ → ℕ) → Inside r y → Fills p C y → cap ≤ cost (items_in p) y
too-heavy p r n C cap left long among left_is left≥1 near h y i f = go (dec_lt (cost (items_in p) y) cap)
  where
    go : Dec (cost (items_in p) y < cap) → cap ≤ cost (items_in p) y
    go (yes l) = absurd (omega (arith, low-least p n long (near-among p r n left long among near) y (near-keeps p r n left long among near y i (omega arith))))
    go (no l) = omega arith

-- they are narrowed to what is left of the cap
near : (c : After-narrowed-n) → let a = c.args in (offset_of a.p a.r < a.cap) × Narrows a.p (a.cap - offset_of a.p a.r) a.r c.narrowed-n.result
near c =
    let a = c.args in
    let m = c.remaining-left in
    (omega (arith, m.ensures, c.if-left-eq0.false), subst (λ d. Narrows a.p d a.r c.narrowed-n.result) m.ensures c.narrowed-n.ensures)

pub low_load-low-requires : goal.low_load-low-requires
low_load-low-requires c = let x = c.requires.fair in (x.0, near-among c.args.p c.args.r c.narrowed-n.result _ x.0.long x.1.0 c.narrowed-n.ensures)

pub returns-then-left-eq0 : goal.returns-then-left-eq0
returns-then-left-eq0 c =
    let a = c.args in
    let x = c.requires.fair in
    rw c.nothing.ensures (record {
      runs = runs_none a.p a.r a.capacity a.cap a.from 0 (omega arith)
          (λ y i f. omega (arith, offset-least a.p a.r x.0.long x.1.0 y i, c.remaining-left.ensures));
      run_writes = costly (omega (arith, c.remaining-left.ensures));
    })

pub returns-then-capacity-low : goal.returns-then-capacity-low
returns-then-capacity-low c =
    let a = c.args in
    let x = c.requires.fair in
    let m = c.remaining-left in
    let n = c.narrowed-n in
    let h = near (goal.at.returns-then-capacity-low c).After-narrowed-n in
    let over : a.capacity < load (items_in a.p) (num n.result.low) = omega (arith, c.low_load-low.ensures.value) in
    rw c.nothing-then-capacity-low.ensures (record {
      runs = runs_none a.p a.r a.capacity a.cap a.from 0 (omega arith)
          (too-heavy a.p a.r n.result a.capacity a.cap m.result x.0.long x.1.0 m.ensures (omega arith) n.ensures over);
      run_writes = heavy n.result h.0 h.1 over;
    })

pub keyed_run-requires-clause-begins : goal.keyed_run-requires-clause-begins
keyed_run-requires-clause-begins c =
    let a = c.args in
    let x = c.requires.fair in
    let n = c.narrowed-n in
    record {
      fair = x.0;
      among = near-among a.p a.r n.result _ x.0.long x.1.0 n.ensures;
      wide-long = n.ensures.wides.long;
      start = x.1.1.0;
      cap-in = x.1.1.1;
      left_is = omega (arith, c.remaining-left.ensures, near-offset a.p a.r n.result _ x.0.long x.1.0 n.ensures);
      left≥1 = omega arith;
      room-is = omega (arith, c.low_load-low.ensures.value);
    }

pub returns : goal.returns
returns c =
    let a = c.args in
    let x = c.requires.fair in
    let m = c.remaining-left in
    let n = c.narrowed-n in
    let low = c.low_load-low in
    let k = c.keyed_run in
    let h = near (goal.at.returns c).After-narrowed-n in
    record {
      runs = runs-wider a.p a.r n.result a.capacity a.cap a.from m.result k.result x.0.long x.1.0 m.ensures (omega (arith, c.if-left-eq0.false))
          n.ensures k.ensures.runs;
      run_writes = scaled n.result (a.capacity - low.result) k.result.written h.0 h.1 (omega (arith, low.ensures.value)) k.ensures.scales_write;
    }
