-- The loop over the scales.
--   Scaling ..      after i scales n cells show a table that says of what is left of the capacity what the first says of the whole; the weights have been
--                   divided by D, and the units to come weigh so much
-- scaling-first, -step, -done: that holds at the start and scale by scale, and at the end a cell has the answer.
-- written_small, written-done: the cells written so far are few, and at the end they are those of all scales.
-- start-below, least-below: no cost of the first table, and no answer, is above cap.
use mathlib.Core.Path.{◌≡◌, sym, ap, fun_ext, ◌∙◌}
use mathlib.Core.List.{List}
use Prim.Native.Nat.{ℕ, zero, suc, ◌+◌, ◌-◌, ◌*◌, ◌/◌, ◌%◌, ◌≤◌, ◌<◌}
use native.Mathlib.Omega.{arith}
use native.Mathlib.Nat.{sub-zero, mul-le-mul, div-one, div-le_self, mul-div_cancel_left}
use native.Mathlib.Numerals.{add-one}
use borrow.Author.Tests.{le-ltb}
use lib.ListN.{length, set, length-set}
use Rattle.scales.specs.declared.Live.{Live}
use Rattle.scales.specs.declared.Stage.{Stage}
use Rattle.scales.specs.Digits.{rest_at, cost_at}
use Rattle.scales.specs.Tables.{Table, at, thin, Below}
use Rattle.scales.specs.Filling.{Items, sum, heft, fill, shared, stride, next, least, scaled, start}
use Rattle.scales.specs.Lent.{Shows}
use Rattle.scales.specs.Counts.{live_at, heft_at, fill_cells, thin_of, cells_of}
use Rattle.scales.specs.Filled.{AllFilled}
use Rattle.scales.proofs.Sums.{sum_mono}
use Rattle.scales.proofs.Passes.{thin-below, fill-below}
use Rattle.scales.proofs.Shared.{shared-pos, shared-most, scaled-next}
use Rattle.scales.proofs.Bands.{thin-agree, least-agree}
use Rattle.scales.proofs.Cells.{start-shown}
use Rattle.scales.proofs.Itemwise.{heft-left}
use Rattle.scales.proofs.Counts.{most_of, live-most, thin-most, cells-most}

pub record Scaling (cap scales C : ℕ) (I : Items) (room W n written D rest left i : ℕ) (cells : List ℕ) : Type 0 where
  pub inside : i ≤ scales
  pub positive : 1 ≤ D
  pub bounded : D ≤ W + 1
  pub few : n ≤ 2 * W + 1
  pub same : length cells ≡ room
  pub below : Below cap (at cap n cells)
  pub hefts : left ≡ heft (scaled cap i D I)
  pub answer : least cap (scales - i) (scaled cap i D I) (at cap n cells) rest ≡ least cap scales I (start cap) C
  pub counted : written + cells_of cap (scales - i) (scaled cap i D I) n rest left ≡ cells_of cap scales I 1 C (heft I)

scaled-first : (cap : ℕ) (I : Items) → scaled cap 0 1 I ≡ I
unfolding rest_at cost_at
scaled-first cap I = ap (λ (w : ℕ → ℕ). record { count = I.count; weight = w; range = I.range; taken = I.taken; left = I.left })
    (fun_ext (λ j. div-one (I.weight j)))

-- one scale is done first
least_step : (cap k n : ℕ) (I : Items) (T : Table) (K : ℕ) → n ≡ suc k →
    least cap n I T K ≡ least cap k (next cap I) (thin (stride I) (K % stride I) (fill cap I I.count T)) (K / stride I)
unfolding least
least_step cap k n I T K e = rw e

-- and counted
cells-step : (cap k n : ℕ) (I : Items) (live K R m : ℕ) → n ≡ suc k → m ≡ thin_of (live_at I I.count live K) (stride I) (K % stride I) →
    cells_of cap n I live K R ≡ (fill_cells I I.count live K R + m) + cells_of cap k (next cap I) m (K / stride I) (heft_at I I.count R / stride I)
unfolding cells_of
cells-step cap k n I live K R m e f = rw (e, f)

pub start-below : (cap : ℕ) → Below cap (start cap)
start-below cap zero = omega arith
start-below cap (suc x) = rw (le-ltb (suc x) 1 (omega arith)) (omega arith)

module _ {cap scales C : ℕ} {I : Items} {room W : ℕ} where
  pub scaling-first : (cells : List ℕ) → 0 < length cells → length cells ≡ room → Scaling cap scales C I room W 1 0 1 C (heft I) 0 (set cells 0 0)
  scaling-first cells h e =
      let s = start-shown cap cells h in
      record {
        inside = omega arith;
        positive = omega arith;
        bounded = omega arith;
        few = omega arith;
        same = simp length-set e;
        below = rw s (start-below cap);
        hefts = ap (λ J. heft J) (sym (scaled-first cap I));
        answer = rw (s, scaled-first cap I, sub-zero);
        counted = rw (scaled-first cap I, sub-zero) (omega arith);
      }

  pub scaling-step : {n written D rest left i : ℕ} {cells mid new : List ℕ} (s : Stage) (r : Live) (g m : ℕ) → s.cap ≡ cap → s.rest ≡ rest → i < scales →
      sum I.count I.weight ≤ W → g ≡ shared (scaled cap i D I) → m ≡ thin_of r.n (2 * g) (rest % (2 * g)) →
      AllFilled s (scaled cap i D I) left n cells mid r → length new ≡ length mid →
      ((k : ℕ) → at k m new ≡ thin (2 * g) (rest % (2 * g)) (at k r.n mid)) → Scaling cap scales C I room W n written D rest left i cells →
      Scaling cap scales C I room W m (written + (r.written + m)) (D * g) (rest / (2 * g)) (r.heft / (2 * g)) (i + 1) new
  scaling-step {n} {written} {D} {rest} {left} {i} {cells} {mid} {new} s r g m e f l w shares kept filled same thinned z =
      let J = scaled cap i D I in
      let k = scales - suc i in
      let t = 2 * g in
      let N = next cap J in
      let F = at cap r.n mid in
      let G = fill cap J I.count (at cap n cells) in
      let lives : r.n ≡ live_at J I.count n rest = filled.live ∙ ap (λ K. live_at J I.count n K) f in
      let writes : r.written ≡ fill_cells J I.count n rest left = filled.written ∙ ap (λ K. fill_cells J I.count n K left) f in
      let shows : Shows cap G rest r.heft r.n cells mid = rw (e, f) at filled.shows in
      let strided : t ≡ stride J = ap (λ h. 2 * h) shares in
      let onward : scaled cap (i + 1) (D * g) I ≡ N = rw (add-one, shares) (sym (scaled-next cap i D I)) in
      let whole : r.heft ≡ t * heft N = filled.heft ∙ ap (λ R. heft_at J I.count R) z.hefts ∙ heft-left cap J ∙ ap (λ h. h * heft N) (sym strided) in
      let pos : 0 < g = rw shares (shared-pos J) in
      let lighter = sum_mono I.count J.weight I.weight (λ j h. div-le_self (I.weight j) D) in
      let live : r.n ≤ 4 * W + 1 = omega (arith, live-most J I.count n rest, z.few) in
      let agrees = thin-agree t rest (heft N) F G (λ x u v. shows.agrees x u (omega arith)) in
      let same_answer = least-agree cap k N (thin t (rest % t) F) (thin t (rest % t) G) (rest / t) agrees in
      let step = least_step cap k (scales - i) J (at cap n cells) rest (omega arith) in
      let counts = cells-step cap k (scales - i) J n rest left m (omega arith) (rw (← strided, ← lives) kept) in
      let divided : r.heft / t ≡ heft N = rw whole (mul-div_cancel_left (heft N) (omega arith)) in
      let hefted : heft_at J I.count left ≡ r.heft = sym filled.heft in
      record {
        inside = omega arith;
        positive = omega (arith, mul-le-mul z.positive pos);
        bounded = rw shares (shared-most cap i D W I z.bounded w);
        few = rw kept (thin-most r.n W t (rest % t) (omega arith) live);
        same = same ∙ shows.same ∙ z.same;
        below = rw (thinned cap) (thin-below cap t (rest % t) F shows.below);
        hefts = divided ∙ ap (λ H. heft H) (sym onward);
        answer = rw (onward, thinned cap, add-one) (same_answer ∙ rw strided (sym step) ∙ z.answer);
        counted = rw (onward, add-one) (omega (arith, rw (← strided, hefted, ← writes) at counts, z.counted));
      }

  pub scaling-done : {n written D rest left i : ℕ} {cells : List ℕ} → scales ≤ i → Scaling cap scales C I room W n written D rest left i cells →
      at cap n cells rest ≡ least cap scales I (start cap) C
  unfolding least
  scaling-done {n} {written} {D} {rest} {left} {i} {cells} l s = let e : scales - i ≡ 0 = omega arith in rw e at s.answer

-- what is written fits
pub written_small : {cap scales C : ℕ} {I : Items} {room W n written D rest left i : ℕ} {cells : List ℕ} → scales ≤ 64 → I.count ≤ 17 → 4 * W < 65536 →
    sum I.count I.weight ≤ W
    → Scaling cap scales C I room W n written D rest left i cells → written ≤ 10000000000
written_small {cap} {scales} {C} {I} {room} {W} {n} {written} {D} {rest} {left} {i} {cells} few count light w s =
    let most = cells-most cap scales I 1 C (heft I) W w (omega arith) in
    let scale : most_of I.count W ≤ 2293760 = one I.count W count (omega arith) in
    omega (arith, s.counted, mul-le-mul few scale)
  where
    one : (m W : ℕ) → m ≤ 17 → 4 * W + 1 ≤ 65536 → most_of m W ≤ 2293760
    one m W h k = omega (arith, mul-le-mul h k)

pub written-done : {cap scales C : ℕ} {I : Items} {room W n written D rest left i : ℕ} {cells : List ℕ} → scales ≤ i →
    Scaling cap scales C I room W n written D rest left i cells → written ≡ cells_of cap scales I 1 C (heft I)
unfolding cells_of
written-done {cap} {scales} {C} {I} {room} {W} {n} {written} {D} {rest} {left} {i} {cells} l s = let e : scales - i ≡ 0 = omega arith in
    omega (arith, rw e at s.counted)

pub least-below : (cap n : ℕ) (I : Items) (T : Table) (K : ℕ) → Below cap T → least cap n I T K ≤ cap
unfolding least
least-below cap zero I T K h = h K
least-below cap (suc n) I T K h = least-below cap n (next cap I) (thin (stride I) (K % stride I) (fill cap I I.count T)) (K / stride I)
    (thin-below cap (stride I) (K % stride I) (fill cap I I.count T) (fill-below cap I I.count T h))
