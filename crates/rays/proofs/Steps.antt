-- The steps of a ray that passed the scan's tests are unbounded from every feasible point.
--   Step i z        the step z meets no bound of item i, and is at most 1000 long
--   Goes p u n      n steps in direction u are such a step
-- move-…: what n steps in one more direction do to a list of steps.
--   Escapes p l     the steps l are a ray on one or two items
-- one-escapes, two-escapes: of one direction, and of two.  found: the reply made of the scan's ray is true.
use mathlib.Core.Path.{◌≡◌, refl, sym, ap, ◌∙◌}
use mathlib.Core.Bool.{true}
use mathlib.Core.List.{List}
use mathlib.Core.Logic.{◌≢◌}
use Prim.Native.Nat.{ℕ, zero, suc, ◌*◌, ◌/◌, ◌≤◌, ◌<◌}
use native.Mathlib.Omega.{arith}
use native.Mathlib.Decide.{ℕ_discrete}
use lib.IntN.{ℤ, pos, neg_ℤ, nat_abs, ◌+ℤ◌, ◌*ℤ◌, *ℤ-zero}
use lib.ListN.{length, get_or, replicate, length-set, length-replicate}
use lib.Seq.{get_or-set_same, get_or-set_other}
use lib.Signed.{◌≤ℤ◌, ◌<ℤ◌}
use Rattle.std.specs.Prelude.{Option, None, Some, is_some, unwrap_or}
use Rattle.arith.proofs.Integers.{split, split2, zed, nat_abs-neg}
use Rattle.arith.proofs.Parts.{impossible}
use Rattle.arith.proofs.Sums.{sum-cong, sum_bump, bump-same, bump-other}
use Rattle.arith.specs.Sum.{sum, bump}
use Rattle.knapsack.specs.declared.Problem.{Problem}
use Rattle.knapsack.specs.declared.Item.{Item}
use Rattle.knapsack.specs.Ranges.{item_at, InRange}
use Rattle.knapsack.specs.Meaning.{Point, instance_of, relaxed, Feasible, Unbounded}
use Rattle.knapsack.proofs.Rays.{ray-unbounded}
use Rattle.knapsack.proofs.Reach.{Way, fore, aft, turn, turn-mul, Free}
use Rattle.rays.specs.declared.Ray.{Ray}
use Rattle.rays.specs.declared.Ray.TheVariants.{Single, Pair}
use Rattle.rays.specs.Directions.{way_of, direction_of, gain, ray_of, still, move, steps_by}
use Rattle.rays.specs.Rays.{RayFound}
use Rattle.rays.proofs.Scan.{turn-size, direction-in, free-then, gains-says, pays-says, Alone, Together, Tested, tested, no-ray}

-- ---- one step

record Step (i : Item) (z : ℤ) : Type 0 where
  up : pos 0 <ℤ z → i.upper ≡ None
  down : z <ℤ pos 0 → i.lower ≡ None
  small : nat_abs z ≤ 1000

no_step : (i : Item) → Step i (pos 0)
no_step i = record { up = λ h. absurd h.lt; down = λ h. absurd h.lt; small = omega arith }

step-along : (w : Way) (i : Item) (z : ℤ) → Free w i → pos 0 <ℤ z → nat_abs z ≤ 1000 → Step i (turn w z)
step-along fore i z f h s = record { up = λ k. f; down = λ k. absurd (clash z h k); small = s }
  where
    clash : (z : ℤ) → pos 0 <ℤ z → z <ℤ pos 0 → ⊥
    clash = split _ (λ a b. simp zed (omega arith))
step-along aft i z f h s = record { up = λ k. absurd (clash z h k); down = λ k. f; small = rw (turn-size aft z) s }
  where
    clash : (z : ℤ) → pos 0 <ℤ z → pos 0 <ℤ neg_ℤ z → ⊥
    clash = split _ (λ a b. simp zed (omega arith))

turn-moves : (w : Way) (z : ℤ) → pos 0 <ℤ z → turn w z ≢ pos 0
turn-moves fore = split _ (λ a b. simp zed (omega arith))
turn-moves aft = split _ (λ a b. simp zed (omega arith))

-- ---- lists of steps

zeros : (n k : ℕ) → get_or (replicate n (pos 0)) k (pos 0) ≡ pos 0
zeros zero k = refl
zeros (suc n) zero = refl
zeros (suc n) (suc k) = zeros n k

still-length : length still ≡ 16
still-length = length-replicate 16 (pos 0)

still-steps : (p : Problem) (k : ℕ) → Step (item_at p k) (get_or still k (pos 0))
still-steps p k = rw (zeros 16 k) (no_step (item_at p k))

still-sum : (n : ℕ) (a : ℕ → ℤ) → sum n (λ k. a k *ℤ get_or still k (pos 0)) ≡ pos 0
still-sum zero a = refl
still-sum (suc n) a = rw (still-sum n a, zeros 16 n, *ℤ-zero (a n)) refl

record Goes (p : Problem) (u : ℕ) (n : ℤ) : Type 0 where
  number_in : u < 2 * p.count
  free : (direction_of p u).free ≡ true
  forward : pos 0 <ℤ n
  small : nat_abs n ≤ 1000

item_in : (p : Problem) (u : ℕ) → u < 2 * p.count → u / 2 < p.count
item_in p u h = omega arith

zero-plus : (z : ℤ) → z ≡ pos 0 +ℤ z
zero-plus = split _ (λ a b. simp zed (omega arith))

-- n steps in direction u, on an item that l leaves still
module _ (p : Problem) (r : InRange p) (l : List ℤ) (size : length l ≡ 16) (u : ℕ) (n : ℤ) (g : Goes p u n) where
  within : u / 2 < length l
  within = omega (arith, item_in p u g.number_in, r.few-items)

  move-length : length (move l u n) ≡ 16
  move-length = simp length-set size

  move-other : (k : ℕ) → k ≢ u / 2 → get_or (move l u n) k (pos 0) ≡ get_or l k (pos 0)
  move-other k h = get_or-set_other l (u / 2) k (turn (way_of u) n) (pos 0) h

  move-here : get_or (move l u n) (u / 2) (pos 0) ≡ turn (way_of u) n
  move-here = get_or-set_same l (u / 2) (turn (way_of u) n) (pos 0) within

  move-moves : get_or (move l u n) (u / 2) (pos 0) ≢ pos 0
  move-moves = rw move-here (turn-moves (way_of u) n g.forward)

  move-steps : ((k : ℕ) → Step (item_at p k) (get_or l k (pos 0))) → (k : ℕ) → Step (item_at p k) (get_or (move l u n) k (pos 0))
  unfolding direction_of
  move-steps h k = go (ℕ_discrete k (u / 2))
    where
      go : Dec (k ≡ u / 2) → Step (item_at p k) (get_or (move l u n) k (pos 0))
      go (yes e) = rw (e, move-here) (step-along (way_of u) (item_at p (u / 2)) n (free-then (way_of u) (item_at p (u / 2)) g.free) g.forward g.small)
      go (no e) = rw (move-other k e) (h k)

  move-sum : (a : ℕ → ℤ) → get_or l (u / 2) (pos 0) ≡ pos 0 → sum p.count (λ k. a k *ℤ get_or (move l u n) k (pos 0)) ≡ sum p.count
      (λ k. a k *ℤ get_or l k (pos 0)) +ℤ turn (way_of u) (a (u / 2)) *ℤ n
  move-sum a rests = sum-cong p.count _ _ (λ k o. ap (λ z. a k *ℤ z) (as-bump k (ℕ_discrete k (u / 2))))
      ∙ sum_bump p.count a old (u / 2) (turn (way_of u) n) (item_in p u g.number_in)
      ∙ ap (λ z. sum p.count (λ k. a k *ℤ old k) +ℤ z) (turn-mul (way_of u) (a (u / 2)) n)
    where
      old : ℕ → ℤ
      old k = get_or l k (pos 0)

      as-bump : (k : ℕ) → Dec (k ≡ u / 2) → get_or (move l u n) k (pos 0) ≡ bump old (u / 2) (turn (way_of u) n) k
      as-bump k (yes e) = rw (e, move-here, bump-same old (u / 2) (turn (way_of u) n), rests) (zero-plus (turn (way_of u) n))
      as-bump k (no e) = move-other k e ∙ sym (bump-other old (u / 2) (turn (way_of u) n) k e)

first-sum : (p : Problem) → InRange p → (u : ℕ) (n : ℤ) → Goes p u n → (a : ℕ → ℤ)
    → sum p.count (λ k. a k *ℤ get_or (move still u n) k (pos 0)) ≡ turn (way_of u) (a (u / 2)) *ℤ n
first-sum p r u n g a = move-sum p r still still-length u n g a (zeros 16 (u / 2)) ∙ ap (λ z. z +ℤ turn (way_of u) (a (u / 2)) *ℤ n) (still-sum p.count a)
    ∙ sym (zero-plus (turn (way_of u) (a (u / 2)) *ℤ n))

-- ---- rays

-- the steps of l are on i and j alone, meet no bound, weigh nothing or less and bring something
record Escapes (p : Problem) (l : List ℤ) : Type 0 where
  i : ℕ
  j : ℕ
  i-in : i < p.count
  j-in : j < p.count
  i-moves : get_or l i (pos 0) ≢ pos 0
  j-moves : get_or l j (pos 0) ≢ pos 0
  others : (k : ℕ) → k ≢ i → k ≢ j → get_or l k (pos 0) ≡ pos 0
  steps : (k : ℕ) → Step (item_at p k) (get_or l k (pos 0))
  light : sum p.count (λ k. (item_at p k).weight *ℤ get_or l k (pos 0)) ≤ℤ pos 0
  gaining : pos 0 <ℤ sum p.count (λ k. (item_at p k).price *ℤ get_or l k (pos 0))

module _ (p : Problem) (l : List ℤ) (e : Escapes p l) where
  unbounded : (x : Point) → Feasible (instance_of p) x → Unbounded (instance_of p) x (λ k. get_or l k (pos 0))
  unbounded x = ray-unbounded (instance_of p) x (λ k. get_or l k (pos 0)) e.i e.j e.i-in e.j-in e.i-moves e.j-moves e.others
      (record { up = λ k m. (e.steps k).up; down = λ k m. (e.steps k).down; light = e.light; gain = e.gaining })

  -- marks play no part
  unbounded-relaxed : (x : Point) → Feasible (relaxed (instance_of p)) x → Unbounded (relaxed (instance_of p)) x (λ k. get_or l k (pos 0))
  unbounded-relaxed x = ray-unbounded (relaxed (instance_of p)) x (λ k. get_or l k (pos 0)) e.i e.j e.i-in e.j-in e.i-moves e.j-moves e.others
      (record { up = λ k m. (e.steps k).up; down = λ k m. (e.steps k).down; light = e.light; gain = e.gaining })

one-escapes : (p : Problem) → InRange p → (u : ℕ) (n : ℤ) → ((direction_of p u).weight *ℤ n) ≤ℤ pos 0 → pos 0 <ℤ ((direction_of p u).price *ℤ n) → Goes p u n
    → Escapes p (move still u n)
unfolding direction_of
one-escapes p r u n light gaining g = record {
  i = u / 2;
  j = u / 2;
  i-in = item_in p u g.number_in;
  j-in = item_in p u g.number_in;
  i-moves = move-moves p r still still-length u n g;
  j-moves = move-moves p r still still-length u n g;
  others = λ k h o. move-other p r still still-length u n g k h ∙ zeros 16 k;
  steps = move-steps p r still still-length u n g (still-steps p);
  light = rw (first-sum p r u n g (λ k. (item_at p k).weight)) light;
  gaining = rw (first-sum p r u n g (λ k. (item_at p k).price)) gaining;
}

two-escapes : (p : Problem) → InRange p → (u w : ℕ) (n m : ℤ)
    → ((direction_of p u).weight *ℤ n +ℤ (direction_of p w).weight *ℤ m) ≤ℤ pos 0 → pos 0 <ℤ ((direction_of p u).price *ℤ n +ℤ (direction_of p w).price *ℤ m)
    → w / 2 ≢ u / 2 → Goes p u n → Goes p w m → Escapes p (move (move still u n) w m)
unfolding direction_of
two-escapes p r u w n m light gaining ne g h = record {
  i = u / 2;
  j = w / 2;
  i-in = item_in p u g.number_in;
  j-in = item_in p w h.number_in;
  i-moves = rw (move-other p r l size w m h (u / 2) (λ e. ne (sym e))) (move-moves p r still still-length u n g);
  j-moves = move-moves p r l size w m h;
  others = λ k a b. move-other p r l size w m h k b ∙ move-other p r still still-length u n g k a ∙ zeros 16 k;
  steps = move-steps p r l size w m h (move-steps p r still still-length u n g (still-steps p));
  light = rw (sums (λ k. (item_at p k).weight)) light;
  gaining = rw (sums (λ k. (item_at p k).price)) gaining;
}
  where
    l : List ℤ
    l = move still u n

    size : length l ≡ 16
    size = move-length p r still still-length u n g

    sums : (a : ℕ → ℤ) → sum p.count (λ k. a k *ℤ get_or (move l w m) k (pos 0)) ≡ turn (way_of u) (a (u / 2)) *ℤ n +ℤ turn (way_of w) (a (w / 2)) *ℤ m
    sums a = move-sum p r l size w m h a (move-other p r still still-length u n g (w / 2) ne ∙ zeros 16 (w / 2))
        ∙ ap (λ z. z +ℤ turn (way_of w) (a (w / 2)) *ℤ m) (first-sum p r u n g a)

-- ---- what the scan found

alone-escapes : (p : Problem) → InRange p → (u : ℕ) → Alone p u → Escapes p (steps_by p (Some (Single u)))
unfolding steps_by
alone-escapes p r u t =
    let g = gains-says (direction_of p u) t.gaining in
    one-escapes p r u _ (one≤ (direction_of p u).weight t.light) (one< (direction_of p u).price g.1)
    (record { number_in = t.u-in; free = g.0; forward = simp zed (omega arith); small = omega arith })
  where
    one≤ : (x : ℤ) → x ≤ℤ pos 0 → (x *ℤ pos 1) ≤ℤ pos 0
    one≤ = split _ (λ a b. simp zed (omega arith))

    one< : (x : ℤ) → pos 0 <ℤ x → pos 0 <ℤ (x *ℤ pos 1)
    one< = split _ (λ a b. simp zed (omega arith))

-- an item that is heavy one way and light the other gains nothing with itself
itself : (v w : Way) (a c : ℤ) → pos 0 <ℤ turn v a → turn w a <ℤ pos 0 → pos 0 <ℤ (turn v c *ℤ neg_ℤ (turn w a) +ℤ turn w c *ℤ turn v a) → ⊥
itself fore fore = split2 _ (λ a b c e. simp zed (omega arith))
itself fore aft = split2 _ (λ a b c e. simp zed (omega arith))
itself aft fore = split2 _ (λ a b c e. simp zed (omega arith))
itself aft aft = split2 _ (λ a b c e. simp zed (omega arith))

apart : (p : Problem) (u w : ℕ) → pos 0 <ℤ (direction_of p u).weight → (direction_of p w).weight <ℤ pos 0 → pos 0 <ℤ gain (direction_of p u) (direction_of p w)
    → w / 2 ≢ u / 2
unfolding direction_of
apart p u w heavy light worth e = itself (way_of u) (way_of w) (item_at p (u / 2)).weight (item_at p (u / 2)).price heavy (rw e at light) (rw e at worth)

together-escapes : (p : Problem) → InRange p → (u w : ℕ) → Together p u w → Escapes p (steps_by p (Some (Pair u w)))
unfolding steps_by
together-escapes p r u w t =
    let d = direction_of p u in
    let e = direction_of p w in
    let g = gains-says d t.gaining in
    let q = pays-says d e t.paying in
    two-escapes p r _ _ _ _ (level d.weight e.weight) q.2 (apart p u w t.heavy q.1 q.2)
    (record {
      number_in = t.u-in;
      free = g.0;
      forward = flip e.weight q.1;
      small = rw (nat_abs-neg e.weight) (direction-in p w r t.w-in).weight-in;
    })
    (record { number_in = t.w-in; free = q.0; forward = t.heavy; small = (direction-in p u r t.u-in).weight-in })
  where
    level : (x y : ℤ) → (x *ℤ neg_ℤ y +ℤ y *ℤ x) ≤ℤ pos 0
    level = split2 _ (λ a b c e. simp zed (omega arith))

    flip : (z : ℤ) → z <ℤ pos 0 → pos 0 <ℤ neg_ℤ z
    flip = split _ (λ a b. simp zed (omega arith))

-- ---- the reply

-- the reply made of a ray
abbrev pub reply_of : Problem → Option Ray → Option (List ℤ)
reply_of p None = None
reply_of p (Some r) = Some (steps_by p (Some r))

none-some : {l : List ℤ} → None ≡ Some l → ⊥
none-some e = impossible (ap is_some e)

some-none : {l : List ℤ} → Some l ≡ None → ⊥
some-none e = impossible (sym (ap is_some e))

same-steps : {l m : List ℤ} → Some l ≡ Some m → l ≡ m
same-steps {l} e = ap (λ o. unwrap_or o l) e

replied : (p : Problem) (l : List ℤ) → Escapes p l → RayFound p (Some l)
replied p l e = record {
  none = λ h. absurd (some-none h);
  escapes = λ m h. rw (sym (same-steps h)) (unbounded p l e);
  escapes-relaxed = λ m h. rw (sym (same-steps h)) (unbounded-relaxed p l e);
  small = λ m h. rw (sym (same-steps h)) (λ k o. (e.steps k).small);
}

pub found : (p : Problem) → InRange p → RayFound p (reply_of p (ray_of p))
found p r = go (ray_of p) refl (tested p)
  where
    go : (s : Option Ray) → ray_of p ≡ s → Tested p s → RayFound p (reply_of p s)
    go None h t = record {
      none = λ e. no-ray p h;
      escapes = λ l e. absurd (none-some e);
      escapes-relaxed = λ l e. absurd (none-some e);
      small = λ l e. absurd (none-some e);
    }
    go (Some (Single u)) h t = replied p (steps_by p (Some (Single u))) (alone-escapes p r u t)
    go (Some (Pair u w)) h t = replied p (steps_by p (Some (Pair u w))) (together-escapes p r u w t)
