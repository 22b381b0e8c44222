-- The first filling, group after group.
-- whole-among, whole-inside, whole-least: all amounts. among-less, wide-less: narrower ranges.
-- lower-cap: a run below another cap. heads-first, sought-first, sought-step, sought-more, sought-done, sought-none: from run to run.
-- bounds-begun, sought-begun, begun-found: after a run over all amounts.
use mathlib.Core.Path.{◌≡◌, refl, sym, subst, ◌∙◌}
use mathlib.Core.Logic.{◌⊎◌, inl, inr}
use Rattle.std.specs.Prelude.{Option, Some, None, List, replicate, unwrap_or}
use Prim.Native.Nat.{ℕ, suc, ◌+◌, ◌*◌, ◌-◌, ◌^◌, ◌≤◌, ◌<◌}
use native.Mathlib.Omega.{arith}
use native.Mathlib.Decide.{dec_lt, ℕ_discrete}
use native.Mathlib.Nat.{mul-le-mul_left}
use lib.ListN.{length}
use Rattle.scales.specs.Filling.{cost, Within, Bounds, Least}
use Rattle.fillings.specs.declared.Parts.{Parts}
use Rattle.fillings.specs.declared.Ranges.{Ranges}
use Rattle.fillings.specs.declared.Run.{Run}
use Rattle.fillings.specs.Ranges.{num, items_in, Inside, Among}
use Rattle.fillings.specs.Runs.{Earlier, Fills, Filling, Runs, Whole}
use Rattle.fillings.specs.Leaps.{Heads, Sought}
use Rattle.fillings.specs.declared.First.{First}
use Rattle.fillings.specs.Foremost.{Keyable, FirstAt, Goes}

pub whole-among : (p : Parts) (r : Ranges) → Whole p r → Among p r
whole-among p r w j l = rw w.all (omega (arith, w.none j))

pub whole-inside : (p : Parts) (r : Ranges) → length p.weight ≡ 17 → Whole p r → (y : ℕ → ℕ) → Within (items_in p) y → Inside r y
whole-inside p r long w y h j l = (omega (arith, w.none j), rw w.all (omega (arith, w.none j, h j (omega (arith, long)))))

pub inside-within : (p : Parts) (r : Ranges) → length p.weight ≡ 17 → Among p r → (y : ℕ → ℕ) → Inside r y → Within (items_in p) y
inside-within p r long a y h j l = let m : j < 17 = omega (arith, long) in omega (arith, (h j m).1, a j m)

pub among-less : (p : Parts) (r r' : Ranges) → Among p r → ((y : ℕ → ℕ) → Inside r' y → Inside r y) → Among p r'
among-less p r r' a h j l = omega (arith, a j l, (h (λ i. num r'.low i + num r'.wide i) (λ i m. (omega arith, omega arith)) j l).1)

pub wide-less : (r r' : Ranges) → ((y : ℕ → ℕ) → Inside r' y → Inside r y) → (j : ℕ) → j < 17 → num r'.wide j ≤ num r.wide j
wide-less r r' h j l =
    let low = h (λ i. num r'.low i) (λ i v. (omega arith, omega arith)) j l in
    let high = h (λ i. num r'.low i + num r'.wide i) (λ i v. (omega arith, omega arith)) j l in
    omega (arith, low.0, high.1)

pub whole-least : (p : Parts) (r : Ranges) (C cap f : ℕ) (n : Run) → length p.weight ≡ 17 → Whole p r → Runs p r C cap f n →
    Least cap (items_in p) C n.cost
whole-least p r C cap f n long w h = record {
  capped = h.capped;
  bounds = λ y i f. h.bounds y (whole-inside p r long w y i) f;
  reached = λ l. let v = h.reached l in record {
    amounts = v.amounts;
    within = inside-within p r long (whole-among p r w) v.amounts (h.among l v.amounts v.inside);
    fills = v.fills;
    costs = v.costs;
  };
}

-- what a run has found, it finds below any higher cap
lower-cap : (p : Parts) (r : Ranges) (C cap f : ℕ) (n : Run) → Runs p r C cap f n → n.cost < cap → cap * suc (num r.wide f) < 2 ^ 63 →
    Runs p r C (n.cost + 1) f n
lower-cap p r C cap f n h l k = record {
  few = h.few;
  capped = omega arith;
  bounds = h.bounds;
  reached = λ _. h.reached l;
  among = λ _. h.among l;
  fixed = λ _. h.fixed l;
  first = λ _. h.first l;
  end = h.end;
  some = λ _ m _. h.some l m k;
}

pub earlier_more : {p : Parts} {m n : ℕ} {y z : ℕ → ℕ} → m ≤ n → Earlier p m y z → Earlier p n y z
earlier_more l h = record { place = h.place; below = omega (arith, h.below); same = h.same; less = h.less }

pub heads-first : (p : Parts) (C c : ℕ) (r : Ranges) → length p.weight ≡ 17 → Whole p r → Heads p C c r 0 0
heads-first p C c r long w = record {
  inside = omega arith;
  among = whole-among p r w;
  fixed = λ j l. absurd (omega arith);
  kept = λ y i f e. inl (whole-inside p r long w y i);
}

module _ (p : Parts) (C cap : ℕ) (long : length p.weight ≡ 17) (cap≥1 : 1 ≤ cap) (least : Bounds (items_in p) C (cap - 1)) where
  abbrev c : ℕ
  c = cap - 1

  pub sought-first : (r : Ranges) → Whole p r → Sought p C c r 0
  sought-first r w = record { heads = heads-first p C c r long w; whole = λ e. whole-inside p r long w; some = λ l. absurd (omega arith) }

  -- nothing was found
  pub sought-none : (r : Ranges) (f : ℕ) (s : Sought p C c r f) (n : Run) (h : Runs p r C cap f n) → n.cost ≡ cap → (y : ℕ → ℕ) →
      Within (items_in p) y → Fills p C y → cap ≤ cost (items_in p) y
  sought-none r f s n h e y i fl = go (ℕ_discrete f 0)
    where
      go : Dec (f ≡ 0) → cap ≤ cost (items_in p) y
      go (yes q) = omega (arith, h.bounds y (s.whole q y i) fl)
      go (no q) = let v = s.some (omega arith) in absurd (omega (arith, h.bounds v.amounts v.inside v.fills, v.costs))

  module _ (r : Ranges) (f m : ℕ) (s : Heads p C c r f m) (n : Run) (h : Runs p r C cap f n) where
    -- something was
    module _ (ne : n.cost ≡ cap → ⊥) where
      found : n.cost < cap
      found = omega (arith, h.capped)

      cost-is : n.cost ≡ c
      cost-is = let v = h.reached found in
          omega (
            arith,
            found,
            v.costs,
            least v.amounts (inside-within p r long s.among v.amounts
                (h.among found v.amounts v.inside)) v.fills,
          )

      pub sought-more : f < 16 → Keyable p cap → f < n.to
      sought-more l k = h.some found l (omega (arith, k f l, times cap (num r.wide f) (num p.range f) (omega (arith, s.among f (omega arith)))))
        where
          times : (c w v : ℕ) → w ≤ v → c * suc w ≤ c * suc v
          times c w v i = mul-le-mul_left c (up w v i)
            where
              up : (w v : ℕ) → w ≤ v → suc w ≤ suc v
              up w v i = omega arith

      pub sought-step : 0 < n.to → m ≤ n.to → Sought p C c n.ranges n.to
      sought-step l last = record {
        heads = record {
          inside = h.end.1 s.inside;
          among = among-less p r n.ranges s.among (h.among found);
          fixed = λ j k. fixed j k (dec_lt j f);
          kept = λ y i fl e. kept y fl e (s.kept y i fl e);
        };
        whole = λ e. absurd (omega arith);
        some = λ k. let v = h.reached found in record { amounts = v.amounts; inside = v.inside; fills = v.fills; costs = v.costs ∙ cost-is };
      }
        where
          -- the parts before f stay fixed
          same : (a y : ℕ → ℕ) → Inside r a → Inside r y → (j : ℕ) → j < f → a j ≡ y j
          same a y i k j q = let l : j < 17 = omega (arith, s.inside) in omega (arith, (i j l).0, (i j l).1, (k j l).0, (k j l).1, s.fixed j q)

          fixed : (j : ℕ) → j < n.to → Dec (j < f) → num n.ranges.wide j ≡ 0
          fixed j k (no q) = h.fixed found j (omega arith) k
          fixed j k (yes q) = omega (arith, wide-less r n.ranges (h.among found) j (omega (arith, s.inside)), s.fixed j q)

          kept : (y : ℕ → ℕ) → Fills p C y → cost (items_in p) y ≡ c → Inside r y ⊎ ((a : ℕ → ℕ) → Inside r a → Earlier p m a y) →
              Inside n.ranges y ⊎ ((a : ℕ → ℕ) → Inside n.ranges a → Earlier p n.to a y)
          kept y fl e (inr g) = inr (λ a i. earlier_more last (g a (h.among found a i)))
          kept y fl e (inl i) = go (h.first found y i fl (e ∙ sym cost-is))
            where
              go : Inside n.ranges y ⊎ ((a : ℕ → ℕ) → Inside n.ranges a → ((j : ℕ) → j < f → a j ≡ y j) → Earlier p n.to a y)
                  → Inside n.ranges y ⊎ ((a : ℕ → ℕ) → Inside n.ranges a → Earlier p n.to a y)
              go (inl k) = inl k
              go (inr g) = inr (λ a k. g a k (same a y (h.among found a k) i))

  -- all parts but the slack are fixed
  pub sought-done : (r : Ranges) (f : ℕ) → 16 ≤ f → Sought p C c r f → FirstAt p C c r.low
  sought-done r f l s = record {
    amounts = v.amounts;
    shown = λ j k. shown v.amounts v.inside j k;
    within = inside-within p r long s.heads.among v.amounts v.inside;
    fills = v.fills;
    costs = v.costs;
    first = λ y i fl e. go y (s.heads.kept y i fl e);
  }
    where
      v : Filling p r C c
      v = s.some (omega arith)

      shown : (a : ℕ → ℕ) → Inside r a → (j : ℕ) → j < 16 → num r.low j ≡ a j
      shown a i j k = let m : j < 17 = omega arith in omega (arith, (i j m).0, (i j m).1, s.heads.fixed j (omega arith))

      go : (y : ℕ → ℕ) → Inside r y ⊎ ((a : ℕ → ℕ) → Inside r a → Earlier p f a y) → ((j : ℕ) → j < 16 → v.amounts j ≡ y j) ⊎ Earlier p 16 v.amounts y
      go y (inl i) = inl (λ j k. sym (shown v.amounts v.inside j k) ∙ shown y i j k)
      go y (inr g) = inr (earlier_more s.heads.inside (g v.amounts v.inside))

-- what a run over all amounts has found
module _ (p : Parts) (r : Ranges) (C cap : ℕ) (n : Run) (long : length p.weight ≡ 17) (w : Whole p r) (h : Runs p r C cap 0 n) (l : n.cost < cap) where
  pub bounds-begun : Bounds (items_in p) C (n.cost + 1 - 1)
  bounds-begun y i f = omega (arith, (whole-least p r C cap 0 n long w h).bounds y i f)

  pub sought-begun : Keyable p cap → Sought p C (n.cost + 1 - 1) n.ranges n.to
  sought-begun keys =
      sought-step p C (n.cost + 1) long (omega arith) bounds-begun r 0 0 (heads-first p C (n.cost + 1 - 1) r long w) n (lower-cap p r C cap 0 n h l k)
      (λ e. omega (arith, e)) (h.some l (omega arith) k) (omega arith)
    where
      k : cap * suc (num r.wide 0) < 2 ^ 63
      k = rw w.all (keys 0 (omega arith))

  -- and what is found from there on
  pub begun-found : (s : Run) (f : First) → Goes p C (n.cost + 1) s f → FirstAt p C n.cost (unwrap_or f.amounts (replicate 17 0))
  begun-found s f g = go f.amounts refl
    where
      e : n.cost + 1 - 1 ≡ n.cost
      e = omega arith

      go : (m : Option (List ℕ)) → f.amounts ≡ m → FirstAt p C n.cost (unwrap_or m (replicate 17 0))
      go (Some a) t = subst (λ c. FirstAt p C c a) e (g.found a t)
      go None t =
          let v = (whole-least p r C cap 0 n long w h).reached l in
          absurd (omega (arith, g.none t v.amounts v.within v.fills, v.costs))
