-- The loops over a group of parts.
--   Left wide top to k b    b is how many keys the parts from k to `to` have, at most top
--   Read wide f to x k y    the digits of the key x from part k on are those of y
-- left-first, left-fits, left-next, left-some: part by part. read_first, read_next, read_here: the digits.
--   Gathered wide f e left to base    the parts from f to `to` have base keys, which costs up to left have room for
-- gathered-first, gathered-some, gathered-one, gathered-fits, gathered-step, gathered-done, gathered-full: one part more, as long as there is room.
use mathlib.Core.Path.{◌≡◌, refl, sym, ap, ◌∙◌}
use mathlib.Core.List.{List}
use Prim.Native.Nat.{ℕ, suc, ◌+◌, ◌*◌, ◌-◌, ◌/◌, ◌%◌, ◌^◌, ◌≤◌, ◌<◌}
use native.Mathlib.Omega.{arith}
use native.Mathlib.Decide.{ℕ_discrete}
use native.Mathlib.Nat.{mul-div_cancel_left, div-le_self, mul-le-mul, mul-le-mul_left, mul-le-mul_right, le-div_iff_mul-le, lt-div-mul-add}
use native.Mathlib.Numerals.{add-one}
use Rattle.fillings.specs.Keys.{keys, digits}
use Rattle.fillings.specs.Ranges.{num}
use Rattle.fillings.specs.Runs.{Grouped}
use Rattle.fillings.proofs.Keys.{keys-some, keys-last, keys-next, digits-next, digits-tail-of}

pub record Left (wide : List ℕ) (top to k b : ℕ) : Type 0 where
  pub is : b ≡ keys (num wide) k (to - k)
  pub few : b ≤ top

pub left-first : {wide : List ℕ} {top to k : ℕ} → top ≡ keys (num wide) k (to - k) → Left wide top to k top
left-first h = record { is = h; few = omega arith }

pub left-some : {wide : List ℕ} {top to k b : ℕ} → Left wide top to k b → 1 ≤ b
left-some {wide} {top} {to} {k} {b} h = omega (arith, h.is, keys-some (num wide) k (to - k))

module _ {wide : List ℕ} {top to k b : ℕ} (h : Left wide top to k b) (l : k < to) where
  whole : b ≡ suc (num wide k) * keys (num wide) (k + 1) (to - (k + 1))
  whole = h.is ∙ keys-next (num wide) k to l

  pub left-fits : top < 18446744073709551616 → num wide k + 1 < 18446744073709551616
  left-fits t = go (num wide k) (keys (num wide) (k + 1) (to - (k + 1))) (keys-some (num wide) (k + 1) (to - (k + 1))) whole
    where
      go : (w n : ℕ) → 1 ≤ n → b ≡ suc w * n → w + 1 < 18446744073709551616
      go w n s e = omega (arith, mul-le-mul_left (suc w) s, h.few)

  pub left-next : Left wide top to (k + 1) (b / (num wide k + 1))
  left-next = record { is = go (num wide k) _ b whole; few = omega (arith, div-le_self b (num wide k + 1), h.few) }
    where
      go : (w n b : ℕ) → b ≡ suc w * n → b / (w + 1) ≡ n
      go w n b e = rw (e, add-one w) (mul-div_cancel_left n (some w))
        where
          some : (w : ℕ) → 0 < suc w
          some w = omega arith

-- ---- digits

pub record Read (wide : List ℕ) (f to x k y : ℕ) : Type 0 where
  pub rest : (j : ℕ) → k ≤ j → digits (num wide) f (to - f) x j ≡ digits (num wide) k (to - k) y j

pub read_first : {wide : List ℕ} {f to x : ℕ} → Read wide f to x f x
read_first = record { rest = λ j h. refl }

module _ {wide : List ℕ} {f to x k y top b : ℕ} (h : Read wide f to x k y) (l : k < to) (n : Left wide top to (k + 1) b) where
  pub read_here : y / b ≡ digits (num wide) f (to - f) x k
  read_here = rw (h.rest k (omega arith), digits-next (num wide) k to y l, n.is)

  pub read_next : Read wide f to x (k + 1) (y % b)
  read_next = record { rest = λ j m. rw (h.rest j (omega arith), digits-tail-of (num wide) k to y j l m, n.is) }

-- ---- a group

no_keys : (r : ℕ → ℕ) (f n : ℕ) → n ≡ 0 → keys r f n ≡ 1
unfolding keys
no_keys r f n i = rw i

pub record Gathered (wide : List ℕ) (f e left to base : ℕ) : Type 0 where
  pub from : f ≤ to
  pub end : f ≤ e → to ≤ e
  pub base-is : base ≡ keys (num wide) f (to - f)
  pub small : left * base < 2 ^ 63

module _ {wide : List ℕ} {f e left : ℕ} where
  pub gathered-first : left < 2 ^ 63 → Gathered wide f e left f 1
  gathered-first h = record { from = omega arith; end = λ l. l; base-is = sym (no_keys (num wide) f (f - f) (omega arith)); small = omega arith }

  module _ {to base : ℕ} (g : Gathered wide f e left to base) (l≥1 : 1 ≤ left) where
    base≥1 : 1 ≤ base
    base≥1 = omega (arith, g.base-is, keys-some (num wide) f (to - f))

    pub gathered-some : 1 ≤ left * base
    gathered-some = omega (arith, mul-le-mul l≥1 base≥1)

    -- one part more
    module _ (w : ℕ) (w-is : w ≡ num wide to) (h : w < 9223372036854775807 / (left * base)) where
      fits : suc w * (left * base) ≤ 9223372036854775807
      fits = (le-div_iff_mul-le {k = left * base} {x = suc w} {y = 9223372036854775807} gathered-some).0 h

      pub gathered-one : w + 1 < 18446744073709551616
      gathered-one = omega (arith, div-le_self 9223372036854775807 (left * base))

      pub gathered-fits : base * (w + 1) < 18446744073709551616
      gathered-fits = go w left base fits l≥1
        where
          go : (w l b : ℕ) → suc w * (l * b) ≤ 9223372036854775807 → 1 ≤ l → b * (w + 1) < 18446744073709551616
          go w l b h k = omega (arith, mul-le-mul_right (b * (w + 1)) k)

      pub gathered-step : to < e → Gathered wide f e left (to + 1) (base * (w + 1))
      gathered-step l = record {
        from = omega (arith, g.from);
        end = λ m. omega arith;
        base-is = ap (λ (n : ℕ). n * (w + 1)) g.base-is ∙ more (to - f) (omega (arith, g.from)) ∙ ap (keys (num wide) f) (omega (arith, g.from));
        small = go w left base fits;
      }
        where
          more : (n : ℕ) → f + n ≡ to → keys (num wide) f n * (w + 1) ≡ keys (num wide) f (suc n)
          more n m = rw (keys-last (num wide) f n, m, ← w-is, add-one w)

          go : (w l b : ℕ) → suc w * (l * b) ≤ 9223372036854775807 → l * (b * (w + 1)) < 9223372036854775808
          go w l b h = omega arith

    -- no room for one more
    pub gathered-full : (w : ℕ) → w ≡ num wide to → 9223372036854775807 / (left * base) ≤ w → Grouped wide f e left (record { to = to; base = base })
    gathered-full w w-is h = record { from = g.from; end = g.end; base-is = g.base-is; small = g.small; some = λ l m. go l m (ℕ_discrete to f) }
      where
        over : (w l b : ℕ) → 1 ≤ l * b → 9223372036854775807 / (l * b) ≤ w → 9223372036854775807 < suc w * (l * b)
        over w l b s k = omega (arith, lt-div-mul-add {a = 9223372036854775807} {b = l * b} s, mul-le-mul_right (l * b) k)

        go : f < e → left * suc (num wide f) < 2 ^ 63 → Dec (to ≡ f) → f < to
        go l m (yes q) = absurd (clash w left base (over w left base gathered-some h) (base-one q) (rw (← q, ← w-is) at m))
          where
            base-one : to ≡ f → base ≡ 1
            base-one q = g.base-is ∙ no_keys (num wide) f (to - f) (omega arith)

            clash : (w l b : ℕ) → 9223372036854775807 < suc w * (l * b) → b ≡ 1 → l * suc w < 9223372036854775808 → ⊥
            clash w l b h e k = omega (arith, rw e at h)
        go l m (no q) = omega (arith, g.from)

    pub gathered-done : e ≤ to → Grouped wide f e left (record { to = to; base = base })
    gathered-done h = record { from = g.from; end = g.end; base-is = g.base-is; small = g.small; some = λ l m. omega arith }
