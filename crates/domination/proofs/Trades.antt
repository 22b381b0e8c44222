-- Laws of trades.
-- partner-dear, partner-least: a partner is dear enough, and no lesser number is.
-- trade-way: a trade is possible only from the item that is worth less per unit of weight.
-- least-trade: where it is, least_give and its partner are a trade, and none has a lesser step of either item.
-- turn-stop, turn_on, turn_last: the turns of the loop that counts up.
use mathlib.Core.Path.{◌≡◌, refl}
use mathlib.Core.Bool.{Bool, true, false}
use mathlib.Core.Logic.{◌⊎◌, inl, inr}
use Prim.Native.Nat.{ℕ, zero, suc, ◌+◌, ◌*◌, ◌-◌, ◌≤◌, ◌<◌}
use native.Mathlib.Numerals.{add-one}
use native.Mathlib.Omega.{arith}
use native.Mathlib.Nat.{div-add-mod', mod-lt, div-le_self, div-lt_iff_lt-mul, mul-le-mul, mul-le-mul_left, lt_of_mul-lt-mul_right, le_of_mul-le-mul_left}
use native.Mathlib.Decide.{dec_lt}
use borrow.Author.Tests.{leb-true, le-leb}
use Rattle.domination.proofs.Tests.{not-both}
use Rattle.domination.specs.Trades.{Trade, partner, serves, serving, least_give}

pub partner-dear : (c d r : ℕ) → 1 ≤ d → c * r < d * partner c d r
partner-dear c d r h = omega (arith, div-add-mod' (c * r) d, mod-lt (c * r) h)

pub partner-least : (c d r t : ℕ) → 1 ≤ d → c * r < d * t → partner c d r ≤ t
partner-least c d r t h k = let l : c * r < t * d = omega arith in omega (arith, (div-lt_iff_lt-mul h).1 l)

-- what fits: products within their bounds
pub price-most : (c r : ℕ) → c ≤ 10000 → r ≤ 1000 → c * r ≤ 10000000
price-most c r h k = mul-le-mul h k

pub partner-most : (c d r : ℕ) → c ≤ 10000 → r ≤ 1000 → partner c d r ≤ 10000001
partner-most c d r h k = omega (arith, div-le_self (c * r) d, price-most c r h k)

module _ (a b c d : ℕ) where
  pub served : (r : ℕ) → 1 ≤ d → serves a b c d r ≡ true → Trade a b c d r (partner c d r)
  served r h e = record { light = leb-true (b * partner c d r) (a * r) e; dear = partner-dear c d r h }

  pub serves-trade : (r t : ℕ) → 1 ≤ d → Trade a b c d r t → serves a b c d r ≡ true
  serves-trade r t h x = le-leb (b * partner c d r) (a * r) (omega (arith, mul-le-mul_left b (partner-least c d r t h x.dear), x.light))

  -- a trade gives something
  pub trade-gives : (r t : ℕ) → 1 ≤ b → Trade a b c d r t → 1 ≤ r
  trade-gives zero t h x = absurd (omega (arith, x.light, x.dear, none t (omega (arith, x.light))))
    where
      none : (t : ℕ) → b * t ≤ 0 → d * t ≤ 0
      none zero l = omega arith
      none (suc t) l = absurd (omega arith)
  trade-gives (suc r) t h x = omega arith

  pub trade-way : (r t : ℕ) → 1 ≤ b → Trade a b c d r t → c * b < a * d
  trade-way r t h x = lt_of_mul-lt-mul_right r (omega (arith, mul-le-mul_left b x.dear, mul-le-mul_left d x.light))

  -- r = b serves where any does
  pub last-serves : 1 ≤ d → c * b < a * d → serves a b c d b ≡ true
  last-serves h l = serves-trade b a h (record { light = omega arith; dear = omega arith })

  serving-end : (r : ℕ) → serving 0 a b c d r ≡ r
  unfolding serving
  serving-end r = refl

  serving-stop : (n r : ℕ) → serves a b c d r ≡ true → serving (suc n) a b c d r ≡ r
  unfolding serving
  serving-stop n r e = rw e

  serving-on : (n r : ℕ) → serves a b c d r ≡ false → serving (suc n) a b c d r ≡ serving n a b c d (suc r)
  unfolding serving
  serving-on n r e = rw e

  -- a turn of the loop, which counts r up to b
  pub turn-stop : (r : ℕ) → r < b → serves a b c d r ≡ true → serving (b - r) a b c d r ≡ r
  turn-stop r h e = let s : b - r ≡ suc (b - suc r) = omega arith in rw s (serving-stop (b - suc r) r e)

  pub turn_on : (r : ℕ) → r < b → serves a b c d r ≡ false → serving (b - r) a b c d r ≡ serving (b - (r + 1)) a b c d (r + 1)
  turn_on r h e = let s : b - r ≡ suc (b - suc r) = omega arith in rw (s, add-one) (serving-on (b - suc r) r e)

  pub turn_last : (r : ℕ) → b ≤ r → serving (b - r) a b c d r ≡ r
  turn_last r h = let s : b - r ≡ 0 = omega arith in rw s (serving-end r)

  -- what counting up finds from r on
  pub record First (turns r q : ℕ) : Type 0 where
    pub low : r ≤ q
    pub high : q ≤ r + turns
    pub before : (x : ℕ) → r ≤ x → x < q → serves a b c d x ≡ false
    pub stops : (q ≡ r + turns) ⊎ (serves a b c d q ≡ true)

  later : (n r q : ℕ) → serves a b c d r ≡ false → First n (suc r) q → First (suc n) r q
  later n r q e f = record { low = omega (arith, f.low); high = omega (arith, f.high); before = before; stops = stops f.stops }
    where
      at : (x : ℕ) → r ≤ x → x < q → Dec (r < x) → serves a b c d x ≡ false
      at x h l (yes m) = f.before x m l
      at x h l (no m) = let s : x ≡ r = omega arith in rw s e

      before : (x : ℕ) → r ≤ x → x < q → serves a b c d x ≡ false
      before x h l = at x h l (dec_lt r x)

      stops : (q ≡ suc r + n) ⊎ (serves a b c d q ≡ true) → (q ≡ r + suc n) ⊎ (serves a b c d q ≡ true)
      stops (inl h) = inl (omega arith)
      stops (inr h) = inr h

  pub first : (n r : ℕ) → First n r (serving n a b c d r)
  first zero r = rw (serving-end r) (record { low = omega arith; high = omega arith; before = λ x h l. absurd (omega arith); stops = inl (omega arith) })
  first (suc n) r = go (serves a b c d r) refl (first n (suc r))
    where
      go : (t : Bool) → serves a b c d r ≡ t → First n (suc r) (serving n a b c d (suc r)) → First (suc n) r (serving (suc n) a b c d r)
      go true e f = rw (serving-stop n r e) (record { low = omega arith; high = omega arith; before = λ x h l. absurd (omega arith); stops = inr e })
      go false e f = rw (serving-on n r e) (later n r _ e f)

  pub record Least (r t : ℕ) : Type 0 where
    pub trade : Trade a b c d r t
    pub give-small : r ≤ b
    pub take-small : t ≤ a
    pub gives : (x y : ℕ) → Trade a b c d x y → r ≤ x
    pub takes : (x y : ℕ) → Trade a b c d x y → t ≤ y

  pub least-trade : 1 ≤ b → 1 ≤ d → c * b < a * d → Least (least_give a b c d) (partner c d (least_give a b c d))
  unfolding least_give
  least-trade hb hd l = go (serving (b - 1) a b c d 1) (first (b - 1) 1)
    where
      go : (q : ℕ) → First (b - 1) 1 q → Least q (partner c d q)
      go q f = record {
        trade = served q hd (good f.stops);
        give-small = within;
        take-small = le_of_mul-le-mul_left {k = b} (omega (arith, (served q hd (good f.stops)).light, mul-le-mul_left a within)) hb;
        gives = gives;
        takes = λ x y h. partner-least c d q y hd (omega (arith, mul-le-mul_left c (gives x y h), h.dear));
      }
        where
          within : q ≤ b
          within = omega (arith, f.high)

          good : (q ≡ 1 + (b - 1)) ⊎ (serves a b c d q ≡ true) → serves a b c d q ≡ true
          good (inl e) = let s : q ≡ b = omega arith in rw s (last-serves hd l)
          good (inr e) = e

          at : (x y : ℕ) → Trade a b c d x y → Dec (x < q) → q ≤ x
          at x y h (yes m) = absurd (not-both _ (serves-trade x y hd h) (f.before x (trade-gives x y hb h) m))
          at x y h (no m) = omega arith

          gives : (x y : ℕ) → Trade a b c d x y → q ≤ x
          gives x y h = at x y h (dec_lt x q)
