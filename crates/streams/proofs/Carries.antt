-- Laws of bytes carried call by call.
-- going: what is known where a further call is made. turn_inside: no call leads past the end. turn-less: each leaves less to do (ahead).
-- interruptions: how many of the calls a signal stopped. stopped-short: a million did, where carrying stops with bytes left, no failure and no end.
-- whole-to-the-end: what counts as whole and is shorter than the buffer was read to the end of the input.
use Prim.Native.Nat.{ℕ, ◌+◌, ◌-◌, ◌≤◌, ◌<◌}
use mathlib.Core.Path.{◌≡◌, refl, sym, ◌∙◌, ap, subst}
use mathlib.Core.Bool.{Bool, true, false, cond}
use native.Mathlib.Omega.{arith}
use lib.Dec.{T, ltb, eqb}
use borrow.Author.Tests.{ltb-true, ltb-false, lt-ltb, ne_eqb}
use Rattle.streams.specs.declared.Progress.{Progress}
use Rattle.streams.specs.Carrying.{goes_on, is_whole, Turn, Turns, Carried}

never : false ≡ true → ⊥
never h = subst T (sym h) tt

all : (a b c : Bool) → cond a (cond b c false) false ≡ true → (a ≡ true) × ((b ≡ true) × (c ≡ true))
all true true c h = (refl, (refl, h))
all true false c h = absurd (never h)
all false b c h = absurd (never h)

pub going : (p : Progress) (n : ℕ) → goes_on p n ≡ true → (p.more ≡ true) × ((p.at < n) × (0 < p.left))
going p n h =
    let k = all p.more (ltb p.at n) (ltb 0 p.left) h in
    (k.0, (ltb-true p.at n k.1.0, ltb-true 0 p.left k.1.1))

at_of : {p q : Progress} → p ≡ q → p.at ≡ q.at
at_of e = ap (λ (x : Progress). x.at) e

left-of : {p q : Progress} → p ≡ q → p.left ≡ q.left
left-of e = ap (λ (x : Progress). x.left) e

pub turn_inside : (n : ℕ) (p q : Progress) → p.at ≤ n → Turn n p q → q.at ≤ n
turn_inside n p q h (Turn.piece k k≥1 k≤ e) = rw (at_of e) k≤
turn_inside n p q h (Turn.ended e) = rw (at_of e) h
turn_inside n p q h (Turn.failed e) = rw (at_of e) h
turn_inside n p q h (Turn.interrupted k l e) = rw (at_of e) h

-- what is still to do: the bytes left, the interruptions that may come, and one call that tells the end
abbrev pub ahead : ℕ → Progress → ℕ
ahead n p = cond p.more 1 0 + ((n - p.at) + p.left)

less-piece : (n a k l : ℕ) → 1 ≤ k → a < n → 1 + ((n - (a + k)) + l) < 1 + ((n - a) + l)
less-piece n a k l h i = omega arith

less-ended : (n a l : ℕ) → 0 + ((n - a) + l) < 1 + ((n - a) + l)
less-ended n a l = omega arith

less-stalled : (n a k l : ℕ) → l ≡ k + 1 → 1 + ((n - a) + k) < 1 + ((n - a) + l)
less-stalled n a k l h = omega arith

pub turn-less : (n : ℕ) (p q : Progress) → goes_on p n ≡ true → Turn n p q → ahead n q < ahead n p
turn-less n p q g (Turn.piece k k≥1 k≤ e) =
    let h = going p n g in
    rw e (rw h.0 (less-piece n p.at k p.left k≥1 h.1.0))
turn-less n p q g (Turn.ended e) = rw e (rw (going p n g).0 (less-ended n p.at p.left))
turn-less n p q g (Turn.failed e) = rw e (rw (going p n g).0 (less-ended n p.at p.left))
turn-less n p q g (Turn.interrupted k l e) = rw e (rw (going p n g).0 (less-stalled n p.at k p.left l))

add-zero : (x : ℕ) → x + 0 ≡ x
add-zero x = omega arith

counted : (x y i s : ℕ) → x + s ≡ y → y + i ≡ 1000000 → x + (i + s) ≡ 1000000
counted x y i s h k = omega arith

stops : (n : ℕ) (p q : Progress) → Turn n p q → ℕ
stops n p q (Turn.piece k k≥1 k≤ e) = 0
stops n p q (Turn.ended e) = 0
stops n p q (Turn.failed e) = 0
stops n p q (Turn.interrupted k l e) = 1

pub interruptions : (n : ℕ) (p : Progress) → Turns n p → ℕ
interruptions n r (Turns.first p e) = 0
interruptions n r (Turns.next p q t g s) = interruptions n p t + stops n p q s

stops-left : (n : ℕ) (p q : Progress) (t : Turn n p q) → q.left + stops n p q t ≡ p.left
unfolding stops
stops-left n p q (Turn.piece k k≥1 k≤ e) = add-zero q.left ∙ left-of e
stops-left n p q (Turn.ended e) = add-zero q.left ∙ left-of e
stops-left n p q (Turn.failed e) = add-zero q.left ∙ left-of e
stops-left n p q (Turn.interrupted k l e) = ap (λ (x : ℕ). x + 1) (left-of e) ∙ sym l

pub all-counted : (n : ℕ) (p : Progress) (t : Turns n p) → p.left + interruptions n p t ≡ 1000000
unfolding interruptions
all-counted n r (Turns.first p e) = add-zero p.left ∙ left-of e
all-counted n r (Turns.next p q t g s) =
    counted q.left p.left (interruptions n p t) (stops n p q s) (stops-left n p q s) (all-counted n p t)

ends : (b c : Bool) → cond b c false ≡ false → b ≡ true → c ≡ false
ends true c h e = h
ends false c h e = absurd (never e)

pub stopped-short : (n : ℕ) (p : Progress) (c : Carried n p) → p.more ≡ true → p.at < n → interruptions n p c.came ≡ 1000000
stopped-short n p c m s =
    let h = ends (ltb p.at n) (ltb 0 p.left) (ends p.more _ c.stops m) (lt-ltb p.at n s) in
    omega (arith, all-counted n p c.came, ltb-false 0 p.left h)

judged : (good more full : Bool) → cond good (cond more full true) false ≡ true → full ≡ false → (good ≡ true) × (more ≡ false)
judged true true full h f = absurd (never (sym f ∙ h))
judged true false full h f = (refl, refl)
judged false more full h f = absurd (never h)

pub whole-to-the-end : (n : ℕ) (p : Progress) → is_whole p n ≡ true → p.at < n → (p.good ≡ true) × (p.more ≡ false)
whole-to-the-end n p h s = judged p.good p.more (eqb p.at n) h (ne_eqb p.at n (λ e. omega (arith, e)))
