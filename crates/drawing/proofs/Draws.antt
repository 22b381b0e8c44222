-- Laws of a number drawn over a range.
-- span-some, span-sign, span-within, span-few: how many numbers a range has that is not empty. around-ordered: one around 0 is not.
-- reached, picked-in: what is drawn from lo to hi lies there. between, choice-in, around, around-in: so of the two kinds of figures.
use Rattle.std.proofs.Common.{ℕ, ◌%◌, ◌<◌, ◌≤◌, ℤ, pos, ◌+ℤ◌, ◌-ℤ◌, neg_ℤ, nat_abs, ◌≤ℤ◌, mod-lt, arith}
use Rattle.arith.specs.Within.{Within}
use Rattle.arith.proofs.Integers.{split, split2, zed}
use Rattle.arith.proofs.Parts.{within-abs, within-add, within-sub}
use Rattle.drawing.specs.Drawing.{draw_at, span, picked, choice_at, around_at}

pub span-some : (lo hi : ℤ) → lo ≤ℤ hi → 0 < span lo hi
span-some = split2 _ (λ a b c e. simp zed (omega arith))

pub span-sign : (lo hi : ℤ) → lo ≤ℤ hi → pos 0 ≤ℤ ((hi -ℤ lo) +ℤ pos 1)
span-sign = split2 _ (λ a b c e. simp zed (omega arith))

pub span-within : (lo hi : ℤ) → Within 1000000000 lo → Within 1000000000 hi → Within 2000000001 ((hi -ℤ lo) +ℤ pos 1)
span-within lo hi f g = within-add {n = 1} (within-sub g f) (record { above = omega arith; below = omega arith })

pub span-few : (lo hi : ℤ) → Within 1000000000 lo → Within 1000000000 hi → span lo hi ≤ 2000000001
span-few lo hi f g = within-abs ((hi -ℤ lo) +ℤ pos 1) (span-within lo hi f g)

pub around-ordered : (m : ℤ) → pos 0 ≤ℤ m → neg_ℤ m ≤ℤ m
around-ordered = split _ (λ a b. simp zed (omega arith))

reached : (r : ℕ) (lo hi : ℤ) → lo ≤ℤ hi → r < span lo hi → (lo ≤ℤ (lo +ℤ pos r)) × ((lo +ℤ pos r) ≤ℤ hi)
reached r = split2 _ (λ a b c e. simp zed (omega arith))

pub picked-in : (t : ℕ) (lo hi : ℤ) → lo ≤ℤ hi → (lo ≤ℤ picked t lo hi) × (picked t lo hi ≤ℤ hi)
unfolding picked
picked-in t lo hi h = reached (t % span lo hi) lo hi h (mod-lt t (span-some lo hi h))

between : (m n : ℕ) (z : ℤ) → pos m ≤ℤ z → z ≤ℤ pos n → (m ≤ nat_abs z) × (nat_abs z ≤ n)
between m n = split _ (λ a b. simp zed (omega arith))

pub choice-in : (s m n : ℕ) → m ≤ n → (m ≤ choice_at s (pos m) (pos n)) × (choice_at s (pos m) (pos n) ≤ n)
unfolding choice_at
choice-in s m n h =
    let i = picked-in (draw_at s) (pos m) (pos n) (simp zed (omega arith)) in
    between m n (picked (draw_at s) (pos m) (pos n)) i.0 i.1

around : (n : ℕ) (z : ℤ) → neg_ℤ (pos n) ≤ℤ z → z ≤ℤ pos n → nat_abs z ≤ n
around n = split _ (λ a b. simp zed (omega arith))

pub around-in : (s n : ℕ) → nat_abs (around_at s (pos n)) ≤ n
unfolding around_at
around-in s n =
    let i = picked-in (draw_at s) (neg_ℤ (pos n)) (pos n) (simp zed (omega arith)) in
    around n (picked (draw_at s) (neg_ℤ (pos n)) (pos n)) i.0 i.1
