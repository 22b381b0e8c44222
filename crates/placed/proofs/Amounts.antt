-- The amounts of a filling, as an answer shows them.
-- near-zero: what is within ends that are in range is so too.
-- setting-marks: the whole items of a setting are the integer ones.
-- own_is: its own divisors are those of the columns.
-- filling-shown: a filling over own divisors is within the limits of an answer, whatever its order of filling.
use mathlib.Core.Path.{◌≡◌, refl, sym, ap, ◌∙◌}
use mathlib.Core.Bool.{Bool, true, false}
use mathlib.Core.List.{List}
use mathlib.Core.Logic.{◌⊎◌, inl, inr}
use Prim.Native.Nat.{ℕ, ◌*◌, ◌≤◌, ◌<◌, max}
use native.Mathlib.Omega.{arith}
use native.Mathlib.Nat.{mul-le-mul_right, le_of_mul-le-mul_right}
use lib.IntN.{ℤ, pos, nat_abs, ◌+ℤ◌, ◌*ℤ◌}
use lib.Signed.{◌≤ℤ◌}
use Rattle.arith.specs.Fractions.{frac}
use Rattle.arith.specs.Limits.{farthest}
use Rattle.arith.specs.Within.{Within}
use Rattle.arith.specs.declared.Fraction.{Fraction}
use Rattle.arith.proofs.Fractions.{Over}
use Rattle.arith.proofs.Integers.{split, zed, nat_abs-times}
use Rattle.arith.proofs.Parts.{within-mul, within-abs, abs-within, impossible}
use Rattle.ceiling.specs.Frames.{Levelled}
use Rattle.ceiling.proofs.Limits.{levels-marked, levels-unmarked}
use Rattle.foremost.proofs.Frames.{by-mark}
use Rattle.greedy.specs.declared.Columns.{Columns}
use Rattle.greedy.specs.declared.Ends.{Ends}
use Rattle.greedy.specs.declared.Fill.{Fill}
use Rattle.greedy.specs.Amounts.{whole_in, divisor_in, amount_of}
use Rattle.greedy.specs.Fill.{weight_of, item_of, rank_of, taken, stand}
use Rattle.greedy.proofs.Owning.{CriticalAt, none-or-critical, divisor-some}
use Rattle.knapsack.specs.Meaning.{Instance, weights, own_divisor, WholeAmount, nought, Shown}
use Rattle.knapsack.specs.declared.Mark.{Mark}
use Rattle.knapsack.specs.declared.Mark.TheVariants.{Integer, Continuous}
use Rattle.setting.specs.declared.Setting.{Setting}
use Rattle.setting.specs.Ready.{Marked}
use Rattle.setting.proofs.Boxes.{between}

pub near-zero : (l u n : ℤ) (q : ℕ) → Within farthest l → Within farthest u → (l *ℤ pos q) ≤ℤ n → n ≤ℤ (u *ℤ pos q) → nat_abs n ≤ farthest * q
near-zero l u n q hl hu low high = within-abs n (between (l *ℤ pos q) (u *ℤ pos q) n (within-mul hl own) (within-mul hu own) low high)
  where
    own : Within q (pos q)
    own = abs-within (pos q) (omega arith)

-- an amount p / q that is n / D, where that is near
own-small : (p n : ℤ) (q D : ℕ) → 1 ≤ q → 1 ≤ D → Over D (frac p q) n → nat_abs n ≤ farthest * D → nat_abs p ≤ 1000000000 * q
own-small p n q D q≥1 D≥1 o small =
    le_of_mul-le-mul_right {k = D} (omega (arith, same, mul-le-mul_right q small)) D≥1
  where
    some : max 1 q ≡ q
    some = omega arith

    same : nat_abs p * D ≡ nat_abs n * q
    same = sym (nat_abs-times p D) ∙ ap nat_abs (o.eq ∙ ap (λ (d : ℕ). n *ℤ pos d) some) ∙ nat_abs-times n q

pub setting-marks : (s : Setting) (w : List Bool) → Levelled s.level s.levels w → (marks : ℕ → Mark) → Marked s marks → (k : ℕ) → k < s.cols.count
    → (whole_in w k ≡ true → marks k ≡ Integer) × (whole_in w k ≡ false → marks k ≡ Continuous)
setting-marks s w lw marks m k l =
    (levels-marked s.cols s.level s.levels w marks lw m.integer k l, λ q. loose q (by-mark (marks k)))
  where
    loose : whole_in w k ≡ false → (marks k ≡ Integer) ⊎ (marks k ≡ Continuous) → marks k ≡ Continuous
    loose q (inr i) = i
    loose q (inl i) = absurd (impossible (sym q ∙ levels-unmarked s.cols s.level s.levels w marks lw m.level k l i))

-- the columns of an instance, whose whole items are its integer ones; ranks lead back to their items
pub record ColumnsOf (s : Instance) (c : Columns) (w : List Bool) : Type 0 where
  pub count : c.count ≡ s.count
  pub own-weight : (k : ℕ) → k < s.count → weight_of c k ≡ weights s k
  pub item-rank : (k : ℕ) → k < c.count → item_of c (rank_of c k) ≡ k
  pub whole : (k : ℕ) → k < s.count → whole_in w k ≡ true → (s.item k).mark ≡ Integer
  pub loose : (k : ℕ) → k < s.count → whole_in w k ≡ false → (s.item k).mark ≡ Continuous

module _ (s : Instance) (c : Columns) (w : List Bool) (o : ColumnsOf s c w) where
  inner : (k : ℕ) → k < s.count → k < c.count
  inner k l = omega (arith, o.count)

  pub own_is : (k : ℕ) → k < s.count → divisor_in c w k ≡ own_divisor (s.item k)
  own_is k l = go (whole_in w k) refl
    where
      go : (b : Bool) → whole_in w k ≡ b → divisor_in c w k ≡ own_divisor (s.item k)
      go true q = rw (q, o.whole k l q)
      go false q = rw (q, o.loose k l q, o.own-weight k l)

  module _ (e : Ends) (f : Fill) (D : ℕ) (D≥1 : 1 ≤ D) (N : ℕ → ℤ) (small : (k : ℕ) → k < s.count → nat_abs (N k) ≤ farthest * D) (x : ℕ → Fraction)
      (shows : (k : ℕ) → k < s.count → x k ≡ amount_of c e f (divisor_in c w k) k) (beyond : (k : ℕ) → s.count ≤ k → x k ≡ nought)
      (over : (k : ℕ) → k < s.count → Over D (frac (x k).p (x k).q) (N k)) where
    -- an amount is whole, unless its item is the critical one
    critical : (k : ℕ) → k < s.count → ¬ WholeAmount (x k) → CriticalAt c f k
    critical k l n = go (none-or-critical c f k)
      where
        none : (y : ℤ) → y +ℤ pos 0 ≡ y
        none = split _ (λ a b. simp zed (omega arith))

        go : (taken c f k ≡ pos 0) ⊎ CriticalAt c f k → CriticalAt c f k
        go (inl t) = absurd (n (rw (shows k l, t) (stand c e f.at k, none _)))
        go (inr h) = h

    pub filling-shown : Shown s x
    filling-shown = record {
      divisor = λ k l. ap (λ (z : Fraction). z.q) (shows k l) ∙ own_is k l;
      small = λ k l. own-small (x k).p (N k) (x k).q D (rw (shows k l) (divisor-some c w k)) D≥1 (over k l) (small k l);
      single = λ j k l m nj nk. sym (o.item-rank j (inner j l)) ∙ ap (item_of c) ((critical j l nj).0 ∙ sym (critical k m nk).0) ∙ o.item-rank k (inner k m);
      beyond = beyond;
    }
