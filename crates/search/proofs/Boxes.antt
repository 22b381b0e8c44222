-- What a setting with tied columns keeps of one in order: all that does not speak of the order of its columns.
--   base r            the setting in order
-- item<16 … fixed-order: the laws of setting, proofs/Boxes.  own-sized, own_in, own-order, own-marked, own-changes: what speaks of columns.
use mathlib.Core.Path.{◌≡◌, sym, subst, subst₂}
use mathlib.Core.List.{List}
use mathlib.Core.Logic.{◌≢◌}
use Prim.Native.Nat.{ℕ, ◌≤◌, ◌<◌}
use lib.IntN.{ℤ, pos}
use lib.Signed.{◌≤ℤ◌}
use Rattle.arith.specs.Limits.{farthest}
use Rattle.arith.specs.Within.{Within}
use Rattle.foremost.specs.Tied.{Tied, Rated}
use Rattle.greedy.specs.declared.Ends.{Ends}
use Rattle.greedy.specs.Fill.{at}
use Rattle.greedy.specs.Sized.{Sized, SizedEnds}
use Rattle.greedy.proofs.Relaxed.{InOrder}
use Rattle.lattice.specs.Lattice.{On, lattice_at}
use Rattle.setting.specs.declared.Setting.{Setting}
use Rattle.setting.specs.Box.{level_at, spanned, fixed_by, InsideTo, Long}
use Rattle.setting.specs.Ready.{Changes}
use Rattle.setting.proofs.Boxes as own
use Rattle.search.specs.Tying.{with_cols, ReadyTied}

module _ (s : Setting) (r : ReadyTied s) where
  abbrev pub base : Setting
  base = with_cols s r.plain

  pub own_tied : Tied s.cols
  own_tied = r.order.tied

  pub own-rated : Rated s.cols
  own-rated = r.order.rated

  pub own-sized : Sized s.cols s.ends
  own-sized = record { columns = r.order.sized; ends = r.ready.sized.ends }

  pub own_in : (d : ℕ) → d < s.levels → level_at s d < s.cols.count
  own_in d l = subst (λ n. level_at s d < n) (sym r.order.count) (r.ready.level_in d l)

  -- ends that are in order for the one are for the other
  pub own-order : (e : Ends) → InOrder r.plain e → InOrder s.cols e
  own-order e h k l = h k (subst (λ n. k < n) r.order.count l)

  pub own-changes : (d : ℕ) → d < s.levels → (lattice_at s.lattice d).stride ≢ pos 0 → Changes s d
  own-changes d l ne =
      let h = r.ready.changes d l ne in
      record {
        fixed = λ k m. h.fixed k (subst (λ n. k < n) r.order.count m);
        on = λ j m n. subst₂ (λ (w p : List ℤ). On (lattice_at s.lattice d) (at w (level_at s j)) (at p (level_at s j))) (sym r.order.weight)
            (sym r.order.price) (h.on j m n);
      }

  module _ (long : Long s.ends) where
    pub item<16 : (d : ℕ) → d < s.levels → level_at s d < 16
    item<16 = own.item<16 base r.ready long

    pub fixed-long : (P : ℕ → ℤ) (d : ℕ) → Long (fixed_by s P d)
    fixed-long = own.fixed-long base r.ready long

    pub fixed-other : (P : ℕ → ℤ) (d k : ℕ) → ((j : ℕ) → j < d → level_at s j ≢ k) → (at (fixed_by s P d).lo k ≡ at s.ends.lo k)
        × (at (fixed_by s P d).hi k ≡ at s.ends.hi k)
    fixed-other = own.fixed-other base r.ready long

    pub fixed-level : (P : ℕ → ℤ) (d j : ℕ) → d ≤ s.levels → j < d → (at (fixed_by s P d).lo (level_at s j) ≡ P j)
        × (at (fixed_by s P d).hi (level_at s j) ≡ P j)
    fixed-level = own.fixed-level base r.ready long

    pub fixed-own : (P : ℕ → ℤ) (d : ℕ) → d < s.levels → (at (fixed_by s P d).lo (level_at s d) ≡ at s.low d)
        × (at (fixed_by s P d).hi (level_at s d) ≡ at s.high d)
    fixed-own = own.fixed-own base r.ready long

    pub low-within : (d : ℕ) → d < s.levels → Within farthest (at s.low d)
    low-within = own.low-within base r.ready long

    pub high-within : (d : ℕ) → d < s.levels → Within farthest (at s.high d)
    high-within = own.high-within base r.ready long

    pub inside-within : (P : ℕ → ℤ) (n d : ℕ) → n ≤ s.levels → d < n → InsideTo s n P → Within farthest (P d)
    inside-within = own.inside-within base r.ready long

    pub fixed-sized : (P : ℕ → ℤ) (d : ℕ) → d ≤ s.levels → InsideTo s d P → SizedEnds (fixed_by s P d)
    fixed-sized = own.fixed-sized base r.ready long

    pub span-order : (e : Ends) (k : ℕ) (l u : ℤ) → Long e → k < 16 → l ≤ℤ u → InOrder r.plain e → InOrder r.plain (spanned e k l u)
    span-order = own.span-order base r.ready long

    pub plain-order : (P : ℕ → ℤ) (d : ℕ) → d ≤ s.levels → InOrder r.plain (fixed_by s P d)
    plain-order = own.fixed-order base r.ready long

    pub fixed-order : (P : ℕ → ℤ) (d : ℕ) → d ≤ s.levels → InOrder s.cols (fixed_by s P d)
    fixed-order P d l = own-order (fixed_by s P d) (plain-order P d l)
