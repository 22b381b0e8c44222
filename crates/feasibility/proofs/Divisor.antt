-- Laws of the common divisor.
--   Divided n i x d    over d each of the first n amounts is an integer: it is whole, or d is its divisor
-- good-amount: an amount over its item's own divisor can be reckoned with.
-- good-iff: an amount is not bad exactly if it is good.
-- divided: the common divisor is such, where it is not 0.
-- divisor-iff: it is 0 exactly if row 8 refuses the amounts.
use mathlib.Core.Path.{◌≡◌, refl, sym, ap, ◌∙◌}
use mathlib.Core.Bool.{Bool, true, false, cond}
use mathlib.Core.Logic.{◌↔◌, ◌≢◌, ◌⊎◌, inl, inr}
use Prim.Native.Nat.{ℕ, zero, suc, ◌*◌, ◌%◌, ◌≤◌, ◌<◌}
use native.Mathlib.Decide.{ℕ_discrete}
use native.Mathlib.Omega.{arith}
use lib.Dec.{eqb}
use lib.IntN.{ℤ, pos, nat_abs, ◌*ℤ◌}
use borrow.Author.Tests.{eq-eqb, ne_eqb, le-ltb, eqb-true, eqb-false, ltb-false}
use Rattle.arith.specs.Sum.{Each}
use Rattle.arith.specs.declared.Fraction.{Fraction}
use Rattle.arith.proofs.Integers.{split, zed}
use Rattle.arith.proofs.Parts.{impossible}
use Rattle.knapsack.specs.Meaning.{own_divisor, WholeAmount}
use Rattle.knapsack.specs.declared.Item.{Item}
use Rattle.model.specs.Records.{ItemFigures}
use Rattle.model.proofs.Showing.{own-some, own-few, whole-iff}
use Rattle.feasibility.specs.Amounts.{OwnAmount, GoodPoint, GoodAmount, farther, bad_amount, is_whole, joined, common_divisor}

pub good-amount : (i : Item) (x : Fraction) → ItemFigures i → OwnAmount i x → GoodAmount x
good-amount i x r g = record { some = rw g.own (own-some i); few = rw g.own (own-few i r.weight-in); near = g.near }

good : (i : Item) (x : Fraction) → bad_amount i x ≡ false → OwnAmount i x
unfolding bad_amount
good i x h = go (eqb x.q (own_divisor i)) refl h
  where
    go : (b : Bool) → eqb x.q (own_divisor i) ≡ b → cond b (farther x.p x.q) true ≡ false → OwnAmount i x
    go true e f = record { own = eqb-true x.q (own_divisor i) e; near = ltb-false (1000000000 * x.q) (nat_abs x.p) f }
    go false e f = absurd (impossible (sym f))

not-bad : (i : Item) (x : Fraction) → OwnAmount i x → bad_amount i x ≡ false
unfolding bad_amount
not-bad i x g = rw (eq-eqb x.q (own_divisor i) g.own) (le-ltb _ _ g.near)

-- End theorem: row 8's test of an amount is what row 8 asks.
pub good-iff : (i : Item) (x : Fraction) → (bad_amount i x ≡ false) ↔ OwnAmount i x
good-iff i x = (good i x, not-bad i x)

-- ---- whole amounts

own-parts : (i : Item) (x : Fraction) → OwnAmount i x → 1 ≤ x.q
own-parts i x g = rw g.own (own-some i)

is-whole : (i : Item) (x : Fraction) → OwnAmount i x → is_whole x ≡ true → WholeAmount x
is-whole i x g h = (whole-iff x (own-parts i x g)).0 (eqb-true (nat_abs x.p % x.q) 0 h)

not-whole : (i : Item) (x : Fraction) → OwnAmount i x → is_whole x ≡ false → ¬ WholeAmount x
not-whole i x g h w = eqb-false (nat_abs x.p % x.q) 0 h ((whole-iff x (own-parts i x g)).1 w)

whole-test : (i : Item) (x : Fraction) → OwnAmount i x → WholeAmount x → is_whole x ≡ true
whole-test i x g w = eq-eqb (nat_abs x.p % x.q) 0 ((whole-iff x (own-parts i x g)).1 w)

part-test : (i : Item) (x : Fraction) → OwnAmount i x → ¬ WholeAmount x → is_whole x ≡ false
part-test i x g n = ne_eqb (nat_abs x.p % x.q) 0 (λ e. n ((whole-iff x (own-parts i x g)).0 e))

whole-one : (x : Fraction) → x.q ≡ 1 → WholeAmount x
whole-one x e = (x.p, once x.p ∙ ap (λ (t : ℕ). x.p *ℤ pos t) (sym e))
  where
    once : (z : ℤ) → z ≡ z *ℤ pos 1
    once = split _ (λ a b. simp zed (omega arith))

-- ---- one amount more

-- how the divisor of the amounts so far goes on: past a whole amount, or from 1 to the divisor of the one that is not
data Joins (d : ℕ) (x : Fraction) : ℕ → Type 0 where
  whole : WholeAmount x → Joins d x d
  part : ¬ WholeAmount x → d ≡ 1 → Joins d x x.q

record Joining (d : ℕ) (i : Item) (x : Fraction) : Type 0 where
  fine : OwnAmount i x
  joins : Joins d x (joined d i x)

joining : (d : ℕ) (i : Item) (x : Fraction) → joined d i x ≢ 0 → Joining d i x
unfolding joined
joining d i x h = go (bad_amount i x) refl (is_whole x) refl (eqb d 1) refl
  where
    go : (a : Bool) → bad_amount i x ≡ a → (b : Bool) → is_whole x ≡ b → (c : Bool) → eqb d 1 ≡ c → Joining d i x
    go true e b f c g = absurd (h (rw e))
    go false e true f c g = record { fine = good i x e; joins = rw (e, f) (whole (is-whole i x (good i x e) f)) }
    go false e false f true g = record { fine = good i x e; joins = rw (e, f, g) (part (not-whole i x (good i x e) f) (eqb-true d 1 g)) }
    go false e false f false g = absurd (h (rw (e, f, g)))

-- what holds of the first n, and of place n, holds of the first n + 1
pub one_more : {P : ℕ → Type 0} (n : ℕ) → Each n P → P n → Each (suc n) P
one_more {P} n h new k l = go (ℕ_discrete k n)
  where
    go : Dec (k ≡ n) → P k
    go (yes e) = rw e new
    go (no e) = h k (omega arith)

-- ---- all amounts over one divisor

pub record Divided (n : ℕ) (i : ℕ → Item) (x : ℕ → Fraction) (d : ℕ) : Type 0 where
  pub some : 1 ≤ d
  pub fine : Each n (λ k. OwnAmount (i k) (x k))
  pub parts : Each n (λ k. WholeAmount (x k) ⊎ ((x k).q ≡ d))

-- over the divisor 1 all are whole
all_one : {x : Fraction} {d : ℕ} → WholeAmount x ⊎ (x.q ≡ d) → d ≡ 1 → WholeAmount x
all_one (inl w) o = w
all_one {x} (inr e) o = whole-one x (e ∙ o)

divided-more : (n : ℕ) (i : ℕ → Item) (x : ℕ → Fraction) (d : ℕ) → (d ≢ 0 → Divided n i x d) → joined d (i n) (x n) ≢ 0
    → Divided (suc n) i x (joined d (i n) (x n))
divided-more n i x d ih h = go (joined d (i n) (x n)) h (joining d (i n) (x n) h).fine (joining d (i n) (x n) h).joins
  where
    go : (e : ℕ) → e ≢ 0 → OwnAmount (i n) (x n) → Joins d (x n) e → Divided (suc n) i x e
    go e z g (whole w) = let s = ih z in record {
      some = s.some;
      fine = one_more n s.fine g;
      parts = one_more n s.parts (inl w);
    }
    go e z g (part l o) = let s = ih (λ w. omega arith) in record {
      some = own-parts (i n) (x n) g;
      fine = one_more n s.fine g;
      parts = one_more n (λ k m. inl (all_one (s.parts k m) o)) (inr refl);
    }

pub divided : (n : ℕ) (i : ℕ → Item) (x : ℕ → Fraction) → common_divisor n i x ≢ 0 → Divided n i x (common_divisor n i x)
unfolding common_divisor
divided zero i x h = record { some = omega arith; fine = λ k l. absurd (omega arith); parts = λ k l. absurd (omega arith) }
divided (suc n) i x h = divided-more n i x (common_divisor n i x) (divided n i x) h

-- the common divisor is 1, or some amount's
pub divided-few : (n : ℕ) (i : ℕ → Item) (x : ℕ → Fraction) → Each n (λ k. ItemFigures (i k)) → common_divisor n i x ≢ 0 → common_divisor n i x ≤ 1000
unfolding common_divisor
divided-few zero i x r h = omega arith
divided-few (suc n) i x r h = go (joined (common_divisor n i x) (i n) (x n)) h (joining _ (i n) (x n) h).fine (joining _ (i n) (x n) h).joins
    (divided-few n i x (λ k l. r k (omega arith)))
  where
    go : (e : ℕ) → e ≢ 0 → OwnAmount (i n) (x n) → Joins (common_divisor n i x) (x n) e → (common_divisor n i x ≢ 0 → common_divisor n i x ≤ 1000) → e ≤ 1000
    go e z g (whole w) ih = ih z
    go e z g (part l o) ih = (good-amount (i n) (x n) (r n (omega arith)) g).few

-- ---- row 8

abbrev Single : ℕ → (ℕ → Fraction) → Type 0
Single n x = (j k : ℕ) → j < n → k < n → ¬ WholeAmount (x j) → ¬ WholeAmount (x k) → j ≡ k

single_more : (n : ℕ) (i : ℕ → Item) (x : ℕ → Fraction) (d : ℕ) → (d ≢ 0 → Divided n i x d) → (d ≢ 0 → Single n x) → joined d (i n) (x n) ≢ 0
    → Single (suc n) x
single_more n i x d ih jh h = go (joined d (i n) (x n)) h (joining d (i n) (x n) h).joins
  where
    -- place n is whole, or all before it are
    go : (e : ℕ) → e ≢ 0 → Joins d (x n) e → Single (suc n) x
    go e z (whole w) j k lj lk aj ak = jh z j k (last j lj aj) (last k lk ak) aj ak
      where
        last : (t : ℕ) → t < suc n → ¬ WholeAmount (x t) → t < n
        last t l a = lower (ℕ_discrete t n)
          where
            lower : Dec (t ≡ n) → t < n
            lower (yes v) = absurd (a (rw v w))
            lower (no v) = omega arith
    go e z (part l o) j k lj lk aj ak = last j lj aj ∙ sym (last k lk ak)
      where
        last : (t : ℕ) → t < suc n → ¬ WholeAmount (x t) → t ≡ n
        last t l a = upper (ℕ_discrete t n)
          where
            upper : Dec (t ≡ n) → t ≡ n
            upper (yes w) = w
            upper (no w) = absurd (a (all_one ((ih (λ v. omega arith)).parts t (omega arith)) o))

single : (n : ℕ) (i : ℕ → Item) (x : ℕ → Fraction) → common_divisor n i x ≢ 0 → Single n x
unfolding common_divisor
single zero i x h = λ j k lj lk. absurd (omega arith)
single (suc n) i x h = single_more n i x (common_divisor n i x) (divided n i x) (single n i x) h

-- past whole amounts the divisor stays
past-whole : (d : ℕ) (i : Item) (x : Fraction) → OwnAmount i x → WholeAmount x → joined d i x ≡ d
unfolding joined
past-whole d i x g w = rw (not-bad i x g, whole-test i x g w)

to_part : (i : Item) (x : Fraction) → OwnAmount i x → ¬ WholeAmount x → joined 1 i x ≡ x.q
unfolding joined
to_part i x g n = rw (not-bad i x g, part-test i x g n)

all_whole : (n : ℕ) (i : ℕ → Item) (x : ℕ → Fraction) → Each n (λ k. OwnAmount (i k) (x k)) → Each n (λ k. WholeAmount (x k)) → common_divisor n i x ≡ 1
unfolding common_divisor
all_whole zero i x g w = refl
all_whole (suc n) i x g w = past-whole (common_divisor n i x) (i n) (x n) (g n (omega arith)) (w n (omega arith)) ∙
    all_whole n i x (λ k l. g k (omega arith)) (λ k l. w k (omega arith))

divisor : (n : ℕ) (i : ℕ → Item) (x : ℕ → Fraction) → GoodPoint n i x → common_divisor n i x ≢ 0
unfolding common_divisor
divisor zero i x p e = omega arith
divisor (suc n) i x p e = go (is_whole (x n)) refl (divisor n i x
    (record { good = λ k l. p.good k (omega arith); single = λ j k lj lk. p.single j k (omega arith) (omega arith) }))
  where
    g : OwnAmount (i n) (x n)
    g = p.good n (omega arith)

    -- before one that is not whole all are
    whole_before : ¬ WholeAmount (x n) → Each n (λ k. WholeAmount (x k))
    whole_before l k m = one (is_whole (x k)) refl
      where
        own : OwnAmount (i k) (x k)
        own = p.good k (omega arith)

        one : (b : Bool) → is_whole (x k) ≡ b → WholeAmount (x k)
        one true w = is-whole (i k) (x k) own w
        one false w = absurd (let v : k ≡ n = p.single k n (omega arith) (omega arith) (not-whole (i k) (x k) own w) l in omega arith)

    go : (b : Bool) → is_whole (x n) ≡ b → common_divisor n i x ≢ 0 → ⊥
    go true w ih = ih (sym (past-whole (common_divisor n i x) (i n) (x n) g (is-whole (i n) (x n) g w)) ∙ e)
    go false w ih =
        let l = not-whole (i n) (x n) g w in
        let o = all_whole n i x (λ k m. p.good k (omega arith)) (whole_before l) in
        let t : (x n).q ≡ 0 = sym (to_part (i n) (x n) g l) ∙ sym (ap (λ d. joined d (i n) (x n)) o) ∙ e in
        omega (arith, own-parts (i n) (x n) g)

pub divisor-iff : (n : ℕ) (i : ℕ → Item) (x : ℕ → Fraction) → (common_divisor n i x ≢ 0) ↔ GoodPoint n i x
divisor-iff n i x = (λ h. record { good = (divided n i x h).fine; single = single n i x h }, divisor n i x)
