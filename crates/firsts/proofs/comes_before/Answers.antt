use Rattle.std.proofs.Common.{◌≡◌, ◌∙◌, sym, ap₂, subst₂, arith, rules, pos, ◌*ℤ◌, ◌≤ℤ◌, ◌<ℤ◌, length, get_or}
use mathlib.Core.Logic.{inl, inr}
use Rattle.arith.specs.declared.Fraction.{Fraction}
use Rattle.arith.proofs.Parts.{impossible}
use Rattle.arith.proofs.Words.{back, yes_lt, no_lt}
use Rattle.firsts.specs.Order.{amount_in}
use Rattle.firsts.proofs.Order.{alike-first, alike-step, alike-back, earlier-made, default_free}
use Rattle.firsts.proofs.comes_before.Goals as goal

pub loop-k-init : goal.loop-k-init
loop-k-init c = alike-first c.args.x c.args.y

pub crossed-v-requires : goal.crossed-v-requires
crossed-v-requires c =
    let long-x : length c.args.x ≡ 16 = search rules in
    let long-y : length c.args.y ≡ 16 = search rules in
    let k = c.loop-k.k in
    let mine : get_or c.args.x k (record { p = pos 0; q = 0 }) ≡ amount_in c.args.x k = default_free c.args.x k _ _ (omega (arith, c.requires.0)) in
    let yours : get_or c.args.y k (record { p = pos 0; q = 0 }) ≡ amount_in c.args.y k = default_free c.args.y k _ _ (omega (arith, c.requires.0)) in
    let small-mine = c.requires.1.0 k c.loop-k-test.true in
    let small-yours = c.requires.1.1 k c.loop-k-test.true in
    rw (mine, yours) (small-mine, small-yours)

pub crossed-w-requires : goal.crossed-w-requires
crossed-w-requires c =
    let long-x : length c.args.x ≡ 16 = search rules in
    let long-y : length c.args.y ≡ 16 = search rules in
    let k = c.loop-k.k in
    let mine : get_or c.args.x k (record { p = pos 0; q = 0 }) ≡ amount_in c.args.x k = default_free c.args.x k _ _ (omega (arith, c.requires.0)) in
    let yours : get_or c.args.y k (record { p = pos 0; q = 0 }) ≡ amount_in c.args.y k = default_free c.args.y k _ _ (omega (arith, c.requires.0)) in
    let small-mine = c.requires.1.0 k c.loop-k-test.true in
    let small-yours = c.requires.1.1 k c.loop-k-test.true in
    rw (mine, yours) (small-yours, small-mine)

pub returns-then-v-w : goal.returns-then-v-w
returns-then-v-w c =
    let long-x : length c.args.x ≡ 16 = search rules in
    let long-y : length c.args.y ≡ 16 = search rules in
    let k = c.loop-k.k in
    let mine : get_or c.args.x k (record { p = pos 0; q = 0 }) ≡ amount_in c.args.x k = default_free c.args.x k _ _ (omega (arith, c.requires.0)) in
    let yours : get_or c.args.y k (record { p = pos 0; q = 0 }) ≡ amount_in c.args.y k = default_free c.args.y k _ _ (omega (arith, c.requires.0)) in
    let small-mine = c.requires.1.0 k c.loop-k-test.true in
    let small-yours = c.requires.1.1 k c.loop-k-test.true in
    let v-is = c.crossed-v.ensures ∙ ap₂ (λ (x y : Fraction). x.p *ℤ pos y.q) mine yours in
    let w-is = c.crossed-w.ensures ∙ ap₂ (λ (x y : Fraction). x.p *ℤ pos y.q) yours mine in
    let words-v = back c.crossed-v.result c.crossed-v.type_inv in
    let words-w = back c.crossed-w.result c.crossed-w.type_inv in
    record {
      before = λ e. earlier-made c.args.x c.args.y k small-mine small-yours c.args.n c.loop-k-test.true c.loop-k.invariant
          (subst₂ ◌<ℤ◌ v-is w-is (yes_lt (rw (words-v, words-w) at c.if-v-w.true)));
      after = λ e. absurd (impossible (sym e));
    }

pub returns-then-w-v : goal.returns-then-w-v
returns-then-w-v c =
    let long-x : length c.args.x ≡ 16 = search rules in
    let long-y : length c.args.y ≡ 16 = search rules in
    let k = c.loop-k.k in
    let mine : get_or c.args.x k (record { p = pos 0; q = 0 }) ≡ amount_in c.args.x k = default_free c.args.x k _ _ (omega (arith, c.requires.0)) in
    let yours : get_or c.args.y k (record { p = pos 0; q = 0 }) ≡ amount_in c.args.y k = default_free c.args.y k _ _ (omega (arith, c.requires.0)) in
    let small-mine = c.requires.1.0 k c.loop-k-test.true in
    let small-yours = c.requires.1.1 k c.loop-k-test.true in
    let v-is = c.crossed-v.ensures ∙ ap₂ (λ (x y : Fraction). x.p *ℤ pos y.q) mine yours in
    let w-is = c.crossed-w.ensures ∙ ap₂ (λ (x y : Fraction). x.p *ℤ pos y.q) yours mine in
    let words-v = back c.crossed-v.result c.crossed-v.type_inv in
    let words-w = back c.crossed-w.result c.crossed-w.type_inv in
    record {
      before = λ e. absurd (impossible e);
      after = λ e. inr (earlier-made c.args.y c.args.x k small-yours small-mine c.args.n c.loop-k-test.true
          (alike-back c.args.x c.args.y k c.loop-k.invariant)
          (subst₂ ◌<ℤ◌ w-is v-is (yes_lt (rw (words-v, words-w) at c.if-w-v.true))));
    }

pub loop-k-preserved : goal.loop-k-preserved
loop-k-preserved c =
    let long-x : length c.args.x ≡ 16 = search rules in
    let long-y : length c.args.y ≡ 16 = search rules in
    let k = c.loop-k.k in
    let mine : get_or c.args.x k (record { p = pos 0; q = 0 }) ≡ amount_in c.args.x k = default_free c.args.x k _ _ (omega (arith, c.requires.0)) in
    let yours : get_or c.args.y k (record { p = pos 0; q = 0 }) ≡ amount_in c.args.y k = default_free c.args.y k _ _ (omega (arith, c.requires.0)) in
    let small-mine = c.requires.1.0 k c.loop-k-test.true in
    let small-yours = c.requires.1.1 k c.loop-k-test.true in
    let v-is = c.crossed-v.ensures ∙ ap₂ (λ (x y : Fraction). x.p *ℤ pos y.q) mine yours in
    let w-is = c.crossed-w.ensures ∙ ap₂ (λ (x y : Fraction). x.p *ℤ pos y.q) yours mine in
    let words-v = back c.crossed-v.result c.crossed-v.type_inv in
    let words-w = back c.crossed-w.result c.crossed-w.type_inv in
    alike-step c.args.x c.args.y k small-mine small-yours c.loop-k.invariant
    (subst₂ ◌≤ℤ◌ w-is v-is (no_lt (rw (words-v, words-w) at c.if-v-w.false)))
    (subst₂ ◌≤ℤ◌ v-is w-is (no_lt (rw (words-v, words-w) at c.if-w-v.false)))

pub returns : goal.returns
returns c =
    let at-end : c.loop-k.k ≡ c.args.n = omega arith in
    record { before = λ i. absurd (impossible i); after = λ i. inl (rw at-end at (alike-back c.args.x c.args.y c.loop-k.k c.loop-k.invariant)) }
