use Rattle.std.proofs.Common.{refl, arith}
use mathlib.Core.Logic.{◌⊎◌, inl, inr}
use Rattle.arith.proofs.Parts.{within-back}
use Rattle.ceiling.proofs.considered.Goals as goal

with-use : {A B C : Type 0} → B → A ⊎ C → A ⊎ (B × C)
with-use b (inl a) = inl a
with-use b (inr d) = inr (b, d)

pub is_usable-requires : goal.is_usable-requires
is_usable-requires c =
    let r = c.requires.ready in
    (r.0.sized, (r.0.ranked, (r.0.in_order, r.1.1.1.1)))

pub lowered-requires : goal.lowered-requires
lowered-requires c =
    let r = c.requires.ready in
    rw (within-back tt r.1.1.0) (record { ready = (r.0, (r.1.0, (r.1.1.0, r.1.1.1.0))); counted = c.requires.counted })

pub returns-then-is_usable : goal.returns-then-is_usable
returns-then-is_usable c =
    let r = c.lowered.ensures in
    let u = c.is_usable.ensures.1 c.if-is_usable.true in
    record {
      counted = r.counted;
      lower = r.lower;
      bound = λ v. r.bound;
      exact = with-use u r.exact;
      any = inl (u, r.any);
      few = r.few;
      writes = inl (u, r.writes);
    }

pub returns : goal.returns
returns c =
    let no = c.is_usable.ensures.0 c.if-is_usable.false in
    record {
      counted = c.requires.counted.0;
      lower = omega arith;
      bound = λ u. absurd (no u);
      exact = inl (refl, refl);
      any = inr (no, refl);
      few = omega arith;
      writes = inr (no, refl);
    }
