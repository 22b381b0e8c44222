use Rattle.std.proofs.Common.{◌≡◌, length, subst, sym, arith, rules}
use Rattle.scales.specs.Filling.{items_of}
use Rattle.residues.specs.Folding.{AbsorbsBy}
use Rattle.residues.proofs.Sizes.{heft-small, beyond-small}
use Rattle.residues.proofs.Choice.{barren-first, barren-next}
use Rattle.residues.proofs.free_part.Goals as goal

pub heft_of-whole-requires : goal.heft_of-whole-requires
heft_of-whole-requires c =
    let long : length c.args.us ≡ 17 = search rules in
    (omega (arith, c.requires.long), omega (arith, heft-small c.args.ws c.args.us c.requires))

pub loop-k-init : goal.loop-k-init
loop-k-init c = barren-first _ _

pub is_absorbing-requires : goal.is_absorbing-requires
is_absorbing-requires c =
    let k = c.loop-k.k in
    let w = heft-small c.args.ws c.args.us c.requires in
    (c.requires.ranges_in k (omega arith), (beyond-small c.args.ws c.args.us k c.requires (omega arith), omega arith))

pub loop-k-preserved : goal.loop-k-preserved
loop-k-preserved c =
    let g = c.args in
    let I = items_of g.ws g.us g.ts g.ls in
    let k = c.loop-k.k in
    barren-next c.loop-k.invariant (λ a. c.is_absorbing.ensures.does_not c.if-is_absorbing.false
    (subst (λ H. AbsorbsBy (I.weight k) (I.range k) (I.taken k) (I.left k) H g.capacity) (sym c.heft_of-whole.ensures) a.by))

pub returns-then-is_absorbing : goal.returns-then-is_absorbing
returns-then-is_absorbing c =
    let g = c.args in
    let I = items_of g.ws g.us g.ts g.ls in
    let k = c.loop-k.k in
    record {
      among = omega arith;
      onward = λ h. omega arith;
      absorbs = λ h. record {
        inside = omega (arith, c.requires.long);
        by = subst (λ H. AbsorbsBy (I.weight k) (I.range k) (I.taken k) (I.left k) H g.capacity) c.heft_of-whole.ensures
            (c.is_absorbing.ensures.does c.if-is_absorbing.true);
      };
      first = c.loop-k.invariant;
    }

pub returns : goal.returns
returns c = record {
  among = omega arith;
  onward = λ h. absurd (omega arith);
  absorbs = λ h. absurd (omega arith);
  first = λ k h l. c.loop-k.invariant k h (omega arith);
}
