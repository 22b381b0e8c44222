use Rattle.std.proofs.Common.{◌≡◌, ◌∙◌, List, [], ◌∷◌, ◌++◌, ℕ, zero, suc, ◌-◌, ◌/◌, ◌%◌, ◌^◌, ◌<◌, ◌≤◌, length, drop, set, refl, append_assoc, arith}
use native.Mathlib.Numerals.{sub-one}
use lib.ListN.{length-set}
use Rattle.text.specs.Decimal.{digit, digits, decimal}
use Rattle.text.proofs.Decimals.{digits-zero, digits_step}
use Rattle.text.proofs.digits_of.Goals as goal

-- a rest that is not 0 has a place left for its last digit
fewer : (rest first : ℕ) → 0 < rest → rest < 10 ^ first → (1 ≤ first) × (rest / 10 < 10 ^ (first - 1))
fewer rest zero z h = absurd (omega arith)
fewer rest (suc i) z h = (omega arith, rw sub-one (omega arith))

drop-set : (l : List ℕ) (i v : ℕ) → i < length l → drop i (set l i v) ≡ v ∷ drop (suc i) l
drop-set [] i v h = absurd (omega arith)
drop-set (x ∷ l) zero v h = refl
drop-set (x ∷ l) (suc i) v h = drop-set l i v (omega arith)

one_more : (rest first : ℕ) (bytes : List ℕ) → 0 < rest → 1 ≤ first → first ≤ length bytes →
    digits (rest / 10) ++ drop (first - 1) (set bytes (first - 1) (digit (rest % 10))) ≡ digits rest ++ drop first bytes
one_more rest zero bytes z h g = absurd (omega arith)
one_more rest (suc i) bytes z h g = rw (sub-one, drop-set bytes i (digit (rest % 10)) (omega arith), digits_step rest z) (simp append_assoc)

pub loop-rest-init : goal.loop-rest-init
unfolding decimal
loop-rest-init c = record { inside = omega arith; fits = omega (arith, c.ranges.n.fits); sized = refl; written = refl }

pub loop-rest-preserved : goal.loop-rest-preserved
loop-rest-preserved c =
    let l = c.loop-rest in
    let f = fewer l.rest l.first (omega arith) l.invariant.fits in
    record {
      inside = omega arith;
      fits = f.1;
      sized = simp length-set l.invariant.sized;
      written = one_more l.rest l.first l.bytes (omega arith) f.0 (omega arith) ∙ l.invariant.written;
    }

pub returns : goal.returns
returns c =
    let e : c.loop-rest.rest ≡ 0 = omega arith in
    record { sized = c.loop-rest.invariant.sized; inside = omega arith; spelled = rw (e, digits-zero) at c.loop-rest.invariant.written }
