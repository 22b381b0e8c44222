-- `arith::less` meets its contract: the tests are those of the definition, and a product of a remainder and a divisor is below a million.
use Prim.Native.Nat.{◌*◌, ◌≤◌}
use native.Mathlib.Nat.{mul-le-mul}
use native.Mathlib.Omega.{arith}
use mir.Syntax.{w64}
use mir.Val.{SFits, Fits}
use borrow.Author.Rules.{rules}
use Rattle.arith.specs.Mixed.{Proper, less_mixed}
use Rattle.arith.specs.declared.Mixed.{Mixed}
use Rattle.arith.proofs.Parts.{plain-lt}
use Rattle.arith.proofs.less.Statement.{statement}
use Rattle.arith.proofs.less.Tie as tie

a-fits : (s : tie.Start) → SFits w64 s.args.a.whole
a-fits s = search rules

b-fits : (s : tie.Start) → SFits w64 s.args.b.whole
b-fits s = search rules

small : (a b : Mixed) → Proper a → Proper b → Fits w64 (a.part * b.parts)
small a b p q =
    let l : a.part ≤ 1000 = omega (arith, p.low, p.few) in
    let h : a.part * b.parts ≤ 1000 * 1000 = mul-le-mul l q.few in
    record { fits = omega arith }

-- the moments that are spoken of below
abbrev start-of-known2 : tie.After-struct_known-2-1 → tie.Start
start-of-known2 c = c.before.before.before

abbrev else1 : tie.After-struct_known-4-1 → tie.Else-a-b
else1 c = c.before.before.before

abbrev start-of-known5 : tie.After-struct_known-5-1 → tie.Start
start-of-known5 c = start-of-known2 (else1 c.before.before.before).before.before

abbrev else2 : tie.After-struct_known-7-1 → tie.Else-b-a
else2 c = c.before.before.before

returns : tie.Need-returns-then-a-b
unfolding less_mixed
returns c = let s = start-of-known2 c.before.before in rw (plain-lt (a-fits s) (b-fits s) c.if-a-b.true)

returns-2 : tie.Need-returns-then-b-a
unfolding less_mixed
returns-2 c =
    let at-if1 = else1 c.before.before in
    let s = start-of-known2 at-if1.before.before in
    rw (plain-lt (a-fits s) (b-fits s) at-if1.if-a-b.false, plain-lt (b-fits s) (a-fits s) c.if-b-a.true)

mul-result : tie.Need-overflow_mul-result
mul-result c = let s = start-of-known5 c.before in small _ _ s.requires.0 s.requires.1

mul-result-2 : tie.Need-overflow_mul-result-2
mul-result-2 c = let s = start-of-known5 c.before.before.before in small _ _ s.requires.1 s.requires.0

returns-3 : tie.Need-returns
unfolding less_mixed
returns-3 c =
    let d = else2 c.before in
    let at-if1 = else1 d.before.before in
    let s = start-of-known2 at-if1.before.before in
    rw (plain-lt (a-fits s) (b-fits s) at-if1.if-a-b.false, plain-lt (b-fits s) (a-fits s) d.if-b-a.false)

pub less_spec : {M : Type 1} → statement M
less_spec = tie.close (tie.spec returns returns-2 mul-result mul-result-2 returns-3)
