-- Euclid's turns make the divisors smaller.
use Rattle.std.proofs.Common.{◌≡◌, ◌/◌, ◌∙◌, arith}
use Rattle.comparing.proofs.Euclid.{below-whole, above-whole, none_left, all_left, turned_left}
use Rattle.comparing.proofs.+below.Goals as goal

pub returns-then-a-b : goal.returns-then-a-b
returns-then-a-b t c = below-whole c.args.n c.args.d c.args.m c.args.e c.requires.0 c.requires.1 c.if-a-b.true

pub returns-then-b-a : goal.returns-then-b-a
returns-then-b-a t c = above-whole c.args.n c.args.d c.args.m c.args.e c.requires.0 c.requires.1 c.if-b-a.true

pub returns-then-j-eq0 : goal.returns-then-j-eq0
returns-then-j-eq0 t c =
    let same : c.args.n / c.args.d ≡ c.args.m / c.args.e = omega (arith, c.if-a-b.false, c.if-b-a.false) in
    none_left c.args.n c.args.d c.args.m c.args.e c.requires.0 c.requires.1 same c.if-j-eq0.true

pub returns-then-i-eq0 : goal.returns-then-i-eq0
returns-then-i-eq0 t c =
    let same : c.args.n / c.args.d ≡ c.args.m / c.args.e = omega (arith, c.if-a-b.false, c.if-b-a.false) in
    all_left c.args.n c.args.d c.args.m c.args.e c.requires.0 c.requires.1 same (omega (arith, c.if-j-eq0.false)) c.if-i-eq0.true

pub returns : goal.returns
returns t c =
    let same : c.args.n / c.args.d ≡ c.args.m / c.args.e = omega (arith, c.if-a-b.false, c.if-b-a.false) in
    c.below.ensures ∙ turned_left c.args.n c.args.d c.args.m c.args.e c.requires.0 c.requires.1 same
