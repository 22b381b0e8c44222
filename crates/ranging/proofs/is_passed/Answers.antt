use Rattle.std.proofs.Common.{◌≡◌, ◌<◌, length, arith, rules}
use mathlib.Core.Path.{subst}
use Rattle.knapsack.specs.Meaning.{instance_of, amount_at, point_of}
use Rattle.knapsack.specs.Ranges.{item_at}
use Rattle.ranging.specs.Searching.{Passes}
use Rattle.ranging.proofs.Lowering.{lowered_is, lowered-figures, shown-lowered, deepest-most}
use Rattle.ranging.proofs.Worth.{passes-by}
use Rattle.ranging.proofs.is_passed.Goals as goal

pub lowered-q-requires : goal.lowered-q-requires
lowered-q-requires c =
    let h = c.requires.0 in
    let f = (h.figures.items-in c.args.k h.inside).price-in in
    (omega (arith, h.inside, h.figures.few-items), (f, omega (arith, h.most, deepest-most (item_at c.args.p c.args.k).price f)))

pub worth_of-v-requires : goal.worth_of-v-requires
worth_of-v-requires c =
    let a = c.args in
    let h = c.requires.0 in
    let size : length a.p.items ≡ 16 = search rules in
    let long : a.k < length a.p.items = omega (arith, size, h.inside, h.figures.few-items) in
    rw c.lowered-q.ensures
    (lowered-figures a.p a.k a.d long h.figures h.most h.inside, shown-lowered a.p a.k a.d long (amount_at a.a) c.requires.1.0)

pub worth_of-w-requires : goal.worth_of-w-requires
worth_of-w-requires c =
    let a = c.args in
    let h = c.requires.0 in
    let size : length a.p.items ≡ 16 = search rules in
    let long : a.k < length a.p.items = omega (arith, size, h.inside, h.figures.few-items) in
    rw c.lowered-q.ensures
    (lowered-figures a.p a.k a.d long h.figures h.most h.inside, shown-lowered a.p a.k a.d long (amount_at a.b) c.requires.1.1)

pub returns : goal.returns
returns c =
    let a = c.args in
    let h = c.requires.0 in
    let q = c.lowered-q in
    let r = c.less_fraction.result in
    let size : length a.p.items ≡ 16 = search rules in
    let long : a.k < length a.p.items = omega (arith, size, h.inside, h.figures.few-items) in
    let t = passes-by q.result a.a.point a.b.point c.worth_of-v.result c.worth_of-w.result c.worth_of-v.ensures c.worth_of-w.ensures r c.less_fraction.ensures in
    subst (λ i. Passes i (point_of a.a) (point_of a.b) r) (lowered_is a.p a.k a.d long)
    (subst (λ z. Passes (instance_of z) (point_of a.a) (point_of a.b) r) q.ensures t)
