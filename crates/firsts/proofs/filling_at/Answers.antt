use Rattle.std.proofs.Common.{◌≡◌, ◌∙◌, ap}
use Rattle.greedy.specs.declared.Ends.{Ends}
use Rattle.greedy.specs.Fill.{at, fill, bound}
use Rattle.greedy.proofs.Sizes.{fill-sized}
use Rattle.firsts.specs.Leading.{ends_at}
use Rattle.firsts.proofs.Places.{place-sized}
use Rattle.firsts.proofs.filling_at.Goals as goal

pub fill_up-f-requires : goal.fill_up-f-requires
fill_up-f-requires c = rw c.fixed-e.ensures (place-sized c.args.s c.args.c c.requires.0 (at c.args.x) c.requires.1)

pub bound_of-v-requires : goal.bound_of-v-requires
bound_of-v-requires c =
    let e : Ends = ends_at c.args.s (at c.args.x) in
    let fill-is : c.fill_up-f.result ≡ fill c.args.c e = c.fill_up-f.ensures ∙ ap (fill c.args.c) c.fixed-e.ensures in
    rw fill-is (fill-sized c.args.c e (place-sized c.args.s c.args.c c.requires.0 (at c.args.x) c.requires.1))

pub amounts_of-y-requires : goal.amounts_of-y-requires
amounts_of-y-requires c =
    let e : Ends = ends_at c.args.s (at c.args.x) in
    let sized = place-sized c.args.s c.args.c c.requires.0 (at c.args.x) c.requires.1 in
    let fill-is : c.fill_up-f.result ≡ fill c.args.c e = c.fill_up-f.ensures ∙ ap (fill c.args.c) c.fixed-e.ensures in
    rw (c.fixed-e.ensures, fill-is) (c.requires.0.ready, (sized, fill-sized c.args.c e sized))

pub returns : goal.returns
returns c =
    let e : Ends = ends_at c.args.s (at c.args.x) in
    let fill-is : c.fill_up-f.result ≡ fill c.args.c e = c.fill_up-f.ensures ∙ ap (fill c.args.c) c.fixed-e.ensures in
    record {
      shows = rw (c.fixed-e.ensures, fill-is) at c.amounts_of-y.ensures;
      value-is = c.bound_of-v.ensures ∙ ap (bound c.args.c) fill-is;
    }
