use Rattle.std.proofs.Common.{get_or, ap, ◌∙◌, arith}
use Rattle.scales.specs.Digits.{digit}
use Rattle.scales.proofs.Digits.{cost-below}
use Rattle.scales.proofs.fill_item.Goals as goal

pub pass_times-requires-clause-priced : goal.pass_times-requires-clause-priced
pass_times-requires-clause-priced c =
    let a = c.args in
    let l = c.requires.listed.0 in
    record {
      small = l.small;
      taken = rw c.cost_at-a.ensures (cost-below a.s.cap a.s.i (get_or a.ts.now a.j 0) (l.taken a.j (omega arith)));
      left = rw c.cost_at-b.ensures (cost-below a.s.cap a.s.i (get_or a.ls.now a.j 0) (l.left a.j (omega arith)));
    }

pub returns : goal.returns
returns c =
    let d = c.digit_of-d.ensures ∙ ap digit c.rest_at.ensures in
    let p = c.pass_times.ensures in
    record {
      live = rw d at p.n_value.0;
      written = rw d at p.n_value.1.0;
      heft = rw d at p.n_value.1.1;
      shows = rw (d, c.cost_at-a.ensures, c.cost_at-b.ensures) at p.shows;
    }
