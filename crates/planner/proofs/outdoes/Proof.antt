-- `planner::outdoes` meets its contract.
use mathlib.Core.Path.{sym, ap, ◌∙◌}
use mathlib.Core.Logic.{inl, inr}
use Rattle.arith.proofs.Parts.{impossible}
use Rattle.planner.specs.Branching.{is_optimal}
use Rattle.planner.proofs.Exits.{kind-of}
use borrow.Author.Rules.{rules}
use Rattle.planner.proofs.outdoes.Statement.{statement}
use Rattle.planner.proofs.outdoes.Tie as tie

is-optimal-requires : tie.Need-is_optimal-requires
is-optimal-requires c κs = search rules

leads-requires : tie.Need-leads-requires
leads-requires c κs =
    let t = c.before in
    let o = t.before.before in
    let s = o.before in
    (s.requires.0, (s.requires.1.0 (kind-of s.args.a.kind (sym o.is_optimal.ensures ∙ t.if-is_optimal.true)), s.requires.1.1 t.if-b.true))

returns : tie.Need-returns-then-b
returns c =
    let t = c.before.before in
    let o = t.before.before in
    let k = kind-of o.args.a.kind (sym o.is_optimal.ensures ∙ t.if-is_optimal.true) in
    record { ahead = λ e. (k, λ f. c.leads.ensures.ahead e); behind = λ e. inr (t.if-b.true, (k, c.leads.ensures.behind e)) }

returns-2 : tie.Need-returns-then-is_optimal
returns-2 c =
    let o = c.before.before in
    let k = kind-of o.args.a.kind (sym o.is_optimal.ensures ∙ c.if-is_optimal.true) in
    record {
      ahead = λ e. (k, λ f. absurd (impossible (sym c.if-b.false ∙ f)));
      behind = λ e. absurd (impossible (sym e));
    }

returns-3 : tie.Need-returns
returns-3 c =
    let o = c.before in
    record {
      ahead = λ e. absurd (impossible e);
      behind = λ e. inl (λ k. impossible (sym (sym o.is_optimal.ensures ∙ c.if-is_optimal.false) ∙ ap is_optimal k));
    }

pub outdoes_spec : {M : Type 1} → statement M
outdoes_spec = tie.close (tie.spec is-optimal-requires leads-requires returns returns-2 returns-3)
