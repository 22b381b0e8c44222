use mathlib.Core.Path.{sym, ◌∙◌, subst}
use Rattle.knapsack.specs.Meaning.{instance_of}
use Rattle.model.specs.Needs.{relaxed_but}
use Rattle.model.specs.Promises.{RepliesAs}
use Rattle.model.specs.Records.{plain_of, needs_of}
use Rattle.model.proofs.Records.{accepted}
use Rattle.relaxation.proofs.Lent.{settled-accepted, settled-refused}
use Rattle.relaxation.proofs.core.Goals as goal

pub relaxed_answer-requires : goal.relaxed_answer-requires
relaxed_answer-requires c = accepted _ (sym c.check_model.ensures ∙ c.in-Ok.is)

pub arranged-requires : goal.arranged-requires
arranged-requires c = (accepted _ (sym c.check_model.ensures ∙ c.in-Ok.is)).figures _

pub returns-in-Ok : goal.returns-in-Ok
returns-in-Ok c =
    let q = c.args.q in
    let a = c.relaxed_answer in
    let taken = sym c.check_model.ensures ∙ c.in-Ok.is in
    record {
      reply = subst (RepliesAs (relaxed_but (needs_of q.model.needs) (instance_of (plain_of q.sense q.model))) (needs_of q.model.needs) a.result) (sym taken) a.ensures;
      model = c.arranged.ensures ∙ sym (settled-accepted q taken);
    }

pub returns-in-Err : goal.returns-in-Err
returns-in-Err c =
    let q = c.args.q in
    let a = c.no_point in
    let is = sym c.check_model.ensures ∙ c.in-Err.is in
    record {
      reply = subst (RepliesAs (relaxed_but (needs_of q.model.needs) (instance_of (plain_of q.sense q.model))) (needs_of q.model.needs) a.result) (sym is) a.ensures;
      model = sym (settled-refused q _ is);
    }
