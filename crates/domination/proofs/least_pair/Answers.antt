use Rattle.std.proofs.Common.{arith, ◌≡◌, sym, ◌∙◌, subst, Ok, Err, ℕ}
use Rattle.knapsack.specs.declared.Refusal.{Refusal}
use Rattle.model.specs.declared.Model.{Model}
use Rattle.model.specs.declared.Sense.{Sense}
use Rattle.model.specs.Records.{verdict}
use Rattle.model.proofs.Records.{accepted}
use Rattle.domination.specs.Pairs.{least_pair}
use Rattle.domination.specs.Told.{Told}
use Rattle.domination.proofs.Entry.{told}
use Rattle.domination.proofs.least_pair.Goals as goal

refusal_kept : (sense : Sense) (m : Model) (i j : ℕ) (f : Refusal) → verdict m ≡ Err f → Err f ≡ least_pair sense m i j
unfolding least_pair
refusal_kept sense m i j f h = rw h

pub returns-in_err-check_model-clause-value : goal.returns-in_err-check_model-clause-value
returns-in_err-check_model-clause-value c =
    let g = c.from_residual.ensures in
    let k = refusal_kept c.args.sense c.args.m c.args.i c.args.j c.in_err-check_model.field-0.0 (sym c.check_model.ensures ∙ c.in_err-check_model.was) in
    grind (arith, g, k)

pub returns-in_err-check_model-clause-told : goal.returns-in_err-check_model-clause-told
returns-in_err-check_model-clause-told c = subst (Told _ _ _ _) (sym (returns-in_err-check_model-clause-value c)) (told _ _ _ _)

-- the record is accepted
taken : (c : goal.After-plain_of) → verdict c.args.m ≡ Ok tt
taken c = rw (← c.check_model.ensures) c.in_ok-check_model.was

pub pair_numbered-requires : goal.pair_numbered-requires
pair_numbered-requires c = rw c.plain_of.ensures ((accepted _ (taken c)).figures _)

pub returns-clause-value : goal.returns-clause-value
unfolding least_pair
returns-clause-value c = rw (← c.check_model.ensures, c.in_ok-check_model.was, ← c.plain_of.ensures) c.pair_numbered.ensures

pub returns-clause-told : goal.returns-clause-told
returns-clause-told c = subst (Told _ _ _ _) (sym (returns-clause-value c)) (told _ _ _ _)
