-- Writing sheets. Paper 02, request 1. The sheet itself is crate sheet's `printing`.
--   on_accepted v f x    x, or f of the refusal that v tells
--   tidied m            the record as the reader fills it: the places beyond the count are blank, the lines of needs beyond theirs 0 0
-- That two records are one problem is crate model's `Agree`.
use Rattle.std.specs.Prelude.{◌++◌, ◌-◌, take, replicate}
use Rattle.knapsack.specs.declared.Refusal.{Refusal}
use Rattle.knapsack.specs.Verdicts.{Verdict}
use Rattle.std.specs.Prelude.{Ok, Err}
use Rattle.model.specs.declared.Model.{Model}
use Rattle.model.specs.Needs.{no_need}
use Rattle.model.specs.Records.{no_item}
use Rattle.model.specs.Setters.{with_items, with_needs}

abbrev pub on_accepted : {A : Type 0} → Verdict → (Refusal → A) → A → A
on_accepted (Ok _) f x = x
on_accepted (Err r) f x = f r

abbrev pub tidied : Model → Model
tidied m =
    with_needs (with_items m (take m.count m.items ++ replicate (16 - m.count) no_item))
    (record { lines = take m.needs.count m.needs.lines ++ replicate (16 - m.needs.count) no_need; count = m.needs.count })
