-- The relaxation's entry over a lent list. Paper 01, "Relaxation": items are numbered by their places at entry, and on every accepted
-- problem the list holds the same items afterwards, in order.
--   filled n l          the first n items of l, and blank items where l ends
--   loaded b n t l      a query: a record of n items of which those of l are loaded, with the terms t;  with_next q i x: with one item more
--   model_of b ns l      the record of a capacity, needs and a list: the list's length is the count
--   in_order s f n       the first n items in the order of a sense (02, request 11);  arranged_in s m: the record with its items so
--   if_accepted v x y    x if the verdict is that the record is accepted, else y
--   after b t l         the list afterwards
--   settled q           the record with its items in order if it is accepted, else as it came
--   loose kept x        the item, continuous unless it is kept as it is
--   Loosened p named k q   q is p with its first k items continuous, but for those that are named
--   AnswersRelaxed s m a  a is true of the relaxation of m in the sense s
--   Settles q o         what the core gives
--   Relaxes b t l m r   what the entry does: the list l becomes m, and r answers
--   usable n            how many items of a list of n are looked at
use Rattle.std.specs.Prelude.{Bool, false, List, [], ◌∷◌, ◌++◌, map, ◌≡◌, ℕ, zero, suc, ◌<◌, min, ℤ, length, get_or, drop}
use Rattle.knapsack.specs.declared.Answer.{Answer}
use Rattle.knapsack.specs.declared.Item.{Item}
use Rattle.knapsack.specs.declared.Problem.{Problem}
use Rattle.knapsack.specs.Verdicts.{Verdict}
use Rattle.std.specs.Prelude.{Ok, Err}
use Rattle.knapsack.specs.Meaning.{instance_of}
use Rattle.knapsack.specs.Ranges.{item_at}
use Rattle.model.specs.declared.Model.{Model}
use Rattle.model.specs.declared.ModelItem.{ModelItem}
use Rattle.model.specs.declared.Sense.{Sense}
use Rattle.model.specs.declared.Needs.{Needs}
use Rattle.model.specs.Needs.{AnswersNeeds, loosened, relaxed_but}
use Rattle.model.specs.Promises.{Relaxed}
use Rattle.model.specs.Records.{no_item, item_at as record_item, item_in, plain_of, needs_of, verdict}
use Rattle.model.specs.Setters.{with_item}
use Rattle.ordering.specs.Order.{order}
use Rattle.relaxation.specs.declared.Outcome.{Outcome}
use Rattle.relaxation.specs.declared.Query.{Query}
use Rattle.relaxation.specs.declared.Terms.{Terms}

unfoldable pub filled : ℕ → List ModelItem → List ModelItem
filled zero l = []
filled (suc n) [] = no_item ∷ filled n []
filled (suc n) (x ∷ l) = x ∷ filled n l

abbrev pub loaded : ℤ → ℕ → Terms → List ModelItem → Query
loaded b n t l = record { model = record { items = filled 16 l; count = n; capacity = b; needs = t.needs }; sense = t.sense }

abbrev pub with_next : Query → ℕ → ModelItem → Query
with_next q i x = record { model = with_item q.model i x; sense = q.sense }

abbrev pub model_of : ℤ → Needs → List ModelItem → Model
model_of b ns l = record { items = filled 16 l; count = length l; capacity = b; needs = ns }

unfoldable pub in_order : Sense → (ℕ → ModelItem) → ℕ → List ModelItem
in_order s f n = map f (order (λ k. item_in s (f k)) n)

unfoldable pub arranged_in : Sense → Model → Model
arranged_in s m = record {
  items = in_order s (record_item m) m.count ++ drop m.count m.items;
  count = m.count;
  capacity = m.capacity;
  needs = m.needs;
}

abbrev pub if_accepted : {A : Type 0} → Verdict → A → A → A
if_accepted (Ok _) x y = x
if_accepted (Err f) x y = y

unfoldable pub after : ℤ → Terms → List ModelItem → List ModelItem
after b t l = if_accepted (verdict (model_of b t.needs l)) (in_order t.sense (λ k. get_or l k no_item) (length l)) l

unfoldable pub settled : Query → Model
settled q = if_accepted (verdict q.model) (arranged_in q.sense q.model) q.model

abbrev pub loose : Bool → Item → Item
loose kept x = record { mark = loosened kept x.mark; weight = x.weight; price = x.price; lower = x.lower; upper = x.upper }

pub record Loosened (p : Problem) (named : List Bool) (k : ℕ) (q : Problem) : Type 0 where
  pub count : q.count ≡ p.count
  pub capacity : q.capacity ≡ p.capacity
  pub items : (j : ℕ) → j < k → item_at q j ≡ loose (get_or named j false) (item_at p j)

abbrev pub AnswersRelaxed : Sense → Model → Answer → Type 0
AnswersRelaxed s m a = AnswersNeeds (relaxed_but (needs_of m.needs) (instance_of (plain_of s m))) (needs_of m.needs) a

pub record Settles (q : Query) (o : Outcome) : Type 0 where
  pub reply : Relaxed q.sense q.model o.answer
  pub model : o.model ≡ settled q

pub record Relaxes (b : ℤ) (t : Terms) (l m : List ModelItem) (r : Answer) : Type 0 where
  pub list : m ≡ after b t l
  pub reply : Relaxed t.sense (model_of b t.needs l) r

abbrev pub usable : ℕ → ℕ
usable n = min n 16
