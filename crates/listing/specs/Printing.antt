-- The text of the answers to a problem. Paper 01, "What `charge` prints", and paper 02, request 11.
--   refused, infeasible, best, unbounded    the words that begin it
--   refused_line f        `refused N L`
--   best_line v           `best P Q`
--   item_line s k x r     `k p q` of the item at place k, from 0; behind it the step r, where steps are shown
--   printed_amount a k    the amount at a place of the answer's array
--   step_at a k           the step at a place
--   item_lines s a n      the lines of the first n items, in order
--   listed n             how many items of n are listed: an answer has 16 places
--   printed_as k n a      the text of an answer of kind k about n items
--   printed n a          the text of an answer about n items
--   unless_refused k f x  f of the refusal where k is one, else x;  is_refused k: whether it is one
--   printed_both n s      the text of the sure answer and then of the possible one, a refusal once
--   room                 how many bytes hold both replies to an accepted record (proofs/Room, room-enough)
use Rattle.std.specs.Prelude.{Bool, true, false, cond, List, [], ◌∷◌, ◌++◌, ℕ, zero, suc, min, ℤ, pos, get_or}
use Rattle.arith.specs.declared.Fraction.{Fraction}
use Rattle.knapsack.specs.declared.Answer.{Answer}
use Rattle.knapsack.specs.declared.Refusal.{Refusal}
use Rattle.knapsack.specs.declared.Kind.{Kind}
use Rattle.knapsack.specs.declared.Kind.TheVariants.{Optimal, Infeasible, Unbounded, Refused}
use Rattle.text.specs.Decimal.{decimal, integer}
use Rattle.text.specs.Layout.{line}
use Rattle.model.specs.declared.Answers.{Answers}

-- ---- the words, in the bytes of ASCII
-- refused
abbrev pub refused : List ℕ
refused = 114 ∷ 101 ∷ 102 ∷ 117 ∷ 115 ∷ 101 ∷ 100 ∷ []

-- infeasible
abbrev pub infeasible : List ℕ
infeasible = 105 ∷ 110 ∷ 102 ∷ 101 ∷ 97 ∷ 115 ∷ 105 ∷ 98 ∷ 108 ∷ 101 ∷ []

-- best
abbrev pub best : List ℕ
best = 98 ∷ 101 ∷ 115 ∷ 116 ∷ []

-- unbounded
abbrev pub unbounded : List ℕ
unbounded = 117 ∷ 110 ∷ 98 ∷ 111 ∷ 117 ∷ 110 ∷ 100 ∷ 101 ∷ 100 ∷ []

-- ---- lines
abbrev pub refused_line : Refusal → List ℕ
refused_line f = line refused (decimal f.number ∷ decimal f.line ∷ [])

abbrev pub best_line : Fraction → List ℕ
best_line v = line best (integer v.p ∷ decimal v.q ∷ [])

abbrev pub item_line : Bool → ℕ → Fraction → ℤ → List ℕ
item_line s k x r = line (decimal (suc k)) (integer x.p ∷ decimal x.q ∷ cond s (integer r ∷ []) [])

abbrev pub printed_amount : Answer → ℕ → Fraction
printed_amount a k = get_or a.point k (record { p = pos 0; q = 0 })

abbrev pub step_at : Answer → ℕ → ℤ
step_at a k = get_or a.steps k (pos 0)

unfoldable pub item_lines : Bool → Answer → ℕ → List ℕ
item_lines s a zero = []
item_lines s a (suc n) = item_lines s a n ++ item_line s n (printed_amount a n) (step_at a n)

abbrev pub listed : ℕ → ℕ
listed n = min n 16

abbrev pub printed_as : Kind → ℕ → Answer → List ℕ
printed_as Optimal n a = best_line a.value ++ item_lines false a (listed n)
printed_as Infeasible n a = line infeasible []
printed_as Unbounded n a = line unbounded [] ++ item_lines true a (listed n)
printed_as (Refused f) n a = refused_line f

unfoldable pub printed : ℕ → Answer → List ℕ
printed n a = printed_as a.kind n a

abbrev pub unless_refused : {A : Type 0} → Kind → (Refusal → A) → A → A
unless_refused Optimal f x = x
unless_refused Infeasible f x = x
unless_refused Unbounded f x = x
unless_refused (Refused r) f x = f r

abbrev pub is_refused : Kind → Bool
is_refused k = unless_refused k (λ f. true) false

abbrev pub printed_both : ℕ → Answers → List ℕ
printed_both n s = printed n s.sure ++ cond (is_refused s.sure.kind) [] (printed n s.possible)

abbrev pub room : ℕ
room = 2880
