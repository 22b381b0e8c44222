-- What `watch` prints. Paper 02, request 13: lines `k d`, by smallest fall, `none` last, equals by item number; another reply alone.
--   none                 the word for no fall
--   fall_item d           an item that the order of the relaxation puts where the fall d belongs: of weight 1 and price -d; for none one of weight 0
--   watch_order f n u     the place that comes at position u among the first n, by their falls f: `watch-ordered` (proofs/Watching): it is so
--   SoonerBy a b i j     the fall a of place i comes before the fall b of place j: it is less, or b is none, or they are equal and i is lower
--   InWatchOrder f n π   π lists the first n places once each, by their falls f
--   FallItems of n k p   p is a problem of such items;  SmallFalls of: no fall is above 20,000
--   fall_word d           a fall, or none;  fall_line k d: the line `k d` of the item at place k, from 0
--   fall_lines f g n      the lines of the places g 0, …, g (n - 1)
--   watched_as k n w      the text of falls whose answer is of kind k, about n items;  watched n w: by its kind
--   WatchedAs m w v, ReadFalls r w   the falls of the record m, or the refusal of v; of what was read
--   Watches s t          t is the text of the falls of the sheet s
--   WatchLists T n b c r the buffer b becomes c, and r says so, for falls about n items of which T holds; a refusal leaves b as it was
use Rattle.std.specs.Prelude.{cond, List, [], ◌∷◌, ◌++◌, ◌⊎◌, ◌≢◌, ◌≡◌, ℕ, zero, suc, ◌≤◌, ◌<◌, eqb, pos, negsuc, get_or, length}
use Rattle.knapsack.specs.Meaning.{bare}
use Rattle.knapsack.specs.Ranges.{blank, item_at}
use Rattle.std.specs.Prelude.{None}
use Rattle.knapsack.specs.declared.Item.{Item}
use Rattle.knapsack.specs.declared.Kind.{Kind}
use Rattle.knapsack.specs.declared.Kind.TheVariants as kind
use Rattle.knapsack.specs.declared.Mark.TheVariants.{Integer}
use Rattle.knapsack.specs.declared.Problem.{Problem}
use Rattle.knapsack.specs.Verdicts.{Verdict}
use Rattle.std.specs.Prelude.{Ok, Err, Result}
use Rattle.knapsack.specs.declared.Refusal.{Refusal}
use Rattle.model.specs.declared.Model.{Model}
use Rattle.ordering.specs.Order.{order}
use Rattle.text.specs.Buffer.{Shows, told, filled, noted}
use Rattle.text.specs.Decimal.{decimal}
use Rattle.text.specs.Layout.{line}
use Rattle.text.specs.declared.Text.{Text}
use Rattle.listing.specs.Printing.{listed, printed, unless_refused}
use Rattle.sheet.specs.Reading.{read_sheet}
use Rattle.sheet.specs.declared.Reading.{Reading}
use Rattle.ranging.specs.Ranging.{fall_at, no_falls, FallsOf}
use Rattle.ranging.specs.declared.Falls.{Falls}

-- ---- the order

abbrev pub fall_item : ℕ → Item
fall_item zero = blank
fall_item (suc d) = record { mark = Integer; weight = pos 1; price = negsuc d; lower = None; upper = None }

abbrev pub watch_order : (ℕ → ℕ) → ℕ → ℕ → ℕ
watch_order f n u = get_or (order (λ k. fall_item (f k)) n) u 0

abbrev pub SoonerBy : ℕ → ℕ → ℕ → ℕ → Type 0
SoonerBy a b i j = ((a ≢ 0) × ((b ≡ 0) ⊎ (a < b))) ⊎ ((a ≡ b) × (i < j))

pub record InWatchOrder (f : ℕ → ℕ) (n : ℕ) (π : ℕ → ℕ) : Type 0 where
  pub place : (u : ℕ) → u < n → π u < n
  pub every : (k : ℕ) → k < n → (u : ℕ) × (u < n) × (π u ≡ k)
  pub once : (u v : ℕ) → u < n → v < n → π u ≡ π v → u ≡ v
  pub sooner : (u v : ℕ) → u < v → v < n → SoonerBy (f (π u)) (f (π v)) (π u) (π v)

-- a problem of n items, of which the first k are such: rank gives their order
pub record FallItems (of : List ℕ) (n k : ℕ) (p : Problem) : Type 0 where
  pub count : p.count ≡ n
  pub long : length p.items ≡ 16
  pub items : (j : ℕ) → j < k → item_at p j ≡ fall_item (get_or of j 0)

abbrev pub SmallFalls : List ℕ → Type 0
SmallFalls of = (k : ℕ) → get_or of k 0 ≤ 20000

-- ---- the text

abbrev pub none : List ℕ
none = 110 ∷ 111 ∷ 110 ∷ 101 ∷ []

abbrev pub fall_word : ℕ → List ℕ
fall_word d = cond (eqb d 0) none (decimal d)

abbrev pub fall_line : ℕ → ℕ → List ℕ
fall_line k d = line (decimal (suc k)) (fall_word d ∷ [])

unfoldable pub fall_lines : (ℕ → ℕ) → (ℕ → ℕ) → ℕ → List ℕ
fall_lines f g zero = []
fall_lines f g (suc n) = fall_lines f g n ++ fall_line (g n) (f (g n))

abbrev pub watched_as : Kind → ℕ → Falls → List ℕ
watched_as kind.Optimal n w = fall_lines (fall_at w) (watch_order (fall_at w) (listed n)) (listed n)
watched_as kind.Infeasible n w = printed n w.answer
watched_as kind.Unbounded n w = printed n w.answer
watched_as (kind.Refused f) n w = printed n w.answer

unfoldable pub watched : ℕ → Falls → List ℕ
watched n w = watched_as w.answer.kind n w

-- ---- from end to end

abbrev pub WatchedAs : Model → Falls → Verdict → Type 0
WatchedAs m w (Ok _) = FallsOf m w
WatchedAs m w (Err f) = w ≡ no_falls (bare (kind.Refused f))

abbrev pub ReadFalls : Reading → Falls → Type 0
ReadFalls r w = WatchedAs r.model w r.verdict

pub record Watches (s : List ℕ) (t : Text) : Type 0 where
  pub falls : Falls
  pub is_true : ReadFalls (read_sheet s) falls
  pub shown : Shows (watched (read_sheet s).model.count falls) t

pub record WatchLists (T : Falls → Type 0) (n : ℕ) (b c : List ℕ) (r : Result ℕ Refusal) : Type 0 where
  pub falls : Falls
  pub is_true : T falls
  pub told_is : r ≡ unless_refused falls.answer.kind noted (told (watched n falls) b)
  pub left_is : c ≡ unless_refused falls.answer.kind (λ f. b) (filled (watched n falls) b)
