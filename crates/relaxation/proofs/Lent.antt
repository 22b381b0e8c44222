-- Laws for the walk over a lent list l: what is loaded into the record, and what is stored back.
-- load-none, load-more, load-all: the record while the list is copied. order-length, order-at, order-cong: the items in order.
-- stored, settled-length, after-length: the list while the items are stored back. settled-accepted, settled-refused: the record that the core hands back.
use mathlib.Core.List.{List, [], ◌∷◌, ◌++◌, append-nil, map}
use mathlib.Core.Path.{◌≡◌, refl, sym, ap, ◌∙◌}
use Prim.Native.Nat.{ℕ, zero, suc, ◌≤◌, ◌<◌, min}
use native.Mathlib.Omega.{arith}
use lib.IntN.{ℤ}
use lib.ListN.{length, get_or, take, drop, set, replicate, length-append, length-drop, length-map, take-append-drop}
use lib.Seq.{take_at, drop-length, ext_get_or}
use Rattle.arith.specs.Sum.{Each}
use Rattle.knapsack.specs.declared.Refusal.{Refusal}
use Rattle.knapsack.specs.Verdicts.{Verdict}
use Rattle.std.specs.Prelude.{Ok, Err}
use Rattle.model.specs.declared.Model.{Model}
use Rattle.model.specs.declared.ModelItem.{ModelItem}
use Rattle.model.specs.declared.Sense.{Sense}
use Rattle.model.specs.Records.{no_item, item_at, item_in, verdict}
use Rattle.model.proofs.Records.{accepted}
use Rattle.ordering.specs.Order.{order}
use Rattle.ordering.proofs.Order.{order-length, order_below, order-cong}
use Rattle.relaxation.specs.declared.Query.{Query}
use Rattle.relaxation.specs.declared.Terms.{Terms}
use Rattle.relaxation.specs.Lent.{usable, filled, loaded, with_next, model_of, in_order, arranged_in, if_accepted, after, settled}

-- ---- what is loaded

fill_more : (n i : ℕ) (l : List ModelItem) → i < n → i < length l → set (filled n (take i l)) i (get_or l i no_item) ≡ filled n (take (suc i) l)
unfolding filled
fill_more zero i l h g = absurd (omega arith)
fill_more (suc n) i [] h g = absurd (omega arith)
fill_more (suc n) zero (x ∷ l) h g = refl
fill_more (suc n) (suc i) (x ∷ l) h g = ap (λ m. x ∷ m) (fill_more n i l (omega arith) (omega arith))

fill-all : (n k : ℕ) (l : List ModelItem) → min (length l) n ≤ k → filled n (take k l) ≡ filled n l
unfolding filled
fill-all zero k l h = refl
fill-all (suc n) zero [] h = refl
fill-all (suc n) (suc k) [] h = refl
fill-all (suc n) zero (x ∷ l) h = absurd (omega arith)
fill-all (suc n) (suc k) (x ∷ l) h = ap (λ m. x ∷ m) (fill-all n k l (omega arith))

pub load-none : filled 16 [] ≡ replicate 16 no_item
unfolding filled
load-none = refl

pub load-more : (b : ℤ) (t : Terms) (l : List ModelItem) (i : ℕ) → i < usable (length l) →
    with_next (loaded b (length l) t (take i l)) i (get_or l i no_item) ≡ loaded b (length l) t (take (suc i) l)
load-more b t l i h = rw (fill_more 16 i l (omega arith) (omega arith))

pub load-all : (b : ℤ) (t : Terms) (l : List ModelItem) → loaded b (length l) t (take (usable (length l)) l) ≡ loaded b (length l) t l
load-all b t l = rw (fill-all 16 (usable (length l)) l (omega arith))

-- ---- what is stored back

filled-length : (n : ℕ) (l : List ModelItem) → length (filled n l) ≡ n
unfolding filled
filled-length zero l = refl
filled-length (suc n) [] = ap suc (filled-length n [])
filled-length (suc n) (x ∷ l) = ap suc (filled-length n l)

filled_at : (n k : ℕ) (l : List ModelItem) → k < n → get_or (filled n l) k no_item ≡ get_or l k no_item
unfolding filled
filled_at zero k l h = absurd (omega arith)
filled_at (suc n) zero [] h = refl
filled_at (suc n) (suc k) [] h = filled_at n k [] (omega arith)
filled_at (suc n) zero (x ∷ l) h = refl
filled_at (suc n) (suc k) (x ∷ l) h = filled_at n k l (omega arith)

filled-take : (n k : ℕ) (l : List ModelItem) → k ≤ n → k ≤ length l → take k (filled n l) ≡ take k l
unfolding filled
filled-take n zero l h g = refl
filled-take zero (suc k) l h g = absurd (omega arith)
filled-take (suc n) (suc k) [] h g = absurd (omega arith)
filled-take (suc n) (suc k) (x ∷ l) h g = ap (λ m. x ∷ m) (filled-take n k l (omega arith) (omega arith))

-- ---- the items in order

pub items-length : (s : Sense) (f : ℕ → ModelItem) (n : ℕ) → length (in_order s f n) ≡ n
unfolding in_order
items-length s f n = simp length-map (order-length (λ k. item_in s (f k)) n)

pub items_at : (s : Sense) (f : ℕ → ModelItem) (n u : ℕ) → u < n → get_or (in_order s f n) u no_item ≡ f (get_or (order (λ k. item_in s (f k)) n) u 0)
unfolding in_order
items_at s f n u h = go (order (λ k. item_in s (f k)) n) u (omega (arith, order-length (λ k. item_in s (f k)) n))
  where
    go : (l : List ℕ) (u : ℕ) → u < length l → get_or (map f l) u no_item ≡ f (get_or l u 0)
    go [] u h = absurd (omega arith)
    go (j ∷ l) zero h = refl
    go (j ∷ l) (suc u) h = go l u (omega arith)

items-cong : (s : Sense) (f g : ℕ → ModelItem) (n : ℕ) → Each n (λ k. f k ≡ g k) → in_order s f n ≡ in_order s g n
items-cong s f g n e =
    ext_get_or no_item (in_order s f n) (in_order s g n) (items-length s f n ∙ sym (items-length s g n)) (λ u l. go u (omega (arith, items-length s f n)))
  where
    go : (u : ℕ) → u < n → get_or (in_order s f n) u no_item ≡ get_or (in_order s g n) u no_item
    go u l =
        let o = order-cong (λ k. item_in s (f k)) (λ k. item_in s (g k)) n (λ k h. ap (item_in s) (e k h)) in
        items_at s f n u l ∙ e _ (order_below (λ k. item_in s (f k)) n u l) ∙ ap (λ (t : List ℕ). g (get_or t u 0)) o ∙ sym (items_at s g n u l)

-- ---- what the core hands back

pub settled-accepted : (q : Query) → verdict q.model ≡ Ok tt → settled q ≡ arranged_in q.sense q.model
unfolding settled
settled-accepted q e = rw e

pub settled-refused : (q : Query) (f : Refusal) → verdict q.model ≡ Err f → settled q ≡ q.model
unfolding settled
settled-refused q f e = rw e

module _ (b : ℤ) (t : Terms) (l : List ModelItem) where
  abbrev m : Model
  m = model_of b t.needs l

  abbrev n : ℕ
  n = usable (length l)

  accepted-few : verdict m ≡ Ok tt → length l ≤ 16
  accepted-few e = ((accepted m e).figures t.sense).few-items

  pub settled-length : length (settled (loaded b (length l) t l)).items ≡ 16
  unfolding settled arranged_in
  settled-length = go (verdict m) refl
    where
      go : (v : Verdict) → verdict m ≡ v → length (if_accepted v (arranged_in t.sense m) m).items ≡ 16
      go (Ok _) e = simp (length-append, length-drop, filled-length) (omega (arith, accepted-few e, items-length t.sense (item_at m) (length l)))
      go (Err f) e = filled-length 16 l

  pub stored : take n (settled (loaded b (length l) t l)).items ++ drop n l ≡ after b t l
  unfolding settled arranged_in after
  stored = go (verdict m) refl
    where
      go : (v : Verdict) → verdict m ≡ v →
          take n (if_accepted v (arranged_in t.sense m) m).items ++ drop n l ≡ if_accepted v (in_order t.sense (λ k. get_or l k no_item) (length l)) l
      go (Ok _) e =
          let few = accepted-few e in
          let all : n ≡ length l = omega arith in
          rw (
            all,
            take_at (in_order t.sense (item_at m) (length l)) (drop (length l) (filled 16 l)) (length l) (items-length t.sense (item_at m) (length l)),
            drop-length l,
            append-nil,
          )
          (items-cong t.sense (item_at m) (λ k. get_or l k no_item) (length l) (λ k h. filled_at 16 k l (omega arith)))
      go (Err f) e = rw (filled-take 16 n l (omega arith) (omega arith)) (take-append-drop n l)

  pub after-length : length (after b t l) ≡ length l
  unfolding after
  after-length = go (verdict m)
    where
      go : (v : Verdict) → length (if_accepted v (in_order t.sense (λ k. get_or l k no_item) (length l)) l) ≡ length l
      go (Ok _) = items-length t.sense (λ k. get_or l k no_item) (length l)
      go (Err f) = refl
