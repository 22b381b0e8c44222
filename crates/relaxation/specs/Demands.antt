-- Paper 01, "Relaxation", in its own words: the lent list holds the same items afterwards. That they stand in order is `in_order`
-- (ordering, proofs/Order).
--   SameItems l m     the places of m are those of l, each once, in some order
use Rattle.std.specs.Prelude.{List, ◌≡◌, ℕ, ◌<◌, length, get_or}
use Rattle.model.specs.declared.ModelItem.{ModelItem}
use Rattle.model.specs.Records.{no_item}

-- what stands at place u of m stood at place from u of l, and to leads back
pub record SameItems (l m : List ModelItem) : Type 0 where
  pub length-is : length m ≡ length l
  pub from : ℕ → ℕ
  pub to : ℕ → ℕ
  pub from_in : (u : ℕ) → u < length l → from u < length l
  pub to_in : (k : ℕ) → k < length l → to k < length l
  pub to-from : (u : ℕ) → u < length l → to (from u) ≡ u
  pub from-to : (k : ℕ) → k < length l → from (to k) ≡ k
  pub item-is : (u : ℕ) → u < length l → get_or m u no_item ≡ get_or l (from u) no_item
