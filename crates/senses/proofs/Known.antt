-- Where every weight is one figure the two senses are one problem.
-- known_same: the two instances agree at the items of the problem. known-planned: so the planner's answer in the sure sense is one in the possible.
use mathlib.Core.Path.{◌≡◌, refl, sym, ap, ◌∙◌}
use mathlib.Core.Bool.{Bool, true, false, cond}
use Prim.Native.Nat.{ℕ, ◌<◌}
use native.Mathlib.Decide.{dec_lt}
use native.Mathlib.Omega.{arith}
use lib.IntN.{ℤ}
use lib.ListN.{length, get_or-eq_default}
use lib.Dec.{ltb}
use lib.Signed.{lt_z, ◌≤ℤ◌}
use Rattle.arith.proofs.Integers.{split2, zed}
use Rattle.arith.proofs.Words.{no_lt}
use Rattle.knapsack.proofs.Same.{Same}
use Rattle.knapsack.specs.Meaning.{instance_of}
use Rattle.knapsack.specs.declared.Answer.{Answer}
use Rattle.knapsack.specs.Verdicts.{Verdict}
use Rattle.std.specs.Prelude.{Ok, Err}
use Rattle.model.specs.Promises.{RepliesAs, Planned}
use Rattle.model.specs.Records.{no_item, item_at, item_in, plain_of, needs_of, is_range, some_range, held, verdict}
use Rattle.model.specs.declared.Model.{Model}
use Rattle.model.specs.declared.ModelItem.{ModelItem}
use Rattle.model.specs.declared.Sense.TheVariants.{Sure, Possible}
use Rattle.model.proofs.Plain.{plain-item}
use Rattle.model.proofs.Records.{none-fails}
use Rattle.model.proofs.SameNeeds.{same-answers-needs, same-first-needs}

one-figure : (i : ModelItem) → is_range i ≡ false → i.high ≡ i.low
one-figure i h = go (lt_z i.low i.high) refl h
  where
    level : (a b : ℤ) → b ≤ℤ a → a ≤ℤ b → b ≡ a
    level = split2 _ (λ a b c e. simp zed (omega arith))

    go : (t : Bool) → lt_z i.low i.high ≡ t → cond t true (lt_z i.high i.low) ≡ false → i.high ≡ i.low
    go true e k = absurd (let z : ◌≡◌ {A = ℕ} 0 1 = cc in omega arith)
    go false e k = level i.low i.high (no_lt e) (no_lt k)

-- the item in the two senses
one-item : (i : ModelItem) → i.high ≡ i.low → item_in Sure i ≡ item_in Possible i
one-item i e = ap (λ (w : ℤ). record { mark = i.mark; weight = w; price = i.price; lower = i.lower; upper = i.upper }) e

-- an item that is counted and has a place is one of those tried
in_held : (n k : ℕ) → k < n → k < 16 → k < held n
in_held n k h l = go (ltb 16 n)
  where
    go : (b : Bool) → k < cond b 16 n
    go true = l
    go false = h

module _ (m : Model) (full : length m.items ≡ 16) (h : some_range m ≡ false) where
  -- a place beyond the sixteen holds nothing
  level : (k : ℕ) → k < m.count → (item_at m k).high ≡ (item_at m k).low
  level k l = go (dec_lt k 16)
    where
      go : Dec (k < 16) → (item_at m k).high ≡ (item_at m k).low
      go (yes i) = one-figure (item_at m k) (none-fails (held m.count) (item_at m) is_range h k (in_held m.count k l i))
      go (no n) = rw (get_or-eq_default m.items no_item {n = k} (omega (arith, full))) refl

  pub known_same : Same (instance_of (plain_of Sure m)) (instance_of (plain_of Possible m))
  known_same = record {
    capacity = refl;
    count = refl;
    items = λ k l. plain-item Sure m k ∙ one-item (item_at m k) (level k l) ∙ sym (plain-item Possible m k);
  }

  pub known-planned : (a : Answer) → Planned Sure m a → Planned Possible m a
  known-planned a p = record {
    replies = go (verdict m) p.replies;
    first = same-first-needs (instance_of (plain_of Sure m)) (instance_of (plain_of Possible m)) known_same (needs_of m.needs) a p.first;
  }
    where
      go : (v : Verdict) → RepliesAs (instance_of (plain_of Sure m)) (needs_of m.needs) a v → RepliesAs (instance_of (plain_of Possible m)) (needs_of m.needs) a v
      go (Ok _) r = same-answers-needs (instance_of (plain_of Sure m)) (instance_of (plain_of Possible m)) known_same (needs_of m.needs) a r
      go (Err f) r = r
