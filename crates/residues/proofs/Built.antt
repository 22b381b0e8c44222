-- The lists that are built show the folded items.
-- items-folded: the same items. listed-folded: what the scales ask for. answer-folded: what they find.
use mathlib.Core.Path.{◌≡◌, sym, ap, subst, ◌∙◌}
use mathlib.Core.List.{List}
use Prim.Native.Nat.{ℕ, ◌*◌, ◌/◌, ◌^◌, ◌≤◌, ◌<◌}
use native.Mathlib.Omega.{arith}
use borrow.Author.Tests.{ne_eqb}
use lib.ListN.{length, get_or-eq_default}
use Rattle.scales.specs.Filling.{Items, sum, heft, items_of, Least}
use Rattle.scales.specs.Lent.{Listed, total}
use Rattle.scales.specs.Counts.{Takes}
use Rattle.scales.proofs.Sums.{load-most}
use Rattle.residues.specs.Folding.{folded_weight_at, swapped_at, folded_range_at, folded_capacity, folded, Absorbs}
use Rattle.residues.specs.Asked.{num, Made, Fit}
use Rattle.residues.proofs.Folding.{swap-most, least-folded}
use Rattle.residues.proofs.Lists.{made-whole}
use Rattle.residues.proofs.Sizes.{fold-most}
use Rattle.residues.proofs.Few.{folded-light, folded-ranges}

behind : (xs : List ℕ) (k : ℕ) → length xs ≡ 17 → 17 ≤ k → num xs k ≡ 0
behind xs k e l = get_or-eq_default xs 0 {n = k} (omega (arith, e))

alike : {m n : ℕ} {w v u t a b c d : ℕ → ℕ} → m ≡ n → w ≡ v → u ≡ t → a ≡ b → c ≡ d →
    ◌≡◌ {A = Items} (record { count = m; weight = w; range = u; taken = a; left = c }) (record { count = n; weight = v; range = t; taken = b; left = d })
alike e f g h i = rw (e, f, g, h, i)

pub items-folded : (cap : ℕ) (ws us ts ls : List ℕ) (f C whole : ℕ) (ws' us' ts' ls' : List ℕ) → Fit ws us → Listed cap ws us ts ls → f < length ws →
    whole ≡ folded_capacity f (items_of ws us us us) C → Made 17 (folded_weight_at f (num ws)) ws' → Made 17 (folded_range_at f (whole / num ws f) (num us)) us' →
    Made 17 (swapped_at f (num ws) (num ts) (num ls)) ts' → Made 17 (swapped_at f (num ws) (num ls) (num ts)) ls' →
    items_of ws' us' ts' ls' ≡ folded f C (items_of ws us ts ls)
items-folded cap ws us ts ls f C whole ws' us' ts' ls' fit h l e mw mu mt ml =
    alike (mw.long ∙ sym fit.long) (made-whole _ ws' no-weight mw)
    (made-whole _ us' no-range (subst (λ n. Made 17 (folded_range_at f (n / num ws f) (num us)) us') e mu))
    (made-whole _ ts' (no-cost ts ls h.takens h.lefts) mt) (made-whole _ ls' (no-cost ls ts h.lefts h.takens) ml)
  where
    no-weight : (k : ℕ) → 17 ≤ k → folded_weight_at f (num ws) k ≡ 0
    no-weight k m = rw (ne_eqb k f (omega (arith, fit.long)), behind ws k fit.long m) (omega (arith, fold-most (num ws f) 0))

    no-range : (k : ℕ) → 17 ≤ k → folded_range_at f (folded_capacity f (items_of ws us us us) C / num ws f) (num us) k ≡ 0
    no-range k m = rw (ne_eqb k f (omega (arith, fit.long))) (behind us k (h.ranges ∙ fit.long) m)

    no-cost : (xs ys : List ℕ) → length xs ≡ length ws → length ys ≡ length ws → (k : ℕ) → 17 ≤ k → swapped_at f (num ws) (num xs) (num ys) k ≡ 0
    no-cost xs ys a b k m =
        let x : num xs k ≤ 0 = omega (arith, behind xs k (a ∙ fit.long) m) in
        let y : num ys k ≤ 0 = omega (arith, behind ys k (b ∙ fit.long) m) in
        omega (arith, swap-most (num ws f) (num ws k) x y)

pub listed-folded : (cap : ℕ) (ws us ts ls : List ℕ) (f C : ℕ) (ws' us' ts' ls' : List ℕ) → Fit ws us → Absorbs (items_of ws us ts ls) f C →
    Listed cap ws us ts ls → items_of ws' us' ts' ls' ≡ folded f C (items_of ws us ts ls) → length us' ≡ 17 → length ts' ≡ 17 → length ls' ≡ 17 →
    Listed cap ws' us' ts' ls' × (total ws' ≤ total ws)
listed-folded cap ws us ts ls f C ws' us' ts' ls' fit a h e lu lt ll = (
  record {
    small = h.small;
    few = omega (arith, long);
    light = omega (arith, lighter, fit.light);
    fits = subst (λ K. heft K < 2 ^ 64) (sym e) (omega (arith, heavy, folded-light f C I, fit.light));
    ranges = lu ∙ sym long;
    takens = lt ∙ sym long;
    lefts = ll ∙ sym long;
    taken = λ k l. subst (λ K. K.taken k ≤ cap) (sym e) (swap-most (num ws f) (num ws k) (h.taken k (within k l)) (h.left k (within k l)));
    left = λ k l. subst (λ K. K.left k ≤ cap) (sym e) (swap-most (num ws f) (num ws k) (h.left k (within k l)) (h.taken k (within k l)));
  },
  lighter,
)
  where
    I : Items
    I = items_of ws us ts ls

    J : Items
    J = folded f C I

    long : length ws' ≡ 17
    long = ap (λ (K : Items). K.count) e ∙ fit.long

    within : (k : ℕ) → k < length ws' → k < length ws
    within k l = omega (arith, long, fit.long)

    lighter : total ws' ≤ total ws
    lighter = subst (λ K. sum K.count K.weight ≤ total ws) (sym e) (folded-light f C I)

    heavy : heft J ≤ 2 ^ 45 * sum J.count J.weight
    heavy = load-most J.count (2 ^ 45) J.weight J.range (λ k l. omega (arith, folded-ranges ws us ts ls f C fit a k l))

pub answer-folded : (cap : ℕ) (I J : Items) (f C whole r n : ℕ) → Absorbs I f C → J ≡ folded f C I → whole ≡ folded_capacity f I C → Least cap J whole r →
    Takes cap J whole n → Least cap I C r × Takes cap (folded f C I) (folded_capacity f I C) n
answer-folded cap I J f C whole r n a e w l t = (least-folded cap I f C r a (rw (e, w) at l), rw (e, w) at t)
