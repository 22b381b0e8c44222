-- How many cases there can be: the problem itself, and those of two with fewer needs undecided.
-- twigs-some: there is one at least.  twigs-two: so many are enough for all.  twigs-most: with 16 needs there are at most 131,071;
-- few-twigs: so there are for those of a record.  cases-plain, cases-ray, cases-some: no more than most_cases, which is some;
-- cases-most: and at most 131,072 for the needs of a record.
use mathlib.Core.Path.{◌≡◌, refl, ap}
use mathlib.Core.List.{List, [], ◌∷◌}
use Prim.Native.Nat.{ℕ, zero, suc, ◌+◌, ◌≤◌, ◌<◌}
use native.Mathlib.Omega.{arith}
use lib.ListN.{length}
use Rattle.knapsack.specs.Meaning.{Instance}
use Rattle.model.specs.Records.{need_at, needs_up_to, needs_of}
use Rattle.model.specs.declared.Need.{Need}
use Rattle.model.specs.declared.Needs.{Needs}
use Rattle.cases.proofs.Undecided.{undecided, undecided-most}
use Rattle.planner.specs.Branching.{twigs, most_cases}

pub twigs-some : (u : ℕ) → 1 ≤ twigs u
unfolding twigs
twigs-some zero = omega arith
twigs-some (suc u) = omega arith

twigs-mono : (u v : ℕ) → u ≤ v → twigs u ≤ twigs v
unfolding twigs
twigs-mono zero v h = twigs-some v
twigs-mono (suc u) zero h = absurd (omega arith)
twigs-mono (suc u) (suc v) h = omega (arith, twigs-mono u v (omega arith))

pub twigs-two : (i j u : ℕ) → i < u → j < u → suc (twigs i + twigs j) ≤ twigs u
unfolding twigs
twigs-two i j zero h k = absurd (omega arith)
twigs-two i j (suc u) h k = omega (arith, twigs-mono i u (omega arith), twigs-mono j u (omega arith))

twigs-most : (u : ℕ) → u ≤ 16 → twigs u ≤ 131071
unfolding twigs
twigs-most u h = let e : twigs 16 ≡ 131071 = refl in omega (arith, twigs-mono u 16 h, e)

needs-long : (n : ℕ) (f : ℕ → Need) → length (needs_up_to n f) ≡ n
unfolding needs_up_to
needs-long zero f = refl
needs-long (suc n) f = ap suc (needs-long n f)

pub few-twigs : (ns : Needs) → ns.count ≤ 16 → (s : Instance) → twigs (undecided s (needs_of ns)) ≤ 131071
few-twigs ns h s =
    twigs-most (undecided s (needs_of ns)) (omega (arith, h, undecided-most s (needs_of ns), needs-long ns.count (need_at ns)))

-- ---- by the needs

pub cases-plain : (s : Instance) (ns : List Need) → twigs (undecided s ns) ≤ most_cases ns
unfolding twigs
cases-plain s [] = twigs-mono (undecided s []) 0 (undecided-most s [])
cases-plain s (n ∷ ns) = omega (arith, twigs-mono (undecided s (n ∷ ns)) (suc (length ns)) (undecided-most s (n ∷ ns)))

pub cases-ray : (s : Instance) (ns : Needs) → 1 ≤ ns.count → suc (twigs (undecided s (needs_of ns))) ≤ most_cases (needs_of ns)
cases-ray s ns h = go (needs_of ns) (omega (arith, h, needs-long ns.count (need_at ns)))
  where
    go : (l : List Need) → 1 ≤ length l → suc (twigs (undecided s l)) ≤ most_cases l
    go [] k = absurd (omega arith)
    go (n ∷ l) k = omega (arith, twigs-mono (undecided s (n ∷ l)) (suc (length l)) (undecided-most s (n ∷ l)))

pub cases-some : (ns : List Need) → 1 ≤ most_cases ns
cases-some [] = omega arith
cases-some (n ∷ ns) = omega arith

pub cases-most : (ns : Needs) → ns.count ≤ 16 → most_cases (needs_of ns) ≤ 131072
cases-most ns h = go (needs_of ns) (omega (arith, h, needs-long ns.count (need_at ns)))
  where
    go : (l : List Need) → length l ≤ 16 → most_cases l ≤ 131072
    go [] k = omega arith
    go (n ∷ l) k = omega (arith, twigs-most (suc (length l)) k)
