-- Lists of pieces and of ends, as the code makes them.
-- listing_step, flags-step, altered-step, placed-step: a list of numbers, of tests, of ends and of amounts that is being made, after one more.
-- pieces-fair, pieces-narrow, pieces-keyable: the pieces are what the fillings ask for. pieces-few: a first filling takes few of each.
use mathlib.Core.Path.{◌≡◌, refl, sym, subst, ◌∙◌}
use mathlib.Core.Bool.{Bool, true, false}
use mathlib.Core.List.{List}
use Prim.Native.Nat.{ℕ, suc, ◌+◌, ◌*◌, ◌≤◌, ◌<◌}
use native.Mathlib.Omega.{arith}
use native.Mathlib.Nat.{mul-le-mul}
use native.Mathlib.Decide.{ℕ_discrete, dec_lt}
use lib.Dec.{eqb}
use lib.IntN.{ℤ, pos, nat_abs, ◌-ℤ◌}
use lib.ListN.{length, set, length-set}
use lib.Seq.{get_or-set_same, get_or-set_other}
use borrow.Author.Tests.{eqb-true}
use Rattle.scales.proofs.Sums.{sum-most}
use Rattle.fillings.specs.declared.Parts.{Parts}
use Rattle.fillings.specs.Ranges.{num, flag, Fair}
use Rattle.fillings.specs.Foremost.{Keyable, FirstAt}
use Rattle.arith.specs.Within.{Within}
use Rattle.arith.proofs.Parts.{within-abs, within-sub}
use Rattle.greedy.specs.declared.Columns.{Columns}
use Rattle.greedy.specs.declared.Ends.{Ends}
use Rattle.greedy.specs.Fill.{at, weight_of}
use Rattle.greedy.specs.Sized.{Sized, SizedEnds}
use Rattle.ceiling.specs.Frames.{Altered}
use Rattle.ceiling.specs.Least.{Placed}
use Rattle.ceiling.specs.Pieces.{Listing, Flags, size_by, span_by, span_of, Pieces}
use Rattle.ceiling.proofs.Bounded.{sum-last}

pub listing_step : (f : ℕ → ℕ) (m v : ℕ) {s : ℕ} {xs : List ℕ} → m < 16 → v ≡ f m → Listing m f s xs → Listing (m + 1) f s (set xs m v)
listing_step f m v {s} {xs} l e h = record {
  long = length-set xs m v ∙ h.long;
  items = λ k i. item k i (ℕ_discrete k m);
  none = λ k i j. get_or-set_other xs m k v 0 (ne k i) ∙ h.none k (omega arith) j;
  last = get_or-set_other xs m 16 v 0 (ne' 16 l) ∙ h.last;
}
  where
    ne : (k : ℕ) → m + 1 ≤ k → k ≡ m → ⊥
    ne k i e = omega arith

    ne' : (k : ℕ) → m < k → k ≡ m → ⊥
    ne' k i e = omega arith

    item : (k : ℕ) → k < m + 1 → Dec (k ≡ m) → num (set xs m v) k ≡ f k
    item k i (yes d) = rw d (get_or-set_same xs m v 0 (omega (arith, h.long)) ∙ e)
    item k i (no d) = get_or-set_other xs m k v 0 d ∙ h.items k (omega arith)

-- ---- lists of tests

pub flags-step : (f : ℕ → Bool) (m : ℕ) (v : Bool) {xs : List Bool} → m < 16 → v ≡ f m → Flags m f xs → Flags (m + 1) f (set xs m v)
flags-step f m v {xs} l e h = record { long = length-set xs m v ∙ h.long; items = λ k i. item k i (ℕ_discrete k m) }
  where
    item : (k : ℕ) → k < m + 1 → Dec (k ≡ m) → flag (set xs m v) k ≡ f k
    item k i (yes d) = rw d (get_or-set_same xs m v false (omega (arith, h.long)) ∙ e)
    item k i (no d) = get_or-set_other xs m k v false d ∙ h.items k (omega arith)

-- ---- what is asked of the pieces

module _ {m s : ℕ} {f : ℕ → ℕ} {xs : List ℕ} (h : Listing m f s xs) where
  pub listing-below : (b : ℕ) → ((k : ℕ) → k < m → f k ≤ b) → s ≤ b → (j : ℕ) → j < 17 → num xs j ≤ b
  listing-below b each slack j l = go (ℕ_discrete j 16) (dec_lt j m)
    where
      go : Dec (j ≡ 16) → Dec (j < m) → num xs j ≤ b
      go (yes e) d = rw e (omega (arith, h.last))
      go (no e) (yes d) = omega (arith, h.items j d, each j d)
      go (no e) (no d) = omega (arith, h.none j (omega arith) (omega arith))

  -- all but the slack
  pub listing-items : (b : ℕ) → ((k : ℕ) → k < m → f k ≤ b) → (j : ℕ) → j < 16 → num xs j ≤ b
  listing-items b each j l = go (dec_lt j m)
    where
      go : Dec (j < m) → num xs j ≤ b
      go (yes d) = omega (arith, h.items j d, each j d)
      go (no d) = omega (arith, h.none j (omega arith) l)

size_small : (b : Bool) (a : ℤ) → Within 1000 a → size_by b a ≤ 1000
size_small true a h = omega arith
size_small false a h = within-abs a h

span_small : (b : Bool) (E : ℕ) (l u : ℤ) → E ≤ 1000 → Within 300000000 l → Within 300000000 u → span_by b E l u ≤ 600000000000
span_small true E l u h wl wu = omega (arith, mul-le-mul h (within-abs (u -ℤ l) (within-sub wu wl)))
span_small false E l u h wl wu = omega (arith, within-abs (u -ℤ l) (within-sub wu wl))

module _ {p q : ℕ} {c : Columns} {e : Ends} {E cut room m : ℕ} {ps : Parts} (h : Pieces p q c e E cut room m ps) (z : Sized c e) where
  pub pieces-fair : E ≤ 1000 → room ≤ 4800100000000 → Fair ps
  pieces-fair small r = record {
    long = h.weights.long;
    light = omega (arith, sum-last (length ps.weight) 16 (num ps.weight) h.weights.long, h.weights.last, sum-most 16 1000 (num ps.weight) light);
    ranges_in = λ k l. omega (arith, listing-below h.ranges 4800100000000 (λ j i. far j) r k l);
  }
    where
      light : (k : ℕ) → k < 16 → num ps.weight k ≤ 1000
      light k l = listing-items h.weights 1000 (λ j i. size_small (eqb j cut) (weight_of c j) (z.columns.weights-in j)) k l

      far : (j : ℕ) → span_of e E cut j ≤ 4800100000000
      far j = omega (arith, span_small (eqb j cut) E (at e.lo j) (at e.hi j) small (z.ends.lo-in j) (z.ends.hi-in j))

-- a narrow item cut has few pieces
span-narrow : (b : Bool) (E : ℕ) (l u : ℤ) → Within 300000000 l → Within 300000000 u → (b ≡ true → E * nat_abs (u -ℤ l) ≤ 900000000) → span_by b E l u ≤ 900000000
span-narrow true E l u wl wu h = h refl
span-narrow false E l u wl wu h = omega (arith, within-abs (u -ℤ l) (within-sub wu wl))

module _ {p q : ℕ} {c : Columns} {e : Ends} {E cut room m : ℕ} {ps : Parts} (h : Pieces p q c e E cut room m ps) (z : SizedEnds e) (narrow : cut < m →
    E * nat_abs (at e.hi cut -ℤ at e.lo cut) ≤ 900000000) where
  pub pieces-narrow : (j : ℕ) → j < 16 → num ps.range j ≤ 900000000
  pieces-narrow j l = listing-items h.ranges 900000000 few j l
    where
      few : (k : ℕ) → k < m → span_of e E cut k ≤ 900000000
      few k i = span-narrow (eqb k cut) E (at e.lo k) (at e.hi k) (z.lo-in k) (z.hi-in k) (λ b. let q = eqb-true k cut b in
          subst (λ n. E * nat_abs (at e.hi n -ℤ at e.lo n) ≤ 900000000) (sym q) (narrow (subst (λ n. n < m) q i)))

  pub pieces-few : {C r : ℕ} {a : List ℕ} → FirstAt ps C r a → (j : ℕ) → j < 16 → num a j ≤ 900000000
  pieces-few f j l = omega (arith, f.shown j l, f.within j (omega (arith, h.weights.long)), pieces-narrow j l)

  pub pieces-keyable : (cap : ℕ) → cap ≤ 10000000000 → Keyable ps cap
  pieces-keyable cap small j l = omega (arith, mul-le-mul small (up (num ps.range j) (pieces-narrow j l)))
    where
      up : (n : ℕ) → n ≤ 900000000 → suc n ≤ 900000001
      up n h = omega arith

-- ---- lists of ends

pub altered-step : (f : ℕ → ℤ) (m : ℕ) (v : ℤ) {old xs : List ℤ} → m < 16 → v ≡ f m → Altered m f old xs → Altered (m + 1) f old (set xs m v)
altered-step f m v {old} {xs} l e h = record {
  long = length-set xs m v ∙ h.long;
  first = λ k i. item k i (ℕ_discrete k m);
  rest = λ k i. get_or-set_other xs m k v (pos 0) (ne k i) ∙ h.rest k (omega arith);
}
  where
    ne : (k : ℕ) → m + 1 ≤ k → k ≡ m → ⊥
    ne k i e = omega arith

    item : (k : ℕ) → k < m + 1 → Dec (k ≡ m) → at (set xs m v) k ≡ f k
    item k i (yes d) = rw d (get_or-set_same xs m v (pos 0) (omega (arith, h.long)) ∙ e)
    item k i (no d) = get_or-set_other xs m k v (pos 0) d ∙ h.first k (omega arith)

pub altered-within : {n b : ℕ} {f : ℕ → ℤ} {old xs : List ℤ} → Altered n f old xs → ((k : ℕ) → k < n → Within b (f k)) → ((k : ℕ) → Within b (at old k)) →
    (k : ℕ) → Within b (at xs k)
altered-within {n} {b} {f} {old} {xs} h new same k = go (dec_lt k n)
  where
    go : Dec (k < n) → Within b (at xs k)
    go (yes l) = rw (h.first k l) (new k l)
    go (no l) = rw (h.rest k (omega arith)) (same k)

-- ---- lists of amounts

pub placed-step : (f : ℕ → ℤ) (m : ℕ) (v : ℤ) {xs : List ℤ} → m < 16 → v ≡ f m → Placed m f xs → Placed (m + 1) f (set xs m v)
placed-step f m v {xs} l e h = record { long = length-set xs m v ∙ h.long; each = λ k i. item k i (ℕ_discrete k m) }
  where
    item : (k : ℕ) → k < m + 1 → Dec (k ≡ m) → at (set xs m v) k ≡ f k
    item k i (yes d) = rw d (get_or-set_same xs m v (pos 0) (omega (arith, h.long)) ∙ e)
    item k i (no d) = get_or-set_other xs m k v (pos 0) d ∙ h.each k (omega arith)
