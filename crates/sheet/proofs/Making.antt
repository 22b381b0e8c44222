-- What the lines of each section make of the record: the same invariant for a sheet that was read and for one that is read back.
-- upto-length, upto-cong, upto-inj, texts-cong: lists of places.
--   Limited, ItemsIn, BoundsIn, NeedsIn    what holds while a section's lines are read; limit-next, items-next, bounds-next, needs-next: with one line more
-- bounds-number: the item number is the number of lines.
--   Kept side i j                  j has all of i but the bound of one side
-- items-fit, bounds-fit, needs-fit: the lines of a record in range fit, one after the other.
--   as_record x                     the verdict of a record for what a line gave
-- End theorem: need-as-record: a line of two item numbers is refused as it is in the record that has it.
use mathlib.Core.Path.{◌≡◌, refl, sym, ap, ap₂, ◌∙◌}
use mathlib.Core.Bool.{Bool, true, false, cond}
use mathlib.Core.List.{List, [], ◌∷◌, ◌++◌}
use Prim.Native.Nat.{ℕ, zero, suc, ◌≤◌, ◌<◌}
use native.Mathlib.Omega.{arith}
use native.Mathlib.Decide.{dec_lt, ℕ_discrete}
use lib.IntN.{ℤ, pos}
use lib.ListN.{length, get_or, set, replicate, length-set, length-replicate, get_or-replicate, get_or-eq_default}
use lib.Seq.{get_or-set_same, get_or-set_other}
use Rattle.arith.specs.Sum.{Each}
use Rattle.std.specs.Prelude.{Option, None, Some, Err}
use Rattle.knapsack.specs.Verdicts.{Verdict}
use Rattle.std.specs.Prelude.{Ok}
use Rattle.model.specs.declared.Blanks.{Blanks}
use Rattle.model.specs.declared.Model.{Model}
use Rattle.model.specs.declared.ModelItem.{ModelItem}
use Rattle.model.specs.declared.Need.{Need}
use Rattle.model.specs.declared.Needs.{Needs}
use Rattle.model.specs.declared.Side.{Side}
use Rattle.model.specs.declared.Side.TheVariants.{Lower, Upper}
use Rattle.model.specs.Needs.{no_need, no_needs}
use Rattle.model.specs.Records.{no_item, empty_model, item_at, need_at, outside, bad_bound, bad_line, unfit_line, line_before, refuse, refused_for, or_else, need_verdict}
use Rattle.model.specs.declared.refusals.Reason.TheVariants as refusal
use Rattle.model.specs.Setters.{with_capacity, with_item, bounded, with_bound, with_need}
use Rattle.model.proofs.NeedLines.{before-next}
use Rattle.model.proofs.Records.{held_all}
use Rattle.lines.specs.Numbers.{from_to}
use Rattle.lines.specs.Lines.{numbers_line, need_read}
use Rattle.lines.specs.Layout.{Bounding, bounding}
use Rattle.sheet.specs.declared.Progress.{Progress}
use Rattle.sheet.specs.Sections.{goes_on, lines_text}
use Rattle.sheet.specs.Reading.{need_gives, need_form}
use Rattle.sheet.specs.Printing.{up_to, side_of, bound_at, bounding_at}
use Rattle.sheet.proofs.Sections.{Fitting}
use Rattle.sheet.proofs.Forms.{LimitFits, Bare, BoundFits, NeedFits}
use Rattle.lines.specs.Faults.{Read}

-- ---- lists of places

pub upto-length : {A : Type 0} (n : ℕ) (f : ℕ → A) → length (up_to n f) ≡ n
unfolding up_to
upto-length zero f = refl
upto-length (suc n) f = ap suc (upto-length n f)

pub upto-cong : {A : Type 0} (n : ℕ) (f g : ℕ → A) → Each n (λ k. f k ≡ g k) → up_to n f ≡ up_to n g
unfolding up_to
upto-cong zero f g h = refl
upto-cong (suc n) f g h = ap₂ ◌∷◌ (h n (omega arith)) (upto-cong n f g (λ k l. h k (omega arith)))

pub upto-inj : {A : Type 0} (n : ℕ) (f g : ℕ → A) → up_to n f ≡ up_to n g → Each n (λ k. f k ≡ g k)
unfolding up_to
upto-inj zero f g h k l = absurd (omega arith)
upto-inj (suc n) f g h k l = go (ℕ_discrete k n) (upto-inj n f g (cc))
  where
    go : Dec (k ≡ n) → Each n (λ k. f k ≡ g k) → f k ≡ g k
    go (yes e) ih = rw e (cc)
    go (no e) ih = ih k (omega arith)

-- lines with equal texts
pub texts-cong : {A : Type 0} (t : A → List ℕ) (n : ℕ) (f g : ℕ → A) → Each n (λ k. t (f k) ≡ t (g k)) → lines_text t (up_to n f) ≡ lines_text t (up_to n g)
unfolding up_to lines_text
texts-cong t zero f g h = refl
texts-cong t (suc n) f g h = ap₂ ◌++◌ (texts-cong t n f g (λ k l. h k (omega arith))) (h n (omega arith))

-- ---- the limit

abbrev pub limited : List ℤ → Model
limited [] = empty_model
limited (b ∷ bs) = with_capacity (limited bs) b

-- every limit that was read is in range, and the last one is the record's
pub record Limited (m : ℕ) (vs : List ℤ) (p : Progress) : Type 0 where
  pub is : p.model ≡ limited vs
  pub fair : (b : ℤ) (bs : List ℤ) → vs ≡ b ∷ bs → outside 100000000 b ≡ false

pub limit-next : (m : ℕ) (vs : List ℤ) (p : Progress) (b : ℤ) (n : ℕ) → length vs < m → Limited m vs p → LimitFits p b →
    Limited m (b ∷ vs) (goes_on (with_capacity p.model b) n 0)
limit-next m vs p b n l i f = record { is = ap (λ q. with_capacity q b) i.is; fair = λ c cs e. let u : b ≡ c = cc in rw u at f }

-- ---- items

pub blanks : (k : ℕ) → get_or (replicate 16 no_item) k no_item ≡ no_item
blanks k = go (dec_lt k 16)
  where
    go : Dec (k < 16) → get_or (replicate 16 no_item) k no_item ≡ no_item
    go (yes l) = get_or-replicate 16 k no_item no_item l
    go (no l) = get_or-eq_default (replicate 16 no_item) no_item {n = k} (omega (arith, length-replicate 16 no_item))

pub record ItemsIn (kind : Blanks) (b : ℤ) (m : ℕ) (vs : List ModelItem) (p : Progress) : Type 0 where
  pub listed : up_to p.item (item_at p.model) ≡ vs
  pub bare : Each p.item (λ k. Bare kind (item_at p.model k))
  pub rest : (k : ℕ) → p.item ≤ k → item_at p.model k ≡ no_item
  pub places : length p.model.items ≡ 16
  pub count : p.model.count ≡ m
  pub few : m ≤ 16
  pub capacity : p.model.capacity ≡ b
  pub needs : p.model.needs ≡ no_needs

pub items-next : (kind : Blanks) (b : ℤ) (m : ℕ) (vs : List ModelItem) (p : Progress) (i : ModelItem) (n : ℕ) → length vs < m → ItemsIn kind b m vs p → Bare kind i →
    ItemsIn kind b m (i ∷ vs) (goes_on (with_item p.model p.item i) n (suc p.item))
unfolding up_to
items-next kind b m vs p i n l g f = record {
  listed = ap₂ ◌∷◌ (here j<16) (upto-cong j new (item_at p.model) (λ k h. old k (omega arith)) ∙ g.listed);
  bare = λ k h. either k h (ℕ_discrete k j);
  rest = λ k h. old k (omega arith) ∙ g.rest k (omega arith);
  places = simp length-set g.places;
  count = g.count;
  few = g.few;
  capacity = g.capacity;
  needs = g.needs;
}
  where
    j : ℕ
    j = p.item

    new : ℕ → ModelItem
    new k = get_or (set p.model.items j i) k no_item

    j<16 : j < 16
    j<16 = omega (arith, sym (upto-length j (item_at p.model)) ∙ ap length g.listed, g.few)

    here : j < 16 → new j ≡ i
    here h = get_or-set_same p.model.items j i no_item (omega (arith, g.places))

    old : (k : ℕ) → (k ≡ j → ⊥) → new k ≡ item_at p.model k
    old k ne = get_or-set_other p.model.items j k i no_item ne

    either : (k : ℕ) → k < suc j → Dec (k ≡ j) → Bare kind (new k)
    either k h (yes e) = rw (e, here j<16) f
    either k h (no e) = rw (old k e) (g.bare k (omega arith))

pub items-fit : (kind : Blanks) (b : ℤ) (m n : ℕ) (f : ℕ → ModelItem) → Each n (λ k. Bare kind (f k)) → Fitting (ItemsIn kind b m) (λ p i. Bare kind i) (up_to n f)
unfolding up_to
items-fit kind b m zero f h = tt
items-fit kind b m (suc n) f h = ((λ p i. h n (omega arith)), items-fit kind b m n f (λ k l. h k (omega arith)))

-- ---- bounds

abbrev opposite : Side → Side
opposite Lower = Upper
opposite Upper = Lower

pub record Kept (side : Side) (i j : ModelItem) : Type 0 where
  pub mark : j.mark ≡ i.mark
  pub low : j.low ≡ i.low
  pub high : j.high ≡ i.high
  pub price : j.price ≡ i.price
  pub other : side_of (opposite side) j ≡ side_of (opposite side) i

pub kept_same : (side : Side) (i : ModelItem) → Kept side i i
kept_same side i = record { mark = refl; low = refl; high = refl; price = refl; other = refl }

kept-bounded : (side : Side) (b : Option ℤ) (i j : ModelItem) → Kept side i j → Kept side i (bounded side b j)
kept-bounded Lower b i j h = record { mark = h.mark; low = h.low; high = h.high; price = h.price; other = h.other }
kept-bounded Upper b i j h = record { mark = h.mark; low = h.low; high = h.high; price = h.price; other = h.other }

bounded-side : (side : Side) (b : Option ℤ) (i : ModelItem) → side_of side (bounded side b i) ≡ b
bounded-side Lower b i = refl
bounded-side Upper b i = refl

-- over the record o, which has no such bounds
pub record BoundsIn (side : Side) (o : Model) (m : ℕ) (vs : List Bounding) (p : Progress) : Type 0 where
  pub listed : up_to p.item (bounding_at side p.model) ≡ vs
  pub rest : (k : ℕ) → p.item ≤ k → bound_at side p.model k ≡ None
  pub fair : (k : ℕ) → bad_bound (bound_at side p.model k) ≡ false
  pub all : m ≡ o.count
  pub few : o.count ≤ 16
  pub places : length p.model.items ≡ 16
  pub count : p.model.count ≡ o.count
  pub capacity : p.model.capacity ≡ o.capacity
  pub needs : p.model.needs ≡ o.needs
  pub same : (k : ℕ) → Kept side (item_at o k) (item_at p.model k)

-- as many lines as items so far
pub bounds-number : (side : Side) (o : Model) (m : ℕ) (vs : List Bounding) (p : Progress) → BoundsIn side o m vs p → p.item ≡ length vs
bounds-number side o m vs p g = sym (upto-length p.item (bounding_at side p.model)) ∙ ap length g.listed

module _ (side : Side) (o : Model) (m : ℕ) (vs : List Bounding) (p : Progress) (b : Bounding) (l : length vs < m) (g : BoundsIn side o m vs p)
    (f : BoundFits p b) where
  after : Model
  after = with_bound p.model side p.item b.bound

  place<16 : p.item < 16
  place<16 = omega (arith, bounds-number side o m vs p g, l, g.all, g.few)

  here : item_at after p.item ≡ bounded side b.bound (item_at p.model p.item)
  unfolding after
  here = get_or-set_same p.model.items p.item _ no_item (omega (arith, place<16, g.places))

  old : (k : ℕ) → (k ≡ p.item → ⊥) → item_at after k ≡ item_at p.model k
  unfolding after
  old k ne = get_or-set_other p.model.items p.item k _ no_item ne

  there : bound_at side after p.item ≡ b.bound
  there = ap (side_of side) here ∙ bounded-side side b.bound (item_at p.model p.item)

  elsewhere : (k : ℕ) → (k ≡ p.item → ⊥) → bound_at side after k ≡ bound_at side p.model k
  elsewhere k ne = ap (side_of side) (old k ne)

  lines : up_to (suc p.item) (bounding_at side after) ≡ b ∷ vs
  unfolding up_to
  lines =
      let e : bounding_at side after p.item ≡ b = ap₂ bounding (sym f.due) there in
      let r = upto-cong p.item (bounding_at side after) (bounding_at side p.model) (λ k l. ap (bounding (suc k)) (elsewhere k (omega arith))) in
      ap₂ ◌∷◌ e (r ∙ g.listed)

  fairs : (k : ℕ) → Dec (k ≡ p.item) → bad_bound (bound_at side after k) ≡ false
  fairs k (yes e) = rw (e, there) f.fair
  fairs k (no e) = rw (elsewhere k e) (g.fair k)

  keeps : (k : ℕ) → Dec (k ≡ p.item) → Kept side (item_at o k) (item_at after k)
  keeps k (yes e) = rw (e, here) (kept-bounded side b.bound (item_at o p.item) (item_at p.model p.item) (g.same p.item))
  keeps k (no e) = rw (old k e) (g.same k)

  one_more : (n : ℕ) → BoundsIn side o m (b ∷ vs) (goes_on after n (suc p.item))
  unfolding after
  one_more n = record {
    listed = lines;
    rest = λ k h. elsewhere k (omega arith) ∙ g.rest k (omega arith);
    fair = λ k. fairs k (ℕ_discrete k p.item);
    all = g.all;
    few = g.few;
    places = simp length-set g.places;
    count = g.count;
    capacity = g.capacity;
    needs = g.needs;
    same = λ k. keeps k (ℕ_discrete k p.item);
  }

pub bounds-next : (side : Side) (o : Model) (m : ℕ) (vs : List Bounding) (p : Progress) (b : Bounding) (n : ℕ) → length vs < m →
    BoundsIn side o m vs p → BoundFits p b → BoundsIn side o m (b ∷ vs) (goes_on (with_bound p.model side p.item b.bound) n (suc p.item))
unfolding after
bounds-next side o m vs p b n l g f = one_more side o m vs p b l g f n

pub bounds-fit : (side : Side) (o : Model) (m n : ℕ) (q : Model) → Each n (λ k. bad_bound (bound_at side q k) ≡ false) →
    Fitting (BoundsIn side o m) BoundFits (up_to n (bounding_at side q))
unfolding up_to
bounds-fit side o m zero q h = tt
bounds-fit side o m (suc n) q h = (
  (λ p i. record {
    due = ap suc (sym (bounds-number side o m (up_to n (bounding_at side q)) p i ∙ upto-length n (bounding_at side q)));
    fair = h n (omega arith);
  }),
  bounds-fit side o m n q (λ k l. h k (omega arith)),
)

-- ---- needs

-- a line of needs that is not refused, over the items of o
abbrev pub FairLine : Model → Needs → ℕ → Type 0
FairLine o ns j = (bad_line o.count (line_before ns j) (need_at ns j) ≡ false) × (unfit_line (item_at o) (need_at ns j) ≡ false)

-- over the record o, whose items stay
pub record NeedsIn (o : Model) (m : ℕ) (vs : List Need) (p : Progress) : Type 0 where
  pub listed : up_to p.item (need_at p.model.needs) ≡ vs
  pub fair : Each p.item (FairLine o p.model.needs)
  pub rest : (j : ℕ) → p.item ≤ j → need_at p.model.needs j ≡ no_need
  pub lines : length p.model.needs.lines ≡ 16
  pub number : p.model.needs.count ≡ m
  pub few : m ≤ 16
  pub items : p.model.items ≡ o.items
  pub count : p.model.count ≡ o.count
  pub capacity : p.model.capacity ≡ o.capacity

-- as many lines as were read
pub needs-number : (o : Model) (m : ℕ) (vs : List Need) (p : Progress) → NeedsIn o m vs p → p.item ≡ length vs
needs-number o m vs p g = sym (upto-length p.item (need_at p.model.needs)) ∙ ap length g.listed

-- the line before is told by the lines before
before-cong : (ns os : Needs) (j : ℕ) → Each j (λ i. need_at ns i ≡ need_at os i) → line_before ns j ≡ line_before os j
before-cong ns os zero h = refl
before-cong ns os (suc j) h = before-next ns j ∙ h j (omega arith) ∙ sym (before-next os j)

pub needs-next : (o : Model) (m : ℕ) (vs : List Need) (p : Progress) (b : Need) (n : ℕ) → length vs < m → NeedsIn o m vs p → NeedFits p b →
    NeedsIn o m (b ∷ vs) (goes_on (with_need p.model p.item b) n (suc p.item))
unfolding up_to
needs-next o m vs p b n l g f = record {
  listed = ap₂ ◌∷◌ here (upto-cong j (need_at after) (need_at ns) (λ k h. old k (omega arith)) ∙ g.listed);
  fair = λ k h. either k h (ℕ_discrete k j);
  rest = λ k h. old k (omega arith) ∙ g.rest k (omega arith);
  lines = simp length-set g.lines;
  number = g.number;
  few = g.few;
  items = g.items;
  count = g.count;
  capacity = g.capacity;
}
  where
    j : ℕ
    j = p.item

    ns : Needs
    ns = p.model.needs

    after : Needs
    after = record { lines = set ns.lines j b; count = ns.count }

    here : need_at after j ≡ b
    here = get_or-set_same ns.lines j b no_need (omega (arith, needs-number o m vs p g, g.lines, g.few))

    old : (k : ℕ) → (k ≡ j → ⊥) → need_at after k ≡ need_at ns k
    old k ne = get_or-set_other ns.lines j k b no_need ne

    same : (k : ℕ) → k ≤ j → line_before after k ≡ line_before ns k
    same k h = before-cong after ns k (λ i u. old i (omega arith))

    either : (k : ℕ) → k < suc j → Dec (k ≡ j) → FairLine o after k
    either k h (yes e) = rw (e, same j (omega arith), here, ← g.count) (f.fair, rw (← g.items) f.fit)
    either k h (no e) = rw (same k (omega arith), old k e) (g.fair k (omega arith))

pub needs-fit : (o : Model) (m n : ℕ) (ns : Needs) → Each n (FairLine o ns) → Fitting (NeedsIn o m) NeedFits (up_to n (need_at ns))
unfolding up_to
needs-fit o m zero ns h = tt
needs-fit o m (suc n) ns h = (
  (λ p i. fits p i (h n (omega arith))),
  needs-fit o m n ns (λ k l. h k (omega arith)),
)
  where
    fits : (p : Progress) → NeedsIn o m (up_to n (need_at ns)) p → FairLine o ns n → NeedFits p (need_at ns n)
    fits p i q =
        let k : p.item ≡ n = needs-number o m (up_to n (need_at ns)) p i ∙ upto-length n (need_at ns) in
        let e = upto-inj n (need_at p.model.needs) (need_at ns) (rw k at i.listed) in
        record {
          fair = rw (k, i.count, before-cong p.model.needs ns n e) q.0;
          fit = rw i.items q.1;
        }

-- ---- a line of two item numbers is refused as it is in the record that has it: 5, then 14

abbrev pub as_record : {A : Type 0} → Read A → Verdict
as_record (Err k) = refuse k
as_record (Ok (a, n)) = Ok tt

pub need-as-record : (s : List ℕ) (p : Progress) (b : Need) (next : ℕ) → p.item < 16 → p.model.count ≤ 16 → length p.model.needs.lines ≡ 16 →
    let n = p.model.count in numbers_line (from_to 1 n) (from_to 1 n) s p.at ≡ Ok ((Some (pos b.item), Some (pos b.cover)), next) →
    as_record (need_form.read s p) ≡ need_verdict (with_need p.model p.item b) p.item
unfolding need_read
need-as-record s p b next l few size e =
    let m = p.model in
    let j = p.item in
    let o = (with_need m j b).needs in
    let here : need_at o j ≡ b = get_or-set_same m.needs.lines j b no_need (omega (arith, size)) in
    let same = before-cong o m.needs j (λ i u. get_or-set_other m.needs.lines j i b no_need (omega arith)) in
    rw (e, here, same, held_all m.count few) (bad (bad_line m.count (line_before m.needs j) b))
  where
    unfitted : (u : Bool) → as_record {A = Need} (cond {A = Read Need} u (Err refusal.NamedItem) (Ok (b, next))) ≡ refused_for u refusal.NamedItem
    unfitted true = refl
    unfitted false = refl

    bad : (t : Bool) → let f = item_at p.model in
        as_record (need_gives f (cond {A = Read Need} t (Err refusal.ItemNumber) (Ok (b, next))))
        ≡ or_else (refused_for t refusal.ItemNumber) (refused_for (unfit_line f b) refusal.NamedItem)
    bad true = refl
    bad false = unfitted (unfit_line (item_at p.model) b)
