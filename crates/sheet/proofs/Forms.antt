-- The sheet's four forms of line keep the laws of a form: limit-laws, item-laws, bound-laws, need-laws.
--   LimitFits, Bare, BoundFits, NeedFits    what a line's value must be where it is read; of an item also by what becomes of blank ones
-- barred-bare: whether an item is barred is told by its line. bare-same: a bare item is what its line gives.
-- fair-of, bare_of_lem, fair-side: an item in range is bare without its bounds, which are in range.
use mathlib.Core.Path.{◌≡◌, refl, sym, ap, ◌∙◌}
use mathlib.Core.Bool.{Bool, true, false, cond}
use mathlib.Core.List.{List, [], ◌∷◌, append_assoc}
use Prim.Native.Nat.{ℕ, suc}
use native.Mathlib.Omega.{arith}
use borrow.Author.Tests.{le-ltb}
use lib.Dec.{lit<, leb→le}
use lib.IntN.{ℤ, pos, negsuc}
use lib.Signed.{◌≤ℤ◌}
use Rattle.std.specs.Prelude.{Option, None, Some, Ok, Err}
use Rattle.model.specs.declared.Blanks.{Blanks}
use Rattle.model.specs.declared.Blanks.TheVariants as blanks
use Rattle.model.specs.declared.ModelItem.{ModelItem}
use Rattle.model.specs.declared.Need.{Need}
use Rattle.model.specs.declared.Side.{Side}
use Rattle.model.specs.declared.Side.TheVariants.{Lower, Upper}
use Rattle.model.specs.Records.{item_at, outside, bad_bound, bad_weights, bad_figure, is_reversed, barred, bad_line, unfit_line, line_before}
use Rattle.model.specs.declared.refusals.Reason.{Reason}
use Rattle.model.specs.declared.refusals.Reason.TheVariants as refusal
use Rattle.model.proofs.Tests.{neither}
use Rattle.text.specs.Decimal.{integer}
use Rattle.lines.specs.Numbers.{field_at}
use Rattle.lines.specs.Lines.{weights, prices, item_read, bound_field, bound_read, need_read}
use Rattle.lines.specs.Layout.{item_text, Bounding, bounding, bound_text, need_text}
use Rattle.lines.proofs.Faults.{refused-read, read-same}
use Rattle.lines.proofs.Shapes.{field-range, numbers-range, item-parts, bound-shape, bound-parts, need-parts}
use Rattle.lines.proofs.Standing.{Has, field-has, item-has, bound-has, need-has}
use Rattle.lines.proofs.Rereading.{ranged-within, field-reads, bare_of, item-reads, bound-reads, need-reads}
use Rattle.sheet.specs.declared.Progress.{Progress}
use Rattle.sheet.specs.Reading.{limits, limit_gives, limit_form, item_gives, item_form_by, bound_gives, bound_form, need_gives, need_form}
use Rattle.sheet.specs.Printing.{side_of}
use Rattle.sheet.proofs.Sections.{Laws}
use Rattle.lines.specs.Faults.{Read}

no_value : {A B : Type 0} {n : Reason} {m : ℕ} {a : A} → ◌≡◌ {A = Read A} (Err n) (Ok (a, m)) → B
no_value h = absurd (refused-read _ h)

within-range : (n : ℕ) (z : ℤ) → negsuc n ≤ℤ z → z ≤ℤ pos (suc n) → outside (suc n) z ≡ false
within-range n (pos k) h l = le-ltb (suc n) k (leb→le k (suc n) l.le)
within-range n (negsuc k) h l = le-ltb (suc n) (suc k) (omega (arith, leb→le k n h.le))

-- ---- the limit

abbrev pub LimitFits : Progress → ℤ → Type 0
LimitFits p b = outside 100000000 b ≡ false

pub limit-laws : Laws limit_form LimitFits
limit-laws = record {
  has = λ s p b n h. has s p b n (field_at 10 limits s p.at) refl h;
  reads = λ s p b l f h.
      let r = field-reads 10 limits s p.at b l refl (ranged-within 99999999 b f) (h ∙ append_assoc (integer b) (10 ∷ []) l) in
      (r.0, ap limit_gives r.1, r.2);
}
  where
    has : (s : List ℕ) (p : Progress) (b : ℤ) (n : ℕ) (x : Read (Option ℤ)) → field_at 10 limits s p.at ≡ x → limit_gives x ≡ Ok (b, n) →
        LimitFits p b × Has s p.at (limit_form.text b) n
    has s p b n (Err k) e h = no_value h
    has s p b n (Ok (None, k)) e h = no_value h
    has s p b n (Ok (Some c, k)) e h =
        let q = read-same h in
        let f : field_at 10 limits s p.at ≡ Ok (Some b, n) = e ∙ rw (q.0, q.1) in
        let r = field-range 10 limits s p.at b n f in
        (within-range 99999999 b r.0 r.1, field-has 10 limits s p.at b n (lit< tt) f)

-- ---- items

-- an item as it is read: figures in range, the weights in order, not barred, no bounds
pub record Bare (blanks : Blanks) (i : ModelItem) : Type 0 where
  pub low : outside 1000 i.low ≡ false
  pub high : outside 1000 i.high ≡ false
  pub price : outside 10000 i.price ≡ false
  pub ordered : is_reversed i ≡ false
  pub unbarred : barred blanks i ≡ false
  pub lower : i.lower ≡ None
  pub upper : i.upper ≡ None

pub barred-bare : (kind : Blanks) (i : ModelItem) → barred kind (bare_of i) ≡ barred kind i
barred-bare blanks.Refused i = refl
barred-bare blanks.Kept i = refl

pub bare-same : {kind : Blanks} (i : ModelItem) → Bare kind i → bare_of i ≡ i
bare-same i b =
    sym (let e : i ≡ record { mark = i.mark; low = i.low; high = i.high; price = i.price; lower = i.lower; upper = i.upper } = refl in
    e ∙ rw (b.lower, b.upper))

-- an item's figures one by one
pub record Fair (i : ModelItem) : Type 0 where
  pub low : outside 1000 i.low ≡ false
  pub high : outside 1000 i.high ≡ false
  pub price : outside 10000 i.price ≡ false
  pub lower : bad_bound i.lower ≡ false
  pub upper : bad_bound i.upper ≡ false

pub fair-of : (i : ModelItem) → bad_figure i ≡ false → Fair i
fair-of i h =
    let w = neither (bad_weights i) _ h in
    let a = neither (outside 1000 i.low) _ w.0 in
    let c = neither (outside 10000 i.price) _ w.1 in
    let b = neither (bad_bound i.lower) _ c.1 in
    record { low = a.0; high = a.1; price = c.0; lower = b.0; upper = b.1 }

pub bare_of_lem : (kind : Blanks) (i : ModelItem) → bad_figure i ≡ false → is_reversed i ≡ false → barred kind i ≡ false → Bare kind (bare_of i)
bare_of_lem kind i h o u =
    let f = fair-of i h in
    record { low = f.low; high = f.high; price = f.price; ordered = o; unbarred = barred-bare kind i ∙ u; lower = refl; upper = refl }

pub fair-side : (side : Side) (i : ModelItem) → bad_figure i ≡ false → bad_bound (side_of side i) ≡ false
fair-side Lower i h = (fair-of i h).lower
fair-side Upper i h = (fair-of i h).upper

item-bare : (kind : Blanks) (s : List ℕ) (at : ℕ) (i : ModelItem) (n : ℕ) → item_read s at ≡ Ok (i, n) → barred kind i ≡ false → Bare kind i
item-bare kind s at i n h u =
    let p = item-parts s at i n h in
    let f = p.figures in
    let a = field-range 32 weights s p.next i.low f.next f.first in
    let r = numbers-range weights prices s f.next i.high i.price n f.others in
    record {
      low = within-range 999 i.low a.0 a.1;
      high = within-range 999 i.high r.0.0 r.0.1;
      price = within-range 9999 i.price r.1.0 r.1.1;
      ordered = p.fair;
      unbarred = u;
      lower = p.lower;
      upper = p.upper;
    }

pub item-laws : (kind : Blanks) → Laws (item_form_by kind) (λ p i. Bare kind i)
item-laws kind = record {
  has = λ s p i n h. has s p i n (item_read s p.at) refl h;
  reads = λ s p i l f h.
      let r = item-reads s p.at i l f.low f.high f.price f.ordered h in
      (r.0, ap (item_gives kind) (r.1 ∙ ap (λ j. Ok (j, r.0)) (bare-same i f)) ∙ rw f.unbarred, r.2);
}
  where
    has : (s : List ℕ) (p : Progress) (i : ModelItem) (n : ℕ) (x : Read ModelItem) → item_read s p.at ≡ x → item_gives kind x ≡ Ok (i, n) →
        Bare kind i × Has s p.at (item_text i) n
    has s p i n (Err k) e h = no_value h
    has s p i n (Ok (j, k)) e h = go (barred kind j) refl h
      where
        go : (t : Bool) → barred kind j ≡ t → cond {A = Read ModelItem} t (Err refusal.BlankItem) (Ok (j, k)) ≡ Ok (i, n) → Bare kind i × Has s p.at (item_text i) n
        go true b h = no_value h
        go false b h =
            let q = read-same h in
            let f : item_read s p.at ≡ Ok (i, n) = e ∙ rw (q.0, q.1) in
            (item-bare kind s p.at i n f (rw q.0 at b), item-has s p.at i n f)

-- ---- bounds

-- the item number that is due, and a bound in range
pub record BoundFits (p : Progress) (b : Bounding) : Type 0 where
  pub due : b.number ≡ suc p.item
  pub fair : bad_bound b.bound ≡ false

bound-fair : (s : List ℕ) (at : ℕ) (b : Option ℤ) (n : ℕ) → bound_field s at ≡ Ok (Some b, n) → bad_bound b ≡ false
bound-fair s at None n h = refl
bound-fair s at (Some v) n h = let r = field-range 10 prices s at v n (bound-shape s at (Some v) n h) in within-range 9999 v r.0 r.1

pub bound-laws : (side : Side) → Laws (bound_form side) BoundFits
bound-laws side = record {
  has = λ s p b n h. has s p b n (bound_read (suc p.item) s p.at) refl h;
  reads = λ s p b l f h.
      let r = bound-reads s p.at b l f.fair h in
      let e = ap (λ k. bound_read k s p.at) (sym f.due) ∙ r.1 in
      (r.0, ap (bound_gives (suc p.item)) e ∙ ap (λ k. Ok (bounding k b.bound, r.0)) (sym f.due), r.2);
}
  where
    has : (s : List ℕ) (p : Progress) (b : Bounding) (n : ℕ) (x : Read (Option ℤ)) → bound_read (suc p.item) s p.at ≡ x →
        bound_gives (suc p.item) x ≡ Ok (b, n) → BoundFits p b × Has s p.at (bound_text b) n
    has s p b n (Err k) e h = no_value h
    has s p b n (Ok (c, k)) e h =
        let z = read-same h in
        let q = bound-parts (suc p.item) s p.at c k e in
        let f : BoundFits p (bounding (suc p.item) c) = record { due = refl; fair = bound-fair s q.next c k q.bound } in
        rw (← z.0, ← z.1) (f, bound-has (suc p.item) s p.at c k e)

-- ---- needs

-- two item numbers above the line before, of items that a need may name
pub record NeedFits (p : Progress) (b : Need) : Type 0 where
  pub fair : bad_line p.model.count (line_before p.model.needs p.item) b ≡ false
  pub fit : unfit_line (item_at p.model) b ≡ false

pub need-laws : Laws need_form NeedFits
need-laws = record {
  has = λ s p b n h. has s p b n (read_at s p) refl h;
  reads = λ s p b l f h.
      let r = need-reads p.model.count (line_before p.model.needs p.item) b s p.at l f.fair h in
      (r.0, ap (need_gives (item_at p.model)) r.1 ∙ rw f.fit, r.2);
}
  where
    read_at : List ℕ → Progress → Read Need
    read_at s p = need_read p.model.count (line_before p.model.needs p.item) s p.at

    fits : (s : List ℕ) (p : Progress) (b : Need) (n : ℕ) (c : Need) (k : ℕ) → read_at s p ≡ Ok (c, k) → (t : Bool) → unfit_line (item_at p.model) c ≡ t →
        cond {A = Read Need} t (Err refusal.NamedItem) (Ok (c, k)) ≡ Ok (b, n) → NeedFits p b × Has s p.at (need_text b) n
    fits s p b n c k e true f h = no_value h
    fits s p b n c k e false f h =
        let z = read-same h in
        let u = z.0 in
        let r : read_at s p ≡ Ok (b, n) = e ∙ rw (u, z.1) in
        let q = need-parts _ _ s p.at b n r in
        (record { fair = q.fair; fit = rw u at f }, need-has _ _ s p.at b n r)

    has : (s : List ℕ) (p : Progress) (b : Need) (n : ℕ) (x : Read Need) → read_at s p ≡ x → need_gives (item_at p.model) x ≡ Ok (b, n) →
        NeedFits p b × Has s p.at (need_text b) n
    has s p b n (Err k) e h = no_value h
    has s p b n (Ok (c, k)) e h = fits s p b n c k e (unfit_line (item_at p.model) c) refl h
