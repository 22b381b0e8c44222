-- What a line that was read is made of (specs/Lines.antt): each law takes a reading apart.
-- place-some, field-some: a result that is not the fault's came by a place, by a number.
-- field-parts, numbers-parts, heading-parts, item-parts: the parts of a field and of a line of each kind.
-- field-range, numbers-range, heading-range: a number that is in lies in its range.
-- count-parts: so does a count. bound-shape: a bound's field is `none` or a number. bound-parts: the line of a bound has the item number that is due.
-- need-parts: the line of a need has its two numbers, and is not refused.
use mathlib.Core.Path.{◌≡◌, refl, ap, ◌∙◌}
use mathlib.Core.Bool.{Bool, true, false, cond}
use mathlib.Core.List.{List}
use Prim.Native.Nat.{ℕ, ◌≤◌}
use native.Mathlib.Omega.{arith}
use lib.Dec.{leb→le}
use lib.IntN.{ℤ, pos, negsuc, nat_abs}
use lib.Signed.{◌≤ℤ◌}
use Rattle.lines.specs.declared.number.Range.{Range}
use Rattle.std.specs.Prelude.{Option, None, Some, Ok, Err}
use Rattle.knapsack.specs.declared.Mark.{Mark}
use Rattle.model.specs.declared.ModelItem.{ModelItem}
use Rattle.model.specs.declared.Need.{Need}
use Rattle.model.specs.Records.{is_reversed, bad_line}
use Rattle.model.specs.declared.refusals.Reason.{Reason}
use Rattle.model.specs.declared.refusals.Reason.TheVariants as refusal
use Rattle.lines.specs.Places.{after_byte, after_word, on_place}
use Rattle.lines.specs.Faults.{Read, fault_at}
use Rattle.lines.specs.Numbers.{Numeral, none, numeral, number_at, from_to, only, ranged, in_range, closed_by, field_at}
use Rattle.lines.specs.Lines.{on_field, heading_line, numbers_line, behind, figures_line, mark_at, weights, with_figures, marked, item_line, item_of}
use Rattle.lines.specs.Lines.{item_read, count_of}
use Rattle.lines.specs.Lines.{count_at, figured, bound_field, bound_of, bound_read, prices, need_of, need_read}
use Rattle.lines.specs.Layout.{absent_word}
use Rattle.lines.proofs.Places.{pair-same}
use Rattle.lines.proofs.Faults.{refused-read, read-same}
use Rattle.lines.proofs.Numerals.{ranged-in}

pub place-some : {A : Type 0} (p : Option ℕ) (a : A) (f : ℕ → A) (r : A) → (a ≡ r → ⊥) → on_place p a f ≡ r → (n : ℕ) × (p ≡ Some n) × (f n ≡ r)
place-some None a f r ne h = absurd (ne h)
place-some (Some n) a f r ne h = (n, refl, h)

pub field-some : {A : Type 0} (x : Read (Option ℤ)) (a : Reason → A) (f : Option ℤ → ℕ → A) (r : A) → ((k : Reason) → a k ≡ r → ⊥) → on_field x a f ≡ r →
    (g : Option ℤ) × (n : ℕ) × (x ≡ Ok (g, n)) × (f g n ≡ r)
field-some (Err k) a f r ne h = absurd (ne k h)
field-some (Ok (g, n)) a f r ne h = (g, n, refl, h)

-- ---- a number that a byte closes

pub record FieldParts (b : ℕ) (r : Range) (s : List ℕ) (at : ℕ) (f : Option ℤ) (end : ℕ) : Type 0 where
  pub value : ℤ
  pub close : ℕ
  pub number : number_at s at ≡ numeral value close
  pub figured : ranged r value ≡ f
  pub closed : after_byte s close b ≡ Some end

pub field-parts : (b : ℕ) (r : Range) (s : List ℕ) (at : ℕ) (f : Option ℤ) (end : ℕ) → field_at b r s at ≡ Ok (f, end) → FieldParts b r s at f end
unfolding field_at
field-parts b r s at f end h = go (number_at s at) refl h
  where
    go : (x : Numeral) → number_at s at ≡ x → closed_by b s at (in_range r x) ≡ Ok (f, end) → FieldParts b r s at f end
    go none e h = absurd (refused-read _ h)
    go (numeral z n) e h =
        let p = place-some (after_byte s n b) (Err (fault_at refusal.Number s n)) (λ m. Ok (ranged r z, m)) (Ok (f, end)) (refused-read _) h in
        let q = read-same p.2 in
        record { value = z; close = n; number = e; figured = q.0; closed = p.1 ∙ ap Some q.1 }

pub field-range : (b : ℕ) (r : Range) (s : List ℕ) (at : ℕ) (z : ℤ) (end : ℕ) → field_at b r s at ≡ Ok (Some z, end) → (r.lo ≤ℤ z) × (z ≤ℤ r.hi)
field-range b r s at z end h = let p = field-parts b r s at (Some z) end h in (ranged-in r p.value z p.figured).1

-- ---- lines

pub record NumbersParts (r q : Range) (s : List ℕ) (at : ℕ) (x y : Option ℤ) (end : ℕ) : Type 0 where
  pub next : ℕ
  pub first : field_at 32 r s at ≡ Ok (x, next)
  pub second : field_at 10 q s next ≡ Ok (y, end)

pub numbers-parts : (r q : Range) (s : List ℕ) (at : ℕ) (x y : Option ℤ) (end : ℕ) → numbers_line r q s at ≡ Ok ((x, y), end) → NumbersParts r q s at x y end
unfolding numbers_line
numbers-parts r q s at x y end h =
    let w : Reason → Read (Option ℤ × Option ℤ) = λ k. Err k in
    let a = field-some (field_at 32 r s at) w (λ x n. on_field (field_at 10 q s n) w (λ y m. Ok ((x, y), m))) (Ok ((x, y), end)) refused-read h in
    let b = field-some (field_at 10 q s a.1) w (λ y m. Ok ((a.0, y), m)) (Ok ((x, y), end)) refused-read a.3 in
    let e = read-same b.3 in
    let f = pair-same e.0 in
    record { next = a.1; first = rw f.0 at a.2; second = rw (f.1, e.1) at b.2 }

pub numbers-range : (r q : Range) (s : List ℕ) (at : ℕ) (x y : ℤ) (end : ℕ) → numbers_line r q s at ≡ Ok ((Some x, Some y), end) →
    ((r.lo ≤ℤ x) × (x ≤ℤ r.hi)) × ((q.lo ≤ℤ y) × (y ≤ℤ q.hi))
numbers-range r q s at x y end h =
    let p = numbers-parts r q s at (Some x) (Some y) end h in
    (field-range 32 r s at x p.next p.first, field-range 10 q s p.next y end p.second)

pub record HeadingParts (w : List ℕ) (r : Range) (s : List ℕ) (at : ℕ) (f : Option ℤ) (end : ℕ) : Type 0 where
  pub blank : ℕ
  pub next : ℕ
  pub word : after_word s at w ≡ Some blank
  pub space : after_byte s blank 32 ≡ Some next
  pub count : field_at 10 r s next ≡ Ok (f, end)

pub heading-parts : (w : List ℕ) (r : Range) (s : List ℕ) (at : ℕ) (f : Option ℤ) (end : ℕ) → heading_line w r s at ≡ Ok (f, end) →
    HeadingParts w r s at f end
unfolding heading_line
heading-parts w r s at f end h =
    let wrong : ℕ → Read (Option ℤ) = λ n. Err (fault_at refusal.HeadingWord s n) in
    let a = place-some (after_word s at w) (wrong at) (λ n. on_place (after_byte s n 32) (wrong n) (λ m. field_at 10 r s m)) (Ok (f, end)) (refused-read _) h in
    let b = place-some (after_byte s a.0 32) (wrong a.0) (λ m. field_at 10 r s m) (Ok (f, end)) (refused-read _) a.2 in
    record { blank = a.0; next = b.0; word = a.1; space = b.1; count = b.2 }

pub heading-range : (w : List ℕ) (r : Range) (s : List ℕ) (at : ℕ) (z : ℤ) (end : ℕ) → heading_line w r s at ≡ Ok (Some z, end) →
    (r.lo ≤ℤ z) × (z ≤ℤ r.hi)
heading-range w r s at z end h = let p = heading-parts w r s at (Some z) end h in field-range 10 r s p.next z end p.count

pub record FiguresParts (s : List ℕ) (at : ℕ) (x y z : Option ℤ) (end : ℕ) : Type 0 where
  pub next : ℕ
  pub first : field_at 32 weights s at ≡ Ok (x, next)
  pub others : numbers_line weights prices s next ≡ Ok ((y, z), end)

figures-parts : (s : List ℕ) (at : ℕ) (x y z : Option ℤ) (end : ℕ) → figures_line s at ≡ Ok ((x, y, z), end) → FiguresParts s at x y z end
unfolding figures_line
figures-parts s at x y z end h =
    let w : Reason → Read (Option ℤ × Option ℤ × Option ℤ) = λ k. Err k in
    let a = field-some (field_at 32 weights s at) w (λ x n. behind x (numbers_line weights prices s n)) (Ok ((x, y, z), end)) refused-read h in
    go a.0 a.1 a.2 (numbers_line weights prices s a.1) refl a.3
  where
    go : (g : Option ℤ) (n : ℕ) → field_at 32 weights s at ≡ Ok (g, n) → (p : Read (Option ℤ × Option ℤ)) → numbers_line weights prices s n ≡ p → behind g p ≡ Ok ((x, y, z), end) →
        FiguresParts s at x y z end
    go g n e (Err k) f h = absurd (refused-read k h)
    go g n e (Ok ((u, v), m)) f h =
        let q = read-same h in
        let a : g ≡ x = ap (λ p. p.0) q.0 in
        let b : u ≡ y = ap (λ p. p.1) q.0 in
        let c : v ≡ z = ap (λ p. p.2) q.0 in
        record { next = n; first = rw a at e; others = f ∙ rw (b, c, q.1) }

pub record ItemParts (s : List ℕ) (at : ℕ) (i : ModelItem) (end : ℕ) : Type 0 where
  pub next : ℕ
  pub mark : mark_at s at ≡ Some (i.mark, next)
  pub figures : FiguresParts s next (Some i.low) (Some i.high) (Some i.price) end
  pub fair : is_reversed i ≡ false
  pub lower : i.lower ≡ None
  pub upper : i.upper ≡ None

pub item-parts : (s : List ℕ) (at : ℕ) (i : ModelItem) (end : ℕ) → item_read s at ≡ Ok (i, end) → ItemParts s at i end
unfolding item_read item_line
item-parts s at i end h = go (mark_at s at) refl h
  where
    fault : {n : Reason} → ◌≡◌ {A = Read ModelItem} (Err n) (Ok (i, end)) → ItemParts s at i end
    fault h = absurd (refused-read _ h)

    tried : (j : ModelItem) (n k : ℕ) → mark_at s at ≡ Some (j.mark, n) → figures_line s n ≡ Ok ((Some j.low, Some j.high, Some j.price), k) →
        j.lower ≡ None → j.upper ≡ None → (t : Bool) → is_reversed j ≡ t → cond {A = Read ModelItem} t (Err refusal.WeightRange) (Ok (j, k)) ≡ Ok (i, end) →
        ItemParts s at i end
    tried j n k e f lower upper true r h = fault h
    tried j n k e f lower upper false r h =
        let q = read-same h in
        let u = q.0 in
        let v = q.1 in
        record {
          next = n;
          mark = rw u at e;
          figures = figures-parts s n _ _ _ end (rw (u, v) at f);
          fair = rw u at r;
          lower = rw u at lower;
          upper = rw u at upper;
        }

    parts : (m : Mark) (n : ℕ) → mark_at s at ≡ Some (m, n) → (x : Read (Option ℤ × Option ℤ × Option ℤ)) → figures_line s n ≡ x → item_of (with_figures m x) ≡ Ok (i, end) →
        ItemParts s at i end
    parts m n e (Err k) f h = fault h
    parts m n e (Ok ((None, b, c), k)) f h = fault h
    parts m n e (Ok ((Some a, None, c), k)) f h = fault h
    parts m n e (Ok ((Some a, Some b, None), k)) f h = fault h
    parts m n e (Ok ((Some a, Some b, Some c), k)) f h =
        let j : ModelItem = record { mark = m; low = a; high = b; price = c; lower = None; upper = None } in
        tried j n k e f refl refl (is_reversed j) refl h

    go : (x : Option (Mark × ℕ)) → mark_at s at ≡ x → item_of (marked s x) ≡ Ok (i, end) → ItemParts s at i end
    go None e h = fault h
    go (Some (m, n)) e h = parts m n e (figures_line s n) refl h

-- ---- counts and item numbers

between : (a b : ℕ) (z : ℤ) → pos a ≤ℤ z → z ≤ℤ pos b → (z ≡ pos (nat_abs z)) × ((a ≤ nat_abs z) × (nat_abs z ≤ b))
between a b (pos n) h k = (refl, (leb→le a n h.le, leb→le n b k.le))
between a b (negsuc n) h k = absurd h.le

pub record CountParts (w : List ℕ) (a b : ℕ) (s : List ℕ) (at m end : ℕ) : Type 0 where
  pub heading : heading_line w (from_to a b) s at ≡ Ok (Some (pos m), end)
  pub least : a ≤ m
  pub most : m ≤ b

pub count-parts : (w : List ℕ) (a b : ℕ) (s : List ℕ) (at m end : ℕ) → count_at w (from_to a b) s at ≡ Ok (m, end) → CountParts w a b s at m end
unfolding count_at
count-parts w a b s at m end h = go (heading_line w (from_to a b) s at) refl h
  where
    fault : {n : Reason} → ◌≡◌ {A = Read ℕ} (Err n) (Ok (m, end)) → CountParts w a b s at m end
    fault h = absurd (refused-read _ h)

    go : (x : Read (Option ℤ)) → heading_line w (from_to a b) s at ≡ x → count_of x ≡ Ok (m, end) → CountParts w a b s at m end
    go (Err k) e h = fault h
    go (Ok (None, n)) e h = fault h
    go (Ok (Some z, n)) e h =
        let p = read-same h in
        let u = p.0 in
        let v = p.1 in
        let q = heading-range w (from_to a b) s at z n e in
        let k = between a b z q.0 q.1 in
        record { heading = e ∙ rw (k.0, u, v); least = omega (arith, u, k.1.0); most = omega (arith, u, k.1.1) }

-- a bound by its word or its number
abbrev pub BoundShape : List ℕ → ℕ → ℕ → Option ℤ → Type 0
BoundShape s at end None = (n : ℕ) × (after_word s at absent_word ≡ Some n) × (after_byte s n 10 ≡ Some end)
BoundShape s at end (Some v) = field_at 10 prices s at ≡ Ok (Some v, end)

pub bound-shape : (s : List ℕ) (at : ℕ) (b : Option ℤ) (end : ℕ) → bound_field s at ≡ Ok (Some b, end) → BoundShape s at end b
unfolding bound_field
bound-shape s at b end h = go (after_word s at absent_word) refl h
  where
    wrong : {B : Type 0} {k : Reason} → ◌≡◌ {A = Read (Option (Option ℤ))} (Err k) (Ok (Some b, end)) → B
    wrong h = absurd (refused-read _ h)

    number : (x : Read (Option ℤ)) → field_at 10 prices s at ≡ x → figured x ≡ Ok (Some b, end) → BoundShape s at end b
    number (Err k) e h = wrong h
    number (Ok (None, n)) e h =
        let p = (read-same h).0 in
        absurd (let z : ◌≡◌ {A = ℕ} 0 1 = cc in omega arith)
    number (Ok (Some v, n)) e h =
        let p = read-same h in
        let q = p.0 in
        let u : Some v ≡ b = cc in
        rw (← u) (e ∙ rw p.1)

    closed : (n : ℕ) → after_word s at absent_word ≡ Some n → (p : Option ℕ) → after_byte s n 10 ≡ p →
        on_place {A = Read (Option (Option ℤ))} p (Err (fault_at refusal.Number s n)) (λ m. Ok (Some None, m)) ≡ Ok (Some b, end) → BoundShape s at end b
    closed n e None f h = wrong h
    closed n e (Some m) f h =
        let p = read-same h in
        let q = p.0 in
        let u : None ≡ b = cc in
        rw (← u) (n, e, f ∙ ap Some p.1)

    go : (p : Option ℕ) → after_word s at absent_word ≡ p →
        on_place p (figured (field_at 10 prices s at)) (λ n. on_place {A = Read (Option (Option ℤ))} (after_byte s n 10) (Err (fault_at refusal.Number s n)) (λ m. Ok (Some None, m)))
        ≡ Ok (Some b, end) →
        BoundShape s at end b
    go None e h = number (field_at 10 prices s at) refl h
    go (Some n) e h = closed n e (after_byte s n 10) refl h

-- another item number than the one that is due
pub out-of-turn : (b : Option (Option ℤ)) (n : ℕ) → bound_of (Ok (b, n)) None ≡ Err refusal.ItemNumber
out-of-turn None n = refl
out-of-turn (Some b) n = refl

pub record BoundParts (k : ℕ) (s : List ℕ) (at : ℕ) (b : Option ℤ) (end : ℕ) : Type 0 where
  pub next : ℕ
  pub number : field_at 32 (only k) s at ≡ Ok (Some (pos k), next)
  pub bound : bound_field s next ≡ Ok (Some b, end)

pub bound-parts : (k : ℕ) (s : List ℕ) (at : ℕ) (b : Option ℤ) (end : ℕ) → bound_read k s at ≡ Ok (b, end) → BoundParts k s at b end
unfolding bound_read
bound-parts k s at b end h = go (field_at 32 (only k) s at) refl h
  where
    fault : {n : Reason} → ◌≡◌ {A = Read (Option ℤ)} (Err n) (Ok (b, end)) → BoundParts k s at b end
    fault h = absurd (refused-read _ h)

    last : (x : Option ℤ) (n : ℕ) → field_at 32 (only k) s at ≡ Ok (x, n) → (y : Read (Option (Option ℤ))) → bound_field s n ≡ y → bound_of y x ≡ Ok (b, end) →
        BoundParts k s at b end
    last x n e (Err j) f h = fault h
    last None n e (Ok (None, m)) f h = fault h
    last (Some z) n e (Ok (None, m)) f h = fault h
    last None n e (Ok (Some c, m)) f h = fault h
    last (Some z) n e (Ok (Some c, m)) f h =
        let p = read-same h in
        let q = field-range 32 (only k) s at z n e in
        let o = between _ _ z q.0 q.1 in
        let w : nat_abs z ≡ k = omega (arith, o.1.0, o.1.1) in
        record { next = n; number = e ∙ rw (o.0, w); bound = f ∙ rw (p.0, p.1) }

    go : (x : Read (Option ℤ)) → field_at 32 (only k) s at ≡ x → on_field x (λ e. Err e) (λ x n. bound_of (bound_field s n) x) ≡ Ok (b, end) →
        BoundParts k s at b end
    go (Err n) e h = fault h
    go (Ok (x, n)) e h = last x n e (bound_field s n) refl h

-- ---- needs

pub record NeedParts (n : ℕ) (a : Need) (s : List ℕ) (at : ℕ) (b : Need) (end : ℕ) : Type 0 where
  pub numbers : numbers_line (from_to 1 n) (from_to 1 n) s at ≡ Ok ((Some (pos b.item), Some (pos b.cover)), end)
  pub fair : bad_line n a b ≡ false

pub need-parts : (n : ℕ) (a : Need) (s : List ℕ) (at : ℕ) (b : Need) (end : ℕ) → need_read n a s at ≡ Ok (b, end) → NeedParts n a s at b end
unfolding need_read
need-parts n a s at b end h = go (numbers_line (from_to 1 n) (from_to 1 n) s at) refl h
  where
    fault : {k : Reason} → ◌≡◌ {A = Read Need} (Err k) (Ok (b, end)) → NeedParts n a s at b end
    fault h = absurd (refused-read _ h)

    -- a number of the range has no sign
    plain : (x y : ℤ) (k : ℕ) → numbers_line (from_to 1 n) (from_to 1 n) s at ≡ Ok ((Some x, Some y), k) → (x ≡ pos (nat_abs x)) × (y ≡ pos (nat_abs y))
    plain x y k e =
        let p = numbers-range (from_to 1 n) (from_to 1 n) s at x y k e in
        ((between 1 n x p.0.0 p.0.1).0, (between 1 n y p.1.0 p.1.1).0)

    tried : (x y : ℤ) (k : ℕ) → numbers_line (from_to 1 n) (from_to 1 n) s at ≡ Ok ((Some x, Some y), k) → (t : Bool) →
        bad_line n a (record { item = nat_abs x; cover = nat_abs y }) ≡ t →
        cond {A = Read Need} t (Err refusal.ItemNumber) (Ok (record { item = nat_abs x; cover = nat_abs y }, k)) ≡ Ok (b, end) → NeedParts n a s at b end
    tried x y k e true f h = fault h
    tried x y k e false f h =
        let q = read-same h in
        let u = q.0 in
        let v = q.1 in
        let w = plain x y k e in
        let i = w.0 ∙ ap (λ (z : Need). pos z.item) u in
        let c = w.1 ∙ ap (λ (z : Need). pos z.cover) u in
        record { numbers = e ∙ rw (i, c, v); fair = rw u at f }

    go : (p : Read (Option ℤ × Option ℤ)) → numbers_line (from_to 1 n) (from_to 1 n) s at ≡ p → need_of n a p ≡ Ok (b, end) → NeedParts n a s at b end
    go (Err k) e h = fault h
    go (Ok ((None, y), k)) e h = fault h
    go (Ok ((Some x, None), k)) e h = fault h
    go (Ok ((Some x, Some y), k)) e h = tried x y k e (bad_line n a (record { item = nat_abs x; cover = nat_abs y })) refl h
