-- Laws of places, words and line ends (specs/Places.antt).
-- pair-same, found-same: pairs, and pairs in an option, have the same parts if they are the same.
-- word_more, word-not, word-done: after_word, a byte of the word at a time.
-- end-here, end_later, end_none: first_end, a byte of the text at a time; end-within: where it stands.
-- end-split: first_end, some bytes of the text at a time.
-- end-first, end-nowhere (end theorems): what first_end means.
-- ends-before, ends-past, ends-none: how many bytes 10 there are before a place, by the first one.
-- closed-last, closed-more, closed_none: closed_line, a line at a time; closed-within, asked-within: where it stands.
use mathlib.Core.Path.{◌≡◌, refl, sym, ap, ◌∙◌}
use mathlib.Core.Bool.{Bool, true, false, cond}
use mathlib.Core.List.{List, [], ◌∷◌, ◌++◌}
use Prim.Native.Nat.{ℕ, zero, suc, ◌+◌, ◌-◌, ◌≤◌, ◌<◌}
use native.Mathlib.Omega.{arith}
use native.Mathlib.Decide.{dec_lt}
use borrow.Author.Tests.{eq-eqb, ne_eqb}
use lib.Dec.{eqb, ltb}
use lib.ListN.{length-drop, take-append-drop, length, take, drop, get_or, drop_of_length-le}
use lib.Seq.{drop-cons, drop-drop, length-take-le}
use Rattle.lines.specs.Places.{after_byte, after_word, on_place, first_end, ends, closed_line, Asked, too_long, closed_or, asked_line}
use Rattle.knapsack.specs.declared.Refusal.{Refusal}
use Rattle.std.specs.Prelude.{Option, None, Some, Ok, Err}

-- two pairs have the same parts if they are the same
pub pair-same : {A B : Type 0} {a c : A} {b d : B} → ◌≡◌ {A = A × B} (a, b) (c, d) → (a ≡ c) × (b ≡ d)
pair-same h = (ap (λ p. p.0) h, ap (λ p. p.1) h)

pub found-same : {A B : Type 0} {a c : A} {b d : B} → ◌≡◌ {A = Option (A × B)} (Some (a, b)) (Some (c, d)) → (a ≡ c) × (b ≡ d)
found-same {A} {B} {a} {c} {b} {d} h = let p : ◌≡◌ {A = A × B} (a, b) (c, d) = cc in pair-same p

-- at a place of the text every default gives its byte
pub default : (s : List ℕ) (i d e : ℕ) → i < length s → get_or s i d ≡ get_or s i e
default [] i d e h = absurd (omega arith)
default (b ∷ s) zero d e h = refl
default (b ∷ s) (suc i) d e h = default s i d e (omega arith)

pub word_more : (s w : List ℕ) (at i next : ℕ) → i < length w → after_byte s at (get_or w i 0) ≡ Some next →
    after_word s at (drop i w) ≡ after_word s next (drop (suc i) w)
unfolding after_word
word_more s w at i next h e = rw (drop-cons w i 0 h, e)

pub word-not : (s w : List ℕ) (at i : ℕ) → i < length w → after_byte s at (get_or w i 0) ≡ None → after_word s at (drop i w) ≡ None
unfolding after_word
word-not s w at i h e = rw (drop-cons w i 0 h, e)

pub word-done : (s w : List ℕ) (at i : ℕ) → length w ≤ i → after_word s at (drop i w) ≡ Some at
unfolding after_word
word-done s w at i h = rw (drop_of_length-le w h)

pub end-here : (s : List ℕ) (at : ℕ) → at < length s → get_or s at 0 ≡ 10 → first_end at (drop at s) ≡ Some at
unfolding first_end
end-here s at h e = rw (drop-cons s at 0 h, eq-eqb _ _ e)

pub end_later : (s : List ℕ) (at : ℕ) → at < length s → (get_or s at 0 ≡ 10 → ⊥) → first_end at (drop at s) ≡ first_end (suc at) (drop (suc at) s)
unfolding first_end
end_later s at h ne = rw (drop-cons s at 0 h, ne_eqb _ _ ne)

pub end_none : (s : List ℕ) (at : ℕ) → length s ≤ at → first_end at (drop at s) ≡ None
unfolding first_end
end_none s at h = rw (drop_of_length-le s h)

end-append : (l r : List ℕ) (at : ℕ) → first_end at (l ++ r) ≡ on_place (first_end at l) (first_end (at + length l) r) (λ e. Some e)
unfolding first_end
end-append [] r at = let n : at + 0 ≡ at = omega arith in rw n
end-append (b ∷ l) r at = go (eqb b 10) (end-append l r (suc at))
  where
    go : (t : Bool) → first_end (suc at) (l ++ r) ≡ on_place (first_end (suc at) l) (first_end (suc at + length l) r) (λ e. Some e) →
        cond t (Some at) (first_end (suc at) (l ++ r)) ≡ on_place (cond t (Some at) (first_end (suc at) l)) (first_end (at + suc (length l)) r) (λ e. Some e)
    go true ih = refl
    go false ih = let n : at + suc (length l) ≡ suc at + length l = omega arith in rw n ih

-- in the k bytes from the place on, or else behind them
pub end-split : (s : List ℕ) (at k : ℕ) → at + k ≤ length s →
    first_end at (drop at s) ≡ on_place (first_end at (take k (drop at s))) (first_end (at + k) (drop (at + k) s)) (λ e. Some e)
end-split s at k h =
    let n : length (take k (drop at s)) ≡ k = length-take-le k (drop at s) (simp length-drop (omega arith)) in
    ap (first_end at) (sym (take-append-drop k (drop at s))) ∙ end-append (take k (drop at s)) (drop k (drop at s)) at ∙ rw (n, drop-drop k at s)

-- no place is a place
pub nowhere : {A : Type 0} {n : ℕ} → None ≡ Some n → A
nowhere h = absurd (let z : ◌≡◌ {A = ℕ} 0 1 = cc in omega arith)

at_same : {m n : ℕ} → Some m ≡ Some n → m ≡ n
at_same h = cc

end_of : (at : ℕ) (l : List ℕ) (e : ℕ) → first_end at l ≡ Some e → (at ≤ e) × (e < at + length l)
unfolding first_end
end_of at [] e h = nowhere h
end_of at (b ∷ l) e h = go (eqb b 10) (end_of (suc at) l e) h
  where
    go : (t : Bool) → (first_end (suc at) l ≡ Some e → (suc at ≤ e) × (e < suc at + length l)) → cond t (Some at) (first_end (suc at) l) ≡ Some e →
        (at ≤ e) × (e < at + suc (length l))
    go true ih g = omega (arith, at_same g)
    go false ih g = omega (arith, ih g)

pub end-within : (s : List ℕ) (at e : ℕ) → first_end at (drop at s) ≡ Some e → (at ≤ e) × (e < length s)
end-within s at e h = let p = end_of at (drop at s) e h in let q : length (drop at s) ≡ length s - at = length-drop at s in omega arith

-- ---- End theorems: what first_end means, the place of a byte 10 with none before it, and nothing where there is none

pub end-first : (s : List ℕ) (at e : ℕ) → at ≤ e → e < length s → get_or s e 0 ≡ 10 → ((k : ℕ) → at ≤ k → k < e → get_or s k 0 ≡ 10 → ⊥) →
    first_end at (drop at s) ≡ Some e
end-first s at e h l b f = go (e - at) at refl h f
  where
    go : (n at : ℕ) → e - at ≡ n → at ≤ e → ((k : ℕ) → at ≤ k → k < e → get_or s k 0 ≡ 10 → ⊥) → first_end at (drop at s) ≡ Some e
    go zero at q h f = let d : at ≡ e = omega arith in rw d (end-here s e l b)
    go (suc n) at q h f =
        end_later s at (omega arith) (f at (omega arith) (omega arith)) ∙ go n (suc at) (omega arith) (omega arith) (λ k m. f k (omega arith))

pub end-nowhere : (s : List ℕ) (at : ℕ) → ((k : ℕ) → at ≤ k → k < length s → get_or s k 0 ≡ 10 → ⊥) → first_end at (drop at s) ≡ None
end-nowhere s at f = go (length s - at) at refl f
  where
    go : (n at : ℕ) → length s - at ≡ n → ((k : ℕ) → at ≤ k → k < length s → get_or s k 0 ≡ 10 → ⊥) → first_end at (drop at s) ≡ None
    go zero at q f = end_none s at (omega arith)
    go (suc n) at q f = end_later s at (omega arith) (f at (omega arith) (omega arith)) ∙ go n (suc at) (omega arith) (λ k m. f k (omega arith))

-- ---- the bytes 10 of l, whose first byte is at the place `at`, before the place k

past : (at k : ℕ) (l : List ℕ) (e : ℕ) → first_end at l ≡ Some e → e < k → ends (take (k - at) l) ≡ suc (ends (take (k - suc e) (drop (suc e - at) l)))
unfolding first_end ends
past at k [] e h m = nowhere h
past at k (b ∷ l) e h m = go (eqb b 10) refl h (λ g. past (suc at) k l e g m)
  where
    go : (t : Bool) → eqb b 10 ≡ t → cond t (Some at) (first_end (suc at) l) ≡ Some e →
        (first_end (suc at) l ≡ Some e → ends (take (k - suc at) l) ≡ suc (ends (take (k - suc e) (drop (suc e - suc at) l)))) →
        ends (take (k - at) (b ∷ l)) ≡ suc (ends (take (k - suc e) (drop (suc e - at) (b ∷ l))))
    go true f g ih =
        let q : k - at ≡ suc (k - suc e) = omega (arith, at_same g) in
        let r : suc e - at ≡ 1 = omega (arith, at_same g) in
        rw (q, r, f)
    go false f g ih =
        let o = end_of (suc at) l e g in
        let q : k - at ≡ suc (k - suc at) = omega arith in
        let r : suc e - at ≡ suc (suc e - suc at) = omega arith in
        rw (q, r, f) (ih g)

before : (at k : ℕ) (l : List ℕ) (e : ℕ) → first_end at l ≡ Some e → k ≤ e → ends (take (k - at) l) ≡ 0
unfolding first_end ends
before at k [] e h m = nowhere h
before at k (b ∷ l) e h m = go (eqb b 10) refl h (dec_lt at k) (λ g. before (suc at) k l e g m)
  where
    go : (t : Bool) → eqb b 10 ≡ t → cond t (Some at) (first_end (suc at) l) ≡ Some e → Dec (at < k) →
        (first_end (suc at) l ≡ Some e → ends (take (k - suc at) l) ≡ 0) → ends (take (k - at) (b ∷ l)) ≡ 0
    go t f g (no n) ih = let q : k - at ≡ 0 = omega arith in rw q
    go true f g (yes n) ih = absurd (omega (arith, at_same g))
    go false f g (yes n) ih = let q : k - at ≡ suc (k - suc at) = omega arith in rw (q, f) (ih g)

never : (at k : ℕ) (l : List ℕ) → first_end at l ≡ None → ends (take k l) ≡ 0
unfolding first_end ends
never at zero [] h = refl
never at (suc k) [] h = refl
never at zero (b ∷ l) h = refl
never at (suc k) (b ∷ l) h = go (eqb b 10) refl h (never (suc at) k l)
  where
    go : (t : Bool) → eqb b 10 ≡ t → cond t (Some at) (first_end (suc at) l) ≡ None → (first_end (suc at) l ≡ None → ends (take k l) ≡ 0) →
        ends (take (suc k) (b ∷ l)) ≡ 0
    go true f g ih = nowhere (sym g)
    go false f g ih = rw f (ih g)

-- how many there are from a place on and before the place k
abbrev pub ends_from : List ℕ → ℕ → ℕ → ℕ
ends_from s from k = ends (take (k - from) (drop from s))

pub ends-past : (s : List ℕ) (from k e : ℕ) → first_end from (drop from s) ≡ Some e → e < k → ends_from s from k ≡ suc (ends_from s (suc e) k)
ends-past s from k e h m =
    let o = end-within s from e h in
    let q : from + (suc e - from) ≡ suc e = omega arith in
    past from k (drop from s) e h m ∙ rw (drop-drop, q)

pub ends-before : (s : List ℕ) (from k e : ℕ) → first_end from (drop from s) ≡ Some e → k ≤ e → ends_from s from k ≡ 0
ends-before s from k e h m = before from k (drop from s) e h m

pub ends-none : (s : List ℕ) (from k : ℕ) → first_end from (drop from s) ≡ None → ends_from s from k ≡ 0
ends-none s from k h = never from (k - from) (drop from s) h

-- ---- lines that the text closes

pub closed_none : (n : ℕ) (s : List ℕ) (at : ℕ) → first_end at (drop at s) ≡ None → closed_line n s at ≡ None
unfolding closed_line
closed_none zero s at h = rw h
closed_none (suc n) s at h = rw h

pub closed-last : (s : List ℕ) (at e : ℕ) → first_end at (drop at s) ≡ Some e → closed_line 0 s at ≡ Some (at, e)
unfolding closed_line
closed-last s at e h = rw h

pub closed-more : (n : ℕ) (s : List ℕ) (at e : ℕ) → first_end at (drop at s) ≡ Some e → closed_line (suc n) s at ≡ closed_line n s (suc e)
unfolding closed_line
closed-more n s at e h = rw h

-- where the line stands
pub closed-within : (n : ℕ) (s : List ℕ) (at a e : ℕ) → closed_line n s at ≡ Some (a, e) → (a ≤ e) × (e < length s)
closed-within n s at a e h = split n at h
  where
    none : ◌≡◌ {A = Option (ℕ × ℕ)} None (Some (a, e)) → (a ≤ e) × (e < length s)
    none h = absurd (let z : ◌≡◌ {A = ℕ} 0 1 = cc in omega arith)

    first : (at : ℕ) (p : Option ℕ) → first_end at (drop at s) ≡ p → closed_line 0 s at ≡ Some (a, e) → (a ≤ e) × (e < length s)
    first at None q h = none (sym (closed_none 0 s at q) ∙ h)
    first at (Some f) q h =
        let o = end-within s at f q in
        let r = found-same (sym (closed-last s at f q) ∙ h) in
        omega (arith, r.0, r.1)

    later : (n at : ℕ) (p : Option ℕ) → first_end at (drop at s) ≡ p → ((at : ℕ) → closed_line n s at ≡ Some (a, e) → (a ≤ e) × (e < length s)) →
        closed_line (suc n) s at ≡ Some (a, e) → (a ≤ e) × (e < length s)
    later n at None q ih h = none (sym (closed_none (suc n) s at q) ∙ h)
    later n at (Some f) q ih h = ih (suc f) (sym (closed-more n s at f q) ∙ h)

    split : (n at : ℕ) → closed_line n s at ≡ Some (a, e) → (a ≤ e) × (e < length s)
    split zero at h = first at (first_end at (drop at s)) refl h
    split (suc n) at h = later n at (first_end at (drop at s)) refl (split n) h

pub asked-within : (s : List ℕ) (n a e : ℕ) → asked_line s n ≡ Ok (a, e) → (a ≤ e) × (e < length s)
asked-within s n a e h = go (ltb 4096 (length s)) (eqb n 0) (closed_line (n - 1) s 0) refl h
  where
    none : {r : Refusal} → ◌≡◌ {A = Asked} (Err r) (Ok (a, e)) → (a ≤ e) × (e < length s)
    none h = absurd (let z : ◌≡◌ {A = ℕ} 0 1 = cc in omega arith)

    go : (t u : Bool) (x : Option (ℕ × ℕ)) → closed_line (n - 1) s 0 ≡ x → cond t too_long (cond u too_long (closed_or n x)) ≡ Ok (a, e) → (a ≤ e) × (e < length s)
    go true u x q h = none h
    go false true x q h = none h
    go false false None q h = none h
    go false false (Some (b, f)) q h =
        let p : ◌≡◌ {A = ℕ × ℕ} (b, f) (a, e) = cc in
        closed-within (n - 1) s 0 a e (q ∙ ap (λ (x : ℕ × ℕ). Some x) p)
