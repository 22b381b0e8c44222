-- Text in a lent buffer: a text is put piece by piece.
-- put-nothing: no text. put_byte: a store of one byte.
-- put-start: a text at the start of the buffer, where the bytes behind it stay. put-shown: the text read back from there.
-- shows: a text put at the start of a space of its own is a text by value.
-- puts: two texts, one behind the other, are put as one. roomier: with room for more.
use mathlib.Core.Path.{◌≡◌, sym, ap, ◌∙◌}
use mathlib.Core.List.{List, [], ◌∷◌, ◌++◌, append_assoc}
use Prim.Native.Nat.{ℕ, ◌+◌, ◌≤◌, ◌<◌}
use native.Mathlib.Nat.{add-zero, zero-add}
use native.Mathlib.Numerals.{add-one}
use native.Mathlib.Omega.{arith}
use lib.ListN.{length, take, drop, set, length-append, take-append-drop}
use lib.Seq.{take_at, take-append_seam, length-take-le, set_split, drop-append-add, drop-drop}
use Rattle.text.specs.Buffer.{put, Put, Shows}

pub put-nothing : (at : ℕ) (b : List ℕ) → put at [] b ≡ b
unfolding put
put-nothing at b = rw add-zero (take-append-drop at b)

pub put_byte : (at x : ℕ) (b : List ℕ) → at < length b → set b at x ≡ put at (x ∷ []) b
unfolding put
put_byte at x b h = rw add-one (set_split b at x h)

pub put-start : (text b : List ℕ) → put 0 text b ≡ text ++ drop (length text) b
unfolding put
put-start text b = rw zero-add

pub put-shown : (text b : List ℕ) → take (length text) (put 0 text b) ≡ text
put-shown text b = rw put-start (take-append_seam text (drop (length text) b))

pub shows : {m r : ℕ} {s a b : List ℕ} → r ≤ length b → Put m 0 s a b r → Shows s (record { bytes = b; len = r })
shows {m} {r} {s} {a} {b} h f =
    let e : r ≡ length s = omega (arith, f.next) in
    record { size = e; inside = h; counted = sym (length-take-le r b h); shown = rw (e, f.bytes) (put-shown s a) }

drop_past : (s b : List ℕ) (n m : ℕ) → length s ≡ n → drop (n + m) (s ++ b) ≡ drop m b
drop_past s b n m e = rw (sym e) (drop-append-add s b m)

-- the second text is put where the first ends
put-put : (at : ℕ) (s t b : List ℕ) → at ≤ length b → put (at + length s) t (put at s b) ≡ put at (s ++ t) b
unfolding put
put-put at s t b h =
    let p = take at b in
    let d = drop (at + length s) b in
    let e : length (p ++ s) ≡ at + length s = simp length-append (ap (λ n. n + length s) (length-take-le at b h)) in
    let f : at + length (s ++ t) ≡ at + length s + length t = simp length-append (omega arith) in
    rw (sym (append_assoc p s d), take_at (p ++ s) d (at + length s) e, drop_past (p ++ s) d (at + length s) (length t) e, drop-drop, f) (simp append_assoc)

pub roomier : {m n at r : ℕ} {s a b : List ℕ} → m ≤ n → Put m at s a b r → Put n at s a b r
roomier h f = record { short = omega (arith, f.short); next = f.next; bytes = f.bytes }

pub puts : {m n at r q : ℕ} {s t a b c : List ℕ} → at ≤ length a → Put m at s a b r → Put n r t b c q → Put (m + n) at (s ++ t) a c q
puts {m} {n} {at} {r} {q} {s} {t} {a} {b} {c} h f g =
    record {
      short = simp length-append (omega (arith, f.short, g.short));
      next = simp length-append (omega (arith, f.next, g.next));
      bytes = g.bytes ∙ rw (f.bytes, f.next) (put-put at s t a h);
    }
