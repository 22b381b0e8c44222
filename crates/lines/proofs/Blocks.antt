-- Laws of eight bytes as one number (specs/Blocks.antt).
-- match-hits: what hits_of computes are the hits. match-byte: of a byte, a test of all 256; match-more: no byte carries into the next.
-- lowest-here, lowest-later: the place of the lowest hit, a byte at a time.
-- block_more: block_of, a byte of the text at a time; block-lt: its bound.
-- hits-first: the lowest hit is that of the first byte 10, and there is no hit exactly if there is no byte 10.
-- end-hit, end-unhit: first_end, a block at a time.
use mathlib.Core.Path.{◌≡◌, refl, sym, ap, ap₂, ◌∙◌}
use mathlib.Core.Bool.{Bool, true, false, cond, ◌&&◌}
use mathlib.Core.List.{List}
use Prim.Native.Nat.{ℕ, zero, suc, ◌+◌, ◌*◌, ◌/◌, ◌%◌, ◌^◌, ◌≤◌, ◌<◌}
use native.Mathlib.Nat.{div-add-mod', mod-lt, zero-add, suc-add, suc-mul, mul-one}
use native.Mathlib.Omega.{arith}
use native.Mathlib.Decide.{dec_lt}
use borrow.Author.Tests.{eq-eqb, ne_eqb, eqb-true, eqb-false}
use lib.Arith.{digits_div, digits_mod}
use lib.Bits.{bit_and, bit_or, bit_xor, and_block, or_block, xor_block, and_le_r, or_lt, xor_lt, shifted_half, shifted_even}
use lib.Count.{count_trailing_zeros}
use lib.Dec.{T, eqb, eqb→eq, lit<}
use lib.ListN.{length, get_or, take, drop}
use lib.Pow.{shr_lt, pow-add}
use lib.Seq.{drop-cons}
use mir.Syntax.{w8}
use mir.Val.{Fits}
use Rattle.lines.specs.Places.{first_end}
use Rattle.lines.specs.Blocks.{block_of, hit, hits_in}
use Rattle.lines.proofs.Places.{end-split}
use Rattle.std.specs.Prelude.{Option, None, Some}

-- ---- the hits

-- what hits_of computes, by its three constants
abbrev pub matched : ℕ → ℕ → ℕ → ℕ → ℕ
matched w tens lows all = bit_xor (bit_or (bit_or (bit_and (bit_xor w tens) lows + lows) (bit_xor w tens)) lows) all

abbrev passes : (ℕ → Bool) → ℕ → Bool
passes f zero = true
passes f (suc n) = f n && passes f n

both : (a b : Bool) → T (a && b) → T a × T b
both true b t = (tt, t)
both false b t = absurd t

passed : (f : ℕ → Bool) (n : ℕ) → T (passes f n) → (i : ℕ) → i < n → T (f i)
passed f zero t i h = absurd (omega arith)
passed f (suc n) t i h = go (both (f n) (passes f n) t) (λ u. passed f n u i) (dec_lt i n)
  where
    go : T (f n) × T (passes f n) → (T (passes f n) → i < n → T (f i)) → Dec (i < n) → T (f i)
    go p ih (yes l) = ih p.1 l
    go p ih (no l) = let e : i ≡ n = omega arith in rw e p.0

match-byte : (b : ℕ) → b < 256 → matched b 10 127 255 ≡ hit b
match-byte b h = eqb→eq _ _ (passed (λ (n : ℕ). eqb (matched n 10 127 255) (hit n)) 256 tt b h)

match-more : (w b tens lows all : ℕ) → b < 256 →
    matched (w * 256 + b) (tens * 256 + 10) (lows * 256 + 127) (all * 256 + 255) ≡ matched w tens lows all * 256 + matched b 10 127 255
match-more w b tens lows all h =
    let x = bit_xor w tens in
    let y = bit_xor b 10 in
    let y< : y < 256 = xor_lt 8 b 10 h (lit< tt) in
    let xor : bit_xor (w * 256 + b) (tens * 256 + 10) ≡ x * 256 + y = xor_block 8 w tens b 10 h (lit< tt) in
    let p = bit_and x lows in
    let q = bit_and y 127 in
    let q≤ : q ≤ 127 = and_le_r y 127 in
    let and : bit_and (x * 256 + y) (lows * 256 + 127) ≡ p * 256 + q = and_block 8 x lows y 127 y< (lit< tt) in
    let sum : (p * 256 + q) + (lows * 256 + 127) ≡ (p + lows) * 256 + (q + 127) = omega arith in
    let u = bit_or (p + lows) x in
    let v = bit_or (q + 127) y in
    let v< : v < 256 = or_lt 8 (q + 127) y (omega arith) y< in
    let or : bit_or ((p + lows) * 256 + (q + 127)) (x * 256 + y) ≡ u * 256 + v = or_block 8 (p + lows) x (q + 127) y (omega arith) y< in
    let or2 : bit_or (u * 256 + v) (lows * 256 + 127) ≡ bit_or u lows * 256 + bit_or v 127 = or_block 8 u lows v 127 v< (lit< tt) in
    rw (xor, and, sum, or, or2) (xor_block 8 (bit_or u lows) all (bit_or v 127) 255 (or_lt 8 v 127 v< (lit< tt)) (lit< tt))

-- b in each of k bytes
unfoldable each : ℕ → ℕ → ℕ
each zero b = 0
each (suc k) b = each k b * 256 + b

matches : (k w : ℕ) → w < 2 ^ (k * 8) → matched w (each k 10) (each k 127) (each k 255) ≡ hits_in k w
unfolding each hits_in
matches zero w h = let e : w ≡ 0 = omega arith in rw e
matches (suc k) w h =
    let d : w ≡ w / 256 * 256 + w % 256 = sym (div-add-mod' w 256) in
    let r : w % 256 < 256 = mod-lt w (lit< tt) in
    let q : w / 256 < 2 ^ (k * 8) = shr_lt (k * 8) 8 (rw suc-mul at h) in
    ap (λ (n : ℕ). matched n (each (suc k) 10) (each (suc k) 127) (each (suc k) 255)) d
    ∙ match-more (w / 256) (w % 256) (each k 10) (each k 127) (each k 255) r
    ∙ ap₂ (λ (m n : ℕ). m * 256 + n) (matches k (w / 256) q) (match-byte (w % 256) r)

pub match-hits : (w : ℕ) → w < 2 ^ 64 → matched w 0x0A0A0A0A0A0A0A0A 0x7F7F7F7F7F7F7F7F 0xFFFFFFFFFFFFFFFF ≡ hits_in 8 w
unfolding each
match-hits w h = matches 8 w h

-- ---- the lowest hit

trailing-shift : (j k m : ℕ) → count_trailing_zeros (j + k) (m * 2 ^ j) ≡ j + count_trailing_zeros k m
unfolding count_trailing_zeros
trailing-shift zero k m = rw (zero-add k, zero-add (count_trailing_zeros k m), mul-one m)
trailing-shift (suc j) k m =
    rw (suc-add j k, suc-add j (count_trailing_zeros k m), shifted_even m j, shifted_half m j) (ap suc (trailing-shift j k m))

-- the place of the byte that it is in, of k bytes from the place `at` on
abbrev lowest : ℕ → ℕ → ℕ → Option ℕ
lowest k at m = cond (eqb m 0) None (Some (at + count_trailing_zeros (k * 8) m / 8))

lowest-here : (k at m : ℕ) → lowest (suc k) at (m * 256 + 128) ≡ Some at
unfolding count_trailing_zeros
lowest-here k at m =
    let n : suc k * 8 ≡ 7 + suc (k * 8) = omega arith in
    let d : m * 256 + 128 ≡ (m * 2 + 1) * 2 ^ 7 = omega arith in
    let o : (m * 2 + 1) % 2 ≡ 1 = digits_mod m (lit< tt) in
    let t : count_trailing_zeros (7 + suc (k * 8)) ((m * 2 + 1) * 2 ^ 7) ≡ 7 + count_trailing_zeros (suc (k * 8)) (m * 2 + 1) =
    trailing-shift 7 (suc (k * 8)) (m * 2 + 1) in
    let z : at + 0 ≡ at = omega arith in
    rw (ne_eqb (m * 256 + 128) 0 (λ e. omega arith), n, d, t, o, z)

lowest-later : (k at m : ℕ) → lowest (suc k) at (m * 256) ≡ lowest k (suc at) m
lowest-later k at m = go (eqb m 0) refl
  where
    go : (t : Bool) → eqb m 0 ≡ t → lowest (suc k) at (m * 256) ≡ lowest k (suc at) m
    go true e = let z : m ≡ 0 = eqb-true _ _ e in rw z
    go false e =
        let n : suc k * 8 ≡ 8 + k * 8 = omega arith in
        let t : count_trailing_zeros (8 + k * 8) (m * 256) ≡ 8 + count_trailing_zeros (k * 8) m = trailing-shift 8 (k * 8) m in
        let z : m ≡ 0 → ⊥ = eqb-false _ _ e in
        let q : at + (8 + count_trailing_zeros (k * 8) m) / 8 ≡ suc at + count_trailing_zeros (k * 8) m / 8 = omega arith in
        rw (e, ne_eqb (m * 256) 0 (λ f. z (omega arith)), n, t, q)

-- ---- the bytes of a text from a place on

pub block_more : (s : List ℕ) (at k : ℕ) → at < length s →
    block_of (take (suc k) (drop at s)) ≡ block_of (take k (drop (suc at) s)) * 256 + get_or s at 0
unfolding block_of
block_more s at k h = rw (drop-cons s at 0 h)

abbrev pub hits : List ℕ → ℕ → ℕ → ℕ
hits s k at = hits_in k (block_of (take k (drop at s)))

module _ (s : List ℕ) (byte : (i : ℕ) → Fits w8 (get_or s i 0)) where
  pub block-lt : (k at : ℕ) → at + k ≤ length s → block_of (take k (drop at s)) < 2 ^ (k * 8)
  unfolding block_of
  block-lt zero at h = lit< tt
  block-lt (suc k) at h =
      let e : 2 ^ (suc k * 8) ≡ 2 ^ (k * 8) * 256 = rw suc-mul (pow-add 2 (k * 8) 8) in
      rw (block_more s at k (omega arith), e) (omega (arith, block-lt k (suc at) (omega arith), byte at))

  hits_more : (k at : ℕ) → at < length s → hits s (suc k) at ≡ hits s k (suc at) * 256 + hit (get_or s at 0)
  unfolding hits_in
  hits_more k at h =
      let w = block_of (take k (drop (suc at) s)) in
      rw (block_more s at k h, digits_div w (byte at).fits, digits_mod w (byte at).fits)

  pub hits-first : (k at : ℕ) → at + k ≤ length s → first_end at (take k (drop at s)) ≡ lowest k at (hits s k at)
  unfolding first_end hits_in
  hits-first zero at h = refl
  hits-first (suc k) at h = go (eqb (get_or s at 0) 10) refl (hits-first k (suc at) (omega arith))
    where
      here : at < length s
      here = omega arith

      go : (t : Bool) → eqb (get_or s at 0) 10 ≡ t → first_end (suc at) (take k (drop (suc at) s)) ≡ lowest k (suc at) (hits s k (suc at)) →
          first_end at (take (suc k) (drop at s)) ≡ lowest (suc k) at (hits s (suc k) at)
      go true e ih = rw (hits_more k at here, drop-cons s at 0 here, e) (sym (lowest-here k at (hits s k (suc at))))
      go false e ih =
          let z : hits s k (suc at) * 256 + 0 ≡ hits s k (suc at) * 256 = omega arith in
          rw (hits_more k at here, drop-cons s at 0 here, e, z) (ih ∙ sym (lowest-later k at (hits s k (suc at))))

  pub end-hit : (at m : ℕ) → at + 8 ≤ length s → m ≡ hits s 8 at → (m ≡ 0 → ⊥) → first_end at (drop at s) ≡ Some (at + count_trailing_zeros 64 m / 8)
  end-hit at m h e n = end-split s at 8 h ∙ rw (hits-first 8 at h, ← e, ne_eqb m 0 n)

  pub end-unhit : (at m : ℕ) → at + 8 ≤ length s → m ≡ hits s 8 at → m ≡ 0 → first_end at (drop at s) ≡ first_end (at + 8) (drop (at + 8) s)
  end-unhit at m h e z = end-split s at 8 h ∙ rw (hits-first 8 at h, ← e, eq-eqb m 0 z)
