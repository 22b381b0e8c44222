-- A search can be resumed: what a step gives hangs on the path and the incumbent alone.
--   Tidy s t          the path t has a place for each level, and no starts beyond them
--   Passing s x y e k the starts y along x and the box e at level k, for along
-- tidy-first, tidy-ran: so it is in a search from the first place on.  along-same: the path at such a path's place is that path.
-- resumed-underway: a resumed search can go on, from any place and any good incumbent; resumed-good: which stays good.  resumed-alike: from where a search stopped it is like that state.
-- step-alike, ran-alike, runs-alike: like states lead to like states.  runs-plus: a run after a run is a run.
-- resumed-ran: a search that is run and resumed is like one that took so many steps.
-- resumed-once (end theorem): where it has ended it is like the unbroken one at its end.  resumed-searched: so its incumbent is the first best point.
use mathlib.Core.Path.{◌≡◌, refl, sym, ap, ◌∙◌, subst, subst₂}
use mathlib.Core.Bool.{true, false}
use mathlib.Core.List.{List}
use mathlib.Core.Logic.{◌⊎◌, inl, inr}
use Rattle.std.specs.Prelude.{Option, None, Some}
use Prim.Native.Nat.{ℕ, zero, suc, ◌+◌, ◌≤◌, ◌<◌}
use native.Mathlib.Decide.{dec_lt, ℕ_discrete}
use native.Mathlib.Numerals.{add-one}
use native.Mathlib.Omega.{arith}
use lib.IntN.{ℤ, pos}
use lib.ListN.{length, get_or, set, replicate, length-set}
use Rattle.greedy.specs.declared.Ends.{Ends}
use Rattle.greedy.specs.Fill.{at}
use Rattle.greedy.specs.Sized.{Sized}
use Rattle.places.specs.Moves.{past_of}
use Rattle.setting.specs.declared.Setting.{Setting}
use Rattle.setting.specs.declared.Pairs.{Pairs}
use Rattle.search.specs.declared.Incumbent.{Incumbent}
use Rattle.search.specs.declared.Path.{Path}
use Rattle.search.specs.declared.State.{State}
use Rattle.setting.specs.Box.{level_at, spanned, fixed_in, fixed_by, Inside, Long}
use Rattle.setting.proofs.Boxes.{at_same, at_other}
use Rattle.search.specs.Tying.{ReadyTied, ReadySearch}
use Rattle.search.specs.Search.{start_by}
use Rattle.search.specs.Searched.{Searched}
use Rattle.search.specs.Steps.{LongPath, Started, LookedAs, MovedTo, WentOn, counted_by, Stepped, Begun, Along, Resumed, GoodBest, Underway, Alike, Ran}
use Rattle.search.specs.Steps.{RunsFor, RunsOn, begun, onward}
use Rattle.search.proofs.Boxes.{fixed-sized}
use Rattle.search.proofs.Dives.{start_in}
use Rattle.search.proofs.Finish.{fresh-top, underway-first, underway-ran, covered-first, covered-ran, searched}
use Rattle.search.proofs.Once.{path-once, ran-once, not_after}

-- ---- the path at a place

pub zeros : (n j : ℕ) → get_or (replicate n (pos 0)) j (pos 0) ≡ pos 0
zeros zero j = refl
zeros (suc n) zero = refl
zeros (suc n) (suc j) = zeros n j

pub record Passing (s : Setting) (x y : List ℤ) (e : Ends) (k : ℕ) : Type 0 where
  pub top : k ≤ s.levels
  pub long : length y ≡ 16
  pub ends-are : e ≡ fixed_by s (at x) k
  pub starts : (i : ℕ) → i < k → at y i ≡ start_by s (at x) i
  pub beyond : (i : ℕ) → k ≤ i → at y i ≡ pos 0

module _ (s : Setting) (r : ReadyTied s) (long : Long s.ends) (x : List ℤ) (inside : Inside s (at x)) where
  pub passing-first : Passing s x (replicate 16 (pos 0)) s.ends 0
  unfolding fixed_in
  passing-first = record { top = omega arith; long = refl; ends-are = refl; starts = λ i l. absurd (omega arith); beyond = λ i l. zeros 16 i }

  pub passing-sized : (y : List ℤ) (e : Ends) (k : ℕ) → Passing s x y e k → Sized s.cols e
  passing-sized y e k p =
      record { columns = r.order.sized; ends = rw p.ends-are (fixed-sized s r long (at x) k p.top (λ d l. inside d (omega (arith, p.top)))) }

  pub passing_step : (y : List ℤ) (e : Ends) (k : ℕ) → k < s.levels → Passing s x y e k
      → Passing s x (set y k (start_in s e k)) (spanned e (level_at s k) (at x k) (at x k)) (k + 1)
  unfolding start_by fixed_in
  passing_step y e k l p = record {
    top = omega arith;
    long = simp length-set p.long;
    ends-are = rw add-one (ap (λ (e : Ends). spanned e (level_at s k) (at x k) (at x k)) p.ends-are);
    starts = λ i m. go i m (ℕ_discrete i k);
    beyond = λ i m. at_other y k (start_in s e k) i (omega arith) ∙ p.beyond i (omega arith);
  }
    where
      go : (i : ℕ) → i < k + 1 → Dec (i ≡ k) → at (set y k (start_in s e k)) i ≡ start_by s (at x) i
      go i m (yes z) = rw z (at_same y k (start_in s e k) (omega (arith, p.long, r.ready.few)) ∙ ap (λ (e : Ends). start_in s e k) p.ends-are)
      go i m (no z) = at_other y k (start_in s e k) i z ∙ p.starts i (omega (arith, z))

  pub passing-done : (y : List ℤ) (e : Ends) (k : ℕ) → s.levels ≤ k → Passing s x y e k → Along s x (record { place = x; starts = y })
  passing-done y e k l p = record {
    place_is = refl;
    starts = λ d m. p.starts d (omega arith);
    beyond = λ i m. p.beyond i (omega (arith, p.top));
    starts-long = p.long;
  }

-- ---- the same path again

pub record Tidy (s : Setting) (t : Path) : Type 0 where
  pub long : LongPath t
  pub beyond : (i : ℕ) → s.levels ≤ i → at t.starts i ≡ pos 0

pub along-same : (s : Setting) (t r : Path) → Started s t → Tidy s t → Along s t.place r → r ≡ t
along-same s t r h c a =
    path-once r t (record { place-long = ap length a.place_is ∙ c.long.place-long; starts-long = a.starts-long }) c.long
    (λ i. ap (λ (x : List ℤ). at x i) a.place_is) (λ i. go i (dec_lt i s.levels))
  where
    go : (i : ℕ) → Dec (i < s.levels) → at r.starts i ≡ at t.starts i
    go i (yes l) = a.starts i l ∙ sym (h.starts i l)
    go i (no l) = a.beyond i (omega arith) ∙ sym (c.beyond i (omega arith))

module _ (s : Setting) (p : Pairs) where
  pub tidy-first : (q : State) → Begun s q → Tidy s q.path
  tidy-first q b = record { long = b.first.long; beyond = λ i l. (b.first.beyond i l).1 ∙ zeros 16 i }

  tidy-on : (q r : State) → Stepped s p q r → Tidy s q.path → Tidy s r.path
  tidy-on q r st c = go (past_of st.verdict (at s.low) (at s.high) (at q.path.starts) (at q.path.place)) st.went
    where
      go : (o : Option (ℕ × ℤ)) → WentOn s q st.better o r → Tidy s r.path
      go None (d, (same, top)) = rw same c
      go (Some m) (d, (moved, from)) = record { long = moved.long; beyond = λ i l. (moved.beyond i l).1 ∙ c.beyond i l }

  pub tidy-ran : (q : State) (n : ℕ) (r : State) → Ran s p q n r → Tidy s q.path → Tidy s r.path
  unfolding Ran
  tidy-ran q zero r h c = rw h c
  tidy-ran q (suc n) r (o, h) c = tidy-on o r h.1.1 (tidy-ran q n o h.0 c)

  -- ---- resuming

  pub resumed-underway : ReadySearch s p → Long s.ends → (x : List ℤ) (b : Incumbent) (r : State) → Inside s (at x) → GoodBest s b → Resumed s x b r
      → Underway s p r
  resumed-underway ready long x b r inside good h =
      let f = fresh-top s p r h.top in
      record {
        ready = ready;
        started = record {
          long = long;
          inside = subst (λ (y : List ℤ). Inside s (at y)) (sym h.path-is.place_is) inside;
          starts = λ d l. subst (λ (y : List ℤ). at r.path.starts d ≡ start_by s (at y) d) (sym h.path-is.place_is) (h.path-is.starts d l);
        };
        good = subst (GoodBest s) (sym h.best-is) good;
        from_in = f.from_in;
        passed = f.passed;
      }

  -- from any place and any good incumbent on, the incumbent stays good
  pub resumed-good : ReadySearch s p → Long s.ends → (x : List ℤ) (b : Incumbent) (q : State) → Inside s (at x) → GoodBest s b → Resumed s x b q
      → (n : ℕ) (r : State) → RunsFor s p q n r → GoodBest s r.best
  resumed-good ready long x b q inside good h n r k =
      (underway-ran s p q (resumed-underway ready long x b q inside good h) k.count r k.ran).good

  pub resumed-alike : (q r : State) → Started s q.path → Tidy s q.path → q.done ≡ false → Resumed s q.path.place q.best r → Alike q r
  resumed-alike q r h c d k =
      record { path-is = sym (along-same s q.path r.path h c k.path-is); best-is = sym k.best-is; done-is = d ∙ sym k.going }

  -- ---- like states lead to like states

  alike-sym : (q r : State) → Alike q r → Alike r q
  alike-sym q r a = record { path-is = sym a.path-is; best-is = sym a.best-is; done-is = sym a.done-is }

  alike-trans : (q r t : State) → Alike q r → Alike r t → Alike q t
  alike-trans q r t a b = record { path-is = a.path-is ∙ b.path-is; best-is = a.best-is ∙ b.best-is; done-is = a.done-is ∙ b.done-is }

  pub step-alike : (q q' r : State) → Alike q q' → Stepped s p q r → (r' : State) × (Stepped s p q' r' × Alike r r')
  step-alike q q' r a st = (
    r',
    (
      record {
        verdict = st.verdict;
        better = st.better;
        looked = subst₂ (λ (t : Path) (b : Incumbent). LookedAs s p t b (record { best = r.best; better = st.better }) st.verdict) a.path-is
            a.best-is st.looked;
        went = subst (λ (t : Path). WentOn s q' st.better (lead t) r') a.path-is (go (lead q.path) st.went);
        counted = refl;
      },
      record { path-is = refl; best-is = refl; done-is = refl },
    ),
  )
    where
      r' : State
      r' = record { path = r.path; best = r.best; steps = counted_by q'.steps; from = r.from; done = r.done }

      lead : Path → Option (ℕ × ℤ)
      lead t = past_of st.verdict (at s.low) (at s.high) (at t.starts) (at t.place)

      go : (o : Option (ℕ × ℤ)) → WentOn s q st.better o r → WentOn s q' st.better o r'
      go None (d, (same, top)) = (d, (same ∙ a.path-is, top))
      go (Some m) (d, (moved, from)) = (d, (subst (λ (t : Path). MovedTo s t m.0 m.1 r.path) a.path-is moved, from))

  pub ran-alike : (q q' : State) → Alike q q' → (n : ℕ) (r : State) → Ran s p q n r → (r' : State) × (Ran s p q' n r' × Alike r r')
  unfolding Ran
  ran-alike q q' a zero r h = (q', (refl, rw h a))
  ran-alike q q' a (suc n) r (o, h) =
      let i = ran-alike q q' a n o h.0 in
      let k = step-alike o i.0 r i.1.1 h.1.1 in
      (k.0, ((i.0, (i.1.0, (sym i.1.1.done-is ∙ h.1.0, k.1.0))), k.1.1))

  pub runs-alike : (q q' : State) → Alike q q' → (n : ℕ) (r : State) → RunsFor s p q n r → (r' : State) × (RunsFor s p q' n r' × Alike r r')
  runs-alike q q' a n r h =
      let i = ran-alike q q' a h.count r h.ran in
      (i.0, (record { count = h.count; ran = i.1.0; few = h.few; stops = go i.0 i.1.1 h.stops }, i.1.1))
    where
      go : (r' : State) → Alike r r' → (r.done ≡ true) ⊎ (h.count ≡ n) → (r'.done ≡ true) ⊎ (h.count ≡ n)
      go r' b (inl e) = inl (sym b.done-is ∙ e)
      go r' b (inr e) = inr e

  -- ---- a run after a run

  ran-plus : (q o r : State) (m n : ℕ) → Ran s p q m o → Ran s p o n r → Ran s p q (n + m) r
  unfolding Ran
  ran-plus q o r m zero h k =
      let e : m ≡ 0 + m = omega arith in
      subst (λ (z : State). Ran s p q (0 + m) z) (sym k) (subst (λ i. Ran s p q i o) e h)
  ran-plus q o r m (suc n) h (t, k) =
      let e : suc (n + m) ≡ suc n + m = omega arith in
      let w : Ran s p q (suc (n + m)) r = (t, (ran-plus q o t m n h k.0, (k.1.0, k.1.1))) in
      subst (λ i. Ran s p q i r) e w

  -- where a search has ended no step leads on
  ended-none : (q r : State) (n : ℕ) → q.done ≡ true → Ran s p q n r → n ≡ 0
  unfolding Ran
  ended-none q r zero d h = refl
  ended-none q r (suc n) d h = absurd (not_after s p q 0 (suc n) (omega arith) q r refl d h)

  pub runs-plus : (q o r : State) (m n : ℕ) → RunsFor s p q m o → RunsFor s p o n r → RunsFor s p q (m + n) r
  unfolding Ran
  runs-plus q o r m n h k = record {
    count = k.count + h.count;
    ran = ran-plus q o r h.count k.count h.ran k.ran;
    few = omega (arith, h.few, k.few);
    stops = go h.stops k.stops;
  }
    where
      same : o.done ≡ true → r.done ≡ true
      same d = ap (λ (z : State). z.done) (stay (ended-none o r k.count d k.ran)) ∙ d
        where
          stay : k.count ≡ 0 → r ≡ o
          stay e = subst (λ i. Ran s p o i r) e k.ran

      go : (o.done ≡ true) ⊎ (h.count ≡ m) → (r.done ≡ true) ⊎ (k.count ≡ n) → (r.done ≡ true) ⊎ (k.count + h.count ≡ m + n)
      go (inl d) e = inl (same d)
      go (inr c) (inl d) = inl d
      go (inr c) (inr e) = inr (omega (arith, c, e))

  -- ---- run and resumed

  pub resumed-ran : (q r : State) → RunsOn s p q r → (n : ℕ) × ((u : State) × (Ran s p q n u × Alike u r))
  unfolding Ran
  resumed-ran q _ begun = (0, (q, (refl, record { path-is = refl; best-is = refl; done-is = refl })))
  resumed-ran q _ (onward o o' r n h a k) =
      let i = resumed-ran q o h in
      let j = ran-alike o' i.1.0 (alike-sym i.1.0 o' (alike-trans i.1.0 o o' i.1.1.1 a)) k.count r k.ran in
      (k.count + i.0, (j.0, (ran-plus q i.1.0 j.0 i.0 k.count i.1.1.0 j.1.0, alike-sym r j.0 j.1.1)))

  -- End theorem: whatever the steps between, a search that is resumed until it ends comes to the path and incumbent of the unbroken one.
  pub resumed-once : (q r u : State) (n : ℕ) → RunsOn s p q r → r.done ≡ true → RunsFor s p q n u → u.done ≡ true → Alike r u
  resumed-once q r u n h d k e = go (resumed-ran q r h)
    where
      go : (m : ℕ) × ((v : State) × (Ran s p q m v × Alike v r)) → Alike r u
      go (m, (v, (ran, a))) = which (dec_lt m k.count) (dec_lt k.count m)
        where
          which : Dec (m < k.count) → Dec (k.count < m) → Alike r u
          which (yes l) y = absurd (not_after s p q m k.count l v u ran (a.done-is ∙ d) k.ran)
          which (no l) (yes y) = absurd (not_after s p q k.count m y u v k.ran e ran)
          which (no l) (no y) =
              let same : m ≡ k.count = omega arith in
              subst (λ (z : State). Alike r z) (ran-once s p q k.count v u (subst (λ i. Ran s p q i v) same ran) k.ran) (alike-sym v r a)

  -- so from the first place on it ends with the first best point of the box, or the box holds nothing feasible
  pub resumed-searched : ReadySearch s p → Long s.ends → (q r : State) → Begun s q → RunsOn s p q r → r.done ≡ true → Searched s r.best
  resumed-searched ready long q r b h d =
      let i = resumed-ran q r h in
      let u = underway-first s p ready long q b in
      subst (Searched s) i.1.1.1.best-is
      (searched s p i.1.0 (underway-ran s p q u i.0 i.1.0 i.1.1.0)
      (λ marks m. covered-ran s p q u marks m (covered-first s p ready long q b marks m) i.0 i.1.0 i.1.1.0) (i.1.1.1.done-is ∙ d))
