-- A search has one end: what a look settles, a step and the states that follow from the first are determined.
-- looked-once, step-once, ran-once: there is one verdict, one next state, one state after so many steps.
-- runs-once: and so one state in which a search of at most so many steps stops; stops-once: also from the first place on.
use mathlib.Core.Path.{◌≡◌, sym, ap, ap₂, ◌∙◌, subst, subst₂}
use mathlib.Core.Bool.{Bool, true, false}
use mathlib.Core.List.{List}
use mathlib.Core.Logic.{◌⊎◌, inl, inr}
use Rattle.std.specs.Prelude.{Option, None, Some}
use Prim.Native.Nat.{ℕ, zero, suc, ◌≤◌, ◌<◌}
use native.Mathlib.Decide.{dec_lt, ℕ_discrete}
use native.Mathlib.Omega.{arith}
use lib.IntN.{ℤ}
use Rattle.arith.proofs.Parts.{impossible}
use Rattle.greedy.specs.declared.Columns.{Columns}
use Rattle.greedy.specs.declared.Ends.{Ends}
use Rattle.greedy.specs.Fill.{at}
use Rattle.places.specs.declared.Settled.{Settled}
use Rattle.places.specs.declared.Settled.TheVariants.{Run, Prefix}
use Rattle.places.specs.Moves.{past_of}
use Rattle.search.specs.declared.Incumbent.{Incumbent}
use Rattle.setting.specs.declared.Pairs.{Pairs}
use Rattle.search.specs.declared.Path.{Path}
use Rattle.setting.specs.declared.Setting.{Setting}
use Rattle.search.specs.declared.State.{State}
use Rattle.search.specs.declared.Comparison.{Comparison}
use Rattle.search.specs.Search.{start_by}
use Rattle.search.specs.Steps.{LongPath, Dived, cut_at, Cut, Discarded, Tries, LookedAs, MovedTo, WentOn, Stepped, origin, Begun, Ran, RunsFor, Stops}
use Rattle.search.proofs.Orders.{list-once}
use Rattle.search.proofs.Starts.{start-cong}

-- ---- lists with the same entries are equal

pub path-once : (p q : Path) → LongPath p → LongPath q → ((i : ℕ) → at p.place i ≡ at q.place i) → ((i : ℕ) → at p.starts i ≡ at q.starts i) → p ≡ q
path-once p q l m h k = ap₂ (λ (x y : List ℤ). record { place = x; starts = y }) (list-once p.place q.place (l.place-long ∙ sym m.place-long) h)
    (list-once p.starts q.starts (l.starts-long ∙ sym m.starts-long) k)

-- ---- a path is determined by its first amounts

module _ (s : Setting) (P Q : ℕ → ℤ) (j : ℕ)
    (first : (i : ℕ) → i < j → P i ≡ Q i)
    (p-starts : (i : ℕ) → j ≤ i → i < s.levels → P i ≡ start_by s P i)
    (q-starts : (i : ℕ) → j ≤ i → i < s.levels → Q i ≡ start_by s Q i)
    (beyond : (i : ℕ) → s.levels ≤ i → P i ≡ Q i)
  where
    -- the first n amounts agree
    agree-to : (n i : ℕ) → i < n → P i ≡ Q i
    agree-to zero i h = absurd (omega arith)
    agree-to (suc n) i h = go (dec_lt i n) (dec_lt n j) (dec_lt n s.levels) (agree-to n)
      where
        here : Dec (n < j) → Dec (n < s.levels) → ((i : ℕ) → i < n → P i ≡ Q i) → P n ≡ Q n
        here (yes l) m ih = first n l
        here (no l) (yes m) ih = p-starts n (omega arith) m ∙ start-cong s P Q n ih ∙ sym (q-starts n (omega arith) m)
        here (no l) (no m) ih = beyond n (omega arith)

        go : Dec (i < n) → Dec (n < j) → Dec (n < s.levels) → ((i : ℕ) → i < n → P i ≡ Q i) → P i ≡ Q i
        go (yes l) a b ih = ih i l
        go (no l) a b ih = let e : i ≡ n = omega arith in rw e (here a b ih)

    agree : (i : ℕ) → P i ≡ Q i
    agree i = agree-to (suc i) i (omega arith)

dived-once : (s : Setting) (j : ℕ) (p r r' : Path) → Dived s j p r → Dived s j p r' → r ≡ r'
dived-once s j p r r' d d' = path-once r r' d.long d'.long places (λ i. starts i (dec_lt i j) (dec_lt i s.levels))
  where
    places : (i : ℕ) → at r.place i ≡ at r'.place i
    places = agree s (at r.place) (at r'.place) j (λ i l. (d.kept i l).0 ∙ sym (d'.kept i l).0) (λ i l m. (d.filled i l m).0)
        (λ i l m. (d'.filled i l m).0) (λ i l. (d.beyond i l).0 ∙ sym (d'.beyond i l).0)

    starts : (i : ℕ) → Dec (i < j) → Dec (i < s.levels) → at r.starts i ≡ at r'.starts i
    starts i (yes l) m = (d.kept i l).1 ∙ sym (d'.kept i l).1
    starts i (no l) (yes m) = (d.filled i (omega arith) m).1 ∙ places i ∙ sym (d'.filled i (omega arith) m).1
    starts i (no l) (no m) = (d.beyond i (omega arith)).1 ∙ sym (d'.beyond i (omega arith)).1

moved-once : (s : Setting) (t : Path) (j : ℕ) (v : ℤ) (r r' : Path) → MovedTo s t j v r → MovedTo s t j v r' → r ≡ r'
moved-once s t j v r r' d d' = path-once r r' d.long d'.long places (λ i. starts i (dec_lt i s.levels))
  where
    above : (i : ℕ) → i < suc j → Dec (i ≡ j) → at r.place i ≡ at r'.place i
    above i l (yes e) = rw e (d.here ∙ sym d'.here)
    above i l (no e) = d.above i (omega (arith, e)) ∙ sym (d'.above i (omega (arith, e)))

    places : (i : ℕ) → at r.place i ≡ at r'.place i
    places = agree s (at r.place) (at r'.place) (suc j) (λ i l. above i l (ℕ_discrete i j)) (λ i l m. d.deeper i (omega arith) m)
        (λ i l m. d'.deeper i (omega arith) m) (λ i l. (d.beyond i l).0 ∙ sym (d'.beyond i l).0)

    starts : (i : ℕ) → Dec (i < s.levels) → at r.starts i ≡ at r'.starts i
    starts i (yes m) = d.starts i m ∙ start-cong s (at r.place) (at r'.place) i (λ k l. places k) ∙ sym (d'.starts i m)
    starts i (no m) = (d.beyond i (omega arith)).1 ∙ sym (d'.beyond i (omega arith)).1

-- ---- what a look settles

-- of two levels, one comes first or they are one
data Order (a b : ℕ) : Type 0 where
  before : a < b → Order a b
  same : a ≡ b → Order a b
  after : b < a → Order a b

order : (a b : ℕ) → Order a b
order a b = go (dec_lt a b) (ℕ_discrete a b)
  where
    go : Dec (a < b) → Dec (a ≡ b) → Order a b
    go (yes l) e = before l
    go (no l) (yes e) = same e
    go (no l) (no e) = after (omega (arith, e))

module _ (s : Setting) (p : Pairs) (t : Path) (b : Incumbent) where
  clash : (d : ℕ) → cut_at s t b d ≡ true → cut_at s t b d ≡ false → ⊥
  clash d h k = impossible (sym k ∙ h)

  cut-once : (d d' : ℕ) → Cut s p t b d → Cut s p t b d' → d ≡ d'
  cut-once d d' c c' = go (order d d')
    where
      go : Order d d' → d ≡ d'
      go (before l) = absurd (clash d c.cut (c'.passed.uncut d l))
      go (same e) = e
      go (after l) = absurd (clash d' c'.cut (c.passed.uncut d' l))

  not-both : (d n : ℕ) → Cut s p t b d → Discarded s p t b n → ⊥
  not-both d n c h = go (order d h.level)
    where
      go : Order d h.level → ⊥
      go (before l) = clash d c.cut (h.passed.uncut d l)
      go (same e) = clash h.level (subst (λ k. cut_at s t b k ≡ true) e c.cut) h.uncut
      go (after l) = c.passed.unpaired h.level l h.paired

  discarded-once : (n n' : ℕ) → Discarded s p t b n → Discarded s p t b n' → n ≡ n'
  discarded-once n n' h h' = go (order h.level h'.level)
    where
      go : Order h.level h'.level → n ≡ n'
      go (before l) = absurd (h'.passed.unpaired h.level l h.paired)
      go (same e) = h.last ∙ ap suc e ∙ sym h'.last
      go (after l) = absurd (h.passed.unpaired h'.level l h'.paired)

  tries-once : (c : Columns) (e : Ends) (x : List ℤ) (r r' : Comparison) → Tries c e x b r → Tries c e x b r' → r ≡ r'
  tries-once c e x r r' h k =
      ap₂ (λ (i : Incumbent) (f : Bool). record { best = i; better = f }) (h.best-is ∙ sym k.best-is) (h.better-is ∙ sym k.better-is)

  pub looked-once : (c c' : Comparison) (w w' : Settled) → LookedAs s p t b c w → LookedAs s p t b c' w' → (w ≡ w') × (c ≡ c')
  looked-once c c' (Run d) (Run d') (e, h) (e', h') = (ap Run (cut-once d d' h h'), e ∙ sym e')
  looked-once c c' (Run d) (Prefix n) (e, h) (inl k) = absurd (clash d h.cut (k.passed.uncut d h.level_in))
  looked-once c c' (Run d) (Prefix n) (e, h) (inr (e', k)) = absurd (not-both d n h k)
  looked-once c c' (Prefix n) (Run d) (inl k) (e, h) = absurd (clash d h.cut (k.passed.uncut d h.level_in))
  looked-once c c' (Prefix n) (Run d) (inr (e', k)) (e, h) = absurd (not-both d n h k)
  looked-once c c' (Prefix n) (Prefix n') (inl h) (inl k) = (ap Prefix (h.all ∙ sym k.all), tries-once _ _ _ c c' h.tries k.tries)
  looked-once c c' (Prefix n) (Prefix n') (inl h) (inr (e, k)) = absurd (h.passed.unpaired k.level k.level_in k.paired)
  looked-once c c' (Prefix n) (Prefix n') (inr (e, k)) (inl h) = absurd (h.passed.unpaired k.level k.level_in k.paired)
  looked-once c c' (Prefix n) (Prefix n') (inr (e, h)) (inr (e', k)) = (ap Prefix (discarded-once n n' h k), e ∙ sym e')

-- ---- steps

module _ (s : Setting) (p : Pairs) where
  went-once : (q r r' : State) (f : Bool) (o : Option (ℕ × ℤ)) → WentOn s q f o r → WentOn s q f o r' → (r.path ≡ r'.path)
      × ((r.from ≡ r'.from) × (r.done ≡ r'.done))
  went-once q r r' f None (d, (e, l)) (d', (e', l')) = (e ∙ sym e', (l ∙ sym l', d ∙ sym d'))
  went-once q r r' f (Some m) (d, (h, l)) (d', (h', l')) = (moved-once s q.path m.0 m.1 r.path r'.path h h', (l ∙ sym l', d ∙ sym d'))

  state-once : (r r' : State) → r.path ≡ r'.path → r.best ≡ r'.best → r.steps ≡ r'.steps → r.from ≡ r'.from → r.done ≡ r'.done → r ≡ r'
  state-once r r' a b c d e = λ i. record { path = a i; best = b i; steps = c i; from = d i; done = e i }

  pub step-once : (q r r' : State) → Stepped s p q r → Stepped s p q r' → r ≡ r'
  step-once q r r' h k = state-once r r' w.0 (ap (λ (x : Comparison). x.best) l.1) (h.counted ∙ sym k.counted) w.1.0 w.1.1
    where
      l : (h.verdict ≡ k.verdict) × (◌≡◌ {A = Comparison} (record { best = r.best; better = h.better }) (record { best = r'.best; better = k.better }))
      l = looked-once s p q.path q.best (record { best = r.best; better = h.better }) (record { best = r'.best; better = k.better }) h.verdict
          k.verdict h.looked k.looked

      lead : Settled → Option (ℕ × ℤ)
      lead w = past_of w (at s.low) (at s.high) (at q.path.starts) (at q.path.place)

      w : (r.path ≡ r'.path) × ((r.from ≡ r'.from) × (r.done ≡ r'.done))
      w = went-once q r r' k.better (lead k.verdict) (subst₂ (λ f v. WentOn s q f (lead v) r) (ap (λ (x : Comparison). x.better) l.1) l.0
          h.went) k.went

  begun-once : (q q' : State) → Begun s q → Begun s q' → q ≡ q'
  begun-once q q' h k = state-once q q' (dived-once s 0 origin q.path q'.path h.first k.first) (h.nothing ∙ sym k.nothing)
      (h.no_steps ∙ sym k.no_steps) (h.top ∙ sym k.top) (h.going ∙ sym k.going)

  pub ran-once : (q : State) (n : ℕ) (r r' : State) → Ran s p q n r → Ran s p q n r' → r ≡ r'
  unfolding Ran
  ran-once q zero r r' h k = h ∙ sym k
  ran-once q (suc n) r r' (o, h) (o', k) = step-once o' r r' (subst (λ z. Stepped s p z r) (ran-once q n o o' h.0 k.0) h.1.1) k.1.1

  -- before its last step a search goes on
  earlier : (q : State) (m n : ℕ) → n < m → (r : State) → Ran s p q m r → (o : State) × (Ran s p q n o × (o.done ≡ false))
  unfolding Ran
  earlier q zero n l r h = absurd (omega arith)
  earlier q (suc m) n l r (o, h) = go (ℕ_discrete n m) (λ k. earlier q m n k o h.0)
    where
      go : Dec (n ≡ m) → (n < m → (o : State) × (Ran s p q n o × (o.done ≡ false))) → (o : State) × (Ran s p q n o × (o.done ≡ false))
      go (yes e) ih = (o, (subst (λ i. Ran s p q i o) (sym e) h.0, h.1.0))
      go (no e) ih = ih (omega (arith, e))

  pub not_after : (q : State) (n m : ℕ) → n < m → (r r' : State) → Ran s p q n r → r.done ≡ true → Ran s p q m r' → ⊥
  not_after q n m l r r' h e k =
      let o = earlier q m n l r' k in
      impossible (sym o.1.1 ∙ ap (λ (x : State). x.done) (ran-once q n o.0 r o.1.0 h) ∙ e)

  -- a search that has stopped stops no later
  no-later : (q : State) (n : ℕ) (r r' : State) (h : RunsFor s p q n r) (k : RunsFor s p q n r') → h.count < k.count → ⊥
  no-later q n r r' h k l = go h.stops
    where
      go : (r.done ≡ true) ⊎ (h.count ≡ n) → ⊥
      go (inl e) = not_after q h.count k.count l r r' h.ran e k.ran
      go (inr e) = omega (arith, e, l, k.few)

  pub runs-once : (q : State) (n : ℕ) (r r' : State) → RunsFor s p q n r → RunsFor s p q n r' → r ≡ r'
  runs-once q n r r' h k = go (order h.count k.count)
    where
      go : Order h.count k.count → r ≡ r'
      go (before l) = absurd (no-later q n r r' h k l)
      go (same e) = ran-once q k.count r r' (subst (λ i. Ran s p q i r) e h.ran) k.ran
      go (after l) = absurd (no-later q n r' r k h l)

  -- End theorem: a search of at most n steps stops in one state, with one number of steps.
  pub stops-once : (n : ℕ) (r r' : State) → Stops s p n r → Stops s p n r' → r ≡ r'
  stops-once n r r' h k =
      runs-once k.start n r r' (subst (λ q. RunsFor s p q n r) (begun-once h.start k.start h.begun k.begun) h.runs) k.runs
