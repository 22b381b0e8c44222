-- What a solver by cases knows: nothing, or the best thing so far; and what looking through a set does to it.
--   Known A              nothing, or best x
--   Tells L R c          the reply c is the answer for R: nothing is there, or its best
--   Settles L c R        no thing of R is ahead of the reply c
--   Follows L c b        c is no step back from b;  Stems R b c: c is b, or a thing of R
--   Searched L R b c     R has been looked through: b was the best before, c is the best after it
-- searched-passed: what b settles needs no look.  searched-top: the best of R is found, and no step back.
-- searched-of-two: two parts are looked through one after the other.  searched-tells: what is found from nothing is the answer.
use Rattle.cases.proofs.Tops.{◌⊆◌, Empty, Ahead, Top, Parts, empty-of-two, empty-part, ahead-part, ahead-empty, ahead-of-two, ahead-trans}

pub data Known (A : Type 0) : Type 0 where
  nothing : Known A
  best : A → Known A

module _ {A : Type 0} (L : A → A → Type 0) where
  abbrev pub Tells : (A → Type 0) → Known A → Type 0
  Tells R nothing = Empty R
  Tells R (best x) = Top L R x

  abbrev pub Settles : Known A → (A → Type 0) → Type 0
  Settles nothing R = Empty R
  Settles (best x) R = Ahead L x R

  abbrev pub Follows : Known A → Known A → Type 0
  Follows c nothing = Unit {0}
  Follows nothing (best x) = ⊥
  Follows (best y) (best x) = L y x

-- c is b, or a thing of R
pub data Stems {A : Type 0} (R : A → Type 0) (b : Known A) : Known A → Type 0 where
  stays : Stems R b b
  found : (x : A) → R x → Stems R b (best x)

pub record Searched {A : Type 0} (L : A → A → Type 0) (R : A → Type 0) (b c : Known A) : Type 0 where
  pub stems : Stems R b c
  pub follows : Follows L c b
  pub settles : Settles L c R

module _ {A : Type 0} (L : A → A → Type 0) (L-refl : (x : A) → L x x) (L-trans : (x y z : A) → L x y → L y z → L x z) where
  -- ---- one after the other

  pub follows-refl : (b : Known A) → Follows L b b
  follows-refl nothing = tt
  follows-refl (best x) = L-refl x

  pub follows-trans : (d c b : Known A) → Follows L d c → Follows L c b → Follows L d b
  follows-trans d c nothing h k = tt
  follows-trans d nothing (best x) h k = absurd k
  follows-trans nothing (best y) (best x) h k = absurd h
  follows-trans (best z) (best y) (best x) h k = L-trans z y x h k

  pub settles-part : {R P : A → Type 0} → P ⊆ R → (c : Known A) → Settles L c R → Settles L c P
  settles-part i nothing h = empty-part i h
  settles-part i (best x) h = ahead-part L i h

  pub settles-empty : {R : A → Type 0} → Empty R → (c : Known A) → Settles L c R
  settles-empty h nothing = h
  settles-empty h (best x) = ahead-empty L h

  pub settles-trans : (R : A → Type 0) (c b : Known A) → Follows L c b → Settles L b R → Settles L c R
  settles-trans R c nothing f h = settles-empty h c
  settles-trans R nothing (best x) f h = absurd f
  settles-trans R (best y) (best x) f h = ahead-trans L L-trans y x f h

  settles-of-two : {R P Q : A → Type 0} → Parts R P Q → (c : Known A) → Settles L c P → Settles L c Q → Settles L c R
  settles-of-two k nothing p q = empty-of-two k p q
  settles-of-two k (best x) p q = ahead-of-two L k p q

  pub searched-passed : {R : A → Type 0} (b : Known A) → Settles L b R → Searched L R b b
  searched-passed b h = record { stems = stays; follows = follows-refl b; settles = h }

  pub searched-top : {R : A → Type 0} (b : Known A) (x : A) → Top L R x → Follows L (best x) b → Searched L R b (best x)
  searched-top b x t f = record { stems = found x t.inside; follows = f; settles = t.ahead }

  stems-of-two : {R P Q : A → Type 0} → Parts R P Q → (b c d : Known A) → Stems P b c → Stems Q c d → Stems R b d
  stems-of-two k b c d p (found y q) = found y (k.right y q)
  stems-of-two {R} {P} {Q} k b c d p stays = widen p
    where
      widen : {c : Known A} → Stems P b c → Stems R b c
      widen stays = stays
      widen (found x h) = found x (k.left x h)

  pub searched-of-two : {R P Q : A → Type 0} → Parts R P Q → (b c d : Known A) → Searched L P b c → Searched L Q c d → Searched L R b d
  searched-of-two {R} {P} {Q} k b c d p q = record {
    stems = stems-of-two k b c d p.stems q.stems;
    follows = follows-trans d c b q.follows p.follows;
    settles = settles-of-two k d (settles-trans P d c q.follows p.settles) q.settles;
  }

  pub searched-tells : {R : A → Type 0} (c : Known A) → Searched L R nothing c → Tells L R c
  searched-tells nothing h = h.settles
  searched-tells {R} (best x) h = record { inside = of h.stems; ahead = h.settles }
    where
      of : Stems R nothing (best x) → R x
      of (found y r) = r
