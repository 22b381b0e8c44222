-- The best of a set of things by any order in which things can be compared: what cases and bounds say about it.
--   R ⊆ P              every thing of R is one of P
--   Ahead L x R        x is not behind any thing of R
--   Top L R x          x is of R, and not behind any of R
--   Empty R            there is no thing of R
--   Parts R P Q        R is what P and Q have together
-- top_part: the best of all, if it is in a part, is the best of the part.
-- empty-part, empty-of-two, ahead-part, ahead-of-two, ahead-empty, ahead-trans: by parts.
use mathlib.Core.Logic.{◌⊎◌, ⊎_elim}

infix 4 ◌⊆◌
abbrev pub ◌⊆◌ : {A : Type 0} → (A → Type 0) → (A → Type 0) → Type 0
◌⊆◌ {A} R P = (x : A) → R x → P x

abbrev pub Empty : {A : Type 0} → (A → Type 0) → Type 0
Empty {A} R = (x : A) → ¬ R x

abbrev pub Ahead : {A : Type 0} → (A → A → Type 0) → A → (A → Type 0) → Type 0
Ahead {A} L x R = (y : A) → R y → L x y

pub record Top {A : Type 0} (L : A → A → Type 0) (R : A → Type 0) (x : A) : Type 0 where
  pub inside : R x
  pub ahead : Ahead L x R

pub record Parts {A : Type 0} (R P Q : A → Type 0) : Type 0 where
  pub cut : (x : A) → R x → P x ⊎ Q x
  pub left : P ⊆ R
  pub right : Q ⊆ R

-- ---- nothing is there

pub empty-part : {A : Type 0} {R P : A → Type 0} → P ⊆ R → Empty R → Empty P
empty-part i h x p = h x (i x p)

pub empty-of-two : {A : Type 0} {R P Q : A → Type 0} → Parts R P Q → Empty P → Empty Q → Empty R
empty-of-two c h k x r = ⊎_elim (h x) (k x) (c.cut x r)

-- ---- the best

module _ {A : Type 0} (L : A → A → Type 0) where
  pub ahead-part : {R P : A → Type 0} {x : A} → P ⊆ R → Ahead L x R → Ahead L x P
  ahead-part i h y p = h y (i y p)

  pub ahead-empty : {R : A → Type 0} {x : A} → Empty R → Ahead L x R
  ahead-empty h y r = absurd (h y r)

  pub ahead-of-two : {R P Q : A → Type 0} {x : A} → Parts R P Q → Ahead L x P → Ahead L x Q → Ahead L x R
  ahead-of-two c h k y r = ⊎_elim (h y) (k y) (c.cut y r)

  pub top_part : {R P : A → Type 0} {x : A} → P ⊆ R → Top L R x → P x → Top L P x
  top_part i t p = record { inside = p; ahead = ahead-part i t.ahead }

  module _ (L-trans : (x y z : A) → L x y → L y z → L x z) where
    pub ahead-trans : {R : A → Type 0} (x y : A) → L x y → Ahead L y R → Ahead L x R
    ahead-trans x y l h z r = L-trans x y z l (h z r)
