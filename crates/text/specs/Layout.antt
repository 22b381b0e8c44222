-- A line of text. Paper 01, "Text": fields with one blank between them, closed by the byte 10.
--   field f b    a field and the byte behind it
--   line f fs    a line: its first field, and the others
use Rattle.std.specs.Prelude.{List, [], ◌∷◌, ◌++◌, ℕ}

abbrev pub field : List ℕ → ℕ → List ℕ
field f b = f ++ (b ∷ [])

abbrev pub line : List ℕ → List (List ℕ) → List ℕ
line f [] = field f 10
line f (g ∷ gs) = field f 32 ++ line g gs
