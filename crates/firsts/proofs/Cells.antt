-- How many cells the first point has written, at most.
-- try-most: for a frame. lead-most: for the frames before t. last-most: for the last one. frames-most: for all frames, 23 runs for each of 17.
-- point-most: for the first point.
use mathlib.Core.List.{List}
use mathlib.Core.Bool.{Bool}
use mathlib.Core.Logic.{inl, inr}
use Prim.Native.Nat.{ℕ, ◌+◌, ◌*◌, ◌≤◌}
use native.Mathlib.Omega.{arith}
use lib.IntN.{ℤ}
use Rattle.greedy.specs.declared.Columns.{Columns}
use Rattle.greedy.specs.declared.Ends.{Ends}
use Rattle.fillings.specs.Foremost.{first_cells}
use Rattle.setting.specs.declared.Setting.{Setting}
use Rattle.firsts.specs.declared.Optimum.{Optimum}
use Rattle.firsts.specs.Leading.{TryWrites, apart, asked, LeadWrites, begun, onward, LastWrites, FramesWrite, PointWrites, known, unknown}

try-most : {c : Columns} {e : Ends} {w : List Bool} {l : Optimum} {t n m : ℕ} → TryWrites c e w l t n m → m ≤ n + first_cells
try-most (apart h) = omega arith
try-most (asked x h f) = omega (arith, f.few)

lead-most : {c : Columns} {e : Ends} {w : List Bool} {l : Optimum} {t n : ℕ} → LeadWrites c e w l t n → n ≤ t * first_cells
lead-most begun = omega arith
lead-most (onward t n m g (inl (u, h))) = omega (arith, lead-most g, try-most h)
lead-most (onward t n m g (inr (u, h))) = omega (arith, lead-most g)

last-most : (c : Columns) (e : Ends) (w : List Bool) (l : Optimum) (n m : ℕ) → LastWrites c e w l n m → m ≤ n + first_cells
last-most c e w l n m (inl (k, h)) = omega arith
last-most c e w l n m (inr (k, h)) = try-most h

frames-most : {s : Setting} {P : ℕ → ℤ} {n : ℕ} → FramesWrite s P n → n ≤ 17 * first_cells
frames-most {s} {P} {n} h =
    omega (arith, lead-most h.frames, last-most h.cols s.ends h.whole h.loss h.sofar n h.last, h.tied.sized.live-few)

pub point-most : {s : Setting} {P : ℕ → ℤ} {first : Bool} {n : ℕ} → PointWrites s P first n → n ≤ 17 * first_cells
point-most (known h) = omega arith
point-most (unknown n h w) = frames-most w
