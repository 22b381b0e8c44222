-- Laws of runs.
-- reply-inside: every program's text lies within its bytes. not-both: a sheet is not whole and a part.
use Prim.Native.Nat.{ℕ, ◌≤◌}
use mathlib.Core.Path.{◌≡◌, sym, ◌∙◌, subst}
use mathlib.Core.Bool.{Bool, true, false}
use mathlib.Core.List.{List}
use lib.Dec.{T}
use lib.ListN.{length, take}
use Rattle.text.specs.declared.Text.{Text}
use Rattle.text.specs.Buffer.{Shows}
use Rattle.console.specs.declared.Program.{Program}
use Rattle.console.specs.declared.Program.TheVariants.{Charge, Convert, Watch}
use Rattle.console.specs.Running.{ReplyOf}

pub reply-inside :
    (g : Program) (s : List ℕ) (t : Text) → ReplyOf g s t → (t.len ≤ length t.bytes) × (t.len ≡ length (take t.len t.bytes))
reply-inside Charge s t r = (r.shown.inside, r.shown.counted)
reply-inside Convert s t r = (r.inside, r.counted)
reply-inside Watch s t r = (r.shown.inside, r.shown.counted)

pub not-both : (b : Bool) → b ≡ true → b ≡ false → ⊥
not-both b h k = subst T (sym h ∙ k) tt
