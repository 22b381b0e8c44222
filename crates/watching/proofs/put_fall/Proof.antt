-- `watching::put_fall` meets its contract: the item's number, and its fall or none.
use mathlib.Core.Path.{◌≡◌, sym}
use native.Mathlib.Numerals.{add-one}
use native.Mathlib.Omega.{arith}
use borrow.Author.Rules.{rules}
use borrow.Author.Tests.{eq-eqb, ne_eqb}
use Rattle.text.proofs.Buffers.{puts, roomier}
use Rattle.watching.proofs.put_fall.Statement.{statement}
use Rattle.watching.proofs.put_fall.Tie as tie

-- the moments that are spoken of below
abbrev start : tie.After-put_natural-arg-1 → tie.Start
start c = c.before.before

add-number : tie.Need-overflow_add-number
add-number c = search rules

put-natural-requires : tie.Need-put_natural-next-requires
put-natural-requires c κs = search rules

put-word-requires : tie.Need-put_word-requires
put-word-requires c κs = search rules

put-natural-requires-2 : tie.Need-put_natural-requires
put-natural-requires-2 c κs = search rules

same_length : tie.Need-shape_of-out-then-d-eq0
same_length c = search rules

returns : tie.Need-returns-then-d-eq0
returns c =
    let w = c.before.before in
    let t = w.before.before.before in
    let n = t.before.before.before.before in
    let s = start n.before in
    let h : s.args.d ≡ 0 = omega arith in
    rw (eq-eqb s.args.d 0 h, sym (add-one s.args.k)) (roomier (omega arith) (puts (omega arith) n.put_natural-next.ensures w.put_word.ensures))

same-length-2 : tie.Need-shape_of-out-else-d-eq0
same-length-2 c = search rules

returns-2 : tie.Need-returns-else-d-eq0
returns-2 c =
    let q = c.before.before in
    let t = q.before.before in
    let n = t.before.before.before in
    let s = start n.before in
    rw (ne_eqb s.args.d 0 (λ e. omega arith), sym (add-one s.args.k)) (puts (omega arith) n.put_natural-next.ensures q.put_natural.ensures)

pub put_fall_spec : {M : Type 1} → statement M
put_fall_spec =
    tie.close
    (tie.spec
    add-number
    put-natural-requires
    put-word-requires
    put-natural-requires-2
    same_length
    returns
    same-length-2
    returns-2)
