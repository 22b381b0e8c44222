-- `runcefo::work_of` meets its contract: the work of both replies fits.
use mathlib.Core.Path.{◌≡◌, refl}
use mathlib.Core.Bool.{Bool, true, false}
use Prim.Native.Nat.{ℕ, ◌+◌, ◌*◌, ◌≤◌}
use native.Mathlib.Nat.{mul-le-mul_right}
use native.Mathlib.Omega.{arith}
use borrow.Author.Rules.{rules}
use Rattle.model.specs.declared.Model.{Model}
use Rattle.model.specs.declared.Sense.{Sense}
use Rattle.model.specs.declared.Sense.TheVariants.{Sure, Possible}
use Rattle.model.specs.Records.{needs_of, Admissible}
use Rattle.planner.specs.Branching.{most_cases}
use Rattle.planner.proofs.Twigs.{cases-most}
use Rattle.solver.specs.Outcomes.{most_work}
use Rattle.solver.specs.declared.Solved.{Solved}
use Rattle.model.specs.Records.{some_range}
use Rattle.runcefo.specs.Entries.{Solves, Besides}
use Rattle.runcefo.proofs.work_of.Statement.{statement}
use Rattle.runcefo.proofs.work_of.Tie as tie

-- the work of one reply is far below what a word holds
few-steps : (sense : Sense) (m : Model) (r : Solved) → Admissible m → Solves sense m r → r.steps ≤ 65536000
few-steps sense m r a h = omega (arith, h.answers.few-steps, mul-le-mul_right 500 (cases-most m.needs a.few-needs))

-- so is that of the other
few-besides : (f : Solved → ℕ) (n : ℕ) (m : Model) (t : Bool) (k : ℕ) → ((r : Solved) → Solves Possible m r → f r ≤ n) → Besides f m t k → k ≤ n
few-besides f n m true k all h = rw h.1.1 (all h.0 h.1.0)
few-besides f n m false k all h = rw h (omega arith)

few-cells : (sense : Sense) (m : Model) (r : Solved) → Admissible m → Solves sense m r → r.cells ≤ 131072 * most_work
few-cells sense m r a h = omega (arith, h.answers.few-cells, mul-le-mul_right most_work (cases-most m.needs a.few-needs))

-- the moments that are spoken of below
abbrev start : tie.In-Ok → tie.Start
start t = t.before.before

abbrev taken : tie.After-work_besides-b → tie.In-Ok
taken c = c.before.before

fair : (t : tie.In-Ok) → Admissible (start t).args.r.model
fair t = (start t).requires t.in-Ok.is

both-steps : (c : tie.After-work_besides-b) → c.solved_in-a.result.steps + c.work_besides-b.result.steps ≤ 262144000
both-steps c =
    let t = taken c in
    let m = (start t).args.r.model in
    let a = c.solved_in-a in
    let b = c.work_besides-b in
    omega (arith, few-steps Sure m a.result (fair t) a.ensures, few-besides (λ r. r.steps) 65536000 m (some_range m) b.result.steps (λ r. few-steps Possible m r (fair t)) b.ensures.0)

both-cells : (c : tie.After-work_besides-b) → c.solved_in-a.result.cells + c.work_besides-b.result.cells ≤ 17713094669107200
both-cells c =
    let t = taken c in
    let m = (start t).args.r.model in
    let a = c.solved_in-a in
    let b = c.work_besides-b in
    omega (arith, few-cells Sure m a.result (fair t) a.ensures, few-besides (λ r. r.cells) (131072 * most_work) m (some_range m) b.result.cells (λ r. few-cells Possible m r (fair t)) b.ensures.1)

enum_told : tie.Need-enum_told-1
enum_told c = search rules

solved-in-requires : tie.Need-solved_in-a-requires
solved-in-requires c κs = fair c

work-besides-requires : tie.Need-work_besides-b-requires
work-besides-requires c κs = fair c.before

add-t8 : tie.Need-overflow_add-result
add-t8 c = omega (arith, both-steps c.before.before)

-- behind the fields that are read
abbrev behind : tie.After-struct_known-in-Ok-3-1 → tie.After-work_besides-b
behind c = let k = c.before.before in k.before.before

add-t9 : tie.Need-overflow_add-result-in-Ok
add-t9 c = omega (arith, both-cells (behind c))

enum-told-2 : tie.Need-enum_told-in-Err
enum-told-2 c = search rules

returns : tie.Need-returns-in-Ok
returns c =
    let d = behind c in
    let a = d.solved_in-a in
    let b = d.work_besides-b in
    rw (taken d).in-Ok.is
    ((a.result, b.result.steps, (a.ensures, (b.ensures.0, refl))), (a.result, b.result.cells, (a.ensures, (b.ensures.1, refl))))

returns-2 : tie.Need-returns-in-Err
returns-2 c = rw c.in-Err.is (refl, refl)

pub work_of_spec : {M : Type 1} → statement M
work_of_spec =
    tie.close
    (tie.spec
    enum_told
    solved-in-requires
    work-besides-requires
    add-t8
    add-t9
    enum-told-2
    returns
    returns-2)
