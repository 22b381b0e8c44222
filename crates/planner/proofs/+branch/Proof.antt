-- `planner::branch` meets its contract: each case leaves fewer needs undecided.
use mathlib.Core.Path.{◌≡◌, sym, ap, subst, ◌∙◌}
use mathlib.Core.Bool.{true, false}
use Prim.Native.Nat.{ℕ, suc, ◌+◌, ◌≤◌, ◌<◌}
use native.Mathlib.Omega.{arith}
use lib.ListN.{length}
use Rattle.knapsack.specs.Meaning.{instance_of, point_of}
use Rattle.model.specs.Needs.{In as Among, Allowed}
use Rattle.model.specs.Records.{FiguresInRange, need_at, placed, needs_of}
use Rattle.model.specs.declared.Need.{Need}
use Rattle.cases.proofs.Searching.{broken-open}
use Rattle.cases.proofs.Splitting.{without, having}
use Rattle.cases.proofs.Undecided.{decided, undecided}
use Rattle.planner.specs.declared.Best.{Best}
use Rattle.planner.specs.Branching.{Placed, breaks, FirstBroken, capped_at, raised_at, Outdoes, known, twigs, counted_of, Worked, SolvesCase, CasesTake}
use Rattle.planner.specs.Branching.{left, kept, split}
use Rattle.planner.proofs.Breaking.{need-in, breaks-yes, every-kept, allowed-placed}
use Rattle.planner.proofs.Exits.{comparable, plain-comparable, optimal-of, counted-work, countable, own-work, enter}
use Rattle.planner.proofs.Exits.{through-behind, through-kept, through-split}
use Rattle.planner.proofs.Parts.{capped_is, raised_is, capped-figures, raised-figures, Part, part_without, part-having}
use Rattle.planner.proofs.Twigs.{twigs-some, twigs-two}
use borrow.Fn.Kinds.{In}
use borrow.Fn.PlainCycle.{Measures, is, falls, and}
use Rattle.planner.proofs.branch.Reads as branch
use Rattle.planner.proofs.branch.Kinds as branch-kinds
use Rattle.planner.proofs.+branch.Lts-branch as branch-lts
use Rattle.planner.proofs.counted.Reads as counted-reads
use Rattle.planner.proofs.first_broken.Reads as first-broken-reads
use Rattle.planner.proofs.having.Reads as having-reads
use Rattle.planner.proofs.need_at.Reads as need-at-reads
use Rattle.planner.proofs.outdoes.Reads as outdoes-reads
use Rattle.planner.proofs.solve_case.Reads as solve-case-reads
use Rattle.planner.proofs.with_best.Reads as with-best-reads
use Rattle.planner.proofs.without.Reads as without-reads
use Rattle.planner.proofs.+branch.{statement}
use Rattle.planner.proofs.+branch.Tie.{close}

abbrev μ-branch : Measures 0 branch-kinds.ps ℕ
μ-branch κs a = undecided (instance_of a.0) (needs_of a.1.1.0)

abbrev branch-at : ℕ → In 0 branch-kinds.ps
branch-at t = and 0 branch-kinds.ps (is 0 branch-kinds.ps μ-branch t) branch.Pre

abbrev branch-below : ℕ → In 0 branch-kinds.ps
branch-below t = and 0 branch-kinds.ps (falls 0 branch-kinds.ps ◌<◌ μ-branch t) branch.Pre

-- what the calls are given, and what they give
abbrev calls : ℕ → branch-lts.Claims
calls t = (
  counted-reads.Asked,
  counted-reads.Learnt,
  outdoes-reads.Asked,
  outdoes-reads.Learnt,
  first-broken-reads.Asked,
  first-broken-reads.Learnt,
  need-at-reads.Asked,
  need-at-reads.Learnt,
  without-reads.Asked,
  without-reads.Learnt,
  solve-case-reads.Asked,
  solve-case-reads.Learnt,
  branch-below t,
  branch.Post,
  having-reads.Asked,
  having-reads.Learnt,
  with-best-reads.Asked,
  with-best-reads.Learnt,
)

module _ (t : ℕ) where
  -- the moments that are spoken of below
  abbrev Start : Type 0
  Start = branch-lts.Start (calls t) (branch-at t) branch.Post

  abbrev Counted : Type 0
  Counted = branch-lts.After-counted-c (calls t) (branch-at t) branch.Post

  abbrev Outdone : Type 0
  Outdone = branch-lts.After-outdoes (calls t) (branch-at t) branch.Post

  abbrev Asked : Type 0
  Asked = branch-lts.After-first_broken-i (calls t) (branch-at t) branch.Post

  abbrev Needing : Type 0
  Needing = branch-lts.After-need_at-n (calls t) (branch-at t) branch.Post

  abbrev Lacking : Type 0
  Lacking = branch-lts.After-without-q (calls t) (branch-at t) branch.Post

  abbrev Having : Type 0
  Having = branch-lts.After-having-h (calls t) (branch-at t) branch.Post

  abbrev Returned : Type 0
  Returned = branch-lts.After-branch-h (calls t) (branch-at t) branch.Post

  abbrev after-outdoes : Asked → Outdone
  after-outdoes f = f.before.before.before

  abbrev after-counted : Outdone → Counted
  after-counted o = o.before.before

  abbrev asked : Needing → Asked
  asked c = c.before.before.before

  abbrev counts : Needing → Counted
  counts c = after-counted (after-outdoes (asked c))

  abbrev start : Needing → Start
  start c = (counts c).before

  abbrev lacks : Having → Lacking
  lacks h = h.before.before.before

  abbrev broken : Needing → Need
  broken c = c.need_at-n.result

  long : (s : Start) → length s.args.p.items ≡ 16
  long s = s.well_formed.0.1.1.0.1.0.1

  -- the needs name places
  places : (s : Start) → Placed s.args.ns
  places s = let b = s.requires.1 in allowed-placed s.args.ns s.args.p b.figures.few-items b.few b.allowed

  -- one case more
  more-work : (s : Start) → Worked s.args.most (s.args.b.cases + 1) (counted_of s.args.b s.args.r)
  more-work s = let b = s.requires.1 in counted-work s.args.most s.args.b s.args.r b.worked b.solved.few-steps b.solved.few-cells

  among : (c : Needing) → Among (broken c) (needs_of (start c).args.ns)
  among c =
      let ns = (start c).args.ns in
      subst (λ n. Among n (needs_of ns)) (sym c.need_at-n.ensures) (need-in ns (asked c).first_broken-i.result c.before.if-i-ns.true)

  its : (c : Needing) → Allowed (instance_of (start c).args.p) (broken c)
  its c = (start c).requires.1.allowed (broken c) (among c)

  -- the need is not decided yet
  open-yet : (c : Needing) → decided (instance_of (start c).args.p) (broken c) ≡ false
  open-yet c =
      let s = start c in
      let f = asked c in
      let o = after-outdoes f in
      let a = s.args.r.answer in
      let i = instance_of s.args.p in
      let k = (o.outdoes.ensures.ahead f.before.before.if-outdoes.true).0 in
      let b : breaks a.point (broken c) ≡ true =
      subst (λ n. breaks a.point n ≡ true) (sym c.need_at-n.ensures) (f.first_broken-i.ensures.broken c.before.if-i-ns.true) in
      broken-open i (broken c) ((its c).item.inside, (its c).cover.inside) (point_of a) (optimal-of i a s.requires.1.solved.answers k).optimal.feasible
      (breaks-yes i a (broken c) b)

  -- the two cases
  q-is : (w : Lacking) → let c = w.before in instance_of w.without-q.result ≡ without (instance_of (start c).args.p) (broken c).item
  q-is w =
      let c = w.before in
      let s = start c in
      ap instance_of w.without-q.ensures ∙ capped_is s.args.p (broken c).item
      (omega (arith, long s, (its c).item.inside, s.requires.1.figures.few-items))

  q-figures : (w : Lacking) → FiguresInRange w.without-q.result
  q-figures w =
      let c = w.before in
      let s = start c in
      let f = s.requires.1.figures in
      let l = (its c).item.inside in
      rw w.without-q.ensures (capped-figures s.args.p (broken c).item (omega (arith, long s, l, f.few-items)) l f)

  q-part : (w : Lacking) → let s = start w.before in Part (instance_of s.args.p) (needs_of s.args.ns) (instance_of w.without-q.result)
  q-part w =
      let c = w.before in
      let s = start c in
      subst (Part (instance_of s.args.p) (needs_of s.args.ns)) (sym (q-is w))
      (part_without (instance_of s.args.p) (needs_of s.args.ns) s.requires.1.allowed s.requires.1.limited (broken c) (among c) (open-yet c))

  h-is : (h : Having) → let c = (lacks h).before in instance_of h.having-h.result ≡ having (instance_of (start c).args.p) (broken c).cover
  h-is h =
      let c = (lacks h).before in
      let s = start c in
      ap instance_of h.having-h.ensures ∙ raised_is s.args.p (broken c).cover
      (omega (arith, long s, (its c).cover.inside, s.requires.1.figures.few-items))

  h-figures : (h : Having) → FiguresInRange h.having-h.result
  h-figures h =
      let c = (lacks h).before in
      let s = start c in
      let f = s.requires.1.figures in
      let l = (its c).cover.inside in
      rw h.having-h.ensures (raised-figures s.args.p (broken c).cover (omega (arith, long s, l, f.few-items)) l f)

  h-part : (h : Having) → let s = start (lacks h).before in Part (instance_of s.args.p) (needs_of s.args.ns) (instance_of h.having-h.result)
  h-part h =
      let c = (lacks h).before in
      let s = start c in
      subst (Part (instance_of s.args.p) (needs_of s.args.ns)) (sym (h-is h))
      (part-having (instance_of s.args.p) (needs_of s.args.ns) s.requires.1.allowed s.requires.1.limited (broken c) (among c) (open-yet c))

  -- both cases are few enough
  both-few : (h : Having) → let s = start (lacks h).before in let ns = needs_of s.args.ns in
      suc (twigs (undecided (instance_of (lacks h).without-q.result) ns) + twigs (undecided (instance_of h.having-h.result) ns))
      ≤ twigs (undecided (instance_of s.args.p) ns)
  both-few h =
      let s = start (lacks h).before in
      let ns = needs_of s.args.ns in
      twigs-two (undecided (instance_of (lacks h).without-q.result) ns) (undecided (instance_of h.having-h.result) ns)
      (undecided (instance_of s.args.p) ns) (q-part (lacks h)).fewer (h-part h).fewer

  -- ---- what the code owes

  branch-counted-requires : branch-lts.Need-counted-c-requires (calls t) (branch-at t) branch.Post
  branch-counted-requires c κs =
      let b = c.requires.1 in
      countable c.args.most c.args.b c.args.r b.short
      (omega (arith, b.room, twigs-some (undecided (instance_of c.args.p) (needs_of c.args.ns)))) b.worked b.solved.few-steps
      b.solved.few-cells

  branch-outdoes-requires : branch-lts.Need-outdoes-requires (calls t) (branch-at t) branch.Post
  branch-outdoes-requires c κs =
      let s = c.before.before in
      let b = s.requires.1 in
      rw c.before.counted-c.ensures (
        b.figures.few-items,
        (
          plain-comparable (instance_of s.args.p) s.args.r.answer b.solved.answers,
          λ f. comparable (instance_of s.args.p) s.args.b.answer (b.holds f),
        ),
      )

  branch-first-broken-requires : branch-lts.Need-first_broken-i-requires (calls t) (branch-at t) branch.Post
  branch-first-broken-requires c κs = places (after-counted c.before.before).before

  branch-need-at-requires : branch-lts.Need-need_at-n-requires (calls t) (branch-at t) branch.Post
  branch-need-at-requires c κs =
      let s = (after-counted (after-outdoes c.before.before)).before in
      omega (arith, c.if-i-ns.true, s.requires.1.few)

  branch-without-requires : branch-lts.Need-without-q-requires (calls t) (branch-at t) branch.Post
  branch-without-requires c κs = omega (arith, (its c).item.inside, (start c).requires.1.figures.few-items)

  branch-solve-case-requires : branch-lts.Need-solve_case-requires (calls t) (branch-at t) branch.Post
  branch-solve-case-requires c κs = (q-figures c, places (start c.before))

  branch-branch-requires : branch-lts.Need-branch-d-requires (calls t) (branch-at t) branch.Post
  branch-branch-requires c κs =
      let w = c.before in
      let s = start w.before in
      let b = s.requires.1 in
      let u = undecided (instance_of w.without-q.result) (needs_of s.args.ns) in
      let part = q-part w in (
        subst (λ n. u < n) s.requires.0 part.fewer,
        rw (counts w.before).counted-c.ensures
            (enter s.args.p w.without-q.result s.args.ns s.args.most c.solve_case.result (counted_of s.args.b s.args.r)
            (q-figures w) c.solve_case.ensures.0 b.short b.few part b.holds (own-work (more-work s))
            (omega (arith, b.room, twigs-two u u (undecided (instance_of s.args.p) (needs_of s.args.ns)) part.fewer part.fewer))),
      )

  branch-having-requires : branch-lts.Need-having-h-requires (calls t) (branch-at t) branch.Post
  branch-having-requires c κs = let n = c.before.before.before in omega (arith, (its n).cover.inside, (start n).requires.1.figures.few-items)

  branch-solve-case-requires-2 : branch-lts.Need-solve_case-requires-then-i-ns (calls t) (branch-at t) branch.Post
  branch-solve-case-requires-2 c κs = (h-figures c, places (start (lacks c).before))

  branch-branch-requires-2 : branch-lts.Need-branch-h-requires (calls t) (branch-at t) branch.Post
  branch-branch-requires-2 c κs =
      let h = c.before in
      let n = (lacks h).before in
      let s = start n in
      let b = s.requires.1 in
      let ns = needs_of s.args.ns in
      let part = h-part h in
      let d = h.before.branch-d in
      let most : d.result.cases ≤ s.args.b.cases + 1 + twigs (undecided (instance_of (lacks h).without-q.result) ns) =
      rw (counts n).counted-c.ensures at d.ensures.0.worked.cases in (
        subst (λ u. undecided (instance_of h.having-h.result) ns < u) s.requires.0 part.fewer,
        enter s.args.p h.having-h.result s.args.ns s.args.most c.solve_case-then-i-ns.result d.result (h-figures h) c.solve_case-then-i-ns.ensures.0
            b.short b.few part (λ f. (q-part (lacks h)).out d.result.answer (d.ensures.0.holds f)) (own-work d.ensures.0.worked)
            (omega (arith, b.room, most, both-few h)),
      )

  -- the point is ahead of what is known
  ahead_of : (f : Asked) → let s = (after-counted (after-outdoes f)).before in
      Outdoes s.args.p.count s.args.r.answer (counted_of s.args.b s.args.r) true
  ahead_of f =
      let o = after-outdoes f in
      let k = after-counted o in
      let s = k.before in
      subst (λ x. Outdoes s.args.p.count s.args.r.answer x true) k.counted-c.ensures
      (subst (Outdoes s.args.p.count s.args.r.answer k.counted-c.result) f.before.before.if-outdoes.true o.outdoes.ensures)

  -- the work of both cases
  split-take : (c : Returned) → let s = start (lacks c.before.before).before in
      CasesTake s.args.ns s.args.most s.args.p s.args.r s.args.b c.branch-h.result
  split-take c =
      let h = c.before.before in
      let w = lacks h in
      let n = w.before in
      let f = asked n in
      let s = start n in
      let k = (counts n).counted-c in
      let ns = s.args.ns in
      let most = s.args.most in
      let i = f.first_broken-i.result in
      let one = counted_of s.args.b s.args.r in
      let d = h.before.branch-d in
      let v = h.before.before.solve_case in
      let z = c.before.solve_case-then-i-ns in
      let q : w.without-q.result ≡ capped_at s.args.p (placed (need_at ns i)).item =
      w.without-q.ensures ∙ ap (λ (x : Need). capped_at s.args.p x.item) n.need_at-n.ensures in
      let g : h.having-h.result ≡ raised_at s.args.p (placed (need_at ns i)).cover =
      h.having-h.ensures ∙ ap (λ (x : Need). raised_at s.args.p x.cover) n.need_at-n.ensures in
      split s.args.p s.args.r s.args.b i v.result z.result d.result c.branch-h.result
      (ahead_of f) f.first_broken-i.ensures n.before.if-i-ns.true
      (subst (λ x. SolvesCase most x (needs_of ns) v.result) q v.ensures)
      (subst (λ x. CasesTake ns most x v.result one d.result) q
      (subst (λ x. CasesTake ns most w.without-q.result v.result x d.result) k.ensures d.ensures.1))
      (subst (λ x. SolvesCase most x (needs_of ns) z.result) g z.ensures)
      (subst (λ x. CasesTake ns most x z.result d.result c.branch-h.result) g c.branch-h.ensures.1)

  branch-returns : branch-lts.Need-returns-then-i-ns (calls t) (branch-at t) branch.Post
  branch-returns c =
      let h = c.before.before in
      let w = lacks h in
      let n = w.before in
      let s = start n in
      let k = (counts n).counted-c in (
        through-split (instance_of s.args.p) (needs_of s.args.ns) s.args.most s.requires.1.allowed (broken n) (among n)
            (instance_of w.without-q.result) (instance_of h.having-h.result) (q-is w) (h-is h) (q-part w) (h-part h) s.args.b k.result
            h.before.branch-d.result c.branch-h.result (ap known k.ensures) (ap (λ (x : Best). x.cases) k.ensures) h.before.branch-d.ensures.0
            c.branch-h.ensures.0,
        split-take c,
      )

  branch-with-best-requires : branch-lts.Need-with_best-requires (calls t) (branch-at t) branch.Post
  branch-with-best-requires c κs = tt

  branch-returns-2 : branch-lts.Need-returns-then-outdoes (calls t) (branch-at t) branch.Post
  branch-returns-2 c =
      let f = c.before.before.before in
      let o = f.before.before.before in
      let k = o.before.before in
      let s = k.before in
      let b = s.requires.1 in
      let i = instance_of s.args.p in
      let a = s.args.r.answer in
      let e = f.first_broken-i.ensures in
      let all : f.first_broken-i.result ≡ s.args.ns.count = omega (arith, e.most, c.before.if-i-ns.false) in
      let ahead = rw k.counted-c.ensures at (o.outdoes.ensures.ahead f.before.before.if-outdoes.true) in
      rw (c.with_best.ensures, k.counted-c.ensures) (
        through-kept i (needs_of s.args.ns) s.args.most s.args.b s.args.r a b.solved.answers b.solved.first b.limited b.holds
            (more-work s) ahead
            (every-kept s.args.ns i a b.allowed (optimal-of i a b.solved.answers ahead.0).optimal.feasible
            (λ j m. e.kept j (omega (arith, all, m)))),
        kept s.args.p s.args.r s.args.b (ahead_of f) (subst (FirstBroken a.point s.args.ns) all e),
      )

  branch-returns-3 : branch-lts.Need-returns (calls t) (branch-at t) branch.Post
  branch-returns-3 c =
      let o = c.before in
      let k = after-counted o in
      let s = k.before in
      let b = s.requires.1 in
      rw k.counted-c.ensures (
        through-behind (instance_of s.args.p) (needs_of s.args.ns) s.args.most s.args.b s.args.r s.args.r.answer b.solved.answers
            b.solved.first b.limited b.holds (more-work s) (rw k.counted-c.ensures at (o.outdoes.ensures.behind c.if-outdoes.false)),
        left s.args.p s.args.r s.args.b
            (subst (Outdoes s.args.p.count s.args.r.answer (counted_of s.args.b s.args.r)) c.if-outdoes.false
            (rw k.counted-c.ensures at o.outdoes.ensures)),
      )

pub +branch_spec : {M : Type 1} → statement M
+branch_spec = close μ-branch λ t. branch-lts.spec (calls t)
    (branch-at t)
    branch.Post
    (branch-counted-requires t)
    (branch-outdoes-requires t)
    (branch-first-broken-requires t)
    (branch-need-at-requires t)
    (branch-without-requires t)
    (branch-solve-case-requires t)
    (branch-branch-requires t)
    (branch-having-requires t)
    (branch-solve-case-requires-2 t)
    (branch-branch-requires-2 t)
    (branch-returns t)
    (branch-with-best-requires t)
    (branch-returns-2 t)
    (branch-returns-3 t)
