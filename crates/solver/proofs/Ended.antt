-- Why the answer of a search that has ended is true, and why that of the scales is.
-- scales-found, scales-showable: the scales find a place, and its filling is an answer of which the first point can be shown.
-- ended-found, ended-shown, ended-shown-first: a search that has ended has found one, and its filling is the answer that shows the first best point.
-- tied-search: a prepared problem with its columns tied can be searched.
use mathlib.Core.Path.{◌≡◌, refl, ap, ◌∙◌}
use mathlib.Core.Bool.{Bool, true}
use Rattle.std.specs.Prelude.{List, is_some, unwrap_or, replicate}
use lib.IntN.{ℤ, pos}
use Rattle.ceiling.specs.Sizes.{Spanned}
use Rattle.foremost.specs.Order.{TiedOf}
use Rattle.greedy.specs.declared.Columns.{Columns}
use Rattle.greedy.specs.Fill.{at}
use Rattle.knapsack.specs.Meaning.{Instance, instance_of, ShownOptimal, ShownFirst}
use Rattle.knapsack.specs.declared.Answer.{Answer}
use Rattle.knapsack.specs.declared.Problem.{Problem}
use Rattle.placed.specs.Placed.{Showable}
use Rattle.placed.proofs.Firstly.{first-foremost}
use Rattle.prepare.specs.Pairs.{PairsOf}
use Rattle.prepare.proofs.Nearer.{near-spanned}
use Rattle.search.specs.declared.Incumbent.{Incumbent}
use Rattle.search.specs.Searched.{Searched}
use Rattle.search.specs.Steps.{FilledBest}
use Rattle.search.specs.Tying.{with_cols, ReadySearch}
use Rattle.setting.specs.declared.Pairs.{Pairs}
use Rattle.setting.specs.declared.Setting.{Setting}
use Rattle.setting.specs.Box.{Long, Inside}
use Rattle.settling.specs.declared.Settled.{Settled}
use Rattle.settling.specs.Settling.{Settles}
use Rattle.solver.specs.Outcomes.{Best, BestIn, Answerable}
use Rattle.solver.proofs.Outcomes.{must-find, columns_of_lem, tied-columns, optimal-found}
use Rattle.solver.proofs.Scales.{settled-best, optimal-at, tied-ready, ended-best, ended-lead, ended_at}

module _ (p : Problem) (s : Setting) (h : Answerable p s) where
  abbrev I : Instance
  I = instance_of p

  pub own-spanned : Spanned s.cols s.ends
  own-spanned = near-spanned p h.range s h.prepared

  found : (c : Columns) (f : Bool) (x : List ℤ) → BestIn s c f x → f ≡ true
  found c f x g = must-find p h.range s h.prepared h.no-ray h.point h.feasible c f x g

  pub tied-search : (named : List Bool) (ps : Pairs) → PairsOf p named ps → (c : Columns) → TiedOf s.cols c → ReadySearch (with_cols s c) ps
  tied-search named ps q c t = record {
    setting = tied-ready s h.prepared.ready c t;
    true-pairs = q.ready c (record {
      weights-agree = λ k l. ap (λ w. at w k) t.weight ∙ h.prepared.weights k l;
      prices-agree = λ k l. ap (λ w. at w k) t.price ∙ h.prepared.prices k l;
    });
  }

  module _ (long : Long s.ends) where
    module _ (t : Settled) (g : Settles s.cols s.ends s.level s.levels t) where
      abbrev place : List ℤ
      place = unwrap_or t.place (replicate 16 (pos 0))

      best : BestIn s s.cols (is_some t.place) place
      best = settled-best s h.prepared.ready long t g

      pub scales-found : is_some t.place ≡ true
      scales-found = found s.cols (is_some t.place) place best

      pub scales-inside : BestIn s s.cols (is_some t.place) place
      scales-inside = best

      pub scales-showable : (a : Answer) → Best s s.cols place a → Showable p s (at place) a
      scales-showable a b = record {
        range = h.range;
        prepared = h.prepared;
        spanned = own-spanned;
        no-ray = h.no-ray;
        optimal-at = optimal-at s h.prepared.ready long (is_some t.place) place best scales-found;
        kind-is = b.kind-is;
        shown = optimal-found p h.range s h.prepared s.cols (columns_of_lem p h.range s h.prepared) (is_some t.place) place best scales-found a b
            h.no-ray;
      }

    module _ (c : Columns) (t : TiedOf s.cols c) (b : Incumbent) (g : Searched (with_cols s c) b) (f : FilledBest (with_cols s c) b) where
      own-best : BestIn s c b.found b.place
      own-best = ended-best s h.prepared.ready c t long b g f

      pub ended-found : b.found ≡ true
      ended-found = found c b.found b.place own-best

      pub ended-inside : Inside s (at b.place)
      ended-inside = own-best.inside ended-found

      pub ended-shown : (a : Answer) → Best s c b.place a → ShownOptimal I a
      ended-shown a k = optimal-found p h.range s h.prepared c (tied-columns p h.range s h.prepared c t) b.found b.place own-best ended-found
          a k h.no-ray

      showable : (a : Answer) → Best s c b.place a → Showable p s (at b.place) a
      showable a k = record {
        range = h.range;
        prepared = h.prepared;
        spanned = own-spanned;
        no-ray = h.no-ray;
        optimal-at = ended_at s h.prepared.ready c t long b g f ended-found;
        kind-is = k.kind-is;
        shown = ended-shown a k;
      }

      pub ended-shown-first : (a : Answer) → Best s c b.place a → ShownFirst I a
      ended-shown-first a k low e = first-foremost p s (at b.place) a (showable a k) low (record { point = a.point; written = 0 })
          (ended-lead s h.prepared.ready c t long b g f ended-found a.point k.point-is) a refl refl refl
