-- One item more is loaded, or stored back; the core answers the query that the whole list makes.
use mathlib.Core.Path.{refl, ap, subst, ◌∙◌}
use native.Mathlib.Numerals.{add-one}
use Rattle.std.proofs.Common.{◌≡◌, ◌<◌, ◌++◌, take, drop, length, get_or, arith, rules, to_z, of_z, w64}
use lib.ListN.{set}
use mir.Val.{SFits}
use mir.Facts.{to_z-of_z}
use Rattle.model.specs.declared.Model.{Model}
use Rattle.model.specs.Records.{no_item, item_at}
use Rattle.model.specs.Promises.{Relaxed}
use Rattle.relaxation.specs.declared.Query.{Query}
use Rattle.ordering.proofs.Lists.{store-more}
use Rattle.relaxation.specs.Lent.{usable, loaded, with_next, settled, Relaxes}
use Rattle.relaxation.proofs.Lent.{load-more, load-all, settled-length, stored}
use Rattle.relaxation.proofs.relax_with.Goals as goal

pub loop-i-preserved : goal.loop-i-preserved
loop-i-preserved c =
    let items = c.args.items.now in
    let i = c.loop-i.i in
    let h : i < usable (length items) = omega (arith, c.loop-i.invariant.looked) in
    record {
      looked = c.loop-i.invariant.looked;
      copied = rw add-one (c.with_next-q.ensures ∙ ap (λ (q : Query). with_next q i (get_or items i no_item)) c.loop-i.invariant.copied
          ∙ load-more (to_z w64 (of_z w64 c.args.capacity)) c.args.terms items i h);
    }

pub loop-i-2-init : goal.loop-i-2-init
loop-i-2-init c =
    let items = c.args.items.now in
    let b = to_z w64 (of_z w64 c.args.capacity) in
    let e : c.loop-i.i ≡ usable (length items) = omega (arith, c.loop-i.invariant.looked) in
    let q : c.loop-i.q ≡ loaded b (length items) c.args.terms items =
    c.loop-i.invariant.copied ∙ ap (λ n. loaded b (length items) c.args.terms (take n items)) e ∙ load-all b c.args.terms items in
    record {
      looked = c.loop-i.invariant.looked;
      model = c.core-o.ensures.model ∙ ap settled q;
      stored = refl;
    }

pub loop-i-2-preserved : goal.loop-i-2-preserved
loop-i-2-preserved c =
    let items = c.args.items.now in
    let model = c.core-o.result.model in
    let i = c.loop-i-2.i in
    let v = c.loop-i-2.invariant in
    let long : length model.items ≡ 16 = ap (λ (m : Model). length m.items) v.model
    ∙ settled-length (to_z w64 (of_z w64 c.args.capacity)) c.args.terms items in
    let h : i < usable (length items) = omega (arith, v.looked) in
    record {
      looked = v.looked;
      model = v.model;
      stored = rw add-one (ap (λ l. set l i (item_at model i)) v.stored
          ∙ store-more no_item model.items items i (omega (arith, long)) (omega arith));
    }

pub returns : goal.returns
returns c =
    let items = c.args.items.now in
    let t = c.args.terms in
    let b = to_z w64 (of_z w64 c.args.capacity) in
    let e : c.loop-i.i ≡ usable (length items) = omega (arith, c.loop-i.invariant.looked) in
    let f : c.loop-i-2.i ≡ usable (length items) = omega (arith, c.loop-i.invariant.looked) in
    let q : c.loop-i.q ≡ loaded b (length items) t items =
    c.loop-i.invariant.copied ∙ ap (λ n. loaded b (length items) t (take n items)) e ∙ load-all b t items in
    let fits : SFits w64 c.args.capacity = search rules in
    let s = c.loop-i-2.invariant.stored ∙ ap (λ n. take n c.core-o.result.model.items ++ drop n items) f
    ∙ ap (λ m. take (usable (length items)) m.items ++ drop (usable (length items)) items) c.loop-i-2.invariant.model in
    subst (λ z. Relaxes z t items c.loop-i-2.items c.core-o.result.answer) (to_z-of_z {w = w64} {z = c.args.capacity} fits) record {
      list = s ∙ stored b t items;
      reply = subst (λ (q : Query). Relaxed q.sense q.model c.core-o.result.answer) q c.core-o.ensures.reply;
    }
