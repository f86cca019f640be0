use Rattle.std.proofs.Common.{◌≡◌, ◌<◌, ◌∙◌, length, get_or, sym, subst, ⊎_elim, arith}
use Rattle.pliron_graph_dominance.proofs.TableLemmas.{decide}
use Rattle.pliron_graph_order.specs.Numbering.{tables_of, IsDone, IsWaiting}
use Rattle.pliron_graph_order.proofs.NumberLemmas.{get_front, grows_both, done_on, longer}
use Rattle.pliron_graph_order.proofs.PreorderLemmas.{in_at}
use Rattle.pliron_graph_order.proofs.walk.add_all.Goals as goal

pub returns-then-len-i-clause-done : goal.returns-then-len-i-clause-done
returns-then-len-i-clause-done c = λ r i.
    let n = tables_of c.loop-i.numbering in
    let a = in_at n.regions r i in
    subst (IsDone c.args.ctx.now.tree n) a.2 (c.loop-i.invariant.done a.0 (omega (arith, a.1, c.if-len-i.true, c.len.ensures.len)))

pub add_contents-requires-clause-waiting : goal.add_contents-requires-clause-waiting
add_contents-requires-clause-waiting c =
    let n = tables_of c.loop-i.numbering in
    let t = c.args.ctx.now.tree in
    let lt : c.loop-i.i < length n.regions = omega (arith, c.if-len-i.false, c.len.ensures.len) in
    subst (λ z. IsWaiting t n z c.waiting_at-region.result.1) (sym c.waiting_at-region.ensures.region)
    (subst (IsWaiting t n (get_or n.regions c.loop-i.i 0)) (sym c.waiting_at-region.ensures.above) (c.loop-i.invariant.numbered.waits c.loop-i.i lt))

pub loop-i-preserved : goal.loop-i-preserved
loop-i-preserved c =
    let old = tables_of c.loop-i.numbering in
    let new = tables_of c.add_contents.new.numbering in
    let t = c.args.ctx.now.tree in
    let grows = c.in_ok-add_contents.ensures.grows in
    let lt : c.loop-i.i < length old.regions = omega (arith, c.if-len-i.false, c.len.ensures.len) in
    record {
      numbered = c.in_ok-add_contents.ensures.numbered;
      grows = grows_both (tables_of c.args.numbering.now) old new c.loop-i.invariant.grows grows;
      low = omega (arith, lt, longer old.regions grows.regions.0 new.regions grows.regions.1);
      done = λ k lk. ⊎_elim
          (λ e.
          let here : get_or old.regions c.loop-i.i 0 ≡ get_or new.regions c.loop-i.i 0 = sym (get_front old.regions grows.regions.0 new.regions c.loop-i.i grows.regions.1 lt) in
          subst (λ z. IsDone t new (get_or new.regions z 0)) (sym e) (subst (IsDone t new) (c.waiting_at-region.ensures.region ∙ here) c.in_ok-add_contents.ensures.done))
          (λ ne.
          let l' : k < c.loop-i.i = omega (arith, lk, ne) in
          subst (IsDone t new) (sym (get_front old.regions grows.regions.0 new.regions k grows.regions.1 (omega (arith, l', lt)))) (done_on t old new (get_or old.regions k 0) grows (c.loop-i.invariant.done k l')))
          (decide k c.loop-i.i);
    }
