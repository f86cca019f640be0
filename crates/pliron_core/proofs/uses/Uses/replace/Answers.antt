use Rattle.std.proofs.Common.{◌-◌, ◌<◌, length, map, ap, ◌∙◌, sym, subst, arith}
use Rattle.std.specs.List.{slice_get}
use Rattle.std.proofs.lemmas.List.{length-map}
use Rattle.pliron_core.specs.UseSlots.{ranked_use}
use Rattle.pliron_core.specs.Holes.{AreLinked}
use Rattle.pliron_core.proofs.MoveLemmas.{reads, put_back, linked-moved, holes-moved, targets-moved, reword}
use Rattle.pliron_core.proofs.uses.Uses.replace.Goals as goal

pub invariant_of-self : goal.invariant_of-self
invariant_of-self c =
    let r = rw (← c.self.view_is) at c.requires in
    let long = length-map c.self.inside.uses.items (map (ranked_use c.self.inside.places.items)) in
    let ho : c.args.old < length c.self.inside.uses.items = omega (arith, r.old, long) in
    let hn : c.args.new < length c.self.inside.uses.items = omega (arith, r.new, long) in
    subst (AreLinked c.self.inside.places.items c.self.inside.holes.items) (sym (put_back _ _ _ _ _ _ _ _ ho hn r.differ c.index_mut.ensures.value c.replace-moved.ensures.value c.index_mut-2.ensures.value c.in-Err.ensures.err)) c.self.invariant

pub returns-in-Err-clause-err : goal.returns-in-Err-clause-err
returns-in-Err-clause-err c =
    let r = rw (← c.self.view_is) at c.requires in
    let long = length-map c.self.inside.uses.items (map (ranked_use c.self.inside.places.items)) in
    let ho : c.args.old < length c.self.inside.uses.items = omega (arith, r.old, long) in
    let hn : c.args.new < length c.self.inside.uses.items = omega (arith, r.new, long) in
    rw (put_back _ _ _ _ _ _ _ _ ho hn r.differ c.index_mut.ensures.value c.replace-moved.ensures.value c.index_mut-2.ensures.value c.in-Err.ensures.err) c.self.view_is

pub overflow_sub-first : goal.overflow_sub-first
overflow_sub-first c =
    let r = rw (← c.self.view_is) at c.requires in
    let long = length-map c.self.inside.uses.items (map (ranked_use c.self.inside.places.items)) in
    let ho : c.args.old < length c.self.inside.uses.items = omega (arith, r.old, long) in
    let hn : c.args.new < length c.self.inside.uses.items = omega (arith, r.new, long) in
    let q = reads _ _ _ _ _ _ _ _ _ ho hn r.differ c.index_mut.ensures.value c.replace-moved.ensures.value (c.replace-moved.ensures.after ∙ c.new.ensures) c.index_mut-2.ensures.value c.in_default.ensures.ok c.index-2.ensures in
    let fits = q.fits in
    let end = c.count-end.ensures in
    let len = c.len.ensures in
    omega (arith, fits, end, len)

pub retarget-requires-clause-listed : goal.retarget-requires-clause-listed
retarget-requires-clause-listed c k u e =
    let r = rw (← c.self.view_is) at c.requires in
    let long = length-map c.self.inside.uses.items (map (ranked_use c.self.inside.places.items)) in
    let ho : c.args.old < length c.self.inside.uses.items = omega (arith, r.old, long) in
    let hn : c.args.new < length c.self.inside.uses.items = omega (arith, r.new, long) in
    let q = reads _ _ _ _ _ _ _ _ _ ho hn r.differ c.index_mut.ensures.value c.replace-moved.ensures.value (c.replace-moved.ensures.after ∙ c.new.ensures) c.index_mut-2.ensures.value c.in_default.ensures.ok c.index-2.ensures in
    c.self.invariant.linked.placed _ _ _ _ (sym (ap (λ l. slice_get l k) q.moved_is) ∙ e)

pub retarget-requires-clause-placed : goal.retarget-requires-clause-placed
retarget-requires-clause-placed c k user place e =
    let r = rw (← c.self.view_is) at c.requires in
    let long = length-map c.self.inside.uses.items (map (ranked_use c.self.inside.places.items)) in
    let ho : c.args.old < length c.self.inside.uses.items = omega (arith, r.old, long) in
    let hn : c.args.new < length c.self.inside.uses.items = omega (arith, r.new, long) in
    let q = reads _ _ _ _ _ _ _ _ _ ho hn r.differ c.index_mut.ensures.value c.replace-moved.ensures.value (c.replace-moved.ensures.after ∙ c.new.ensures) c.index_mut-2.ensures.value c.in_default.ensures.ok c.index-2.ensures in
    ap (λ l. slice_get l k) q.moved_is ∙ c.self.invariant.linked.used _ _ _ _ e (λ f. omega (arith, ho, c.self.invariant.linked.few, f))

pub invariant_of-self-2 : goal.invariant_of-self-2
invariant_of-self-2 c =
    let r = rw (← c.self.view_is) at c.requires in
    let long = length-map c.self.inside.uses.items (map (ranked_use c.self.inside.places.items)) in
    let ho : c.args.old < length c.self.inside.uses.items = omega (arith, r.old, long) in
    let hn : c.args.new < length c.self.inside.uses.items = omega (arith, r.new, long) in
    let q = reads _ _ _ _ _ _ _ _ _ ho hn r.differ c.index_mut.ensures.value c.replace-moved.ensures.value (c.replace-moved.ensures.after ∙ c.new.ensures) c.index_mut-2.ensures.value c.in_default.ensures.ok c.index-2.ensures in
    let each = reword _ _ _ _ _ _ _ _ (ap (λ n. n - c.len.result) c.count-end.ensures ∙ ap (λ n. length c.index-2.result.now - n) c.len.ensures ∙ q.first_is) (ap length q.moved_is) c.retarget.ensures.each in
    record {
      linked = rw q.lists_is (linked-moved _ _ _ _ _ c.self.invariant.linked ho hn r.differ each);
      holes = holes-moved _ _ _ _ _ c.self.invariant.linked ho hn r.differ each _ c.retarget.ensures.len c.self.invariant.holes;
    }

pub returns-clause-targets : goal.returns-clause-targets
returns-clause-targets c =
    let r = rw (← c.self.view_is) at c.requires in
    let long = length-map c.self.inside.uses.items (map (ranked_use c.self.inside.places.items)) in
    let ho : c.args.old < length c.self.inside.uses.items = omega (arith, r.old, long) in
    let hn : c.args.new < length c.self.inside.uses.items = omega (arith, r.new, long) in
    let q = reads _ _ _ _ _ _ _ _ _ ho hn r.differ c.index_mut.ensures.value c.replace-moved.ensures.value (c.replace-moved.ensures.after ∙ c.new.ensures) c.index_mut-2.ensures.value c.in_default.ensures.ok c.index-2.ensures in
    rw (← c.self.view_is) (targets-moved _ _ _ _ _ c.self.invariant.linked ho hn r.differ (reword _ _ _ _ _ _ _ _ (ap (λ n. n - c.len.result) c.count-end.ensures ∙ ap (λ n. length c.index-2.result.now - n) c.len.ensures ∙ q.first_is) (ap length q.moved_is) c.retarget.ensures.each) c.retarget.ensures.len)
