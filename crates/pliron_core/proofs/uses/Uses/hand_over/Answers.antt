use Rattle.std.proofs.Common.{◌<◌, length, map, ap, ◌∙◌, sym, arith}
use Rattle.std.specs.List.{slice_get}
use Rattle.std.proofs.lemmas.List.{length-map}
use Rattle.pliron_core.specs.UseSlots.{ranked_use}
use Rattle.pliron_core.proofs.MoveLemmas.{unused_is, handed, linked-moved, holes-moved, targets-moved, reword}
use Rattle.pliron_core.proofs.uses.Uses.hand_over.Goals as goal

pub retarget-requires-clause-listed : goal.retarget-requires-clause-listed
retarget-requires-clause-listed c k u e =
    let r = rw (← c.self.view_is) at c.requires in
    let long = length-map c.self.inside.uses.items (map (ranked_use c.self.inside.places.items)) in
    let ho : c.args.old < length c.self.inside.uses.items = omega (arith, r.old, long) in
    let hn : c.args.new < length c.self.inside.uses.items = omega (arith, r.new, long) in
    let q = handed _ _ _ _ _ ho hn (unused_is c.self.inside.places.items c.self.inside.uses.items c.args.new r.unused) c.swap.ensures.items c.index-2.ensures in
    c.self.invariant.linked.placed _ _ _ _ (sym (ap (λ l. slice_get l k) q.index_is) ∙ e)

pub retarget-requires-clause-placed : goal.retarget-requires-clause-placed
retarget-requires-clause-placed c k user place e =
    let r = rw (← c.self.view_is) at c.requires in
    let long = length-map c.self.inside.uses.items (map (ranked_use c.self.inside.places.items)) in
    let ho : c.args.old < length c.self.inside.uses.items = omega (arith, r.old, long) in
    let hn : c.args.new < length c.self.inside.uses.items = omega (arith, r.new, long) in
    let q = handed _ _ _ _ _ ho hn (unused_is c.self.inside.places.items c.self.inside.uses.items c.args.new r.unused) c.swap.ensures.items c.index-2.ensures in
    ap (λ l. slice_get l k) q.index_is ∙ c.self.invariant.linked.used _ _ _ _ e (λ f. omega (arith, ho, c.self.invariant.linked.few, f))

pub invariant_of-self : goal.invariant_of-self
invariant_of-self c =
    let r = rw (← c.self.view_is) at c.requires in
    let long = length-map c.self.inside.uses.items (map (ranked_use c.self.inside.places.items)) in
    let ho : c.args.old < length c.self.inside.uses.items = omega (arith, r.old, long) in
    let hn : c.args.new < length c.self.inside.uses.items = omega (arith, r.new, long) in
    let q = handed _ _ _ _ _ ho hn (unused_is c.self.inside.places.items c.self.inside.uses.items c.args.new r.unused) c.swap.ensures.items c.index-2.ensures in
    let each = reword _ _ _ _ _ _ _ _ q.none (ap length q.index_is) c.retarget.ensures.each in
    record {
      linked = rw q.lists_is (linked-moved _ _ _ _ _ c.self.invariant.linked ho hn r.differ each);
      holes = holes-moved _ _ _ _ _ c.self.invariant.linked ho hn r.differ each _ c.retarget.ensures.len c.self.invariant.holes;
    }

pub returns-clause-targets : goal.returns-clause-targets
returns-clause-targets c =
    let r = rw (← c.self.view_is) at c.requires in
    let long = length-map c.self.inside.uses.items (map (ranked_use c.self.inside.places.items)) in
    let ho : c.args.old < length c.self.inside.uses.items = omega (arith, r.old, long) in
    let hn : c.args.new < length c.self.inside.uses.items = omega (arith, r.new, long) in
    let q = handed _ _ _ _ _ ho hn (unused_is c.self.inside.places.items c.self.inside.uses.items c.args.new r.unused) c.swap.ensures.items c.index-2.ensures in
    rw (← c.self.view_is) (targets-moved _ _ _ _ _ c.self.invariant.linked ho hn r.differ (reword _ _ _ _ _ _ _ _ q.none (ap length q.index_is) c.retarget.ensures.each) c.retarget.ensures.len)
