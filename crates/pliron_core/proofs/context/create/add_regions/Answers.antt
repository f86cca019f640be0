use Rattle.std.proofs.Common.{ap, ◌∙◌, arith, [], replicate}
use Rattle.pliron_core.specs.declared.context.RegionSlot.{RegionSlot}
use Rattle.pliron_core.specs.Writes.{region_slots}
use Rattle.pliron_core.proofs.GrownLemmas.{mapped_range_more, added_more, replicate_more}
use Rattle.pliron_core.proofs.context.create.add_regions.Goals as goal

pub loop-index-preserved : goal.loop-index-preserved
loop-index-preserved c =
    let added = c.add_list.ensures.added in
    record {
      slots = c.push_reserved.ensures.items ∙ added_more _ _ (region_slots c.args.op c.loop-index.index) _ _ c.loop-index.invariant.slots (mapped_range_more (λ j. let q : RegionSlot = record { op = c.args.op; index = j } in q) c.loop-index.index);
      len = omega (arith, c.push_reserved.ensures.len, c.loop-index.invariant.len);
      capacity = c.push_reserved.ensures.capacity ∙ c.loop-index.invariant.capacity;
      lists = ap (λ t. t.lists) added ∙ added_more _ _ (replicate c.loop-index.index []) _ _ c.loop-index.invariant.lists (replicate_more c.loop-index.index []);
      owners = ap (λ t. t.owners) added ∙ c.loop-index.invariant.owners;
      room = omega (arith, ap (λ t. t.list_room) added, c.loop-index.invariant.room, c.requires.lists, c.loop-index-test.true);
    }
