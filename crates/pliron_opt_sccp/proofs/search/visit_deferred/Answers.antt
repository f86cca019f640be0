use Rattle.pliron_opt_sccp.proofs.search.visit_deferred.Goals as goal

pub visit_and_keep-requires-clause-live : goal.visit_and_keep-requires-clause-live
visit_and_keep-requires-clause-live g c =
    let placed = c.requires.placed c.in-Some.op c.in-Some.ensures.some.was in
    (c.well_formed-2.ensures.tree.joined.all_in_place c.in-Some.op placed.block placed.in_block).0

pub visit_and_keep-requires-clause-targets : goal.visit_and_keep-requires-clause-targets
visit_and_keep-requires-clause-targets g c =
    let placed = c.requires.placed c.in-Some.op c.in-Some.ensures.some.was in
    c.requires.targets c.in-Some.op placed.block placed.in_block placed.reached
