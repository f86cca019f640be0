use Rattle.std.proofs.lemmas.Option.{slice_get_within}
use Rattle.pliron_core.proofs.context.edge_reads.first_edge_source.Goals as goal

pub is_first_edge-requires-clause-place : goal.is_first_edge-requires-clause-place
is_first_edge-requires-clause-place c = slice_get_within _ _ _ (c.well_formed-2.ensures.uses.block_uses.listed _ _ _ c.get_use-user.ensures.listed)
