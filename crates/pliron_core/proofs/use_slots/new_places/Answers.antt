use Rattle.std.proofs.Common.{◌∙◌}
use Rattle.pliron_core.proofs.UserLemmas.{places_more}
use Rattle.pliron_core.proofs.use_slots.new_places.Goals as goal

pub loop-i-preserved : goal.loop-i-preserved
loop-i-preserved c = c.in_ok-push.ensures.ok ∙ places_more _ c.args.first c.loop-i.i c.loop-i.invariant
