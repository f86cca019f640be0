use Rattle.pliron_opt_dce.specs.Predecessors.{mark_of_block}
use Rattle.pliron_opt_dce.proofs.MarkLemmas.{none_marked}
use Rattle.pliron_opt_dce.proofs.predecessors.Predecessors.new.Goals as goal

pub loop-block-init : goal.loop-block-init
loop-block-init g c = none_marked g.D.HasMeaning.meaning c.args.ctx.now.tree c.args.root (λ b. mark_of_block c.empty-known.result b) c.empty-known.ensures
