use Rattle.indexmap.specs.IndexMap.{get}
use Rattle.pliron_laws.specs.Tree.{is_one_key}
use Rattle.pliron_opt_dce.proofs.MarkLemmas.{marked_more}
use Rattle.pliron_opt_dce.proofs.predecessors.Predecessors.add.Goals as goal

pub returns : goal.returns
returns g c = marked_more g.D.HasMeaning.meaning c.args.ctx.now.tree c.args.root (λ b. get is_one_key c.args.self.now.marks b) (λ b. get is_one_key c.insert.new.self b) c.args.block c.are_branches-mark.result c.in_ok-insert.ensures.updates.0 c.are_branches-mark.ensures c.requires
