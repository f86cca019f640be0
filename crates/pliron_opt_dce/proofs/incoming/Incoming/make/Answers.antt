use Rattle.std.proofs.Common.{ap}
use Rattle.std.specs.Option.{option_map, is_some}
use Rattle.pliron_laws.specs.Tree.{is_one_key}
use Rattle.indexmap.specs.IndexMap.{get}
use Rattle.pliron_opt_dce.proofs.IncomingLists.{known_more}
use Rattle.pliron_opt_dce.proofs.incoming.Incoming.make.Goals as goal

pub returns-clause-known : goal.returns-clause-known
returns-clause-known g c = known_more (λ v. v.items) g.D.HasMeaning.meaning c.args.ctx.now.tree c.args.root (λ b. get is_one_key c.args.self.now.lists b) (λ b. get is_one_key c.insert.new.self b) c.args.block c.in_ok-list.list c.in_ok-insert.ensures.updates.0 c.in_ok-list.ensures.edges c.requires.known

pub returns-clause-there : goal.returns-clause-there
returns-clause-there g c = ap (λ z. is_some (option_map (λ v. v.items) z)) c.in_ok-insert.ensures.updates.1
