use Rattle.std.proofs.Common.{rules, ◌≡◌, ◌++◌, ◌∷◌, [], length, ap, ◌∙◌}
use Rattle.std.specs.List.{range_with_len}
use Rattle.pliron_core.specs.Writes.{argument_definitions}
use Rattle.pliron_core.specs.Arguments.{definitions_now, AreMade}
use Rattle.pliron_core.proofs.MadeLemmas.{made-block, length-uses-defined}
use Rattle.pliron_core.proofs.arguments.Arguments.add_block.Goals as goal
use Rattle.pliron_core.proofs.arguments.Arguments.add_block.Goals.{After-write_definitions}

rows : (c : After-write_definitions) → c.add_user_with.new.self.targets ≡ c.self.inside.lists.targets ++ range_with_len (length (definitions_now c.self.inside.written.items c.self.inside.lists.uses)) c.args.count ∷ []
rows c = c.in_ok-add_user_with.ensures.targets ∙ ap (λ n. c.self.inside.lists.targets ++ range_with_len n c.args.count ∷ []) (length-uses-defined _ _ _ c.self.invariant)

written : (c : After-write_definitions) → c.write_definitions.new.written.items ≡ c.self.inside.written.items ++ argument_definitions (length c.self.inside.lists.targets) c.args.count
written c = search rules

made : (c : After-write_definitions) → (definitions_now (c.self.inside.written.items ++ argument_definitions (length c.self.inside.lists.targets) c.args.count) c.add_user_with.new.self.uses ≡ definitions_now c.self.inside.written.items c.self.inside.lists.uses ++ argument_definitions (length c.self.inside.lists.targets) c.args.count) × AreMade (c.self.inside.lists.targets ++ range_with_len (length (definitions_now c.self.inside.written.items c.self.inside.lists.uses)) c.args.count ∷ []) (c.self.inside.written.items ++ argument_definitions (length c.self.inside.lists.targets) c.args.count) c.add_user_with.new.self.uses
made c = made-block _ _ _ c.agree.ensures c.self.invariant c.args.count c.add_user_with.new.self.uses c.in_ok-add_user_with.ensures.count (rw (rows c) at c.agree-2.ensures)

pub invariant_of-self-2 : goal.invariant_of-self-2
invariant_of-self-2 c = rw (rows c, written c) (made c).1

pub returns-clause-rows : goal.returns-clause-rows
returns-clause-rows c = rw (← c.self.view_is) (rows c)

pub returns-clause-definitions : goal.returns-clause-definitions
returns-clause-definitions c = rw (← c.self.view_is, written c) (made c).0
