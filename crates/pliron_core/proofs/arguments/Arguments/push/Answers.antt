use Rattle.std.proofs.Common.{rules, ◌≡◌, ◌<◌, ◌++◌, ◌∷◌, [], length, ap, ◌∙◌, get_or, slice_set}
use Rattle.pliron_core.specs.declared.context.Def.TheVariants.{Argument}
use Rattle.pliron_core.specs.Arguments.{definitions_now, AreMade}
use Rattle.pliron_core.proofs.MadeLemmas.{made-pushed, length-uses-defined}
use Rattle.pliron_core.proofs.arguments.Arguments.push.Goals as goal
use Rattle.pliron_core.proofs.arguments.Arguments.push.Goals.{After-push_reserved}

rows : (c : After-push_reserved) → c.push_new.new.self.targets ≡ slice_set c.self.inside.lists.targets c.args.block (get_or c.self.inside.lists.targets c.args.block [] ++ length (definitions_now c.self.inside.written.items c.self.inside.lists.uses) ∷ [])
rows c =
    c.in_ok-value.ensures.targets
    ∙ ap (λ b. slice_set c.self.inside.lists.targets b (get_or c.self.inside.lists.targets b [] ++ length c.self.inside.lists.uses ∷ [])) c.index.ensures
    ∙ ap (λ n. slice_set c.self.inside.lists.targets c.args.block (get_or c.self.inside.lists.targets c.args.block [] ++ n ∷ [])) (length-uses-defined _ _ _ c.self.invariant)

written : (c : After-push_reserved) → c.push_reserved.new.self.items ≡ c.self.inside.written.items ++ Argument c.args.block 0 ∷ []
written c = search rules

made : (c : After-push_reserved) → (definitions_now (c.self.inside.written.items ++ Argument c.args.block 0 ∷ []) c.push_new.new.self.uses ≡ definitions_now c.self.inside.written.items c.self.inside.lists.uses ++ Argument c.args.block (length (get_or c.self.inside.lists.targets c.args.block [])) ∷ []) × AreMade (slice_set c.self.inside.lists.targets c.args.block (get_or c.self.inside.lists.targets c.args.block [] ++ length (definitions_now c.self.inside.written.items c.self.inside.lists.uses) ∷ [])) (c.self.inside.written.items ++ Argument c.args.block 0 ∷ []) c.push_new.new.self.uses
made c =
    let within : c.args.block < length c.self.inside.lists.targets = rw (← c.self.view_is) at c.requires in
    made-pushed _ _ _ c.agree.ensures c.self.invariant c.args.block within c.push_new.new.self.uses c.in_ok-value.ensures.count (rw (rows c) at c.agree-2.ensures)

pub invariant_of-self-2 : goal.invariant_of-self-2
invariant_of-self-2 c =
    let k = (goal.at.invariant_of-self-2 c).After-push_reserved in
    rw (rows k, written k) (made k).1

pub returns-clause-value : goal.returns-clause-value
returns-clause-value c = rw (← c.self.view_is) (c.new.ensures ∙ c.in_ok-value.ensures.key ∙ length-uses-defined _ _ _ c.self.invariant)

pub returns-clause-rows : goal.returns-clause-rows
returns-clause-rows c = rw (← c.self.view_is) (rows (goal.at.returns-clause-rows c).After-push_reserved)

pub returns-clause-definitions : goal.returns-clause-definitions
returns-clause-definitions c =
    let k = (goal.at.returns-clause-definitions c).After-push_reserved in
    rw (← c.self.view_is, written k) (made k).0
