use Rattle.std.proofs.Common.{rules, ◌≡◌, ◌+◌, ◌++◌, [], length, ap, sym, ◌∙◌, arith, replicate}
use Rattle.std.specs.List.{range_with_len}
use Rattle.std.proofs.lemmas.List.FromFn.{length-map-range_with_len}
use Rattle.pliron_core.specs.declared.context.Def.TheVariants.{Result}
use Rattle.pliron_core.specs.Uses.{AreAgreed}
use Rattle.pliron_core.specs.Writes.{result_definitions}
use Rattle.pliron_core.specs.Arguments.{definitions_now, AreMade}
use Rattle.pliron_core.proofs.UserLemmas.{length-unused}
use Rattle.pliron_core.proofs.MadeLemmas.{made-more, same-makers, length-defined}
use Rattle.pliron_core.proofs.arguments.Arguments.add_results.Goals as goal
use Rattle.pliron_core.proofs.arguments.Arguments.add_results.Goals.{After-write_definitions}

rows : (c : After-write_definitions) → c.add_targets.new.self.targets ≡ c.self.inside.lists.targets
rows c = search rules

written : (c : After-write_definitions) → c.write_definitions.new.written.items ≡ c.self.inside.written.items ++ result_definitions c.args.op c.args.count
written c = search rules

made : (c : After-write_definitions) → (definitions_now (c.self.inside.written.items ++ result_definitions c.args.op c.args.count) c.add_targets.new.self.uses ≡ definitions_now c.self.inside.written.items c.self.inside.lists.uses ++ result_definitions c.args.op c.args.count) × AreMade c.self.inside.lists.targets (c.self.inside.written.items ++ result_definitions c.args.op c.args.count) c.add_targets.new.self.uses
made c =
    let agreed : AreAgreed c.self.inside.lists.targets c.self.inside.lists.uses = rw (← ap (λ t. t.targets) c.reserve-2.ensures.kept, ← ap (λ t. t.uses) c.reserve-2.ensures.kept) c.agree.ensures in
    let uses : c.add_targets.new.self.uses ≡ c.self.inside.lists.uses ++ replicate c.args.count [] = search rules in
    let count : length c.add_targets.new.self.uses ≡ length c.self.inside.lists.uses + length (result_definitions c.args.op c.args.count) = omega (arith, ap length uses, length-unused c.self.inside.lists.uses c.args.count, length-map-range_with_len (λ i. Result c.args.op i) 0 c.args.count) in
    made-more _ _ _ agreed c.self.invariant (result_definitions c.args.op c.args.count) c.add_targets.new.self.uses count (rw (rows c) at c.agree-2.ensures)

pub invariant_of-self-2 : goal.invariant_of-self-2
invariant_of-self-2 c = rw (rows c, written c) (made c).1

pub returns-clause-keys : goal.returns-clause-keys
returns-clause-keys c =
    let keys : c.in_ok-keys.keys ≡ range_with_len (length c.self.inside.written.items) c.args.count = search rules in
    rw (← c.self.view_is) (keys ∙ ap (λ n. range_with_len n c.args.count) (sym (length-defined c.self.inside.written.items c.self.inside.lists.uses c.self.invariant.count)))

pub returns-clause-ok : goal.returns-clause-ok
returns-clause-ok c = rw (← c.self.view_is, written c) (same-makers (rows c) (made c).0)
