use Rattle.std.proofs.Common.{rules, ◌≡◌, [], Some, remove, slice_set, slice_index_or}
use Rattle.pliron_core.specs.UseSlots.{at}
use Rattle.pliron_core.proofs.MadeLemmas.{made-removed}
use Rattle.pliron_core.proofs.arguments.Arguments.remove.Goals as goal

pub invariant_of-self : goal.invariant_of-self
invariant_of-self c =
    let there : at c.self.inside.lists.targets c.args.block c.args.i ≡ Some c.remove-value.result = search rules in
    let left : c.remove-value.new.self.targets ≡ slice_set c.self.inside.lists.targets c.args.block (remove (slice_index_or c.self.inside.lists.targets c.args.block []) c.args.i) = search rules in
    let made = made-removed _ _ _ c.agree.ensures c.self.invariant c.args.block c.args.i c.remove-value.result there c.remove-value.new.self.uses c.remove-value.ensures.count (rw left at c.agree-2.ensures) in
    rw (c.place-index.ensures, left) made.1

pub returns-clause-definitions : goal.returns-clause-definitions
returns-clause-definitions c =
    let there : at c.self.inside.lists.targets c.args.block c.args.i ≡ Some c.remove-value.result = search rules in
    let left : c.remove-value.new.self.targets ≡ slice_set c.self.inside.lists.targets c.args.block (remove (slice_index_or c.self.inside.lists.targets c.args.block []) c.args.i) = search rules in
    let made = made-removed _ _ _ c.agree.ensures c.self.invariant c.args.block c.args.i c.remove-value.result there c.remove-value.new.self.uses c.remove-value.ensures.count (rw left at c.agree-2.ensures) in
    rw (← c.self.view_is, c.place-index.ensures) made.0
