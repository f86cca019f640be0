use Rattle.std.proofs.Common.{rules, ◌≡◌, ◌<◌, [], length, slice_set, slice_index_or}
use Rattle.pliron_core.specs.Writes.{argument_definitions_from}
use Rattle.pliron_core.proofs.MadeLemmas.{made-cleared, same-makers}
use Rattle.pliron_core.proofs.arguments.Arguments.clear.Goals as goal

pub invariant_of-self : goal.invariant_of-self
invariant_of-self c =
    let within : c.args.block < length c.self.inside.lists.targets = search rules in
    let rows : c.clear.new.self.targets ≡ slice_set c.self.inside.lists.targets c.args.block [] = search rules in
    let written : c.write_arguments.new.written.items ≡ argument_definitions_from c.self.inside.written.items c.args.block 0 (slice_index_or c.self.inside.lists.targets c.args.block []) = search rules in
    let made = made-cleared _ c.self.inside.written.items _ c.agree.ensures c.self.invariant c.args.block within c.clear.new.self.uses c.clear.ensures.count (rw rows at c.agree-2.ensures) in
    rw (rows, written) made.1

pub returns : goal.returns
returns c =
    let within : c.args.block < length c.self.inside.lists.targets = search rules in
    let rows : c.clear.new.self.targets ≡ slice_set c.self.inside.lists.targets c.args.block [] = search rules in
    let written : c.write_arguments.new.written.items ≡ argument_definitions_from c.self.inside.written.items c.args.block 0 (slice_index_or c.self.inside.lists.targets c.args.block []) = search rules in
    let made = made-cleared _ c.self.inside.written.items _ c.agree.ensures c.self.invariant c.args.block within c.clear.new.self.uses c.clear.ensures.count (rw rows at c.agree-2.ensures) in
    rw (← c.self.view_is, written) (same-makers rows made.0)
