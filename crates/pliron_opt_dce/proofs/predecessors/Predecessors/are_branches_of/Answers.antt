use Rattle.std.proofs.Common.{rules, ◌≡◌, Some}
use Rattle.pliron_opt_dce.specs.Predecessors.{mark_of_block}
use Rattle.pliron_opt_dce.proofs.predecessors.Predecessors.are_branches_of.Goals as goal

pub returns-in-Some : goal.returns-in-Some
returns-in-Some g c =
    let marked : mark_of_block c.args.self.now c.args.block ≡ Some c.in-Some.mark.now = search (rules, c.in-Some.ensures.value) in
    c.requires.marked c.args.block c.in-Some.mark.now marked c.requires.inside
