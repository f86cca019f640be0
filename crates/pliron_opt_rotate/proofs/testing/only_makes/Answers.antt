use Rattle.std.proofs.Common.{◌≡◌, length, arith}
use Rattle.pliron_core.specs.Tree.{successors_of}
use Rattle.pliron_opt_rotate.proofs.Walks.{no_items}
use Rattle.pliron_opt_rotate.proofs.testing.only_makes.Goals as goal

pub returns-clause-successors : goal.returns-clause-successors
returns-clause-successors c = λ e.
    let none : length (successors_of c.args.ctx.now.tree c.args.op) ≡ 0 = omega (arith, c.num_successor.ensures, c.if-num_successor-ne0.false) in
    no_items (successors_of c.args.ctx.now.tree c.args.op) none
