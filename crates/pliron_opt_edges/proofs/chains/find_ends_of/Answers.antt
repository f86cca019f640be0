use Rattle.std.proofs.Common.{◌≤◌, length, arith}
use Rattle.std.proofs.lemmas.Option.{slice_get_within}
use Rattle.pliron_core.specs.Tree.{successors_of}
use Rattle.pliron_core.proofs.FlatLemmas.{In-slice_get, slice_get-In}
use Rattle.pliron_opt_edges.proofs.WalkLemmas.{found_start, found_more}
use Rattle.pliron_opt_edges.proofs.chains.find_ends_of.Goals as goal

pub loop-j-init : goal.loop-j-init
loop-j-init g c = found_start g.D.HasMeaning.meaning.is_branch c.args.ctx.now.tree c.args.ends.now (successors_of c.args.ctx.now.tree c.args.op) c.requires.known

pub find_end-requires-clause-block : goal.find_end-requires-clause-block
find_end-requires-clause-block g c = c.well_formed-2.ensures.tree.joined.successors c.args.op c.get_successor.result (In-slice_get (successors_of c.args.ctx.now.tree c.args.op) c.loop-j.j c.get_successor.result c.get_successor.ensures.successor)

pub find_end-requires-clause-known : goal.find_end-requires-clause-known
find_end-requires-clause-known g c = c.loop-j.invariant.right

pub loop-j-preserved : goal.loop-j-preserved
loop-j-preserved g c = found_more g.D.HasMeaning.meaning.is_branch c.args.ctx.now.tree c.args.ends.now c.loop-j.ends c.find_end.new.ends (successors_of c.args.ctx.now.tree c.args.op) c.loop-j.j c.get_successor.result c.loop-j.invariant c.get_successor.ensures.successor c.in_ok-find_end.ensures.known c.in_ok-find_end.ensures.there c.in_ok-find_end.ensures.more

pub returns-clause-known : goal.returns-clause-known
returns-clause-known g c = c.loop-j.invariant.right

pub returns-clause-more : goal.returns-clause-more
returns-clause-more g c = c.loop-j.invariant.more

pub returns-clause-there : goal.returns-clause-there
returns-clause-there g c =
    let ss = successors_of c.args.ctx.now.tree c.args.op in
    let whole : length ss ≤ c.loop-j.j = omega arith in
    λ b i. let at = slice_get-In b ss i in c.loop-j.invariant.there at.0 b (omega (arith, whole, slice_get_within ss at.0 b at.1)) at.1
