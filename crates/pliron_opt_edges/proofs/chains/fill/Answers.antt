use Rattle.std.proofs.Common.{◌<◌, ◌≤◌, length, Some, slice_get, refl, ◌≡◌, arith}
use Rattle.std.proofs.lemmas.Option.{slice_get_read}
use Rattle.pliron_opt_edges.proofs.WalkLemmas.{fill_start, fill_more, fill_end}
use Rattle.pliron_opt_edges.proofs.chains.fill.Goals as goal

pub loop-i-init : goal.loop-i-init
loop-i-init g c = fill_start g.D.HasMeaning.meaning.is_branch c.args.ctx.now.tree c.args.ends.now c.args.path.now c.args.from c.args.end c.requires.walked

pub loop-i-preserved : goal.loop-i-preserved
loop-i-preserved g c =
    let lt : c.loop-i.i < length c.args.path.now = omega arith in
    let at : slice_get c.args.path.now c.loop-i.i ≡ Some c.index-path-i.result = slice_get_read c.args.path.now (length c.args.path.now) c.loop-i.i c.index-path-i.result refl lt c.index-path-i.is in
    fill_more g.D.HasMeaning.meaning.is_branch c.args.ctx.now.tree c.args.ends.now c.args.path.now c.args.from c.args.end c.requires.walked c.loop-i.ends c.put.new.self c.loop-i.i c.index-path-i.result c.loop-i.invariant at c.in_ok-put.ensures.put

pub returns-clause-known : goal.returns-clause-known
returns-clause-known g c =
    let le : length c.args.path.now ≤ c.loop-i.i = omega arith in
    fill_end g.D.HasMeaning.meaning.is_branch c.args.ctx.now.tree c.args.ends.now c.args.path.now c.args.from c.args.end c.requires.walked c.loop-i.ends c.loop-i.i le c.loop-i.invariant
