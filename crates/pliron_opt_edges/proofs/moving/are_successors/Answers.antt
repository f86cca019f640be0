use Rattle.std.proofs.Common.{◌≡◌, ◌<◌, ◌≤◌, length, Some, slice_get, refl, sym, ap, ◌∙◌, arith}
use Rattle.std.proofs.lemmas.Option.{same_Some, slice_get_read}
use Rattle.pliron_core.specs.Tree.{successors_of}
use Rattle.pliron_core.proofs.NextLemmas.{keys_same, keys_unequal}
use Rattle.pliron_laws.proofs.AnswerLemmas.{yes, no}
use Rattle.pliron_opt_edges.proofs.MoveLemmas.{same_list, equal_more}
use Rattle.pliron_opt_edges.proofs.moving.are_successors.Goals as goal

pub returns-then-ne : goal.returns-then-ne
returns-then-ne c =
    let ss = successors_of c.args.ctx.now.tree c.args.op in
    let lt : c.loop-j.j < length c.args.targets.now = omega arith in
    let at : slice_get c.args.targets.now c.loop-j.j ≡ Some c.index-targets-j.result = slice_get_read c.args.targets.now (length c.args.targets.now) c.loop-j.j c.index-targets-j.result refl lt c.index-targets-j.is in
    let differ = keys_unequal c.get_successor.result c.index-targets-j.result c.if-ne.ensures in
    no (c.args.targets.now ≡ ss) (λ same. differ (same_Some c.get_successor.result c.index-targets-j.result (sym c.get_successor.ensures.successor ∙ ap (λ l. slice_get l c.loop-j.j) (sym same) ∙ at)))

pub returns : goal.returns
returns c =
    let ss = successors_of c.args.ctx.now.tree c.args.op in
    let le : length c.args.targets.now ≤ c.loop-j.j = omega arith in
    yes (c.args.targets.now ≡ ss) (same_list c.args.targets.now ss c.requires.long (λ i x y lt p q. c.loop-j.invariant i x y (omega (arith, lt, le)) p q))

pub loop-j-preserved : goal.loop-j-preserved
loop-j-preserved c =
    let lt : c.loop-j.j < length c.args.targets.now = omega arith in
    let at : slice_get c.args.targets.now c.loop-j.j ≡ Some c.index-targets-j.result = slice_get_read c.args.targets.now (length c.args.targets.now) c.loop-j.j c.index-targets-j.result refl lt c.index-targets-j.is in
    equal_more c.args.targets.now (successors_of c.args.ctx.now.tree c.args.op) c.loop-j.j c.index-targets-j.result c.get_successor.result c.loop-j.invariant at c.get_successor.ensures.successor (sym (keys_same c.get_successor.result c.index-targets-j.result c.if-ne.ensures))
