use Rattle.std.proofs.Common.{◌≡◌, ◌∙◌, Some, slice_get, refl}
use Rattle.std.proofs.lemmas.Option.{slice_get_read}
use Rattle.pliron_rewrite_rules.specs.Tables.{RuleTables}
use Rattle.pliron_rewrite_rules.specs.RuleLaws.{IsAccepted}
use Rattle.pliron_rewrite_rules.proofs.Putting.{each_at, tree_more, values_more, keys_more, still_placed, erasable_now, erasable_same}
use Rattle.pliron_rewrite_rules.proofs.ShownLemmas.{tables, lawful}
use Rattle.pliron_rewrite_rules.proofs.terms.put_atoms.Goals as goal

pub put_atom-requires-clause-placed : goal.put_atom-requires-clause-placed
put_atom-requires-clause-placed g c =
    let x : RuleTables = tables g.D.HasMeaning.meaning g.D.SideEffects.side_effects g.D.ConstFoldInterface.can_fold g.D.ConstFoldInterface.constants g.D.ConstFoldInterface.accepts g.D.ConstFoldInterface.constant_head in
    let d = g.met.D.Dialect in
    let laws = lawful x _ _ d.keeps_counts d.gives_at_once d.answers_true d.makes_constants d.forwards_operands in
    still_placed x c.args.op laws c.args.ctx.now.tree c.well_formed-2.ensures.tree c.requires.placed c.args.atoms.now c.requires.accepted c.loop-atom.atom-index _ c.loop-atom.invariant.tree

pub put_atom-requires-clause-accepted : goal.put_atom-requires-clause-accepted
put_atom-requires-clause-accepted g c =
    let x : RuleTables = tables g.D.HasMeaning.meaning g.D.SideEffects.side_effects g.D.ConstFoldInterface.can_fold g.D.ConstFoldInterface.constants g.D.ConstFoldInterface.accepts g.D.ConstFoldInterface.constant_head in
    let all = c.args.atoms.now in
    let i = c.loop-atom.atom-index in
    let a = c.atom-item.result in
    let at : slice_get all i ≡ Some a = slice_get_read all _ i a refl c.loop-atom-test.true c.atom-item.is in
    each_at (IsAccepted x.accepts) all i a c.requires.accepted at

pub returns-in_err-reserve-clause-erasable : goal.returns-in_err-reserve-clause-erasable
returns-in_err-reserve-clause-erasable g c =
    let x : RuleTables = tables g.D.HasMeaning.meaning g.D.SideEffects.side_effects g.D.ConstFoldInterface.can_fold g.D.ConstFoldInterface.constants g.D.ConstFoldInterface.accepts g.D.ConstFoldInterface.constant_head in
    let d = g.met.D.Dialect in
    let laws = lawful x _ _ d.keeps_counts d.gives_at_once d.answers_true d.makes_constants d.forwards_operands in
    erasable_same x c.args.op laws c.args.ctx.now.tree c.well_formed-2.ensures.tree c.requires.placed c.args.atoms.now c.requires.accepted c.loop-atom.atom-index _ _ _ c.loop-atom.invariant.tree c.loop-atom.invariant.made refl

pub returns-in_err-value-clause-erasable : goal.returns-in_err-value-clause-erasable
returns-in_err-value-clause-erasable g c =
    let x : RuleTables = tables g.D.HasMeaning.meaning g.D.SideEffects.side_effects g.D.ConstFoldInterface.can_fold g.D.ConstFoldInterface.constants g.D.ConstFoldInterface.accepts g.D.ConstFoldInterface.constant_head in
    let d = g.met.D.Dialect in
    let laws = lawful x _ _ d.keeps_counts d.gives_at_once d.answers_true d.makes_constants d.forwards_operands in
    erasable_now x c.args.op laws c.args.ctx.now.tree c.well_formed-2.ensures.tree c.requires.placed c.args.atoms.now c.requires.accepted c.loop-atom.atom-index _ _ _ c.loop-atom.invariant.tree (c.in_err-value.ensures.refused.1 ∙ c.loop-atom.invariant.made) c.in_err-value.ensures.refused.0

pub loop-atom-preserved : goal.loop-atom-preserved
loop-atom-preserved g c =
    let x : RuleTables = tables g.D.HasMeaning.meaning g.D.SideEffects.side_effects g.D.ConstFoldInterface.can_fold g.D.ConstFoldInterface.constants g.D.ConstFoldInterface.accepts g.D.ConstFoldInterface.constant_head in
    let all = c.args.atoms.now in
    let i = c.loop-atom.atom-index in
    let a = c.atom-item.result in
    let at : slice_get all i ≡ Some a = slice_get_read all _ i a refl c.loop-atom-test.true c.atom-item.is in
    record {
      tree = tree_more x c.args.op c.args.ctx.now.tree all i a at _ _ c.loop-atom.invariant.tree c.in_ok-value.ensures.tree;
      values = values_more x c.args.op c.args.ctx.now.tree all i a at _ _ _ c.in_ok-value.value c.loop-atom.invariant.tree (c.reserve.ensures.items ∙ c.loop-atom.invariant.values) c.in_ok-value.ensures.value c.push_reserved.ensures.items;
      made = keys_more x c.args.op c.args.ctx.now.tree all i a at _ _ _ c.loop-atom.invariant.tree c.loop-atom.invariant.made c.in_ok-value.ensures.made;
    }

pub returns-clause-erasable : goal.returns-clause-erasable
returns-clause-erasable g c =
    let x : RuleTables = tables g.D.HasMeaning.meaning g.D.SideEffects.side_effects g.D.ConstFoldInterface.can_fold g.D.ConstFoldInterface.constants g.D.ConstFoldInterface.accepts g.D.ConstFoldInterface.constant_head in
    let d = g.met.D.Dialect in
    let laws = lawful x _ _ d.keeps_counts d.gives_at_once d.answers_true d.makes_constants d.forwards_operands in
    erasable_same x c.args.op laws c.args.ctx.now.tree c.well_formed-2.ensures.tree c.requires.placed c.args.atoms.now c.requires.accepted c.loop-atom.atom-index _ _ _ c.loop-atom.invariant.tree c.loop-atom.invariant.made refl
