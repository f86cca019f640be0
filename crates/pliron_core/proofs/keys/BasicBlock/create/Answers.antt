use Rattle.std.proofs.Common.{rules, ◌≡◌, ◌+◌, ◌++◌, ◌∷◌, [], sym, ap, ◌∙◌, length, subst, slice_set, Some, None, length-append, replicate}
use Rattle.std.specs.List.{range_with_len}
use Rattle.pliron_core.specs.Tree.{Tree, layout_of}
use Rattle.pliron_core.specs.Invariant.{IsWellFormed}
use Rattle.pliron_core.specs.UseTables.{view_of}
use Rattle.pliron_core.specs.Writes.{block_created, argument_definitions}
use Rattle.pliron_core.proofs.UserLemmas.{length-unused}
use Rattle.pliron_core.proofs.WellLemmas.{well_block_created, block_made}
use Rattle.pliron_core.proofs.keys.BasicBlock.create.Goals as goal

made : (c : goal.After-add_targets) → (view_of (record c.ctx.inside { operands = c.add_targets.new.self; successors = c.add_target.new.self; order = c.add_list.new.self; arguments = c.add_block.new.self; layout = c.push_back.new.self })).tree ≡ block_created (view_of c.ctx.inside).tree c.args.region c.args.arguments
made c =
    let t : Tree = (view_of c.ctx.inside).tree in
    let k : c.add_node-key.result ≡ length t.block_parents = search rules in
    let a : c.add_targets.new.self.targets ≡ t.operands = search rules in
    let b : c.add_target.new.self.targets ≡ t.successors = search rules in
    let p : c.add_list.new.self.owners ≡ t.parents = search rules in
    let d : c.add_list.new.self.lists ≡ t.bodies ++ [] ∷ [] = search rules in
    let e : c.add_block.new.self.rows ≡ t.arguments ++ range_with_len (length t.definitions) c.args.arguments ∷ [] = search rules in
    let f : c.push_back.new.self.owners ≡ slice_set (t.block_parents ++ None ∷ []) c.add_node-key.result (Some c.args.region) = search rules in
    let g : c.push_back.new.self.lists ≡ slice_set t.layouts c.args.region (layout_of t c.args.region ++ c.add_node-key.result ∷ []) = search rules in
    let h : c.add_block.new.self.definitions ≡ t.definitions ++ argument_definitions (length t.bodies) c.args.arguments = search rules in
    block_made t c.args.region c.args.arguments c.add_node-key.result _ _ _ _ _ _ _ _ c.ctx.invariant.keys k a b p d e f g h

pub invariant_of-ctx-2 : goal.invariant_of-ctx-2
invariant_of-ctx-2 c =
    let r = rw (← c.ctx.view_is) at c.requires in
    let uses : c.add_targets.new.self.uses ≡ (view_of c.ctx.inside).value_uses ++ replicate c.args.arguments [] = search rules in
    let n : length c.add_targets.new.self.uses ≡ length (view_of c.ctx.inside).value_uses + c.args.arguments = ap length uses ∙ length-unused (view_of c.ctx.inside).value_uses c.args.arguments in
    let q : c.add_target.new.self.uses ≡ (view_of c.ctx.inside).block_uses ++ [] ∷ [] = search rules in
    let m : length c.add_target.new.self.uses ≡ length (view_of c.ctx.inside).block_uses + 1 = ap length q ∙ length-append (view_of c.ctx.inside).block_uses ([] ∷ []) in
    subst (λ t. IsWellFormed (record { tree = t; value_uses = c.add_targets.new.self.uses; block_uses = c.add_target.new.self.uses })) (sym (made c)) (well_block_created (view_of c.ctx.inside) c.args.region c.args.arguments c.add_targets.new.self.uses c.add_target.new.self.uses c.ctx.invariant c.agree.ensures r n m)

pub returns-clause-ok : goal.returns-clause-ok
returns-clause-ok c = rw (← c.ctx.view_is) (made c)
