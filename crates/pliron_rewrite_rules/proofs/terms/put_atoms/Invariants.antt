use Rattle.std.proofs.Common.{◌≡◌, take}
use Rattle.pliron_rewrite_rules.specs.Rewriting.{with_atoms, atom_values}
use Rattle.pliron_rewrite_rules.specs.Putting.{atom_keys}
use Rattle.pliron_rewrite_rules.proofs.ShownLemmas.{tables}
use Rattle.pliron_rewrite_rules.proofs.terms.put_atoms.Given as goal

abbrev pub invariant-loop-atom : goal.invariant-loop-atom
invariant-loop-atom g l =
    let x = tables g.D.HasMeaning.meaning g.D.SideEffects.side_effects g.D.ConstFoldInterface.can_fold g.D.ConstFoldInterface.constants g.D.ConstFoldInterface.accepts g.D.ConstFoldInterface.constant_head in
    record {
      tree : l.ctx.tree ≡ with_atoms x l.fn.ctx.tree l.op (take l.atom-index l.atoms);
      values : l.values.items ≡ atom_values x l.fn.ctx.tree l.op (take l.atom-index l.atoms);
      made : l.made.items ≡ atom_keys x l.fn.ctx.tree l.op (take l.atom-index l.atoms);
    }
