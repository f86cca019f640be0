use Rattle.std.proofs.Common.{◌≡◌, ℕ, refl, sym, subst, ap, Some}
use Rattle.std.specs.List.{slice_get}
use Rattle.pliron_core.specs.UseTables.{view_of}
use Rattle.pliron_core.specs.Tree.{In, arguments_of, operands_of}
use Rattle.pliron_core.specs.Invariant.{IsWellFormed}
use Rattle.pliron_core.specs.Writes.{argument_removed}
use Rattle.pliron_core.proofs.AgreementLemmas.{unnamed_from-no_uses}
use Rattle.pliron_core.proofs.WellLemmas.{well_argument_removed}
use Rattle.pliron_core.proofs.keys.BasicBlock.remove_argument.Goals as goal

-- the tree after the writes
deleted : (c : goal.After-remove) → record (view_of c.ctx.inside).tree { arguments = c.remove.new.self.rows; definitions = c.remove.new.self.definitions } ≡ argument_removed (view_of c.ctx.inside).tree c.args.block c.args.i
deleted c = rw (c.remove.ensures.rows, c.remove.ensures.definitions) refl

pub invariant_of-ctx : goal.invariant_of-ctx
invariant_of-ctx c =
    let r = rw (← c.ctx.view_is) at c.requires in
    let unused : (k x : ℕ) → slice_get (arguments_of (view_of c.ctx.inside).tree c.args.block) c.args.i ≡ Some x → In x (operands_of (view_of c.ctx.inside).tree k) → ⊥ = λ k x e. unnamed_from-no_uses _ _ x c.agree.ensures (rw e at r.unused) k in
    subst (λ t. IsWellFormed (record (view_of c.ctx.inside) { tree = t })) (sym (deleted c)) (well_argument_removed (view_of c.ctx.inside) c.args.block c.args.i c.ctx.invariant r.block unused)

pub returns : goal.returns
returns c = rw (← c.ctx.view_is) (ap (λ t. record (view_of c.ctx.inside) { tree = t }) (deleted c))
