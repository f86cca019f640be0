use Rattle.std.proofs.Common.{subst, sym}
use Rattle.pliron_core.specs.Erased.{IsSelfContained}
use Rattle.pliron_laws.proofs.ConstantLemmas.{made_live, made_free, made_contained}
use Rattle.pliron_laws.proofs.materialise.insert_or_erase.Goals as goal

pub insert_operation-requires-clause-live : goal.insert_operation-requires-clause-live
insert_operation-requires-clause-live g c = let f = c.requires.fresh in made_live f.0 c.args.ctx.now.tree c.args.constant f.1 f.2.made f.2.key

pub insert_operation-requires-clause-free : goal.insert_operation-requires-clause-free
insert_operation-requires-clause-free g c = let f = c.requires.fresh in made_free f.0 c.args.ctx.now.tree c.args.constant f.1 f.2.tree f.2.made f.2.key

pub erase_operation-requires-clause-contained : goal.erase_operation-requires-clause-contained
erase_operation-requires-clause-contained g c =
    let f = c.requires.fresh in
    subst (λ v. IsSelfContained v.tree c.args.constant) (sym c.in-Err.ensures.err) (made_contained f.0 c.args.ctx.now.tree c.args.constant f.1 f.2.tree c.well_formed-2.ensures.tree f.2.made f.2.key)
