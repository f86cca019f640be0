use Rattle.std.proofs.Common.{subst, sym, ap, ◌∙◌}
use Rattle.pliron_core.specs.Changes.{IsSameTree}
use Rattle.pliron_core.specs.Writes.{after_replacing}
use Rattle.pliron_laws.proofs.FoldLemmas.{on_err}
use Rattle.pliron_laws.proofs.ConstantLemmas.{made_live, made_result, made_defined, put_defined, put_unused, erased_made, erased_long, put_done}
use Rattle.pliron_laws.proofs.materialise.put_constant.Goals as goal

pub get_result-new-requires-clause-live : goal.get_result-new-requires-clause-live
get_result-new-requires-clause-live g c = let f = c.requires.fresh in made_live f.0 c.args.ctx.now.tree c.args.constant f.1 f.2.made f.2.key

pub get_result-new-requires-clause-index : goal.get_result-new-requires-clause-index
get_result-new-requires-clause-index g c = let f = c.requires.fresh in made_result f.0 c.args.ctx.now.tree c.args.constant f.1 f.2.made f.2.key

pub insert_or_erase-requires-clause-fresh : goal.insert_or_erase-requires-clause-fresh
insert_or_erase-requires-clause-fresh g c = let f = c.requires.fresh in (f.0, f.1, record { tree = f.2.tree; made = f.2.made; key = f.2.key })

pub hand_over-requires-clause-old : goal.hand_over-requires-clause-old
hand_over-requires-clause-old g c = let f = c.requires.fresh in put_defined c.args.ctx.now.tree c.insert_or_erase.new.ctx.tree _ c.args.constant c.args.old c.in_ok-insert_or_erase.ensures.ok (made_defined f.0 c.args.ctx.now.tree c.args.old f.1 f.2.made f.2.value)

pub hand_over-requires-clause-new : goal.hand_over-requires-clause-new
hand_over-requires-clause-new g c = put_defined c.args.ctx.now.tree c.insert_or_erase.new.ctx.tree _ c.args.constant c.get_result-new.result c.in_ok-insert_or_erase.ensures.ok c.get_result-new.ensures.liveness

pub hand_over-requires-clause-unused : goal.hand_over-requires-clause-unused
hand_over-requires-clause-unused g c = λ k i. let f = c.requires.fresh in put_unused f.0 c.args.ctx.now.tree c.insert_or_erase.new.ctx.tree c.args.constant c.get_result-new.result k f.1 _ f.2.tree f.2.made f.2.key c.get_result-new.ensures.value c.in_ok-insert_or_erase.ensures.ok i

pub returns-in_err-insert_or_erase-clause-err : goal.returns-in_err-insert_or_erase-clause-err
returns-in_err-insert_or_erase-clause-err g c = on_err _ c.from_residual.result (λ t head f. subst (IsSameTree t) (sym c.in_err-insert_or_erase.ensures.err) (erased_made t c.args.ctx.now.tree c.args.constant head f.tree f.made f.key))

pub returns-in_err-insert_or_erase-clause-longer : goal.returns-in_err-insert_or_erase-clause-longer
returns-in_err-insert_or_erase-clause-longer g c = erased_long c.args.ctx.now.tree c.insert_or_erase.new.ctx.tree c.args.constant c.in_err-insert_or_erase.ensures.err

pub returns-clause-ok : goal.returns-clause-ok
returns-clause-ok g c = λ t head f.
    put_done t c.args.ctx.now.tree c.hand_over.new.ctx.tree c.args.constant c.args.old c.get_result-new.result head _ f.made f.key c.get_result-new.ensures.value (c.hand_over.ensures.replaced ∙ ap (λ z. after_replacing z c.args.old c.get_result-new.result) c.in_ok-insert_or_erase.ensures.ok)
