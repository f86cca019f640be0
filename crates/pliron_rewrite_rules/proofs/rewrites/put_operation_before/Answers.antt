use Rattle.std.proofs.Common.{◌≡◌, ◌∙◌, sym, ap, subst}
use Rattle.pliron_laws.specs.MaterialisedConstants.{IsRestored}
use Rattle.pliron_theory.specs.Keeps.{KeepsAllRuns, with_roots}
use Rattle.pliron_theory.proofs.SweptKeeps.{same_keeps}
use Rattle.pliron_rewrite_rules.specs.Insertions.{IsMadeOperation}
use Rattle.pliron_rewrite_rules.proofs.Inserted.{available_defined, inserted_laws}
use Rattle.pliron_rewrite_rules.proofs.MadeOperations.{made_inserted, made_point}
use Rattle.pliron_rewrite_rules.proofs.rewrites.put_operation_before.Goals as goal

pub create_with_operands-made-requires : goal.create_with_operands-made-requires
create_with_operands-made-requires g c = λ v i. available_defined _ c.well_formed-2.ensures.tree c.args.at v (c.requires.available v i)

pub insert_new_operation-put-requires-clause-point : goal.insert_new_operation-put-requires-clause-point
insert_new_operation-put-requires-clause-point g c =
    made_point _ _ _ _ _ c.in_ok-op.ensures.ok c.well_formed-3.ensures.tree c.args.at _
    (c.create_with_operands-made.ensures.point ∙ c.room.ensures.point ∙ c.set_insertion_point_before_operation.ensures) c.requires.placed

pub returns-in_err-op-clause-runs : goal.returns-in_err-op-clause-runs
returns-in_err-op-clause-runs g c = λ chosen.
    let back = c.in_err-op.ensures.err in
    same_keeps (with_roots g.D.HasMeaning.meaning chosen) _ _ c.well_formed-2.ensures.tree c.well_formed-3.ensures.tree back.same back.longer

pub returns-in_err-put-clause-runs : goal.returns-in_err-put-clause-runs
returns-in_err-put-clause-runs g c = λ chosen.
    let back = c.in_err-put.ensures.err _ _ _ c.in_ok-op.ensures.ok in
    same_keeps (with_roots g.D.HasMeaning.meaning chosen) _ _ c.well_formed-2.ensures.tree c.well_formed-4.ensures.tree back.same back.longer

pub returns-clause-runs : goal.returns-clause-runs
returns-clause-runs g c =
    let m = c.in_ok-op.ensures.ok in
    let at = c.create_with_operands-made.ensures.point ∙ c.room.ensures.point ∙ c.set_insertion_point_before_operation.ensures in
    let is = made_inserted _ _ _ _ _ m c.args.at _ _ at c.in_ok-put.ensures.ok in
    subst (KeepsAllRuns g.D.HasMeaning.meaning c.args.ctx.now.tree) (sym is)
    ((inserted_laws g.D.HasMeaning.meaning g.met.D.Dialect.keeps_counts).runs c.args.ctx.now.tree c.args.at c.args.head c.args.operands.now (record {
      tree = c.well_formed-2.ensures.tree;
      placed = c.requires.placed;
      insertable = c.requires.insertable;
      available = c.requires.available;
    }))
