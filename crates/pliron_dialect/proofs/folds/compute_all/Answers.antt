use Rattle.std.proofs.Common.{ap, sym, ◌∙◌}
use Rattle.std.specs.Option.{option_map}
use Rattle.std.proofs.lemmas.Result.{IfOk-weaker}
use Rattle.pliron_core.specs.declared.attrs.AttrObj.TheVariants.{Int}
use Rattle.pliron_dialect.specs.Roles.{knows_in}
use Rattle.pliron_dialect.proofs.NumberLemmas.{computed_all, computed_none}
use Rattle.pliron_dialect.proofs.folds.compute_all.Goals as goal

pub returns-then-are_all_known : goal.returns-then-are_all_known
returns-then-are_all_known g c = IfOk-weaker c.compute_known.result _ _ (λ answer e. e ∙ ap (option_map (λ m. Int m)) (computed_all (knows_in (g.K.Roles.tables.role_of c.args.kind)) c.args.head.now c.args.operand_attrs.now (sym c.are_all_known.ensures ∙ c.if-are_all_known.true))) c.compute_known.ensures

pub returns-else-are_all_known : goal.returns-else-are_all_known
returns-else-are_all_known g c = ap (option_map (λ m. Int m)) (computed_none (knows_in (g.K.Roles.tables.role_of c.args.kind)) c.args.head.now c.args.operand_attrs.now (sym c.are_all_known.ensures ∙ c.if-are_all_known.false))
