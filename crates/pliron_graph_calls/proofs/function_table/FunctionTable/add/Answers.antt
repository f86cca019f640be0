use Rattle.std.proofs.Common.{ap, sym, subst}
use Rattle.pliron_graph_calls.specs.Names.{names_of}
use Rattle.pliron_graph_calls.specs.Namesakes.{HasNamesakes}
use Rattle.pliron_graph_calls.proofs.AmongLemmas.{read_of}
use Rattle.pliron_graph_calls.proofs.TableLemmas.{taken_apart, taken_twice}
use Rattle.pliron_graph_calls.proofs.function_table.FunctionTable.add.Goals as goal

pub returns-in_ok-push-clause-no_namesakes : goal.returns-in_ok-push-clause-no_namesakes
returns-in_ok-push-clause-no_namesakes g c = λ added apart bad.
    taken_apart c.in_ok-name.name c.self.inside.names.keys c.insert_full.new.self.keys c.in_ok-is_new.is_new c.in_ok-is_new.ensures.added c.in_ok-is_new.ensures.keys added
    (subst (λ v. HasNamesakes (names_of v.names) → ⊥) (sym c.self.view_is) apart) bad

pub returns-else-is_new-clause-namesake : goal.returns-else-is_new-clause-namesake
returns-else-is_new-clause-namesake g c = λ kept.
    taken_twice c.in_ok-name.name c.self.inside.names.keys c.in_ok-is_new.is_new _ _ _ c.in_ok-is_new.ensures.added kept (ap (λ v. names_of v.names) (sym c.self.view_is))
    (read_of g.D.InliningDialect.convention.symbol_of c.args.ctx.now.tree c.args.op _ c.in-Some.ensures.reads c.requires) c.in_ok-name.ensures
