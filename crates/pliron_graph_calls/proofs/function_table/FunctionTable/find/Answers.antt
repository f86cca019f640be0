use Rattle.std.proofs.Common.{ap, sym}
use Rattle.pliron_graph_calls.specs.Names.{names_of}
use Rattle.pliron_graph_calls.proofs.TableLemmas.{finds}
use Rattle.pliron_graph_calls.proofs.function_table.FunctionTable.find.Goals as goal

pub returns : goal.returns
returns c = finds c.in_ok-name.name c.self.inside.names.keys c.get_index_of.result _ _ c.get_index_of.ensures.index c.get_index_of.ensures.found (ap (λ v. names_of v.names) (sym c.self.view_is)) c.in_ok-name.ensures
