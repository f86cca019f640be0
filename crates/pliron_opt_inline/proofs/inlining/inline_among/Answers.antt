use Rattle.std.proofs.Common.{◌≡◌, [], Some, length, sym, ap, ◌∙◌, subst, arith}
use Rattle.std.specs.List.{Contains, slice_get}
use Rattle.std.proofs.lemmas.List.{length-map}
use Rattle.pliron_laws.specs.Datum.{datum_of}
use Rattle.pliron_graph_calls.specs.Names.{names_of}
use Rattle.pliron_opt_inline.proofs.OneCallLemmas.{on_err_of}
use Rattle.pliron_opt_inline.proofs.ModuleLemmas.{none_inlined, as_many_names, name_beside, nodes_within}
use Rattle.pliron_opt_inline.proofs.inlining.inline_among.Goals as goal

pub returns-in_err-components-clause-refused : goal.returns-in_err-components-clause-refused
returns-in_err-components-clause-refused g c = on_err_of c.from_residual.result ([], none_inlined g.D.HasMeaning.meaning g.D.InliningDialect.convention c.args.ctx.now.tree)

pub returns-in_err-facts-clause-refused : goal.returns-in_err-facts-clause-refused
returns-in_err-facts-clause-refused g c = on_err_of c.from_residual-in_err-facts.result ([], none_inlined g.D.HasMeaning.meaning g.D.InliningDialect.convention c.args.ctx.now.tree)

pub returns-in_err-sizes-clause-refused : goal.returns-in_err-sizes-clause-refused
returns-in_err-sizes-clause-refused g c = on_err_of c.from_residual-in_err-sizes.result ([], none_inlined g.D.HasMeaning.meaning g.D.InliningDialect.convention c.args.ctx.now.tree)

pub facts_among-requires-clause-names : goal.facts_among-requires-clause-names
facts_among-requires-clause-names g c =
    let named = c.requires.functions in
    sym (length-map c.args.table.now.names datum_of) ∙ ap length named.1.names ∙ as_many_names g.D.InliningDialect.convention c.args.ctx.now.tree named.0 ∙ sym (ap length named.1.functions)

pub facts_among-requires-clause-nodes : goal.facts_among-requires-clause-nodes
facts_among-requires-clause-nodes g c = λ x v hx hv.
    nodes_within g.D.InliningDialect.callee c.args.ctx.now.tree (names_of c.args.table.now.names) c.args.table.now.functions c.in_ok-components.components.items c.in_ok-components.ensures.components x v (subst (λ xs. Contains xs x) c.deref.ensures.value hx) hv

pub inline_planned-requires-clause-planned : goal.inline_planned-requires-clause-planned
inline_planned-requires-clause-planned g c =
    let conv = g.D.InliningDialect.convention in
    let t = c.args.ctx.now.tree in
    let named = c.requires.functions in
    let long = c.in_ok-facts.ensures.long in
    let ok = c.in_ok-facts.facts.ok.0 in
    let read = ap length c.deref-2.ensures.value in
    record {
      as_many_names = ap length named.1.names ∙ as_many_names conv t named.0 ∙ sym (ap length named.1.functions);
      as_many_facts = omega (arith, long, ok, read);
      named = λ i f name at_f at_n. name_beside conv t named.0 i f name (subst (λ xs. slice_get xs i ≡ Some f) named.1.functions at_f) (subst (λ xs. slice_get xs i ≡ Some name) named.1.names at_n);
      fit = λ i f x at_f at_x. c.in_ok-facts.ensures.fit i f x at_f (subst (λ xs. slice_get xs i ≡ Some x) c.deref-2.ensures.value at_x);
    }

pub inline_planned-requires-clause-nodes : goal.inline_planned-requires-clause-nodes
inline_planned-requires-clause-nodes g c =
    nodes_within g.D.InliningDialect.callee c.args.ctx.now.tree (names_of c.args.table.now.names) c.args.table.now.functions c.in_ok-components.components.items c.in_ok-components.ensures.components
