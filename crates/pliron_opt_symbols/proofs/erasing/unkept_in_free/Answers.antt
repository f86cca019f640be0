use Rattle.std.proofs.Common.{◌≡◌, ℕ, [], inl, inr, sym, ◌∙◌, subst}
use Rattle.std.specs.List.{All}
use Rattle.std.proofs.lemmas.Option.{MatchOption-at_some}
use Rattle.pliron_core.specs.Tree.{IsLive}
use Rattle.pliron_laws.proofs.AnswerLemmas.{refuted}
use Rattle.pliron_opt_symbols.specs.Kept.{symbol_reads}
use Rattle.pliron_opt_symbols.specs.Erasing.{AreErasableFunctions}
use Rattle.pliron_opt_symbols.proofs.UnkeptLemmas.{table_live, untraced_module, traced_functions, none_erasable}
use Rattle.pliron_core.specs.Tree.{In, IsWithin}
use Rattle.pliron_laws.specs.Answers.{HeadPasses}
use Rattle.pliron_opt_symbols.proofs.erasing.unkept_in_free.Goals as goal

pub are_traced-requires : goal.are_traced-requires
are_traced-requires g c = subst (All (λ f. IsLive c.args.ctx.now.tree f)) (sym c.functions.ensures)
    (table_live g.D.InliningDialect.convention (symbol_reads g.D.InliningDialect.callee (g.P.SymbolPolicy.is_private c.args.policy.now) (g.P.SymbolPolicy.is_traced c.args.policy.now)) c.args.ctx.now.tree c.well_formed-2.ensures.tree c.args.holder c.in-Some.table (MatchOption-at_some _ _ c.in-Some.table c.in-Some.is c.in_ok-table.ensures.functions))

pub returns-then-not-branch-clause-unkept : goal.returns-then-not-branch-clause-unkept
returns-then-not-branch-clause-unkept g c = inr (
  c.new-then-not-branch.ensures.items,
  λ m.
      refuted c.in_ok-are_traced.field-0 c.if-not-branch.true (c.in_ok-are_traced.ensures.traced.1 (subst (λ xs. (f : ℕ) (k : ℕ) → In f xs → IsWithin c.args.ctx.now.tree f k → HeadPasses (g.P.SymbolPolicy.is_traced c.args.policy.now) c.args.ctx.now.tree k) (sym c.functions.ensures)
      (traced_functions g.D.InliningDialect.convention (symbol_reads g.D.InliningDialect.callee (g.P.SymbolPolicy.is_private c.args.policy.now) (g.P.SymbolPolicy.is_traced c.args.policy.now)) c.args.ctx.now.tree c.well_formed-2.ensures.tree c.args.holder c.in-Some.table (MatchOption-at_some _ _ c.in-Some.table c.in-Some.is c.in_ok-table.ensures.functions) m))),
)

pub returns-then-not-branch-clause-erasable : goal.returns-then-not-branch-clause-erasable
returns-then-not-branch-clause-erasable g c = subst (AreErasableFunctions c.args.ctx.now.tree c.args.holder) (sym c.new-then-not-branch.ensures.items) (none_erasable c.args.ctx.now.tree c.args.holder)

pub unkept_among-requires-clause-all_live : goal.unkept_among-requires-clause-all_live
unkept_among-requires-clause-all_live g c =
    table_live g.D.InliningDialect.convention (symbol_reads g.D.InliningDialect.callee (g.P.SymbolPolicy.is_private c.args.policy.now) (g.P.SymbolPolicy.is_traced c.args.policy.now)) c.args.ctx.now.tree c.well_formed-2.ensures.tree c.args.holder c.in-Some.table (MatchOption-at_some _ _ c.in-Some.table c.in-Some.is c.in_ok-table.ensures.functions)

pub returns-clause-unkept : goal.returns-clause-unkept
returns-clause-unkept g c =
    let s = symbol_reads g.D.InliningDialect.callee (g.P.SymbolPolicy.is_private c.args.policy.now) (g.P.SymbolPolicy.is_traced c.args.policy.now) in
    let a = MatchOption-at_some _ _ c.in-Some.table c.in-Some.is c.in_ok-table.ensures.functions in
    let traced = subst (λ xs. (f : ℕ) (k : ℕ) → In f xs → IsWithin c.args.ctx.now.tree f k → HeadPasses (g.P.SymbolPolicy.is_traced c.args.policy.now) c.args.ctx.now.tree k) c.functions.ensures (c.in_ok-are_traced.ensures.traced.0 c.if-not-branch.false) in
    inl (untraced_module g.D.InliningDialect.convention s c.args.ctx.now.tree c.well_formed-2.ensures.tree c.args.holder c.in-Some.table a traced c.requires.free, c.in_ok-gone.ensures.unkept)
