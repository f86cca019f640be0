use Rattle.std.proofs.Common.{◌≡◌, ◌<◌, ℕ, List, Some, true, IfOk, length, sym, subst}
use Rattle.std.specs.List.{slice_get}
use Rattle.pliron_theory.specs.Keeps.{IsFit}
use Rattle.pliron_opt_inline.specs.declared.facts.FunctionFacts.{FunctionFacts}
use Rattle.pliron_opt_inline.proofs.inlining.facts_among.Goals as goal

pub component_numbers-requires : goal.component_numbers-requires
component_numbers-requires g c = λ x v h i. subst (λ (fs : List ℕ). v < length fs) (sym c.functions-functions.ensures) (c.requires.nodes x v h i)

pub returns-clause-fit : goal.returns-clause-fit
returns-clause-fit g c =
    subst (λ (fs : List ℕ). IfOk c.all_facts.result (λ facts. (i f : ℕ) (x : FunctionFacts) → slice_get fs i ≡ Some f → slice_get facts.items i ≡ Some x → x.is_admitted ≡ true → IsFit g.D.HasMeaning.meaning c.args.ctx.now.tree f)) c.functions-functions.ensures c.all_facts.ensures.fit
