-- Applying a rule to an operation of a tree.
use Rattle.std.proofs.Common.{◌≡◌, ℕ, false, [], ◌∷◌, Some, sym, ◌∙◌}
use Rattle.pliron_core.specs.Tree.{Tree, results_of}
use Rattle.pliron_laws.specs.Tree.{Operation}
use Rattle.pliron_laws.proofs.Records.{op_shows}
use Rattle.pliron_rewrite_rules.specs.Tables.{RuleTables}
use Rattle.pliron_rewrite_rules.specs.declared.term.Term.{Term}
use Rattle.pliron_rewrite_rules.specs.Rewriting.{IsRuleFor, TermLaws}
use Rattle.pliron_rewrite_rules.proofs.PureOperations.{IsLawful, IsSingle, pure_passes}
use Rattle.pliron_rewrite_rules.proofs.RuleKeeps.{term_keeps, term_changes}

-- what is rewritten is pure, with this result
pub record IsRoot (x : RuleTables) (t : Tree) (op old : ℕ) (o : Operation) : Type 0 where
  pub single : IsSingle t op o old
  pub harmless : x.side_effects o.head ≡ Some false

pub root_of : (x : RuleTables) (t : Tree) (op old : ℕ) (term : Term) → (r : IsRuleFor x t op old term) → IsRoot x t op old r.operation
root_of x t op old term r =
    let p = pure_passes x t op r.operation r.pure in
    let results : r.operation.results ≡ old ∷ [] = sym (op_shows t op r.operation p.single.liveness).results ∙ r.result in
    record { single = record { liveness = p.single.liveness; results = results; no_successors = p.single.no_successors; no_regions = p.single.no_regions }; harmless = p.harmless }

pub term_laws : (x : RuleTables) → IsLawful x → TermLaws x
term_laws x laws = record {
  runs = λ t op old term w r.
      let root = root_of x t op old term r in
      term_keeps x laws op t w r.operation old root.single root.harmless r.placed term r.rule;
  change = λ t op old root term w r live linked inside.
      let at = root_of x t op old term r in
      term_changes x laws op t w r.operation old at.single at.harmless r.placed term r.rule root live linked inside;
}
