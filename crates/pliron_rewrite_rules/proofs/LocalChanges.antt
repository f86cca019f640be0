-- What a rewrite of an operation keeps.
use Rattle.std.proofs.Common.{ℕ, Result, Ok, Err, IfOk, OnOk, OnErr, refl, arith}
use Rattle.pliron_core.specs.Invariant.{IsTree}
use Rattle.pliron_core.specs.Tree.{Tree}
use Rattle.pliron_core.specs.Writes.{after_replacing}
use Rattle.pliron_laws.specs.Datum.{Meaning}
use Rattle.pliron_laws.specs.MaterialisedConstants.{IsRestored}
use Rattle.pliron_laws.proofs.LinkedLemmas.{linked_same}
use Rattle.pliron_theory.specs.Edges.{EdgesAlike}
use Rattle.pliron_theory.specs.Keeps.{with_roots}
use Rattle.pliron_theory.proofs.EdgeLemmas.{edges_alike, edges_same, edges_transitive}
use Rattle.pliron_theory.proofs.SweptKeeps.{same_keeps}
use Rattle.pliron_theory.proofs.WholeChanges.{all_refl, same_whole, whole_refl}
use Rattle.pliron_rewrite_blocks.proofs.RewriteLinks.{replaced_links}
use Rattle.pliron_rewrite_equals.proofs.Replaced.{tree_kept}
use Rattle.pliron_rewrite_rules.specs.Tables.{RuleTables}
use Rattle.pliron_rewrite_rules.specs.declared.term.Term.{Term}
use Rattle.pliron_rewrite_rules.specs.Rewriting.{after_rewriting, with_term, term_value, IsRuleFor}
use Rattle.pliron_rewrite_rules.proofs.Applying.{IsRoot, root_of, term_laws}
use Rattle.pliron_rewrite_rules.proofs.Growing.{IsGrown, grown_live}
use Rattle.pliron_rewrite_rules.proofs.PureOperations.{IsLawful}
use Rattle.pliron_rewrite_rules.proofs.RuleKeeps.{term_defined, term_grows}
use Rattle.pliron_rewrite_rules.specs.Applying.{IsLocalChange}

-- what holds whatever the outcome is
pub by_outcome : {T E A B P : Type 0} (r : Result T E) → OnOk r A → OnErr r B → (A → P) → (B → P) → P
by_outcome (Ok v) a b f g = f a
by_outcome (Err e) a b f g = g b

pub if_ok_both : {T E : Type 0} (r : Result T E) (P : T → Type 0) (Q : Type 0) (S : T → Type 0) → ((v : T) → P v → Q → S v) → IfOk r P → OnOk r Q → IfOk r S
if_ok_both (Ok v) P Q S h p q = h v p q
if_ok_both (Err e) P Q S h p q = tt

pub local_refl : (m : Meaning) (t : Tree) (op : ℕ) → IsLocalChange m t t op
local_refl m t op = record { runs = all_refl m t; links = λ root l. l; edges = λ k a b. refl; change = λ root live linked inside. whole_refl m t root live linked }

-- where the tree is the same but for erased handles
pub local_restored : (m : Meaning) (t u : Tree) (op : ℕ) → IsTree t → IsTree u → IsRestored t u → IsLocalChange m t u op
local_restored m t u op w w' b = record {
  runs = λ chosen. same_keeps (with_roots m chosen) t u w w' b.same b.longer;
  links = λ root l. linked_same m t u root w w' b.same l;
  edges = λ k before after. edges_same t u k w w' b.same;
  change = λ root live linked inside. same_whole m t u root w w' b.same b.longer live linked;
}

-- where a term has the uses
module _ (x : RuleTables) (laws : IsLawful x) (t : Tree) (w : IsTree t) (op old : ℕ) (term : Term) (r : IsRuleFor x t op old term) where
  abbrev put : Tree
  put = with_term x t op term

  root : IsRoot x t op old r.operation
  root = root_of x t op old term r

  pub applied_grows : IsGrown x.meaning op t (with_term x t op term)
  applied_grows = term_grows x laws op t w r.operation old root.single root.harmless r.placed term r.rule

  pub applied_tree : IsTree (after_rewriting x t op old term)
  applied_tree = tree_kept put old (term_value x t op term) applied_grows.tree (term_defined x laws op t w r.operation old root.single root.harmless r.placed term r.rule)

  moved_alike : EdgesAlike put (after_replacing put old (term_value x t op term))
  moved_alike = record { grows = omega arith; regions = λ k. refl; layouts = λ z. refl; successors = λ b. refl; bodies = λ b. refl }

  pub local_applied : IsLocalChange x.meaning t (after_rewriting x t op old term) op
  local_applied = record {
    runs = (term_laws x laws).runs t op old term w r;
    links = λ z l. replaced_links x.meaning put old (term_value x t op term) z (applied_grows.links z l);
    edges = edges_transitive t put (after_rewriting x t op old term) (λ k before after. grown_live x.meaning op t put applied_grows k before) applied_grows.edges (edges_alike put (after_rewriting x t op old term) applied_grows.tree applied_tree moved_alike);
    change = λ z live linked inside. (term_laws x laws).change t op old z term w r live linked inside;
  }
