-- Equal values replace one another.
use Rattle.std.proofs.Common.{◌≡◌, ℕ, Bool, List, ◌∷◌, Option, None, inr, ⊎_elim, subst}
use Rattle.pliron_core.specs.Changes.{IsDefiningOperationInside}
use Rattle.pliron_core.specs.Tree.{Tree, In, IsInside, operands_of, definition_of}
use Rattle.pliron_core.specs.Invariant.{IsTree}
use Rattle.pliron_laws.specs.Datum.{Head, Meaning}
use Rattle.pliron_laws.specs.States.{State}
use Rattle.pliron_laws.specs.Laws.{KeepsCounts, GivesAtOnce}
use Rattle.pliron_laws.specs.Root.{IsDominated}
use Rattle.pliron_laws.proofs.Records.{op_shows}
use Rattle.pliron_theory.specs.Keeps.{IsFit}
use Rattle.pliron_theory.specs.Renaming.{MayUse, RunReaches}
use Rattle.pliron_theory.specs.Sweeping.{GivesNow}
use Rattle.pliron_theory.proofs.Reading.{ready_when_reached}
use Rattle.pliron_theory.proofs.ReplacedKeeps.{replaced_keeps}
use Rattle.pliron_theory.proofs.SweptKeeps.{gives_now}
use Rattle.pliron_rewrite_equals.specs.OperationDominance.{DominatesOperation}
use Rattle.pliron_rewrite_equals.proofs.OperationDominance.{dominated_stands, stands_trans}
use Rattle.pliron_rewrite_equals.proofs.Current.{results_current}
use Rattle.pliron_rewrite_rules.specs.Equations.{IsInSlice, Makes, MakesOperand, IsInPattern, AreEqual, EquationLaw}

module _ (m : Meaning) (t : Tree) (w : IsTree t) (root : ℕ) (f : IsFit m t root) where
  -- what feeds a value that dominates a user is inside the root, and dominates the user
  pub feeder_dominates : (v k user : ℕ) → IsInSlice t v k → IsDefiningOperationInside t root (definition_of t v) → IsDominated t user v → (i : IsInside t root k) × DominatesOperation t k user
  feeder_dominates v k user (Makes i e) made d = (subst (IsDefiningOperationInside t root) e made, dominated_stands t k i user v e d)
  feeder_dominates v k user (MakesOperand i j x feeds used e) made d =
      let y = feeder_dominates v j user feeds made d in
      let own = f.defined.own_values j x y.0 used in
      let z = f.defined.dominated j x used own in
      (subst (IsDefiningOperationInside t root) e own, stands_trans t w k j user (dominated_stands t k i j x e z) y.1)

module _ (m : Meaning) (side_effects : Head → Option Bool) (counts : KeepsCounts m) (free : GivesAtOnce m side_effects) (t : Tree) (old new : ℕ) (w : IsTree t) (equal : AreEqual m side_effects t old new) (root : ℕ) (f : IsFit m t root) (uses : (user : ℕ) → In old (operands_of t user) → MayUse t root user new) where
  gives : (k : ℕ) → IsInPattern m side_effects t old new k → IsInside t root k → GivesNow m t k
  gives k p inside = ⊎_elim
      (λ none. gives_now m side_effects counts free t k (f.linked.admitted k (inr inside)) (λ o e. none o.head (op_shows t k o e).head))
      (λ g. g)
      p.at_once

  same_datum : (s : State) (u : ℕ) (rest : List ℕ) → RunReaches m t root s → s.rest ≡ u ∷ rest → s.answer ≡ None → In old (operands_of t u) → s.environment old ≡ s.environment new
  same_datum s u rest r e quiet used = equal s.environment (λ k p.
      let x = before k p in
      (f.linked.admitted k (inr x.0), results_current m t root k w f x.0 p.no_successors (gives k p x.0) u rest s x.1 r e quiet))
    where
      inside : IsInside t root u
      inside = (ready_when_reached m t root w f s r u rest e quiet).inside

      before : (k : ℕ) → IsInPattern m side_effects t old new k → (i : IsInside t root k) × DominatesOperation t k u
      before k p = ⊎_elim
          (λ a.
          let own = f.defined.own_values u old inside used in
          feeder_dominates m t w root f old k u a own (f.defined.dominated u old used own))
          (λ b.
          let may = uses u used in
          let own = may.own inside in
          feeder_dominates m t w root f new k u b own (may.dominated own))
          p.slice

pub equations_keep : (m : Meaning) (side_effects : Head → Option Bool) → KeepsCounts m → GivesAtOnce m side_effects → EquationLaw m side_effects
equations_keep m side_effects counts free t old new w equal uses = replaced_keeps m t old new
    (λ root f user used. uses root f user used)
    (λ root f f' s s' u rest r r' same e e' none none' used. same_datum m side_effects counts free t old new w equal root f (uses root f) s u rest r e none used)
