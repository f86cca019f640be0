-- What the checks of blocks and operations come to together.
use Rattle.std.proofs.Common.{◌≡◌, ◌≢◌, ℕ, [], Option, Some, None, refl, subst, inr}
use Rattle.pliron_core.specs.declared.context.Def.{Def}
use Rattle.pliron_core.specs.declared.context.Def.TheVariants.{Result, Argument}
use Rattle.pliron_core.specs.Tree.{Tree, In, IsInside, IsWithin, IsMadeBy, successors_of, operands_of, results_of, regions_of, arguments_of, block_parent_of, definition_of, slot_of}
use Rattle.pliron_core.specs.Changes.{IsDefinedInside, IsDefiningOperationInside}
use Rattle.pliron_core.specs.Invariant.{IsTree}
use Rattle.pliron_core.proofs.FlatLemmas.{In-slice_get}
use Rattle.pliron_core.proofs.WalkLemmas.{not_inside-itself}
use Rattle.pliron_laws.specs.Datum.{Meaning}
use Rattle.pliron_laws.specs.Answers.{HeadPasses}
use Rattle.pliron_laws.specs.Linked.{EdgesLast}
use Rattle.pliron_laws.specs.EdgeChecks.{HasLawfulEdges}
use Rattle.pliron_laws.proofs.EdgeLastLemmas.{edges_of, region_held, listed}
use Rattle.pliron_pass_fit.specs.Checks.{IsSoundAt}
use Rattle.pliron_pass_fit.specs.Plain.{IsPlainlyFit}

module _ (t : Tree) (w : IsTree t) (root : ℕ) (m : Meaning) (sound : (k : ℕ) → IsWithin t root k → IsSoundAt m t root k) where
  inner : (k : ℕ) → IsInside t root k → k ≢ root
  inner k u e = not_inside-itself t w root (subst (IsInside t root) e u)

  lawful : (k : ℕ) → IsWithin t root k → HasLawfulEdges t root k
  lawful k u = record { ends = λ n. ((sound k u).inside n).ends; users = λ r i b e. (((sound k u).holder.regions r i).blocks b e).users }

  pub edges : EdgesLast t root
  edges = edges_of t w root lawful

  -- what is defined inside is used inside
  used : (user v : ℕ) → In v (operands_of t user) → IsDefinedInside t root v → IsInside t root user
  used user v i made = go (definition_of t v) (w.joined.operands user v i) made
    where
      go : (o : Option Def) → IsMadeBy t v o → IsDefiningOperationInside t root o → IsInside t root user
      go None d u = absurd d
      go (Some (Result k j)) d u = ((sound k (inr u)).inside (inner k u)).results v (In-slice_get (results_of t k) j v d) user i
      go (Some (Argument b j)) d u =
          let r = region_held t b u.0 (block_parent_of t b) refl u.1 in
          let there : In r.0 (regions_of t u.0) = listed t r.0 u.0 (slot_of t r.0) (w.joined.placed b r.0 r.1) r.2 in
          (((sound u.0 u.2).holder.regions r.0 there).blocks b r.1).arguments v (In-slice_get (arguments_of t b) j v d) user i

  pub plainly : HeadPasses m.may_be_root t root → successors_of t root ≡ [] → IsPlainlyFit m t root
  plainly chosen none = record {
    chosen = chosen;
    linked = record { edges = edges; admitted = λ k u. (sound k u).holder.admitted };
    no_successors = none;
    own_values = λ k v u i. ((sound k (inr u)).inside (inner k u)).operands v i;
    own_users = used;
    dominance = λ k r u i. ((sound k u).holder.regions r i).dominance;
    forwards = λ k i u. ((sound k (inr u)).inside (inner k u)).forwards i;
    terminators = λ k u. ((sound k (inr u)).inside (inner k u)).terminator;
    unused = λ k v user u some i j. ((sound k (inr u)).inside (inner k u)).unused v user some i j;
  }
