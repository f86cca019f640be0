-- The uses of an argument that is one value may go to the value.
use Rattle.std.proofs.Common.{◌≡◌, ℕ, List, [], ◌∷◌, Bool, Some, None, refl, slice_get, sym, ap, ◌∙◌, subst}
use Rattle.pliron_core.specs.Tree.{Tree, In, first_of, HoldsBlock, layout_of, arguments_of}
use Rattle.pliron_core.specs.Invariant.{IsTree}
use Rattle.pliron_core.specs.Writes.{after_replacing}
use Rattle.pliron_core.proofs.HoldingLemmas.{some_is}
use Rattle.pliron_laws.specs.Datum.{Head, Shape, Meaning}
use Rattle.pliron_laws.specs.Tree.{shape_of}
use Rattle.pliron_laws.specs.Laws.{ForwardsOperands}
use Rattle.pliron_theory.specs.Keeps.{KeepsRuns, with_roots, KeepsAllRuns}
use Rattle.pliron_theory.proofs.ChosenRoots.{forwards_operands as chosen_forwards}
use Rattle.pliron_theory.proofs.Reading.{ready_when_reached}
use Rattle.pliron_theory.proofs.ReplacedKeeps.{replaced_keeps}
use Rattle.pliron_rewrite_arguments.specs.OneValue.{IsOneValue}
use Rattle.pliron_rewrite_arguments.specs.ArgumentLaws.{OneValueLaw}
use Rattle.pliron_rewrite_arguments.proofs.ArgumentEdges.{here, held, block_of_argument, may_use}
use Rattle.pliron_rewrite_arguments.proofs.ArgumentData.{same_datum}

module _ (m : Meaning) (can_fold : Head → Bool) (SameTests : Head → Head → Type 0) (shortened : Shape → ℕ → ℕ → Head) (law : ForwardsOperands m can_fold SameTests shortened) (t : Tree) (w : IsTree t) (b i v : ℕ) (h : IsOneValue m t b i v) where
  first : (xs : List ℕ) → In b xs → (x : ℕ) × (first_of xs None ≡ Some x)
  first [] e = absurd e
  first (x ∷ xs) e = (x, refl)

  entry : (x : ℕ) × (first_of (layout_of t (here m t w b i v h)) None ≡ Some x)
  entry = first (layout_of t (here m t w b i v h)) (w.layouts.listed b (here m t w b i v h) (held m t w b i v h).2)

  pub one_value_keeps : KeepsRuns m t (after_replacing t h.argument v)
  one_value_keeps = replaced_keeps m t h.argument v
      (λ root f user named. may_use m t w b i v h root f user named)
      (λ root f f' s s' k rest r r' same e e' none none' named.
      let ready = ready_when_reached m t root w f s r k rest e none in
      let holds : HoldsBlock t root b = block_of_argument m t w b i v h root f (f.defined.own_values k h.argument ready.inside named) in
      same_datum m can_fold SameTests shortened law t w b i v h root f holds entry.0 entry.1 s r k rest e none named)

-- whichever heads may be those of roots
same_there : (m : Meaning) (chosen : Head → Bool) (t : Tree) (b i v : ℕ) → IsOneValue m t b i v → IsOneValue (with_roots m chosen) t b i v
unfolding shape_of
same_there m chosen t b i v h = record {
  argument = h.argument;
  apart = h.apart;
  there = h.there;
  no_entry = h.no_entry;
  branches = h.branches;
  edges = h.edges;
  some_edge = record { branch = h.some_edge.branch; edge = h.some_edge.edge; leads = h.some_edge.leads; forwards = h.some_edge.forwards };
}

pub one_value : (m : Meaning) (can_fold : Head → Bool) (SameTests : Head → Head → Type 0) (shortened : Shape → ℕ → ℕ → Head) → ForwardsOperands m can_fold SameTests shortened → OneValueLaw m
unfolding same_there
one_value m can_fold SameTests shortened law t b i v w h = λ chosen.
    one_value_keeps (with_roots m chosen) can_fold SameTests shortened (chosen_forwards m chosen can_fold SameTests shortened law) t w b i v (same_there m chosen t b i v h)

-- what such a rewrite leaves
pub rewrite_keeps : (m : Meaning) (can_fold : Head → Bool) (SameTests : Head → Head → Type 0) (shortened : Shape → ℕ → ℕ → Head) → ForwardsOperands m can_fold SameTests shortened → (t t' : Tree) (b i v argument : ℕ) → IsTree t → IsOneValue m t b i v → slice_get (arguments_of t b) i ≡ Some argument → t' ≡ after_replacing t argument v → KeepsAllRuns m t t'
rewrite_keeps m can_fold SameTests shortened law t t' b i v argument w h at is = λ chosen.
    let same : argument ≡ h.argument = some_is (sym at ∙ h.there) in
    let left : t' ≡ after_replacing t h.argument v = is ∙ ap (λ z. after_replacing t z v) same in
    subst (λ z. KeepsRuns (with_roots m chosen) t z) (sym left) (one_value m can_fold SameTests shortened law t b i v w h chosen)
