-- What the edges of a branch ask.
use Rattle.std.proofs.Common.{◌≡◌, ◌↔◌, ℕ, zero, suc, true, false, true≢false, List, [], ◌∷◌, map, Option, Some, None, slice_get, sym, ap, ◌∙◌, subst, IsTrue}
use Rattle.std.specs.HashSet.{HashSet}
use Rattle.pliron_core.specs.declared.attrs.AttrObj.{AttrObj}
use Rattle.pliron_core.specs.Tree.{Tree, In, IsLive, successors_of}
use Rattle.pliron_core.proofs.HoldingLemmas.{some_is, some_of, not_none}
use Rattle.pliron_laws.specs.Acting.{pick}
use Rattle.pliron_laws.specs.Tree.{Operation, op_at, shape_of}
use Rattle.pliron_laws.proofs.Records.{ShowsOperation, make_op, op_shows}
use Rattle.pliron_theory.specs.LatticeValues.{LatticeValues, Says, operand_constants, IsFeasibleEdge}
use Rattle.pliron_opt_sccp.specs.declared.constraints.Constraint.{Constraint}
use Rattle.pliron_opt_sccp.specs.Constraints.{SatisfiesAll, Adds, AddsUnder, AlwaysAdds, AreEntriesExecutableWhere, AreFeasible, MayLead, ConstrainsInvocations, ConstrainsJumps, ConstrainsForwarded, FollowsEdge, ConstrainsBranches, ConstrainsEdges, ConstrainsResults}
use Rattle.pliron_opt_sccp.specs.Settling.{AreAtMost, IsSatisfied}
use Rattle.pliron_opt_sccp.proofs.Constrained.{adds_as}
use Rattle.pliron_opt_sccp.proofs.Entered.{under, under_as, where_more}

out_of_some : (xs : List ℕ) (j w : ℕ) → slice_get (map Some xs) j ≡ Some (Some w) → slice_get xs j ≡ Some w
out_of_some [] j w e = absurd (not_none e)
out_of_some (x ∷ xs) zero w e = some_is e
out_of_some (x ∷ xs) (suc j) w e = out_of_some xs j w e

into_some : (xs : List ℕ) (j w : ℕ) → slice_get xs j ≡ Some w → slice_get (map Some xs) j ≡ Some (Some w)
into_some [] j w e = absurd (not_none e)
into_some (x ∷ xs) zero w e = ap Some e
into_some (x ∷ xs) (suc j) w e = into_some xs j w e

module _ (x : Says) (t : Tree) (f : LatticeValues) (op : ℕ) (o : Operation) (e : op_at t op ≡ Some o) where
  shows : ShowsOperation t op o
  shows = op_shows t op o e

  module _ {S : Type 0} (known : List (Option AttrObj)) (same : known ≡ operand_constants f o.operands) where
    pub may : (blocks : Option (HashSet ℕ S)) → AreFeasible x.meaning x.can_fold_branch x.feasible t op known blocks → (i b : ℕ) → slice_get o.successors i ≡ Some b → MayLead blocks b true → IsFeasibleEdge x t f o i b
    may None are i b at led = (at, λ folds. absurd (true≢false (sym folds ∙ are o.head shows.head)))
    may (Some blocks) are i b at led = (at, λ folds. subst (λ ks. In b (x.feasible (shape_of x.meaning t o) o.successors ks)) same (((are o e).1 b).0 (sym led)))

    pub may_not : (blocks : Option (HashSet ℕ S)) → AreFeasible x.meaning x.can_fold_branch x.feasible t op known blocks → (i b : ℕ) → MayLead blocks b false → IsFeasibleEdge x t f o i b → ⊥
    may_not None are i b led go = true≢false (sym led)
    may_not (Some blocks) are i b led go =
        let among : In b (x.feasible (shape_of x.meaning t o) o.successors known) = subst (λ ks. In b (x.feasible (shape_of x.meaning t o) o.successors ks)) (sym same) (go.1 (are o e).0) in
        true≢false (sym (led ∙ ((are o e).1 b).1 among))

  module _ (constants : List AttrObj) where
    pub edge_asked : (i b : ℕ) (values : List ℕ) (a c : List Constraint) → IsFeasibleEdge x t f o i b → map Some values ≡ pick (x.meaning.forwarded (shape_of x.meaning t o) i) o.operands → Adds constants a c (ConstrainsForwarded t f b values) → Adds constants a c (λ now. FollowsEdge x t f o now i b)
    edge_asked i b values a c go same p =
        adds_as constants (ConstrainsForwarded t f b values) (λ now. FollowsEdge x t f o now i b) a c p
        (λ now. (
          λ m may_be. (m.0, λ j v w at fw. m.1 j v w at (out_of_some values j w (ap (λ l. slice_get l j) same ∙ fw))),
          λ g. let y = g go in (y.0, λ j v w at is. y.1 j v w at (ap (λ l. slice_get l j) (sym same) ∙ into_some values j w is)),
        ))

    pub branches_asked : (a b : List Constraint) → Adds constants a b (λ now. (i c : ℕ) → slice_get (successors_of t op) i ≡ Some c → FollowsEdge x t f o now i c) → Adds constants a b (ConstrainsBranches x t f o)
    branches_asked a b p =
        adds_as constants (λ now. (i c : ℕ) → slice_get (successors_of t op) i ≡ Some c → FollowsEdge x t f o now i c) (ConstrainsBranches x t f o) a b p
        (λ now. (λ m i c go. m i c (ap (λ l. slice_get l i) shows.successors ∙ go.0) go, λ m i c at go. m i c go))

    pub branching_edges : (a b : List Constraint) → IsTrue (x.meaning.is_branch o.head) → Adds constants a b (ConstrainsBranches x t f o) → AddsUnder f constants a b (ConstrainsEdges x t f op o)
    branching_edges a b branch p =
        under_as constants f (ConstrainsBranches x t f o) (ConstrainsEdges x t f op o) a b (under constants f (ConstrainsBranches x t f o) a b p)
        (λ now. (λ m. (λ yes. m, λ none. absurd (true≢false (sym branch ∙ none))), λ m. m.0 branch))

    pub jumping_edges : (a b : List Constraint) → x.meaning.is_branch o.head ≡ false → AddsUnder f constants a b (ConstrainsJumps t op) → AddsUnder f constants a b (ConstrainsEdges x t f op o)
    jumping_edges a b none p =
        under_as constants f (ConstrainsJumps t op) (ConstrainsEdges x t f op o) a b p
        (λ now. (λ m. (λ yes. absurd (true≢false (sym yes ∙ none)), λ same. m), λ m. m.1 none))

    -- all that an operation asks
    pub all_asked : (known : List (Option AttrObj)) → known ≡ operand_constants f o.operands → (d0 d1 d2 d3 : List Constraint) → d0 ≡ [] → Adds constants d0 d1 (ConstrainsInvocations x t f o) → AddsUnder f constants d1 d2 (ConstrainsEdges x t f op o) → Adds constants d2 d3 (ConstrainsResults x.can_fold (x.constants (shape_of x.meaning t o) known) o) → (now : LatticeValues) → AreAtMost now f → SatisfiesAll constants now d3 ↔ IsSatisfied x t f now op o
    all_asked known same d0 d1 d2 d3 none p1 p2 p3 now below = (there, back)
      where
        there : SatisfiesAll constants now d3 → IsSatisfied x t f now op o
        there m =
            let results = (p3 now).0 m in
            let edges = (p2 now below).0 results.0 in
            let entries = (p1 now).0 edges.0 in
            record {
              entries = λ i r b at e. entries.1 i r b at e;
              branches = λ i b branch go. edges.1.0 branch i b go;
              jumps = λ i b no_branch at. edges.1.1 no_branch i b (ap (λ l. slice_get l i) shows.successors ∙ at);
              folded = λ i v a folds at said. results.1.0 folds i v a at (ap (λ ks. slice_get (x.constants (shape_of x.meaning t o) ks) i) same ∙ said);
              others = λ v never i. results.1.1 never v i;
            }

        back : IsSatisfied x t f now op o → SatisfiesAll constants now d3
        back m =
            (p3 now).1 (
              (p2 now below).1 (
                (p1 now).1 (subst (SatisfiesAll constants now) (sym none) tt, λ i r b at e. m.entries i r b at e),
                (λ branch i b go. m.branches i b branch go, λ no_branch i b at. m.jumps i b no_branch (ap (λ l. slice_get l i) (sym shows.successors) ∙ at)),
              ),
              (λ folds i v a at said. m.folded i v a folds at (ap (λ ks. slice_get (x.constants (shape_of x.meaning t o) ks) i) (sym same) ∙ said), λ never v i. m.others v never i),
            )

-- what results are asked leaves the blocks as they are
pub results_where : {S : Type 0} (x : Says) (t : Tree) (f : LatticeValues) (op : ℕ) (constants : List AttrObj) (known : List (Option AttrObj)) (d2 d3 : List Constraint) (blocks : HashSet ℕ S) → IsLive t op → ((o : Operation) → op_at t op ≡ Some o → AlwaysAdds d2 d3 (λ now. ConstrainsResults x.can_fold (x.constants (shape_of x.meaning t o) known) o now)) → AreEntriesExecutableWhere constants t f d2 blocks → AreEntriesExecutableWhere constants t f d3 blocks
results_where x t f op constants known d2 d3 blocks live adds entered =
    where_more constants t f (ConstrainsResults x.can_fold (x.constants (shape_of x.meaning t o.0) known) o.0) d2 d3 blocks (adds o.0 o.1 constants) entered
  where
    o : (o : Operation) × (op_at t op ≡ Some o)
    o = let h = some_of _ live in (_, make_op t op h.0 h.1)
