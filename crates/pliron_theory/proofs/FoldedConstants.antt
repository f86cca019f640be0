-- What folding an operation in place by constants leaves.
use Rattle.std.proofs.Common.{◌≡◌, ◌≢◌, ℕ, ◌+◌, ◌<◌, ◌≤◌, Bool, true, false, List, length, Option, Some, None, IsSome, IsTrue, is_some, slice_get, refl, sym, ap, ◌∙◌, subst, length-append, arith}
use Rattle.std.proofs.lemmas.Option.{slice_get_within}
use Rattle.pliron_core.specs.declared.attrs.AttrObj.{AttrObj}
use Rattle.pliron_core.specs.declared.attrs.Head.{Head}
use Rattle.pliron_core.specs.declared.context.Def.TheVariants.{Result}
use Rattle.pliron_core.specs.Tree.{Tree, IsLive, row_of, head_of, results_of, parent_of, definition_of}
use Rattle.pliron_core.specs.Invariant.{IsTree}
use Rattle.pliron_core.specs.Writes.{after_creating, put_next_to, after_replacing}
use Rattle.pliron_core.proofs.TreeLemmas.{live-within}
use Rattle.pliron_core.proofs.HoldingLemmas.{some_of, past_live}
use Rattle.pliron_laws.specs.Datum.{Datum, datum_of, Shape, Meaning}
use Rattle.pliron_laws.specs.Tree.{op_at, shape_of}
use Rattle.pliron_laws.specs.Laws.{ForwardsOperands}
use Rattle.pliron_laws.specs.Folding.{Constants, AnswersTrue, MakesConstants, constant_shape}
use Rattle.pliron_laws.specs.Outcomes.{after_materialising, MaterialisesSome, MaterialisesSome.Rest, MaterialisesSome.Then}
use Rattle.pliron_laws.specs.InPlace.{Outcome, FoldsInPlace}
use Rattle.pliron_laws.proofs.FoldLemmas.{put_row, put_row-new, put_parent}
use Rattle.pliron_laws.proofs.LinkedLemmas.{tree_put, tree_put₁, put_is}
use Rattle.pliron_laws.proofs.Records.{operation_of, op_shows, make_op}
use Rattle.pliron_theory.specs.Keeps.{IsFit, KeepsRuns}
use Rattle.pliron_theory.specs.Renaming.{IsReadAs}
use Rattle.pliron_theory.specs.Folded.{ConstantFoldsLaw}
use Rattle.pliron_theory.proofs.Keeping.{keeps_refl, keeps_trans}
use Rattle.pliron_theory.proofs.SweptKeeps.{same_keeps}
use Rattle.pliron_theory.proofs.MaterialisedKeeps.{result_keeps_on}
use Rattle.pliron_theory.proofs.AnsweredReads.{answered_read}

length_put : (t : Tree) (op v : ℕ) (head : Head) → length (after_materialising t op v head).operations ≡ length t.operations + 1
length_put t op v head = go (parent_of t op) ∙ length-append t.operations _
  where
    go : (o : Option ℕ) → length (put_next_to (after_creating t head 1 0) (length t.operations) op o).operations ≡ length (after_creating t head 1 0).operations
    go None = refl
    go (Some b) = refl

module _ (m : Meaning) (accepts : AttrObj → Bool) (head : AttrObj → Head) (makes : MakesConstants m accepts head) (plain : (attr : AttrObj) → IsTrue (accepts attr) → m.is_branch (head attr) ≡ false) (op block : ℕ) (results : List ℕ) (answers : List (Option AttrObj)) where
  some_lives : (t u : Tree) → MaterialisesSome accepts head op results answers t u → (k : ℕ) → IsLive t k → IsLive u k
  some_lives t u (Rest same) k l = subst (λ z. IsSome z.head) (sym (same.operations k)) l
  some_lives t u (Then i v attr at said accepted done) k l =
      some_lives (after_materialising t op v (head attr)) u done k (subst (λ z. IsSome z.head) (sym (put_row t op v k (head attr) (live-within t k l))) l)

  -- the tree came from the first one, where the answers are read as constants; they still are
  record HasCome (t₀ t : Tree) : Type 0 where
    pub tree : IsTree t
    pub runs : KeepsRuns m t₀ t
    pub liveness : parent_of t op ≡ Some block
    pub listed : results_of t op ≡ results
    pub reads : (i v : ℕ) (attr : AttrObj) → slice_get results i ≡ Some v → slice_get answers i ≡ Some (Some attr) → (root : ℕ) → IsFit m t₀ root → IsLive t root → IsReadAs m t v (datum_of attr) root

  come_next : (t₀ t : Tree) → HasCome t₀ t → (i v : ℕ) (attr : AttrObj) → slice_get results i ≡ Some v → slice_get answers i ≡ Some (Some attr) → IsTrue (accepts attr) → HasCome t₀ (after_materialising t op v (head attr))
  come_next t₀ t h i v attr at said accepted = subst (HasCome t₀) (sym (put_is t op v block (head attr) h.tree h.liveness)) (record {
    tree = tree_put t op v block (head attr) h.tree h.liveness;
    runs = on.0;
    liveness = ap (λ z. parent_of z op) (sym same) ∙ put_parent t op v op (head attr) within ∙ h.liveness;
    listed = ap (λ z. results_of z op) (sym same) ∙ ap (λ z. z.results) (put_row t op v op (head attr) within) ∙ h.listed;
    reads = λ j x other here is root f l. let old = before root f l in on.1 root f old x (datum_of other) (not_new j x here) (h.reads j x other here is root f old);
  })
    where
      same : after_materialising t op v (head attr) ≡ after_replacing (put_next_to (after_creating t (head attr) 1 0) (length t.operations) op (Some block)) v (length t.definitions)
      same = put_is t op v block (head attr) h.tree h.liveness

      within : op < length t.operations
      within = live-within t op (h.tree.joined.all_in_place op block h.liveness).0

      def : (j x : ℕ) → slice_get results j ≡ Some x → definition_of t x ≡ Some (Result op j)
      def j x here = h.tree.joined.results op j x (ap (λ l. slice_get l j) h.listed ∙ here)

      not_new : (j x : ℕ) → slice_get results j ≡ Some x → x ≢ length t.definitions
      not_new j x here e = let lt = slice_get_within t.definitions x _ (def j x here) in omega (arith, lt, e)

      on : KeepsRuns m t₀ (after_replacing (put_next_to (after_creating t (head attr) 1 0) (length t.operations) op (Some block)) v (length t.definitions)) × ((root : ℕ) → IsFit m t₀ root → IsLive t root → (x : ℕ) (d : Datum) → x ≢ length t.definitions → IsReadAs m t x d root → IsReadAs m (after_replacing (put_next_to (after_creating t (head attr) 1 0) (length t.operations) op (Some block)) v (length t.definitions)) x d root)
      on =
          result_keeps_on m t (head attr) attr h.tree (makes attr accepted) (plain attr accepted) op block v i h.liveness (def i v at) t₀ h.runs (λ root f l. h.reads i v attr at said root f l)
          (tree_put₁ t op v block (head attr) h.tree h.liveness) (tree_put t op v block (head attr) h.tree h.liveness)

      before : (root : ℕ) → IsFit m t₀ root → IsLive (after_replacing (put_next_to (after_creating t (head attr) 1 0) (length t.operations) op (Some block)) v (length t.definitions)) root → IsLive t root
      before root f l = subst (λ z. IsSome z.head) (ap (λ z. row_of z root) (sym same) ∙ put_row t op v root (head attr) (let g = h.runs.grows in let lt = past_live t₀ root f.live in omega (arith, g, lt))) l

  come_on : (t₀ t t' : Tree) → HasCome t₀ t → IsTree t' → MaterialisesSome accepts head op results answers t t' → length t.operations ≤ length t'.operations → KeepsRuns m t₀ t'
  come_on t₀ t t' h w' (Rest same) longer = keeps_trans m t₀ t t' h.runs (same_keeps m t t' h.tree w' same longer)
  come_on t₀ t t' h w' (Then i v attr at said accepted done) longer =
      come_on t₀ (after_materialising t op v (head attr)) t' (come_next t₀ t h i v attr at said accepted) w' done grown
    where
      grown : length (after_materialising t op v (head attr)).operations ≤ length t'.operations
      grown =
          let lives = some_lives (after_materialising t op v (head attr)) t' done (length t.operations) (ap (λ z. is_some z.head) (put_row-new t op v (head attr))) in
          let lt = live-within t' (length t.operations) lives in
          let same = length_put t op v (head attr) in
          omega (arith, lt, same)

pub constant_folds : (m : Meaning) (can_fold : Head → Bool) (constants : Constants) (accepts : AttrObj → Bool) (head : AttrObj → Head) (fold branch_fold : Outcome) (SameTests : Head → Head → Type 0) (shortened : Shape → ℕ → ℕ → Head) → FoldsInPlace m constants accepts head fold branch_fold → ForwardsOperands m can_fold SameTests shortened → AnswersTrue m can_fold constants → MakesConstants m accepts head → ConstantFoldsLaw m can_fold fold
constant_folds m can_fold constants accepts head fold branch_fold SameTests shortened folds forwards answers makes t t' op block known answer w w' longer liveness tests entries reads outcome =
    let h = some_of (head_of t op) (w.joined.all_in_place op block liveness).0 in
    let o = operation_of t op h.0 in
    let oe : op_at t op ≡ Some o = make_op t op h.0 h.1 in
    let s = op_shows t op o oe in
    come_on m accepts head makes plain op block o.results (constants (shape_of m t o) known) t t t' (record {
      tree = w;
      runs = keeps_refl m t;
      liveness = liveness;
      listed = s.results;
      reads = λ i v attr at said root f l. answered_read m can_fold constants answers t root op known w f o oe (tests o.head s.head) entries (λ j x c there is. reads root j x c f there is) i v attr at said;
    }) w' (folds.constant t t' op known answer o oe outcome).0 longer
  where
    plain : (attr : AttrObj) → IsTrue (accepts attr) → m.is_branch (head attr) ≡ false
    plain attr accepted = by (m.is_branch (head attr)) refl
      where
        by : (b : Bool) → m.is_branch (head attr) ≡ b → m.is_branch (head attr) ≡ false
        by true e = let one : ◌≡◌ {A = ℕ} 1 0 = (forwards.alone (constant_shape (head attr)) (makes attr accepted).admitted e).0 in absurd (omega (arith, one))
        by false e = e
