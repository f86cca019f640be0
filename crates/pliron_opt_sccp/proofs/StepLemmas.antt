-- One fold of the chain.
use Rattle.std.proofs.Common.{◌≡◌, ◌⊎◌, inl, inr, slice_get, slice_range, map, drop, ◌∷◌, [], ℕ, zero, suc, ◌+◌, Bool, false, List, Option, Some, None, Result, Ok, Err, length, IsSome, is_some, sym, ap, ap₂, ◌∙◌, subst, arith, ◌≤◌, IsTrue}
use Rattle.std.specs.Result.{IfOk, OnErr}
use Rattle.pliron_core.specs.declared.attrs.AttrObj.{AttrObj}
use Rattle.pliron_core.specs.declared.attrs.IRStatus.{IRStatus}
use Rattle.pliron_core.specs.Tree.{Tree, IsLive, no_entry, head_of, operands_of, parent_of}
use Rattle.pliron_core.specs.Invariant.{IsTree}
use Rattle.pliron_core.proofs.HoldingLemmas.{some_is}
use Rattle.pliron_core.proofs.UsedLemmas.{length_map}
use Rattle.pliron_laws.specs.declared.fault.OptError.{OptError}
use Rattle.pliron_laws.specs.Datum.{Head}
use Rattle.pliron_laws.specs.Tree.{shape_of}
use Rattle.pliron_laws.specs.Folding.{AnswersTrue, AnswersJumps, MakesConstants}
use Rattle.pliron_laws.specs.InPlace.{Outcome, FoldsInPlace, ReportsChange}
use Rattle.pliron_laws.specs.Outcomes.{MaterialisesSome, after_materialising}
use Rattle.pliron_laws.specs.Outcomes.MaterialisesSome.{Rest, Then}
use Rattle.pliron_laws.proofs.FoldLemmas.{put_row, put_row-new}
use Rattle.pliron_core.proofs.SameTreeLemmas.{same_refl, same_trans}
use Rattle.pliron_core.proofs.TreeLemmas.{live-within}
use Rattle.pliron_core.specs.Changes.{IsSameTree}
use Rattle.pliron_core.specs.Status.{changed_by_either}
use Rattle.pliron_core.specs.declared.attrs.IRStatus.TheVariants.{Changed, Unchanged}
use Rattle.std.proofs.lemmas.List.{get_or_past}
use Rattle.pliron_theory.proofs.SoundRuns.{PassesForwarded, NamesWell}
use Rattle.pliron_laws.proofs.Records.{ShowsOperation, op_shows}
use Rattle.pliron_theory.specs.LatticeValues.{LatticeValues, Says, lattice_constant, operand_constants, answers_of}
use Rattle.pliron_theory.specs.Following.{IsAsBefore, Follows}
use Rattle.pliron_opt_sccp.specs.RewriteSteps.{IsFoldStep, AreFoldSteps, IsFoldingOn, ReportsCreated}
use Rattle.pliron_opt_sccp.specs.declared.rewrite.Fold.{Fold}
use Rattle.pliron_opt_sccp.specs.declared.rewrite.Folds.{Folds}
use Rattle.pliron_opt_sccp.specs.Chain.{FoldsInTurn, FoldsPartly}
use Rattle.pliron_opt_sccp.specs.Chain.FoldsPartly.{Refused, After}
use Rattle.pliron_opt_sccp.specs.Chain.FoldsInTurn.{NoMore, Next}
use Rattle.pliron_theory.proofs.FollowedFacts.{fold_on}

-- what stands goes on standing, and where something was materialised an operation stands that did not
module _ (accepts : AttrObj → Bool) (head : AttrObj → Head) (k : ℕ) (results : List ℕ) (more : List (Option AttrObj)) where
  pub some_stays : (t u : Tree) → MaterialisesSome accepts head k results more t u → (z : ℕ) → IsLive t z → IsLive u z
  some_stays t u (Rest same) z l = subst (λ r. IsSome r.head) (sym (same.operations z)) l
  some_stays t u (Then i v attr at said accepted done) z l =
      some_stays (after_materialising t k v (head attr)) u done z (subst (λ r. IsSome r.head) (sym (put_row t k v z (head attr) (live-within t z l))) l)

  pub some_told : (t u : Tree) → MaterialisesSome accepts head k results more t u → IsSameTree t u ⊎ ((z : ℕ) × (head_of t z ≡ None) × IsLive u z)
  some_told t u (Rest same) = inl same
  some_told t u (Then i v attr at said accepted done) = inr (
    length t.operations,
    ap (λ z. z.head) (get_or_past t.operations (length t.operations) no_entry (omega arith)),
    some_stays (after_materialising t k v (head attr)) u done (length t.operations) (ap (λ z. is_some z.head) (put_row-new t k v (head attr))),
  )

pub told_of : (t u : Tree) (status : IRStatus) → ReportsChange (Some status) t u → IsSameTree t u ⊎ ((z : ℕ) × (head_of t z ≡ None) × IsLive u z) → ReportsCreated status t u
told_of t u Unchanged is some = is
told_of t u Changed is (inl same) = absurd (is same)
told_of t u Changed is (inr new) = new

pub told_then : (t u v : Tree) (a b : IRStatus) → ((k : ℕ) → IsLive u k → IsLive v k) → ReportsCreated a t u → ReportsCreated b u v → ReportsCreated (changed_by_either a b) t v
told_then t u v Unchanged Unchanged stays p q = same_trans t u v p q
told_then t u v Unchanged Changed stays p (k, none, live) = (k, ap (λ z. z.head) (sym (p.operations k)) ∙ none, live)
told_then t u v Changed Unchanged stays (k, none, live) q = (k, none, stays k live)
told_then t u v Changed Changed stays (k, none, live) q = (k, none, stays k live)

module _ (x : Says) (t₀ : Tree) (root : ℕ) (f₀ : LatticeValues) (t : Tree) (op : ℕ) (ks : List (Option AttrObj)) (s : IsFoldStep x t₀ root f₀ t op ks) where
  now : IsAsBefore x t₀ t f₀ s.follows.facts op s.operation
  now = s.follows.operations op s.operation s.at

  shows : ShowsOperation t op now.operation
  shows = op_shows t op now.operation now.liveness

  pub step_live : IsLive t op
  step_live = ap is_some shows.head

  pub step_placed : IsSome (parent_of t op)
  step_placed = ap is_some (s.follows.parents op (ap is_some (op_shows t₀ op s.operation s.at).head) ∙ s.liveness.1)

  pub step_folds : (h : Head) → head_of t op ≡ Some h → IsTrue (x.can_fold h)
  step_folds h e = ap x.can_fold (some_is (sym e ∙ shows.head) ∙ now.head) ∙ s.folds

  pub step_entries : length ks ≡ length (operands_of t op)
  step_entries =
      ap length (s.known_is ∙ sym now.handed_same) ∙ length_map (λ v. lattice_constant (s.follows.facts.lattice_value v)) now.operation.operands ∙ ap length (sym shows.operands)

  module _ (accepts : AttrObj → Bool) (head : AttrObj → Head) (outcome branch_outcome : Outcome) (law : FoldsInPlace x.meaning x.constants accepts head outcome branch_outcome) where
    pub step_told : (u : Tree) (status : IRStatus) → outcome t u op ks (Some status) → ReportsCreated status t u
    step_told u status is =
        let p = law.constant t u op ks (Some status) now.operation now.liveness is in
        told_of t u status p.1 (some_told accepts head op now.operation.results (x.constants (shape_of x.meaning t now.operation) ks) t u p.0)

    pub step_stays : (u : Tree) (answer : Option IRStatus) → outcome t u op ks answer → (k : ℕ) → IsLive t k → IsLive u k
    step_stays u answer is =
        some_stays accepts head op now.operation.results (x.constants (shape_of x.meaning t now.operation) ks) t u (law.constant t u op ks answer now.operation now.liveness is).0

    step_some : (u : Tree) (answer : Option IRStatus) → outcome t u op ks answer → MaterialisesSome accepts head op s.operation.results (answers_of x t₀ f₀ s.operation) t u
    step_some u answer is =
        subst (λ z. MaterialisesSome accepts head op s.operation.results z t u) (ap₂ (λ p q. x.constants p q) now.shape s.known_is)
        (subst (λ z. MaterialisesSome accepts head op z (x.constants (shape_of x.meaning t now.operation) ks) t u) now.results (law.constant t u op ks answer now.operation now.liveness is).0)

    pub step_follows : AnswersTrue x.meaning x.can_fold x.constants → AnswersJumps x.meaning x.can_fold_branch x.feasible → PassesForwarded x.meaning → NamesWell x → MakesConstants x.meaning accepts head → ((attr : AttrObj) → IsTrue (accepts attr) → x.meaning.is_branch (head attr) ≡ false) → (u : Tree) (answer : Option IRStatus) → outcome t u op ks answer → IsTree u → length t.operations ≤ length u.operations → Follows x t₀ root f₀ u
    step_follows answers jumps passes names makes plain u answer is w longer =
        fold_on x t₀ root f₀ s.first answers jumps passes names accepts head makes plain op s.operation s.liveness s.at s.folds t u s.follows w (step_some u answer is) longer

-- the outcome, whatever was answered
pub either : (P : Option IRStatus → Type 0) (r : Result IRStatus OptError) → IfOk r (λ status. P (Some status)) → OnErr r (P None) → (a : Option IRStatus) × P a
either P (Ok status) ok err = (Some status, ok)
either P (Err e) ok err = (None, err)

drop_at : (xs : List Fold) (i : ℕ) (x : Fold) → slice_get xs i ≡ Some x → drop i xs ≡ x ∷ drop (i + 1) xs
drop_at [] i x e = absurd (grind arith)
drop_at (y ∷ ys) zero x e = ap (λ z. z ∷ ys) (some_is e)
drop_at (y ∷ ys) (suc i) x e =
    let one : suc i + 1 ≡ suc (i + 1) = omega arith in drop_at ys i x e ∙ ap (λ n. x ∷ drop n (y ∷ ys)) (sym one)

module _ (x : Says) (outcome : Outcome) (start : Tree) (folds : Folds) where
  pub folding_start : IsFoldingOn x outcome start folds 0 Unchanged start
  folding_start = record { follows = λ t₀ root f₀ s. s.follows; partly = λ t₀ root f₀ s u z. z; turns = λ t₀ root f₀ s u z. z; reported = same_refl start; stays = λ k l. l }

  pub folding_can : (i : ℕ) (status : IRStatus) (here : Tree) → IsFoldingOn x outcome start folds i status here → (fold : Fold) → slice_get folds.rows.items i ≡ Some fold → (t₀ : Tree) (root : ℕ) (f₀ : LatticeValues) → AreFoldSteps x t₀ root f₀ start folds → IsFoldStep x t₀ root f₀ here fold.op (slice_range folds.known.items fold.start fold.end)
  folding_can i status here g fold at t₀ root f₀ s =
      let e = s.each i fold at in
      record { first = s.first; follows = g.follows t₀ root f₀ s; operation = e.operation; at = e.at; liveness = e.liveness; folds = e.folds; known_is = e.known_is }

  pub folding_next : (i : ℕ) (status : IRStatus) (here : Tree) → IsFoldingOn x outcome start folds i status here → (fold : Fold) → slice_get folds.rows.items i ≡ Some fold → (next : Tree) (one : IRStatus) → outcome here next fold.op (slice_range folds.known.items fold.start fold.end) (Some one) → ReportsCreated one here next → ((k : ℕ) → IsLive here k → IsLive next k) → ((t₀ : Tree) (root : ℕ) (f₀ : LatticeValues) → IsFoldStep x t₀ root f₀ here fold.op (slice_range folds.known.items fold.start fold.end) → Follows x t₀ root f₀ next) → IsFoldingOn x outcome start folds (i + 1) (changed_by_either status one) next
  folding_next i status here g fold at next one is reported stays follows = record {
    follows = λ t₀ root f₀ s. follows t₀ root f₀ (folding_can i status here g fold at t₀ root f₀ s);
    partly = λ t₀ root f₀ s u z.
        let e = s.each i fold at in
        let lattice_constant = e.known_is ∙ ap (operand_constants f₀) (sym (op_shows t₀ fold.op e.operation e.at).operands) in
        g.partly t₀ root f₀ s u (subst (λ l. FoldsPartly outcome t₀ f₀ (map (λ q. q.op) l) here u) (sym (drop_at folds.rows.items i fold at)) (After fold.op next one (subst (λ ks. outcome here next fold.op ks (Some one)) lattice_constant is) z));
    turns = λ t₀ root f₀ s u z.
        let e = s.each i fold at in
        let lattice_constant = e.known_is ∙ ap (operand_constants f₀) (sym (op_shows t₀ fold.op e.operation e.at).operands) in
        g.turns t₀ root f₀ s u (subst (λ l. FoldsInTurn outcome t₀ f₀ (map (λ q. q.op) l) here u) (sym (drop_at folds.rows.items i fold at)) (Next fold.op next one (subst (λ ks. outcome here next fold.op ks (Some one)) lattice_constant is) z));
    reported = told_then start here next status one stays g.reported reported;
    stays = λ k l. stays k (g.stays k l);
  }

  pub folding_end : (i : ℕ) (status : IRStatus) (here : Tree) → IsFoldingOn x outcome start folds i status here → drop i folds.rows.items ≡ [] → (t₀ : Tree) (root : ℕ) (f₀ : LatticeValues) → AreFoldSteps x t₀ root f₀ start folds → FoldsInTurn outcome t₀ f₀ (map (λ fold. fold.op) folds.rows.items) start here
  folding_end i status here g none t₀ root f₀ s = g.turns t₀ root f₀ s here (subst (λ l. FoldsInTurn outcome t₀ f₀ (map (λ q. q.op) l) here here) (sym none) NoMore)

  pub folding_broken : (i : ℕ) (status : IRStatus) (here : Tree) → IsFoldingOn x outcome start folds i status here → (fold : Fold) → slice_get folds.rows.items i ≡ Some fold → (next : Tree) → outcome here next fold.op (slice_range folds.known.items fold.start fold.end) None → (t₀ : Tree) (root : ℕ) (f₀ : LatticeValues) → AreFoldSteps x t₀ root f₀ start folds → FoldsPartly outcome t₀ f₀ (map (λ fold. fold.op) folds.rows.items) start next
  folding_broken i status here g fold at next is t₀ root f₀ s =
      let e = s.each i fold at in
      let lattice_constant = e.known_is ∙ ap (operand_constants f₀) (sym (op_shows t₀ fold.op e.operation e.at).operands) in
      g.partly t₀ root f₀ s next (subst (λ l. FoldsPartly outcome t₀ f₀ (map (λ q. q.op) l) here next) (sym (drop_at folds.rows.items i fold at)) (Refused fold.op (subst (λ ks. outcome here next fold.op ks None) lattice_constant is)))
