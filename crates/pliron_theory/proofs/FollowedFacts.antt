-- How facts about a first tree go on holding while the tree is rewritten by them.
use Rattle.std.proofs.Common.{◌≡◌, inl, inr, ℕ, ◌+◌, ◌≤◌, Bool, true, false, List, ◌∷◌, length, Option, Some, None, IsSome, is_some, slice_get, refl, sym, ap, ◌∙◌, subst, arith, IsTrue}
use Rattle.pliron_core.specs.declared.attrs.AttrObj.{AttrObj}
use Rattle.pliron_core.specs.declared.attrs.Head.{Head}
use Rattle.pliron_core.specs.Lists.{put_before}
use Rattle.pliron_core.specs.Uses.{replace_target}
use Rattle.pliron_core.specs.Tree.{Tree, In, IsLive, IsBlock, head_of, results_of, parent_of, body_of, arguments_of}
use Rattle.pliron_core.specs.Invariant.{IsTree}
use Rattle.pliron_core.specs.Changes.{IsSameTree, IsInsideChange}
use Rattle.pliron_core.specs.Writes.{after_creating, after_placing, put_next_to, after_replacing}
use Rattle.pliron_core.proofs.HoldingLemmas.{some_is, not_none, some_of, in_slice, slice_in, held_block}
use Rattle.pliron_core.proofs.InsideLemmas.{inside_refl, inside_trans, same_change}
use Rattle.pliron_core.proofs.TreeLemmas.{live-within}
use Rattle.pliron_core.proofs.GrownLemmas.{get_grown}
use Rattle.std.proofs.lemmas.List.{get_or_past, length-append}
use Rattle.pliron_laws.specs.Datum.{Meaning, Shape}
use Rattle.pliron_laws.specs.Tree.{Operation, op_at, shape_of}
use Rattle.pliron_laws.specs.Folding.{AnswersTrue, AnswersJumps, MakesConstants, constant_shape}
use Rattle.pliron_laws.specs.Laws.{ForwardsOperands}
use Rattle.pliron_theory.specs.Keeps.{KeepsRuns}
use Rattle.pliron_laws.specs.Outcomes.{after_materialising, MaterialisesSome}
use Rattle.pliron_laws.specs.Outcomes.MaterialisesSome.{Rest, Then}
use Rattle.pliron_theory.specs.Rewrites.{materialised_first, IsConstant}
use Rattle.pliron_laws.proofs.Records.{operation_of, op_shows, make_op}
use Rattle.pliron_laws.proofs.ConstantLemmas.{made_row}
use Rattle.pliron_laws.proofs.FoldLemmas.{put_row, put_row-new}
use Rattle.pliron_theory.proofs.SoundRuns.{PassesForwarded, NamesWell}
use Rattle.pliron_theory.proofs.Keeping.{keeps_refl, keeps_trans}
use Rattle.pliron_laws.proofs.LinkedLemmas.{tree_created, tree_placed, tree_put, put_is, linked_put, linked_same}
use Rattle.pliron_theory.specs.Edges.{KeepsEdges}
use Rattle.pliron_theory.proofs.EdgeLemmas.{edges_same, edges_alike, edges_transitive}
use Rattle.pliron_theory.proofs.PutEdges.{put_alike, first_alike}
use Rattle.pliron_theory.proofs.PutInside.{result_inside, argument_inside}
use Rattle.pliron_laws.proofs.PutLinks.{linked_first}
use Rattle.pliron_laws.specs.Linked.{IsWellLinked}
use Rattle.pliron_theory.proofs.MaterialisedKeeps.{result_keeps}
use Rattle.pliron_theory.proofs.SweptKeeps.{same_keeps}
use Rattle.pliron_theory.specs.LatticeValues.{LatticeValue, Constant, LatticeValues, Says, operand_constants, answers_of, IsInExecutableBlock, AreClosed, AreHeld}
use Rattle.pliron_theory.specs.Sound.{read_of}
use Rattle.pliron_theory.specs.Following.{IsAsBefore, Follows, FollowingLaws}
use Rattle.pliron_theory.proofs.SoundEverywhere.{sound_facts}
use Rattle.pliron_theory.proofs.ClosedSound.{closed_sound, read_fold, read_argument}
use Rattle.pliron_theory.proofs.CarriedFacts.{IsCarried, WasBefore, before, handed_same, carried_sound}
use Rattle.pliron_theory.proofs.PutFacts.{facts_with, read_with, put_carried, same_carried}

length_put : (t : Tree) (op v : ℕ) (head : Head) → length (after_materialising t op v head).operations ≡ length t.operations + 1
length_put t op v head = go (parent_of t op) ∙ length-append t.operations _
  where
    go : (o : Option ℕ) → length (put_next_to (after_creating t head 1 0) (length t.operations) op o).operations ≡ length (after_creating t head 1 0).operations
    go None = refl
    go (Some b) = refl

module _ (x : Says) (t₀ : Tree) (root : ℕ) (f₀ : LatticeValues) (w₀ : IsTree t₀) where
  abbrev m : Meaning
  m = x.meaning

  pub started : AreClosed x t₀ root f₀ → AreHeld t₀ root f₀ → Follows x t₀ root f₀ t₀
  started closed held = record {
    tree = w₀;
    runs = keeps_refl x.meaning t₀;
    links = λ r l. l;
    changed_inside = inside_refl t₀ root;
    edges = λ op before after. refl;
    facts = f₀;
    read = read_of x t₀ f₀;
    sound = closed_sound x t₀ root f₀ w₀ closed held;
    is_executable = λ b. refl;
    rows = λ k l. refl;
    parents = λ k l. refl;
    block_parents = λ b. refl;
    arguments = λ b. refl;
    operations = λ k o e. record { operation = o; liveness = e; head = refl; results = refl; successors = refl; shape = refl; handed_same = refl };
    read_results = λ k v i. refl;
    read_arguments = λ b v i. read_argument x t₀ root f₀ w₀ closed held b v i;
  }

  -- one more change that carries the facts over
  pub carried_on : (t t' : Tree) (g : Follows x t₀ root f₀ t) (f' : LatticeValues) (read' : ℕ → LatticeValue) (rename : ℕ → ℕ) (New : ℕ → Type 0) → IsTree t' → IsCarried x t t' g.facts f' g.read read' rename New → KeepsRuns x.meaning t t' → ((r : ℕ) → IsWellLinked x.meaning t r → IsWellLinked x.meaning t' r) → IsInsideChange t t' root → KeepsEdges t t' → Follows x t₀ root f₀ t'
  carried_on t t' g f' read' rename New w' c keeps links inside edges = record {
    tree = w';
    runs = keeps_trans x.meaning t₀ t t' g.runs keeps;
    links = λ r l. links r (g.links r l);
    changed_inside = inside_trans t₀ t t' root g.changed_inside inside;
    edges = edges_transitive t₀ t t' (λ op before after. subst (λ z. IsSome z.head) (sym (g.rows op before)) before) g.edges edges;
    facts = f';
    read = read';
    sound = carried_sound x t t' root g.facts f' g.read read' rename New g.tree w' c g.sound;
    is_executable = λ b. c.is_executable b ∙ g.is_executable b;
    rows = λ k l. c.rows k (old k l) ∙ g.rows k l;
    parents = λ k l. c.parents k (old k l) ∙ g.parents k l;
    block_parents = λ b. c.block_parents b ∙ g.block_parents b;
    arguments = λ b. c.arguments b ∙ g.arguments b;
    operations = operations;
    read_results = λ k v i. c.listed_results k v (subst (In v) (sym (ap (λ z. z.results) (g.rows k (listed_live k v i)))) i) ∙ g.read_results k v i;
    read_arguments = λ b v i. c.listed_arguments b v (subst (In v) (sym (g.arguments b)) i) ∙ g.read_arguments b v i;
  }
    where
      listed_live : (k v : ℕ) → In v (results_of t₀ k) → IsLive t₀ k
      listed_live k v i = by (head_of t₀ k) refl
        where
          by : (h : Option Head) → head_of t₀ k ≡ h → IsLive t₀ k
          by (Some h) e = ap is_some e
          by None e = absurd (subst (λ z. In v z.results) (w₀.joined.erased k e).2 i)

      live_still : (k : ℕ) → IsLive t₀ k → IsLive t k
      live_still k l = subst (λ z. IsSome z.head) (sym (g.rows k l)) l

      old : (k : ℕ) → IsLive t₀ k → New k → ⊥
      old k l n = let p = some_of (head_of t k) (live_still k l) in not_none (sym (ap (λ z. z.head) (c.fresh k n).0) ∙ p.1)

      operations : (k : ℕ) (o₀ : Operation) → op_at t₀ k ≡ Some o₀ → IsAsBefore x t₀ t' f₀ f' k o₀
      operations k o₀ e =
          let live : IsLive t₀ k = ap is_some (op_shows t₀ k o₀ e).head in
          let n : New k → ⊥ = old k live in
          let s = g.operations k o₀ e in
          let h : head_of t' k ≡ Some s.operation.head = ap (λ z. z.head) (c.rows k n) ∙ (op_shows t k s.operation s.liveness).head in
          let o' : Operation = operation_of t' k s.operation.head in
          let at : op_at t' k ≡ Some o' = make_op t' k s.operation.head h in
          let b : WasBefore x t t' root g.facts f' g.read read' rename New g.tree w' c g.sound k o' = before x t t' root g.facts f' g.read read' rename New g.tree w' c g.sound k n o' at in
          let same : b.operation ≡ s.operation = some_is (sym b.liveness ∙ s.liveness) in
          record {
            operation = o';
            liveness = at;
            head = s.head;
            results = b.results ∙ ap (λ z. z.results) same ∙ s.results;
            successors = b.successors ∙ ap (λ z. z.successors) same ∙ s.successors;
            shape = b.shape ∙ ap (shape_of x.meaning t) same ∙ s.shape;
            handed_same = handed_same x t t' root g.facts f' g.read read' rename New g.tree w' c g.sound k o' b ∙ ap (λ z. operand_constants g.facts z.operands) same ∙ s.handed_same;
          }

  pub same_on : (t t' : Tree) → Follows x t₀ root f₀ t → IsTree t' → IsSameTree t t' → length t.operations ≤ length t'.operations → Follows x t₀ root f₀ t'
  same_on t t' g w' s longer = carried_on t t' g g.facts g.read (λ v. v) (λ k. ⊥) w' (same_carried x t t' g.facts g.read g.sound.finer s) (same_keeps x.meaning t t' g.tree w' s longer) (λ r l. linked_same x.meaning t t' r g.tree w' s l) (same_change t t' root g.tree.joined w'.joined s) (λ op before after. edges_same t t' op g.tree w' s)

  module _ (answers : AnswersTrue x.meaning x.can_fold x.constants) (jumps : AnswersJumps x.meaning x.can_fold_branch x.feasible) (passes : PassesForwarded x.meaning) (names : NamesWell x) (accepts : AttrObj → Bool) (head : AttrObj → Head) (makes : MakesConstants x.meaning accepts head) (plain : (attr : AttrObj) → IsTrue (accepts attr) → x.meaning.is_branch (head attr) ≡ false) where
    -- a constant is put before an operation in a block that is reached
    pub put_on : (t : Tree) → Follows x t₀ root f₀ t → (k i v : ℕ) (attr : AttrObj) → IsInExecutableBlock t₀ f₀ k → IsLive t₀ k → slice_get (results_of t₀ k) i ≡ Some v → read_of x t₀ f₀ v ≡ Constant attr → IsTrue (accepts attr) → Follows x t₀ root f₀ (after_materialising t k v (head attr))
    put_on t g k i v attr (b, p, reached) live listed is accepted = subst (Follows x t₀ root f₀) (sym (put_is t k v b (head attr) g.tree here)) done
      where
        here : parent_of t k ≡ Some b
        here = g.parents k live ∙ p

        live_here : IsLive t k
        live_here = subst (λ z. IsSome z.head) (sym (g.rows k live)) live

        listed_here : slice_get (results_of t k) i ≡ Some v
        listed_here = ap (λ z. slice_get z.results i) (g.rows k live) ∙ listed

        read_here : g.read v ≡ Constant attr
        read_here = g.read_results k v (in_slice (results_of t₀ k) i v listed) ∙ is

        reached_here : IsTrue (g.facts.is_executable b)
        reached_here = g.is_executable b ∙ reached

        constant : IsConstant x.meaning t v attr
        constant = sound_facts x answers jumps passes names t root g.facts g.read g.tree g.sound v attr (inl (k, (b, here, reached_here), in_slice (results_of t k) i v listed_here)) read_here

        free : parent_of (after_creating t (head attr) 1 0) (length t.operations) ≡ None
        free = get_grown t.parents None (length t.operations) ∙ get_or_past t.parents (length t.operations) None (omega (arith, g.tree.keys.parents))

        between : IsTree (put_next_to (after_creating t (head attr) 1 0) (length t.operations) k (Some b))
        between =
            let r = made_row t (after_creating t (head attr) 1 0) (length t.operations) (head attr) refl refl in
            tree_placed (after_creating t (head attr) 1 0) (length t.operations) k b (tree_created t (head attr) g.tree) (ap (λ z. is_some z.head) r) free (get_grown t.parents None k ∙ here) (ap (λ z. z.regions) r)

        done : Follows x t₀ root f₀ (after_replacing (after_placing (after_creating t (head attr) 1 0) (length t.operations) b (put_before k (length t.operations) (body_of t b))) v (length t.definitions))
        done =
            carried_on t _ g (facts_with g.facts v (length t.definitions)) (read_with g.read (length t.definitions) attr) (replace_target v (length t.definitions)) (λ z. z ≡ length t.operations) (tree_put t k v b (head attr) g.tree here)
            (put_carried x t g.facts g.read g.tree g.sound.finer (head attr) attr (makes attr accepted) (plain attr accepted) v b (put_before k (length t.operations) (body_of t b)) read_here reached_here)
            (result_keeps x.meaning t (head attr) attr g.tree (makes attr accepted) (plain attr accepted) k b v i here (g.tree.joined.results k i v listed_here) constant between (tree_put t k v b (head attr) g.tree here))
            (λ r l. linked_put t k v b (head attr) g.tree here x.meaning attr r (makes attr accepted) l)
            (result_inside t root b v (head attr) (put_before k (length t.operations) (body_of t b)) g.tree (g.sound.inside b reached_here) k i live_here here listed_here)
            (subst (KeepsEdges t) (put_is t k v b (head attr) g.tree here) (edges_alike t _ g.tree (subst IsTree (sym (put_is t k v b (head attr) g.tree here)) (tree_put t k v b (head attr) g.tree here)) (put_alike t k v b (head attr) g.tree here)))

    some_lives : (k : ℕ) (results : List ℕ) (more : List (Option AttrObj)) (t u : Tree) → MaterialisesSome accepts head k results more t u → (z : ℕ) → IsLive t z → IsLive u z
    some_lives k results more t u (Rest same) z l = subst (λ r. IsSome r.head) (sym (same.operations z)) l
    some_lives k results more t u (Then i v attr at said accepted done) z l =
        some_lives k results more (after_materialising t k v (head attr)) u done z (subst (λ r. IsSome r.head) (sym (put_row t k v z (head attr) (live-within t z l))) l)

    -- some of the answered results of an operation are materialised
    pub fold_on : (k : ℕ) (o₀ : Operation) → IsInExecutableBlock t₀ f₀ k → op_at t₀ k ≡ Some o₀ → IsTrue (x.can_fold o₀.head) → (t t' : Tree) → Follows x t₀ root f₀ t → IsTree t' → MaterialisesSome accepts head k o₀.results (answers_of x t₀ f₀ o₀) t t' → length t.operations ≤ length t'.operations → Follows x t₀ root f₀ t'
    fold_on k o₀ liveness at folds t t' g w' (Rest same) longer = same_on t t' g w' same longer
    fold_on k o₀ liveness at folds t t' g w' (Then i v attr listed said accepted done) longer =
        fold_on k o₀ liveness at folds (after_materialising t k v (head attr)) t' (put_on t g k i v attr liveness live listed_there is accepted) w' done grown
      where
        live : IsLive t₀ k
        live = ap is_some (op_shows t₀ k o₀ at).head

        listed_there : slice_get (results_of t₀ k) i ≡ Some v
        listed_there = ap (λ z. slice_get z i) (op_shows t₀ k o₀ at).results ∙ listed

        is : read_of x t₀ f₀ v ≡ Constant attr
        is = read_fold x t₀ f₀ k i v o₀ (Some attr) (w₀.joined.results k i v listed_there) liveness at folds listed said

        new_live : IsLive t' (length t.operations)
        new_live = some_lives k o₀.results (answers_of x t₀ f₀ o₀) (after_materialising t k v (head attr)) t' done (length t.operations) (ap (λ z. is_some z.head) (put_row-new t k v (head attr)))

        grown : length (after_materialising t k v (head attr)).operations ≤ length t'.operations
        grown =
            let lt = live-within t' (length t.operations) new_live in
            let same = length_put t k v (head attr) in
            omega (arith, lt, same)

    -- an argument of a block that is reached, which is a constant
    module _ (t : Tree) (g : Follows x t₀ root f₀ t) (b v : ℕ) (attr : AttrObj) (reached : IsTrue (f₀.is_executable b)) (i : In v (arguments_of t₀ b)) (is : f₀.lattice_value v ≡ Constant attr) where
      listed : In v (arguments_of t b)
      listed = subst (In v) (sym (g.arguments b)) i

      read_here : g.read v ≡ Constant attr
      read_here = g.read_arguments b v i ∙ is

      reached_here : IsTrue (g.facts.is_executable b)
      reached_here = g.is_executable b ∙ reached

      pub argument_stands : IsBlock t b
      argument_stands = let h = g.sound.inside b reached_here in held_block t b h.0 h.1

      pub argument_constant : IsConstant x.meaning t v attr
      argument_constant = sound_facts x answers jumps passes names t root g.facts g.read g.tree g.sound v attr (inr (b, reached_here, listed)) read_here

      -- a constant is put first in the block, for it
      pub argument_on : IsTrue (accepts attr) → IsTree (materialised_first t b v (head attr)) → KeepsRuns x.meaning t (materialised_first t b v (head attr)) → Follows x t₀ root f₀ (materialised_first t b v (head attr))
      argument_on accepted w' keeps =
          carried_on t _ g (facts_with g.facts v (length t.definitions)) (read_with g.read (length t.definitions) attr) (replace_target v (length t.definitions)) (λ z. z ≡ length t.operations) w'
          (put_carried x t g.facts g.read g.tree g.sound.finer (head attr) attr (makes attr accepted) (plain attr accepted) v b (length t.operations ∷ body_of t b) read_here reached_here)
          keeps
          (λ r l. linked_first t v b (head attr) g.tree argument_stands x.meaning attr r (makes attr accepted) l)
          (let at = slice_in (arguments_of t b) v listed in argument_inside t root b v (head attr) (length t.operations ∷ body_of t b) g.tree (g.sound.inside b reached_here) at.0 at.1)
          (edges_alike t _ g.tree w' (first_alike t v b (head attr) g.tree argument_stands))

pub following : (x : Says) → AnswersTrue x.meaning x.can_fold x.constants → AnswersJumps x.meaning x.can_fold_branch x.feasible → PassesForwarded x.meaning → NamesWell x → (accepts : AttrObj → Bool) (head : AttrObj → Head) → MakesConstants x.meaning accepts head → ((attr : AttrObj) → IsTrue (accepts attr) → x.meaning.is_branch (head attr) ≡ false) → FollowingLaws x accepts head
following x answers jumps passes names accepts head makes plain = record {
  start = λ t₀ root f₀ w closed held. started x t₀ root f₀ w closed held;
  folded = λ t₀ root f₀ t t' w₀ g w' k o₀ liveness at folds some longer. fold_on x t₀ root f₀ w₀ answers jumps passes names accepts head makes plain k o₀ liveness at folds t t' g w' some longer;
  argument = λ t₀ root f₀ t w₀ g b v attr reached i is accepted w' keeps. argument_on x t₀ root f₀ w₀ answers jumps passes names accepts head makes plain t g b v attr reached i is accepted w' keeps;
  same = λ t₀ root f₀ t t' w₀ g w' s longer. same_on x t₀ root f₀ w₀ t t' g w' s longer;
}

-- what makes a constant has a result, so it is no branch
pub constants_plain : (m : Meaning) (can_fold : Head → Bool) (SameTests : Head → Head → Type 0) (shortened : Shape → ℕ → ℕ → Head) (accepts : AttrObj → Bool) (head : AttrObj → Head) → ForwardsOperands m can_fold SameTests shortened → MakesConstants m accepts head → (attr : AttrObj) → IsTrue (accepts attr) → m.is_branch (head attr) ≡ false
constants_plain m can_fold SameTests shortened accepts head forwards makes attr accepted = by _ refl
  where
    by : (b : Bool) → m.is_branch (head attr) ≡ b → m.is_branch (head attr) ≡ false
    by true e = let one : ◌≡◌ {A = ℕ} 1 0 = (forwards.alone (constant_shape (head attr)) (makes attr accepted).admitted e).0 in absurd (omega (arith, one))
    by false e = e
