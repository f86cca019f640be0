-- Runs are kept where a block gets an argument and each edge forwards a value to it.
use Rattle.std.proofs.Common.{◌≡◌, ◌≢◌, ◌⊎◌, inl, inr, ⊎_elim, ℕ, zero, suc, ◌<◌, Bool, List, [], ◌∷◌, ◌++◌, length, Option, Some, None, IsSome, IsTrue, slice_get, slice_index_or, remove, refl, sym, ap, ◌∙◌, subst, arith}
use Rattle.std.proofs.lemmas.Bool.{cases_eq}
use Rattle.std.proofs.lemmas.List.{get_or-set_other, get_or-set_same, length-append}
use Rattle.std.proofs.lemmas.Option.{slice_get_within}
use Rattle.pliron_core.specs.declared.uses.Use.{Use}
use Rattle.pliron_core.specs.declared.context.Def.{Def}
use Rattle.pliron_core.specs.declared.context.Def.TheVariants.{Result, Argument}
use Rattle.pliron_core.specs.Changes.{IsDefiningOperationInside}
use Rattle.pliron_core.specs.Edges.{succs_of, succs_from}
use Rattle.pliron_core.specs.Tree.{Tree, In, IsBlock, IsDefined, IsInside, first_of, last_of, row_of, head_of, operands_of, successors_of, results_of, parent_of, body_of, arguments_of, block_parent_of, layout_of, slot_of, definition_of, up_from}
use Rattle.pliron_core.specs.Invariant.{IsTree}
use Rattle.pliron_core.specs.Writes.{argument_pushed}
use Rattle.pliron_core.proofs.HoldingLemmas.{some_is, some_of, slice_in, maker_is}
use Rattle.pliron_core.proofs.TreeLemmas.{within-some}
use Rattle.pliron_laws.specs.Datum.{Head, Shape, Meaning}
use Rattle.pliron_laws.specs.Tree.{Operation, op_at, shape_of}
use Rattle.pliron_laws.specs.Laws.{Admitted, ForwardsOperands}
use Rattle.pliron_laws.specs.Answers.{HeadPasses}
use Rattle.pliron_laws.specs.Linked.{IsAdmitted}
use Rattle.pliron_laws.specs.Paths.{Path}
use Rattle.pliron_laws.specs.Root.{defining_block, HasPassed, IsDominated}
use Rattle.pliron_laws.proofs.Records.{op_shows, operation_of, make_op}
use Rattle.pliron_laws.proofs.ShapeLemmas.{shape_head}
use Rattle.pliron_theory.specs.Keeps.{IsFit, KeepsRuns, KeepsAllRuns, with_roots}
use Rattle.pliron_theory.specs.Renaming.{MayUse}
use Rattle.pliron_theory.specs.Rebranching.{FitsInPlace}
use Rattle.pliron_theory.specs.Dropping.{AreEdgesTo, EdgesLose}
use Rattle.pliron_theory.proofs.KeptPlaces.{KeepsPlaces, same_block_holder, inside_forth, inside_back, within_forth, within_back}
use Rattle.pliron_theory.proofs.ChosenRoots.{forwards_operands}
use Rattle.pliron_theory.proofs.RemovedKeeps.{shape_admitted}
use Rattle.pliron_theory.proofs.SweptKeeps.{admitted_shape}
use Rattle.pliron_theory.proofs.ShortenedBranches.{Among, childless, op_kept}
use Rattle.pliron_dialect_edges.specs.Lengthened.{one_more, IsLengthened}
use Rattle.pliron_rewrite_copies.specs.Adding.{MayNameMore}
use Rattle.pliron_rewrite_loops.specs.OneMore.{IsForwardedMore, ForwardedLaw}
use Rattle.pliron_rewrite_loops.specs.Lengthening.{EdgeLengthened, EdgesLengthened, LengtheningLaw}
use Rattle.pliron_rewrite_loops.specs.Added.{IsArgumentAdded}
use Rattle.pliron_rewrite_loops.proofs.Forwarded.{shape_closed, forwarded_keeps}
use Rattle.pliron_rewrite_loops.proofs.Forwards.{untouched, untouched_row}
use Rattle.pliron_rewrite_loops.proofs.LengthenedBack.{lengthening}
use Rattle.pliron_rewrite_loops.proofs.Longer.{IsFramed, same_successors, same_arguments, same_block_parents, same_definitions, framed, named, branches, branch_before, IsLonger, is_longer}

-- what was put last goes again
remove_last : {A : Type 0} (xs : List A) (x : A) → remove (xs ++ x ∷ []) (length xs) ≡ xs
remove_last [] x = refl
remove_last (y ∷ ys) x = ap (λ l. y ∷ l) (remove_last ys x)

last_there : {A : Type 0} (xs : List A) (x : A) → slice_get (xs ++ x ∷ []) (length xs) ≡ Some x
last_there [] x = refl
last_there (y ∷ ys) x = last_there ys x

pub front_there : {A : Type 0} (xs ys : List A) (i : ℕ) (x : A) → slice_get xs i ≡ Some x → slice_get (xs ++ ys) i ≡ Some x
front_there [] ys i x e = absurd (grind (arith, e))
front_there (z ∷ zs) ys zero x e = e
front_there (z ∷ zs) ys (suc i) x e = front_there zs ys i x e

-- ---- what may be used may still be used, where places, successors and definitions stay

pub record KeepsWays (t u : Tree) (v : ℕ) : Type 0 where
  pub parents : (k : ℕ) → parent_of u k ≡ parent_of t k
  pub block_parents : (b : ℕ) → block_parent_of u b ≡ block_parent_of t b
  pub slots : (r : ℕ) → slot_of u r ≡ slot_of t r
  pub successors : (k : ℕ) → successors_of u k ≡ successors_of t k
  pub results : (k : ℕ) → results_of u k ≡ results_of t k
  pub bodies : (b : ℕ) → body_of u b ≡ body_of t b
  pub layouts : (r : ℕ) → layout_of u r ≡ layout_of t r
  pub definition : definition_of u v ≡ definition_of t v

module _ (t u : Tree) (v : ℕ) (h : KeepsWays t u v) where
  pub places : KeepsPlaces t u
  places = record { parents = h.parents; block_parents = h.block_parents; slots = h.slots }

  made_forth : (root : ℕ) (d : Option Def) → IsDefiningOperationInside t root d → IsDefiningOperationInside u root d
  made_forth root None i = i
  made_forth root (Some (Result k j)) i = inside_forth places root k i
  made_forth root (Some (Argument b j)) i = (i.0, same_block_holder places b ∙ i.1, within_forth places root i.0 i.2)

  made_back : (root : ℕ) (d : Option Def) → IsDefiningOperationInside u root d → IsDefiningOperationInside t root d
  made_back root None i = i
  made_back root (Some (Result k j)) i = inside_back places root k i
  made_back root (Some (Argument b j)) i = (i.0, sym (same_block_holder places b) ∙ i.1, within_back places root i.0 i.2)

  succs_same : (b : ℕ) → succs_of u b ≡ succs_of t b
  succs_same b = ap (λ xs. succs_from u (last_of None xs)) (h.bodies b) ∙ go (last_of None (body_of t b))
    where
      go : (o : Option ℕ) → succs_from u o ≡ succs_from t o
      go None = refl
      go (Some k) = h.successors k

  pub path_back : (a b : ℕ) (before : List ℕ) → Path u a b before → Path t a b before
  path_back a b [] p = p
  path_back a b (c ∷ before) p = (record { successor = subst (In b) (succs_same c) p.0.successor; same_region = sym (h.block_parents b) ∙ p.0.same_region ∙ h.block_parents c }, path_back a c before p.1)

  passed_forth : (d : Option Def) (before : List ℕ) (b : ℕ) (done : List ℕ) → HasPassed t d before b done → HasPassed u d before b done
  passed_forth None before b done p = p
  passed_forth (Some (Argument c j)) before b done p = p
  passed_forth (Some (Result k j)) before b done (inl i) = inl i
  passed_forth (Some (Result k j)) before b done (inr x) = inr (x.0, h.parents k ∙ x.1, x.2)

  home_forth : (region : ℕ) (d : Option Def) → up_from (defining_block t d) (λ b. block_parent_of t b) ≡ Some region → up_from (defining_block u d) (λ b. block_parent_of u b) ≡ Some region
  home_forth region None e = e
  home_forth region (Some (Argument b j)) e = h.block_parents b ∙ e
  home_forth region (Some (Result k j)) e = ap (λ o. up_from o (λ b. block_parent_of u b)) (h.parents k) ∙ go (parent_of t k) ∙ e
    where
      go : (o : Option ℕ) → up_from o (λ b. block_parent_of u b) ≡ up_from o (λ b. block_parent_of t b)
      go None = refl
      go (Some b) = h.block_parents b

  dominated_forth : (user : ℕ) → IsDominated t user v → IsDominated u user v
  dominated_forth user d = record {
    around = d.around;
    holds = within_forth places d.around user d.holds;
    block = d.block;
    region = d.region;
    in_block = h.parents d.around ∙ d.in_block;
    in_region = h.block_parents d.block ∙ d.in_region;
    defined = subst (λ x. up_from (defining_block u x) (λ b. block_parent_of u b) ≡ Some d.region) (sym h.definition) (home_forth d.region (definition_of t v) d.defined);
    passes = λ entry before done rest fe pe be. subst (λ x. HasPassed u x before d.block done) (sym h.definition) (passed_forth (definition_of t v) before d.block done (d.passes entry before done rest (ap (λ xs. first_of xs None) (sym (h.layouts d.region)) ∙ fe) (path_back entry d.block before pe) (sym (h.bodies d.block) ∙ be)));
  }

  pub usable_forth : (root user : ℕ) → MayUse t root user v → MayUse u root user v
  usable_forth root user a = record {
    own = λ i. subst (IsDefiningOperationInside u root) (sym h.definition) (made_forth root (definition_of t v) (a.own (inside_back places root user i)));
    no_jumper = λ k i ne j. a.no_jumper k (inside_back places root k i) (λ e. ne (h.successors k ∙ e)) (subst (In v) (h.results k) j);
    dominated = λ i. dominated_forth user (a.dominated (made_back root (definition_of t v) (subst (IsDefiningOperationInside u root) h.definition i)));
  }

-- ---- an argument that is pushed

op_pushed : (t : Tree) (block k : ℕ) → op_at (argument_pushed t block) k ≡ op_at t k
op_pushed t block k = op_kept t (argument_pushed t block) k refl refl refl refl

rows_hold : (t : Tree) (block : ℕ) → IsTree t → IsBlock t block → block < length t.arguments
rows_hold t block w is =
    let l = within-some t.block_parents block is in
    let a = w.keys.block_parents in
    let b = w.keys.arguments in omega (arith, l, a, b)

pushed_there : (t : Tree) (block : ℕ) → IsTree t → IsBlock t block → arguments_of (argument_pushed t block) block ≡ arguments_of t block ++ length t.definitions ∷ []
pushed_there t block w is = get_or-set_same t.arguments block _ [] (rows_hold t block w is)

pushed_other : (t : Tree) (block b : ℕ) → b ≢ block → arguments_of (argument_pushed t block) b ≡ arguments_of t b
pushed_other t block b ne = get_or-set_other t.arguments block b _ [] ne

module _ (m : Meaning) (can_fold : Head → Bool) (SameTests : Head → Head → Type 0) (shortened : Shape → ℕ → ℕ → Head) (law : ForwardsOperands m can_fold SameTests shortened) (block : ℕ) where
  module _ (index value : ℕ) where
    lengthened_pushed_one : (e : Use) (t u : Tree) → EdgeLengthened m shortened index value e t u → EdgeLengthened m shortened index value e (argument_pushed t block) (argument_pushed u block)
    lengthened_pushed_one e t u x = record {
      rows = x.rows;
      operation = x.operation;
      stands = op_pushed t block e.user ∙ x.stands;
      branch = x.branch;
      count = ap (λ s. length (m.forwarded s e.place)) (sym same) ∙ x.count;
      place = x.place;
      head = x.head;
      longer = subst (λ s. IsLengthened m shortened s e.place x.place x.head) same x.longer;
      is = ap (λ z. argument_pushed z block) x.is;
    }
      where
        none : x.operation.regions ≡ []
        none = childless m t x.operation (law.alone (one_more (shape_of m t x.operation) x.head) x.longer.admitted x.longer.branch).1

        same : shape_of m t x.operation ≡ shape_of m (argument_pushed t block) x.operation
        same = shape_closed m t (argument_pushed t block) x.operation none x.branch

    pub lengthened_pushed : (edges : List Use) (t u : Tree) → EdgesLengthened m shortened index value edges t u → EdgesLengthened m shortened index value edges (argument_pushed t block) (argument_pushed u block)
    lengthened_pushed [] t u x = ap (λ z. argument_pushed z block) x
    lengthened_pushed (e ∷ es) t u x = (argument_pushed x.0 block, lengthened_pushed es t x.0 x.1, lengthened_pushed_one e x.0 u x.2)

  module _ (back : LengtheningLaw m shortened) (t u : Tree) (value argument : ℕ) (w : IsTree t) (is : IsBlock t block) (entry : (r : ℕ) → block_parent_of t block ≡ Some r → first_of (layout_of t r) None ≢ Some block) (x : IsArgumentAdded m shortened t u block value argument) where
    abbrev index : ℕ
    index = length (arguments_of t block)

    abbrev fresh : ℕ
    fresh = length t.definitions

    pub frame : IsFramed t x.longer
    frame = framed m can_fold SameTests shortened law index value x.edges t x.longer x.lengthened

    pub own : arguments_of u block ≡ arguments_of t block ++ fresh ∷ []
    own =
        ap (λ z. arguments_of z block) x.pushed
        ∙ get_or-set_same x.longer.arguments block _ [] within
        ∙ ap (λ z. slice_index_or z block [] ++ length x.longer.definitions ∷ []) (same_arguments t x.longer frame)
        ∙ ap (λ z. arguments_of t block ++ length z ∷ []) (same_definitions t x.longer frame)
      where
        within : block < length x.longer.arguments
        within = subst (λ z. block < length z) (sym (same_arguments t x.longer frame)) (rows_hold t block w is)

    pub other : (b : ℕ) → b ≢ block → arguments_of u b ≡ arguments_of t b
    other b ne = ap (λ z. arguments_of z b) x.pushed ∙ pushed_other x.longer block b ne ∙ ap (λ z. slice_index_or z b []) (same_arguments t x.longer frame)

    successors : (k : ℕ) → successors_of u k ≡ successors_of t k
    successors k = ap (λ z. successors_of z k) x.pushed ∙ ap (λ z. slice_index_or z k []) (same_successors t x.longer frame)

    block_parents_same : (b : ℕ) → block_parent_of u b ≡ block_parent_of t b
    block_parents_same b = ap (λ z. block_parent_of z b) x.pushed ∙ ap (λ z. slice_index_or z b None) (same_block_parents t x.longer frame)

    layout_same : (r : ℕ) → layout_of u r ≡ layout_of t r
    layout_same r = ap (λ z. layout_of z r) x.pushed ∙ ap (λ z. layout_of z r) frame.tables

    block_parent_before : (r : ℕ) → block_parent_of u block ≡ Some r → block_parent_of t block ≡ Some r
    block_parent_before r e = sym (block_parents_same block) ∙ e

    -- the edges to the block are those that they were
    to_after : AreEdgesTo u block x.edges
    to_after = record {
      listed = λ n e i. ap (λ z. slice_get z e.place) (successors e.user) ∙ x.to.listed n e i;
      once = x.to.once;
      complete = λ k i e. x.to.complete k i (ap (λ z. slice_get z i) (sym (successors k)) ∙ e);
    }

    lose : EdgesLose m shortened index x.edges u (argument_pushed t block)
    lose = subst (λ z. EdgesLose m shortened index x.edges z (argument_pushed t block)) (sym x.pushed) (back.all index value x.edges (argument_pushed t block) (argument_pushed x.longer block) (lengthened_pushed index value x.edges t x.longer x.lengthened))

    among : (k : ℕ) → In block (successors_of t k) → (i : ℕ) × Among k i x.edges
    among k i = let a = slice_in (successors_of t k) block i in (a.0, x.to.complete k a.0 a.1)

    -- the new value isn't used before
    pub new_unused : (k : ℕ) → In fresh (operands_of t k) → ⊥
    new_unused k i = let d = maker_is t fresh (w.joined.operands k fresh i) in past (slice_get_within t.definitions fresh d.0 d.1)
      where
        past : fresh < length t.definitions → ⊥
        past l = absurd (omega (arith, l))

    pub forwarded_more : IsForwardedMore m shortened t u block index fresh
    forwarded_more = record {
      edges = x.edges;
      shorter = argument_pushed t block;
      argument = ap (λ z. slice_get z index) own ∙ last_there (arguments_of t block) fresh;
      to = to_after;
      lose = lose;
      without = record {
        count = refl;
        left = sym (ap (λ z. remove z index) (pushed_there t block w is) ∙ remove_last (arguments_of t block) fresh);
        arguments = λ b ne. sym (pushed_other t block b ne);
        rows = λ k. refl;
        operands = λ k. refl;
        successors = λ k. refl;
        parents = λ k. refl;
        bodies = λ b. refl;
        block_parents = λ b. refl;
        layouts = λ r. refl;
        slots = λ r. refl;
      };
      unused = new_unused;
      branches = λ k i. let a = among k (subst (In block) (successors k) i) in λ h hd. branches m can_fold SameTests shortened law index value x.edges t x.longer x.lengthened k a.0 a.1 h (ap (λ z. head_of z k) (sym x.pushed) ∙ hd);
      no_entry = λ r e q. entry r (block_parent_before r e) (ap (λ z. first_of z None) (sym (layout_same r)) ∙ q);
    }

    pub ways : (v : ℕ) (d : Def) → definition_of t v ≡ Some d → KeepsWays t u v
    ways v d e = record {
      parents = λ k. ap (λ z. parent_of z k) x.pushed ∙ ap (λ z. parent_of z k) frame.tables;
      block_parents = block_parents_same;
      slots = λ r. ap (λ z. slot_of z r) x.pushed ∙ ap (λ z. slot_of z r) frame.tables;
      successors = successors;
      results = λ k. ap (λ z. results_of z k) x.pushed ∙ frame.results k;
      bodies = λ b. ap (λ z. body_of z b) x.pushed ∙ ap (λ z. body_of z b) frame.tables;
      layouts = layout_same;
      definition = ap (λ z. definition_of z v) x.pushed ∙ front_there x.longer.definitions _ v d (ap (λ z. slice_get z v) (same_definitions t x.longer frame) ∙ e) ∙ sym e;
    }

    pub named_more : (k y : ℕ) → In y (operands_of u k) → In y (operands_of t k) ⊎ (y ≡ value)
    named_more k y i = named m can_fold SameTests shortened law index value x.edges t x.longer x.lengthened k y (subst (λ z. In y (operands_of z k)) x.pushed i)

    may_name : (root k : ℕ) → (d : Def) → definition_of t value ≡ Some d → MayUse t root k value → MayNameMore t u root k
    may_name root k d e a y i absent = ⊎_elim (λ j. absurd (absent j)) (λ q. subst (MayUse u root k) (sym q) (usable_forth t u value (ways value d e) root k a)) (named_more k y i)

    -- a branch that leads to the block is admitted with the value that it forwards more
    module _ (k : ℕ) (a : IsAdmitted m t k) (i : In block (successors_of t k)) where
      live : (h : Head) × (head_of t k ≡ Some h)
      live = some_of (head_of t k) (go (head_of t k) refl)
        where
          go : (h : Option Head) → head_of t k ≡ h → IsSome (head_of t k)
          go None e = absurd (subst (In block) (w.joined.erased k e).1 i)
          go (Some h) e = subst IsSome (sym e) refl

      is_branch : HeadPasses m.is_branch t k
      is_branch = let a = among k i in branch_before m can_fold SameTests shortened law index value x.edges t x.longer x.lengthened k (branches m can_fold SameTests shortened law index value x.edges t x.longer x.lengthened k a.0 a.1)

      abbrev o : Operation
      o = operation_of t k live.0

      oe : op_at t k ≡ Some o
      oe = make_op t k live.0 live.1

      y : IsLonger m can_fold SameTests shortened law index value t x.longer k o x.edges
      y = is_longer m can_fold SameTests shortened law index value block x.edges t x.longer x.to.listed x.lengthened k o oe (admitted_shape m t k o oe a) (is_branch live.0 live.1)

      none : y.now.regions ≡ []
      none = childless m x.longer y.now (law.alone (shape_of m x.longer y.now) y.admitted (subst (λ z. IsTrue (m.is_branch z)) (sym (shape_head m x.longer y.now)) y.branch)).1

      same_shape : shape_of m x.longer y.now ≡ shape_of m u y.now
      same_shape = shape_closed m x.longer u y.now none y.branch

      stands_now : op_at u k ≡ Some y.now
      stands_now = ap (λ z. op_at z k) x.pushed ∙ op_pushed x.longer block k ∙ y.liveness

      pub leading_admitted : IsAdmitted m u k
      leading_admitted = shape_admitted m u k y.now stands_now (subst (Admitted m) same_shape y.admitted)

    -- what doesn't lead to the block is as it was
    pub not_leading : (k : ℕ) → (In block (successors_of t k) → ⊥) → (row_of u k ≡ row_of t k) × (operands_of u k ≡ operands_of t k)
    not_leading k out = (
      ap (λ z. row_of z k) x.pushed ∙ untouched_row m can_fold SameTests shortened law index value block x.edges t x.longer x.to.listed x.lengthened k out,
      ap (λ z. operands_of z k) x.pushed ∙ untouched m can_fold SameTests shortened law index value block x.edges t x.longer x.to.listed x.lengthened k out,
    )

    -- and fits
    fits : (root k : ℕ) → IsFit m t root → IsInside t root k → In block (successors_of t k) → FitsInPlace m u k
    fits root k f inside i = record { admitted = leading_admitted k a i; forwards = forwards }
      where
        a : IsAdmitted m t k
        a = f.linked.admitted k (inr inside)

        led : (j c : ℕ) → slice_get (successors_of t k) j ≡ Some c → (c ≡ block) ⊎ (c ≢ block) → length (m.forwarded (shape_of m x.longer (y k a i).now) j) ≡ length (arguments_of u c)
        led j c q (inl e) = (y k a i).longer j (x.to.complete k j (q ∙ ap Some e)) ∙ sym (ap (λ b. length (arguments_of u b)) e ∙ ap length own ∙ length-append (arguments_of t block) (fresh ∷ []))
        led j c q (inr ne) = (y k a i).same j (λ p. ne (some_is (sym q ∙ x.to.listed p.0 _ p.1))) ∙ f.defined.forwards k j c (o k a i) inside (oe k a i) (is_branch k a i (live k a i).0 (live k a i).1) q ∙ sym (ap length (other c ne))

        forwards : (z : Operation) (j c : ℕ) → op_at u k ≡ Some z → IsTrue (m.is_branch z.head) → slice_get z.successors j ≡ Some c → length (m.forwarded (shape_of m u z) j) ≡ length (arguments_of u c)
        forwards z j c e b q =
            let is_now : (y k a i).now ≡ z = some_is (sym (stands_now k a i) ∙ e) in
            ap (λ a. length (m.forwarded (shape_of m u a) j)) (sym is_now) ∙ ap (λ a. length (m.forwarded a j)) (sym (same_shape k a i)) ∙ led j c (ap (λ a. slice_get a j) (sym (successors k) ∙ (op_shows u k z e).successors) ∙ q) (cases_eq c block)

    pub keeps : IsTree u → ForwardedLaw m shortened → ((root k : ℕ) → IsFit m t root → In block (successors_of t k) → MayUse t root k value) → (d : Def) → definition_of t value ≡ Some d → KeepsRuns m t u × KeepsRuns m u t
    keeps w' added usable d e = added t u block index fresh w w' forwarded_more (λ root f k i. may_name root k d e (usable root k f i)) (λ root f k inside i. fits root k f inside i)

-- ---- whichever heads may be those of roots

module _ (m : Meaning) (chosen : Head → Bool) (shortened : Shape → ℕ → ℕ → Head) (index value : ℕ) where
  chosen_one : (e : Use) (t u : Tree) → EdgeLengthened m shortened index value e t u → EdgeLengthened (with_roots m chosen) shortened index value e t u
  unfolding shape_of
  chosen_one e t u x = record {
    rows = x.rows;
    operation = x.operation;
    stands = x.stands;
    branch = x.branch;
    count = x.count;
    place = x.place;
    head = x.head;
    longer = record { admitted = x.longer.admitted; branch = x.longer.branch; last = x.longer.last; back = x.longer.back };
    is = x.is;
  }

  chosen_all : (edges : List Use) (t u : Tree) → EdgesLengthened m shortened index value edges t u → EdgesLengthened (with_roots m chosen) shortened index value edges t u
  chosen_all [] t u x = x
  chosen_all (e ∷ es) t u x = (x.0, chosen_all es t x.0 x.1, chosen_one e x.0 u x.2)

chosen_added : (m : Meaning) (chosen : Head → Bool) (shortened : Shape → ℕ → ℕ → Head) (t u : Tree) (block value argument : ℕ) → IsArgumentAdded m shortened t u block value argument → IsArgumentAdded (with_roots m chosen) shortened t u block value argument
chosen_added m chosen shortened t u block value argument x = record {
  edges = x.edges;
  longer = x.longer;
  to = x.to;
  lengthened = chosen_all m chosen shortened (length (arguments_of t block)) value x.edges t x.longer x.lengthened;
  pushed = x.pushed;
  new = x.new;
}

pub added_keeps_all : (m : Meaning) (can_fold : Head → Bool) (SameTests : Head → Head → Type 0) (shortened : Shape → ℕ → ℕ → Head) → ForwardsOperands m can_fold SameTests shortened → ((h h' : Head) → SameTests h h' → m.is_branch h' ≡ m.is_branch h) → (t u : Tree) (block value argument : ℕ) → IsTree t → IsTree u → IsBlock t block → IsDefined t value → ((r : ℕ) → block_parent_of t block ≡ Some r → first_of (layout_of t r) None ≢ Some block) → ((chosen : Head → Bool) (root k : ℕ) → IsFit (with_roots m chosen) t root → In block (successors_of t k) → MayUse t root k value) → IsArgumentAdded m shortened t u block value argument → KeepsAllRuns m t u × KeepsAllRuns m u t
added_keeps_all m can_fold SameTests shortened law tests t u block value argument w w' is made entry usable x = (λ chosen. (both chosen).0, λ chosen. (both chosen).1)
  where
    both : (chosen : Head → Bool) → KeepsRuns (with_roots m chosen) t u × KeepsRuns (with_roots m chosen) u t
    both chosen =
        let here = forwards_operands m chosen can_fold SameTests shortened law in
        let d = maker_is t value made in
        keeps (with_roots m chosen) can_fold SameTests shortened here block (lengthening (with_roots m chosen) can_fold SameTests shortened here) t u value argument w is entry (chosen_added m chosen shortened t u block value argument x) w' (forwarded_keeps (with_roots m chosen) can_fold SameTests shortened here tests) (usable chosen) d.0 d.1
