-- Runs are kept where one edge of a branch leads past one block that only passes on.
use Rattle.std.proofs.Common.{◌≡◌, ◌≢◌, ◌⊎◌, inl, inr, ⊎_elim, ℕ, zero, suc, ◌<◌, Bool, true, false, List, [], ◌∷◌, ◌++◌, length, map, Some, None, IsTrue, slice_get, refl, sym, ap, ◌∙◌, subst, arith}
use Rattle.std.proofs.lemmas.List.{length-map}
use Rattle.pliron_core.specs.Tree.{Tree, In, IsLive, IsInside, IsInside.Directly, IsInside.Deeper, head_of, successors_of, results_of, regions_of, parent_of, body_of, arguments_of, block_parent_of, block_parent_operation_of, parent_operation_of, up_from, region_parent_of}
use Rattle.pliron_core.specs.Invariant.{IsTree}
use Rattle.pliron_core.proofs.HoldingLemmas.{some_is, some_of}
use Rattle.pliron_core.proofs.LastLemmas.{last_front}
use Rattle.pliron_core.proofs.WalkLemmas.{inside_live}
use Rattle.pliron_laws.specs.Datum.{Datum, Empty, Head, Shape, Move, Give, Visit, Goto, Leave, Emit, Trap, Meaning}
use Rattle.pliron_laws.specs.Tree.{Operation, op_at, block_at, entry_block, count_arguments, unless, shape_of}
use Rattle.pliron_laws.specs.States.{Environment, data_of}
use Rattle.pliron_laws.specs.Acting.{Begins, pick}
use Rattle.pliron_laws.specs.Answers.{HeadPasses}
use Rattle.pliron_laws.specs.Laws.{Admitted, ForwardsOperands}
use Rattle.pliron_laws.specs.Linked.{EndsBlock, IsWellLinked}
use Rattle.pliron_laws.proofs.Records.{operation_of, op_shows, make_op}
use Rattle.pliron_theory.specs.Keeps.{IsFit, KeepsRuns}
use Rattle.pliron_theory.specs.Rebranching.{FitsInPlace}
use Rattle.pliron_theory.proofs.Alike.{data_long}
use Rattle.pliron_theory.proofs.Reading.{ready_when_reached}
use Rattle.pliron_theory.proofs.SweptKeeps.{admitted_shape}
use Rattle.pliron_theory.proofs.SweptStays.{admitted_same}
use Rattle.pliron_rewrite_copies.specs.Moving.{IsEdgeMoved, Goes, GoesAlong, GoesAlong.BothTrap, GoesAlong.SameBlock, GoesAlong.PastBlock, LeadsAlong}
use Rattle.pliron_rewrite_copies.proofs.MovedKeeps.{moved_keeps}
use Rattle.pliron_dialect_edges.specs.AtOnce.{GoAtOnce, GoesOrTraps}
use Rattle.pliron_opt_edges.specs.Chains.{OnlyJumps}
use Rattle.pliron_opt_edges.proofs.LedTrees.{with_targets, led_at, led_other}

pub no_items : {A : Type 0} (xs : List A) → length xs ≡ 0 → xs ≡ []
no_items [] e = refl
no_items (x ∷ xs) e = grind arith

no_members : (xs : List ℕ) → ((p : ℕ) → In p xs → ⊥) → xs ≡ []
no_members [] none = refl
no_members (x ∷ xs) none = absurd (none x (inl refl))

some_item : (xs : List ℕ) → 0 < length xs → (x : ℕ) × In x xs
some_item [] lt = absurd (omega (arith, lt))
some_item (x ∷ xs) lt = (x, inl refl)

-- ---- one entry of a list is another

pub as_long : (pre post : List ℕ) (e c : ℕ) → length (pre ++ c ∷ post) ≡ length (pre ++ e ∷ post)
as_long [] post e c = refl
as_long (p ∷ pre) post e c = ap suc (as_long pre post e c)

edge_was : (pre post : List ℕ) (e c i b : ℕ) → slice_get (pre ++ c ∷ post) i ≡ Some b → (slice_get (pre ++ e ∷ post) i ≡ Some b) ⊎ ((b ≡ c) × (slice_get (pre ++ e ∷ post) i ≡ Some e))
edge_was [] post e c zero b g = inr (some_is (sym g), refl)
edge_was [] post e c (suc i) b g = inl g
edge_was (p ∷ pre) post e c zero b g = inl g
edge_was (p ∷ pre) post e c (suc i) b g = edge_was pre post e c i b g

edge_is : (pre post : List ℕ) (e c i : ℕ) → (slice_get (pre ++ c ∷ post) i ≡ slice_get (pre ++ e ∷ post) i) ⊎ ((slice_get (pre ++ e ∷ post) i ≡ Some e) × (slice_get (pre ++ c ∷ post) i ≡ Some c))
edge_is [] post e c zero = inr (refl, refl)
edge_is [] post e c (suc i) = inl refl
edge_is (p ∷ pre) post e c zero = inl refl
edge_is (p ∷ pre) post e c (suc i) = edge_is pre post e c i

pub in_middle : (pre post : List ℕ) (x : ℕ) → In x (pre ++ x ∷ post)
in_middle [] post x = inl refl
in_middle (p ∷ pre) post x = inr (in_middle pre post x)

pub in_other : (pre post : List ℕ) (e c x : ℕ) → In x (pre ++ c ∷ post) → (x ≡ c) ⊎ In x (pre ++ e ∷ post)
in_other [] post e c x (inl s) = inl s
in_other [] post e c x (inr i) = inr (inr i)
in_other (p ∷ pre) post e c x (inl s) = inr (inl s)
in_other (p ∷ pre) post e c x (inr i) = ⊎_elim (λ s. inl s) (λ j. inr (inr j)) (in_other pre post e c x i)

-- ---- what is beside stands inside what the other is inside

inside_beside : (t : Tree) (x y root : ℕ) → parent_operation_of t y ≡ parent_operation_of t x → IsInside t root x → IsInside t root y
inside_beside t x y root q (Directly e) = Directly (q ∙ e)
inside_beside t x y root q (Deeper p e i) = Deeper p (q ∙ e) i

pub jump_inside : (t : Tree) (x y a b root : ℕ) → parent_of t x ≡ Some a → parent_of t y ≡ Some b → block_parent_of t b ≡ block_parent_of t a → IsInside t root x → IsInside t root y
jump_inside t x y a b root px py beside i =
    let up : block_parent_operation_of t b ≡ block_parent_operation_of t a = ap (λ o. up_from o (λ r. region_parent_of t r)) beside in
    let mine : parent_operation_of t y ≡ block_parent_operation_of t b = ap (λ o. up_from o (λ z. block_parent_operation_of t z)) py in
    let its : parent_operation_of t x ≡ block_parent_operation_of t a = ap (λ o. up_from o (λ z. block_parent_operation_of t z)) px in
    inside_beside t x y root (mine ∙ up ∙ sym its) i

-- ---- the shape of a branch

abbrev plain : Head → ℕ → ℕ → ℕ → Shape
plain head a b c = record { head = head; operands = a; results = b; successors = c; entry_arguments = []; target_arguments = None }

unless_so : {A : Type 0} (b : Bool) (x : A) → IsTrue b → unless b x ≡ None
unless_so true x e = refl
unless_so false x e = grind arith

pub plain_shape : (m : Meaning) (t : Tree) (o : Operation) → o.regions ≡ [] → IsTrue (m.is_branch o.head) → shape_of m t o ≡ plain o.head (length o.operands) (length o.results) (length o.successors)
unfolding shape_of
plain_shape m t o none br =
    ap (λ es. let s : Shape = record { head = o.head; operands = length o.operands; results = length o.results; successors = length o.successors; entry_arguments = es; target_arguments = unless (m.is_branch o.head) (map (λ b. count_arguments (block_at t b)) o.successors) } in s) (ap (map (λ r. count_arguments (entry_block t r))) none)
    ∙ ap (λ ts. let s : Shape = record { head = o.head; operands = length o.operands; results = length o.results; successors = length o.successors; entry_arguments = []; target_arguments = ts } in s) (unless_so (m.is_branch o.head) _ br)

-- two branches with one head, and as many operands and successors, have one shape
pub same_shape : (m : Meaning) (t u : Tree) (x y : Operation) → x.regions ≡ [] → y.regions ≡ [] → IsTrue (m.is_branch x.head) → y.head ≡ x.head → length y.operands ≡ length x.operands → length y.results ≡ length x.results → length y.successors ≡ length x.successors → shape_of m u y ≡ shape_of m t x
same_shape m t u x y nx ny br head a b c =
    plain_shape m u y ny (subst (λ h. IsTrue (m.is_branch h)) (sym head) br)
    ∙ ap (λ h. plain h (length y.operands) (length y.results) (length y.successors)) head
    ∙ ap (λ n. plain x.head n (length y.results) (length y.successors)) a
    ∙ ap (λ n. plain x.head (length x.operands) n (length y.successors)) b
    ∙ ap (λ n. plain x.head (length x.operands) (length x.results) n) c
    ∙ sym (plain_shape m t x nx br)

length_picked : (ds : List Datum) (places : List ℕ) (first : List Datum) → map Some ds ≡ pick places first → length ds ≡ length places
length_picked ds places first e = sym (length-map ds Some) ∙ ap length e ∙ length-map places (λ i. slice_get first i)

-- a branch that ends its block, without results and regions
pub record Stands (m : Meaning) (t : Tree) (op : ℕ) : Type 0 where
  pub ends : EndsBlock t op
  pub front : List ℕ
  pub split : body_of t ends.block ≡ front ++ op ∷ []
  pub childless : regions_of t op ≡ []
  pub no_results : results_of t op ≡ []

module _ (m : Meaning) (can_fold : Head → Bool) (SameTests : Head → Head → Type 0) (shortened : Shape → ℕ → ℕ → Head) (fw : ForwardsOperands m can_fold SameTests shortened) where
  pub stands : (t : Tree) (root op : ℕ) → IsTree t → IsWellLinked m t root → IsInside t root op → HeadPasses m.is_branch t op → Stands m t op
  unfolding shape_of
  stands t root op w linked inside branch =
      let h = some_of (head_of t op) (inside_live t w root op inside) in
      let o = operation_of t op h.0 in
      let oe : op_at t op ≡ Some o = make_op t op h.0 h.1 in
      let s = op_shows t op o oe in
      let ad = admitted_shape m t op o oe (linked.admitted op (inr inside)) in
      let br : IsTrue (m.is_branch o.head) = branch o.head s.head in
      let alone = fw.alone (shape_of m t o) ad br in
      let edge = some_item o.successors (fw.some_edge (shape_of m t o) ad br) in
      let ends = linked.edges op edge.0 (subst (In edge.0) (sym s.successors) edge.1) (inl inside) in
      let split = last_front (body_of t ends.block) op ends.last in
      let childless : o.regions ≡ [] = no_items o.regions (sym (length-map o.regions (λ r. count_arguments (entry_block t r))) ∙ ap length alone.1) in
      record {
        ends = ends;
        front = split.0;
        split = split.1;
        childless = s.regions ∙ childless;
        no_results = s.results ∙ no_items o.results alone.0;
      }

  module _ (at_once : GoAtOnce m) (t : Tree) (w : IsTree t) (op a : ℕ) (front : List ℕ) (split : body_of t a ≡ front ++ op ∷ []) (childless : regions_of t op ≡ []) (no_results : results_of t op ≡ []) (branch : HeadPasses m.is_branch t op) (in_a : parent_of t op ≡ Some a) (live : IsLive t op) (pre post : List ℕ) (e c jump : ℕ) (j : OnlyJumps m.is_branch t e jump c) (edges : successors_of t op ≡ pre ++ e ∷ post) (apart : a ≢ e) (no_values : results_of t jump ≡ []) (beside_e : block_parent_of t e ≡ block_parent_of t a) (beside : (x : ℕ) → In x (pre ++ c ∷ post) → block_parent_of t x ≡ block_parent_of t a) (wu : IsTree (with_targets t op (pre ++ c ∷ post))) where
    abbrev u : Tree
    u = with_targets t op (pre ++ c ∷ post)

    targets : successors_of u op ≡ pre ++ c ∷ post
    targets = led_at t op w live (pre ++ c ∷ post)

    in_e : parent_of t jump ≡ Some e
    in_e = w.bodies.owned jump e (subst (In jump) (sym j.body) (inl refl))

    moved : IsEdgeMoved t u a op e jump front
    moved = record {
      split = split;
      childless = childless;
      no_results = no_results;
      leads = subst (In e) (sym edges) (in_middle pre post e);
      apart = apart;
      beside = beside_e;
      only_jumps = j.body;
      no_arguments = j.no_arguments;
      no_values = no_values;
      targets = λ x i.
          let k = subst (In x) targets i in
          (⊎_elim (λ s. inr (subst (In x) (sym j.leads) (inl s))) (λ o. inl (subst (In x) (sym edges) o)) (in_other pre post e c x k), beside x k);
      live = live;
      new_childless = childless;
      new_no_results = no_results;
      rows = λ k ne. refl;
      operands = λ k ne. refl;
      successors = λ k ne. led_other t op w live (pre ++ c ∷ post) k ne;
      parents = λ k. refl;
      bodies = λ b. refl;
      arguments = λ b. refl;
      block_parents = λ b. refl;
      layouts = λ r. refl;
      slots = λ r. refl;
    }

    module _ (root : ℕ) (f : IsFit m t root) (inside : IsInside t root op) where
      there : IsInside t root jump
      there = jump_inside t op jump a e root in_a in_e beside_e inside

      -- an edge to a block without arguments forwards nothing
      forwards_none : (k i b : ℕ) (o : Operation) → IsInside t root k → op_at t k ≡ Some o → IsTrue (m.is_branch o.head) → slice_get o.successors i ≡ Some b → arguments_of t b ≡ [] → m.forwarded (shape_of m t o) i ≡ []
      forwards_none k i b o n at br g none = no_items (m.forwarded (shape_of m t o) i) (f.defined.forwards k i b o n at br g ∙ ap length none)

      -- the jump forwards nothing, so its target has no arguments
      passes_nothing : (z : Operation) → op_at t jump ≡ Some z → m.forwarded (shape_of m t z) 0 ≡ []
      unfolding shape_of
      passes_nothing z ze =
          let s = op_shows t jump z ze in
          let ad = admitted_shape m t jump z ze (f.linked.admitted jump (inr there)) in
          let br = j.branch z.head s.head in
          let none : length z.operands ≡ 0 = ap length (sym s.operands ∙ j.no_operands) in
          no_members (m.forwarded (shape_of m t z) 0) (λ p i. let lt : p < length z.operands = fw.places (shape_of m t z) ad br 0 p i in omega (arith, lt, none))

      bare_target : arguments_of t c ≡ []
      bare_target =
          let h = some_of (head_of t jump) (w.joined.all_in_place jump e in_e).0 in
          let z = operation_of t jump h.0 in
          let ze : op_at t jump ≡ Some z = make_op t jump h.0 h.1 in
          let s = op_shows t jump z ze in
          no_items (arguments_of t c) (sym (f.defined.forwards jump 0 c z there ze (j.branch z.head s.head) (ap (λ q. slice_get q 0) (sym s.successors ∙ j.leads))) ∙ ap length (passes_nothing z ze))

      shapes : (x y : Operation) → op_at t op ≡ Some x → op_at u op ≡ Some y → shape_of m u y ≡ shape_of m t x
      shapes x y xe ye =
          let sx = op_shows t op x xe in
          let sy = op_shows u op y ye in
          same_shape m t u x y (sym sx.regions ∙ childless) (sym sy.regions ∙ childless) (branch x.head sx.head) (some_is (sym sy.head ∙ sx.head)) (ap length (sym sy.operands ∙ sx.operands)) (ap length (sym sy.results ∙ sx.results)) (ap length (sym sy.successors ∙ targets) ∙ as_long pre post e c ∙ ap length (sym edges ∙ sx.successors))

      fits : FitsInPlace m u op
      fits = record {
        admitted = admitted_same m t u op refl refl refl (ap length targets ∙ as_long pre post e c ∙ ap length (sym edges)) refl (f.linked.admitted op (inr inside));
        forwards = λ y i b ye br g.
            let sy = op_shows u op y ye in
            let x = operation_of t op y.head in
            let xe : op_at t op ≡ Some x = make_op t op y.head sy.head in
            let sx = op_shows t op x xe in
            let bx : IsTrue (m.is_branch x.head) = branch x.head sx.head in
            let old : slice_get x.successors i ≡ slice_get (pre ++ e ∷ post) i = ap (λ l. slice_get l i) (sym sx.successors ∙ edges) in
            ap (λ s. length (m.forwarded s i)) (shapes x y xe ye) ∙ ⊎_elim
            (λ same. f.defined.forwards op i b x inside xe bx (old ∙ same))
            (λ q. f.defined.forwards op i e x inside xe bx (old ∙ q.1) ∙ ap length j.no_arguments ∙ sym (ap length bare_target) ∙ ap (λ z. length (arguments_of t z)) (sym q.0))
            (edge_was pre post e c i b (ap (λ l. slice_get l i) (sym targets ∙ sy.successors) ∙ g));
      }

    module _ (root : ℕ) (f : IsFit m t root) (inside : IsInside t root op) (env : Environment) (x y z : Operation) (xe : op_at t op ≡ Some x) (ye : op_at u op ≡ Some y) (ze : op_at t jump ≡ Some z) (first : List Datum) (reads : data_of env x.operands ≡ Some first) where
      same : shape_of m u y ≡ shape_of m t x
      same = shapes root f inside x y xe ye

      reads_too : data_of env y.operands ≡ Some first
      reads_too = ap (data_of env) (sym (op_shows u op y ye).operands ∙ (op_shows t op x xe).operands) ∙ reads

      admitted : Admitted m (shape_of m t x)
      admitted = admitted_shape m t op x xe (f.linked.admitted op (inr inside))

      is_branch : IsTrue (m.is_branch x.head)
      is_branch = branch x.head (op_shows t op x xe).head

      x_edges : x.successors ≡ pre ++ e ∷ post
      x_edges = sym (op_shows t op x xe).successors ∙ edges

      y_edges : y.successors ≡ pre ++ c ∷ post
      y_edges = sym (op_shows u op y ye).successors ∙ targets

      no_operands : z.operands ≡ []
      no_operands = sym (op_shows t jump z ze).operands ∙ j.no_operands

      z_edges : z.successors ≡ c ∷ []
      z_edges = sym (op_shows t jump z ze).successors ∙ j.leads

      long : length first ≡ (shape_of m t x).operands
      unfolding shape_of
      long = data_long env x.operands first reads

      shape_branch : IsTrue (m.is_branch (shape_of m t x).head)
      unfolding shape_of
      shape_branch = is_branch

      -- the jump goes on at once, with nothing
      jumps : (g : Goes m t env z) × (g.index ≡ 0) × (g.values ≡ [])
      unfolding shape_of
      jumps =
          let ad = admitted_shape m t jump z ze (f.linked.admitted jump (inr (there root f inside))) in
          let br = j.branch z.head (op_shows t jump z ze).head in
          let none : 0 ≡ length z.operands = sym (ap length no_operands) in
          let way = fw.one_way (shape_of m t z) ad br (ap length z_edges) [] none in
          let passed = fw.passes (shape_of m t z) ad br [] none false Empty [] 0 way.0 Begins way.1 in (
            record { input = []; reads = ap (data_of env) no_operands; index = 0; values = way.0; goes = way.1 },
            refl,
            no_items way.0 (length_picked way.0 (m.forwarded (shape_of m t z) 0) [] passed ∙ ap length (passes_nothing root f inside z ze)),
          )

      nothing : (i : ℕ) (ds : List Datum) → m.act (shape_of m t x) Empty first ≡ Goto i ds → slice_get (pre ++ e ∷ post) i ≡ Some e → ds ≡ []
      nothing i ds q g = no_items ds (length_picked ds (m.forwarded (shape_of m t x) i) first (fw.passes (shape_of m t x) admitted shape_branch first long false Empty first i ds Begins q) ∙ ap length (forwards_none root f inside op i e x inside xe is_branch (ap (λ l. slice_get l i) x_edges ∙ g) j.no_arguments))

      goes_on : (i : ℕ) (ds : List Datum) → m.act (shape_of m t x) Empty first ≡ Goto i ds → GoesAlong m t u e env x y z
      goes_on i ds q =
          let before : Goes m t env x = record { input = first; reads = reads; index = i; values = ds; goes = q } in
          let after : Goes m u env y = record { input = first; reads = reads_too; index = i; values = ds; goes = ap (λ s. m.act s Empty first) same ∙ q } in
          ⊎_elim
          (λ s. SameBlock before after (ap (λ l. slice_get l i) y_edges ∙ s ∙ sym (ap (λ l. slice_get l i) x_edges), refl))
          (λ s. PastBlock before jumps.0 after (ap (λ l. slice_get l i) x_edges ∙ s.0) (nothing i ds q s.0) (ap (λ l. slice_get l i) y_edges ∙ s.1 ∙ sym (ap (λ n. slice_get z.successors n) jumps.1 ∙ ap (λ l. slice_get l 0) z_edges), nothing i ds q s.0 ∙ sym jumps.2))
          (edge_is pre post e c i)

      decided : (a : Move) → m.act (shape_of m t x) Empty first ≡ a → GoesOrTraps a → GoesAlong m t u e env x y z
      decided (Give ds) q d = absurd d
      decided (Visit i ds memo) q d = absurd d
      decided (Goto i ds) q d = goes_on i ds q
      decided (Leave ds) q d = absurd d
      decided (Emit o memo) q d = absurd d
      decided Trap q d = BothTrap first first reads reads_too q (ap (λ s. m.act s Empty first) same ∙ q)

      led_along : GoesAlong m t u e env x y z
      led_along = decided (m.act (shape_of m t x) Empty first) refl (at_once (shape_of m t x) admitted shape_branch first long)

    along : (root : ℕ) → IsFit m t root → LeadsAlong m t u root op e jump
    along root f s rest x y z reach at none xe ye ze =
        let r = ready_when_reached m t root w f s reach op rest at none in
        led_along root f r.inside s.environment x y z xe ye ze r.input (ap (data_of s.environment) (sym (op_shows t op x xe).operands) ∙ r.has_data)

    pub hop_keeps : KeepsRuns m t u
    hop_keeps = moved_keeps m t u a op e jump front w wu moved (omega arith) (λ root f x i no. absurd (no i)) (λ root f inside. fits root f inside) along
