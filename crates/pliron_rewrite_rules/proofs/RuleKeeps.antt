-- A term that a rule answers may have the uses of the result.
use Rattle.std.proofs.Common.{◌≡◌, ◌⊎◌, ⊎_elim, inl, inr, ℕ, Bool, true, false, List, [], ◌∷◌, ◌++◌, length, Option, Some, None, IsSome, is_some, IsTrue, slice_get, refl, sym, ap, ap₂, ◌∙◌, subst, arith}
use Rattle.std.specs.List.{flat_map}
use Rattle.pliron_core.specs.declared.attrs.AttrObj.{AttrObj}
use Rattle.pliron_core.specs.declared.context.Def.TheVariants.{Result}
use Rattle.pliron_core.specs.Changes.{IsDefiningOperationInside}
use Rattle.pliron_core.specs.Invariant.{IsTree}
use Rattle.pliron_core.specs.Tree.{Tree, In, IsInside, IsLive, IsDefined, IsMadeBy, operands_of, results_of, parent_of, definition_of}
use Rattle.pliron_core.specs.Writes.{after_replacing}
use Rattle.pliron_core.proofs.HoldingLemmas.{some_is, not_none}
use Rattle.pliron_core.proofs.InsideLemmas.{inside_trans}
use Rattle.pliron_core.proofs.WriteInsideLemmas.{replaced_inside}
use Rattle.pliron_laws.specs.Datum.{Datum, Empty, datum_of, Head, Give, Meaning}
use Rattle.pliron_laws.specs.Laws.{IsGive}
use Rattle.pliron_laws.specs.Linked.{IsAdmitted, IsWellLinked}
use Rattle.pliron_laws.specs.Outcomes.{next_value}
use Rattle.pliron_laws.specs.States.{Environment, data_of, prepend_optional}
use Rattle.pliron_laws.specs.Tree.{Operation, op_at, shape_of}
use Rattle.pliron_laws.proofs.Records.{op_shows}
use Rattle.pliron_theory.specs.Change.{IsWholeChange}
use Rattle.pliron_theory.specs.Keeps.{KeepsAllRuns}
use Rattle.pliron_theory.specs.Sweeping.{GivesNow}
use Rattle.pliron_theory.proofs.WholeChanges.{all_trans}
use Rattle.pliron_rewrite_blocks.proofs.RewriteLinks.{replaced_links}
use Rattle.pliron_rewrite_equals.specs.Current.{IsCurrent}
use Rattle.pliron_rewrite_rules.specs.Tables.{RuleTables}
use Rattle.pliron_rewrite_rules.specs.Equations.{IsInSlice, Makes, MakesOperand, IsInPattern, AreEqual}
use Rattle.pliron_rewrite_rules.specs.Insertions.{pure_shape, with_operation, IsInsertable, IsInsertion}
use Rattle.pliron_rewrite_rules.specs.Replacements.{IsLeaf, IsMadeBefore, IsAvailable, AtLeaf, MadeBefore}
use Rattle.pliron_rewrite_rules.proofs.Inserted.{shape_pure}
use Rattle.pliron_rewrite_rules.proofs.Replacements.{leaves_keep, results_keep}
use Rattle.pliron_rewrite_rules.specs.declared.term.Atom.{Atom}
use Rattle.pliron_rewrite_rules.specs.declared.term.Atom.TheVariants.{Named, Constant}
use Rattle.pliron_rewrite_rules.specs.declared.term.Term.{Term}
use Rattle.pliron_rewrite_rules.specs.declared.term.Term.TheVariants.{Atomic, Make}
use Rattle.pliron_rewrite_rules.specs.Rewriting.{with_atoms, atom_values, with_term, term_value, after_rewriting}
use Rattle.pliron_rewrite_rules.specs.RuleLaws.{IsPureHead, IsAccepted, IsRule}
use Rattle.pliron_rewrite_rules.specs.Seen.{pure_only, operation_view}
use Rattle.pliron_rewrite_rules.specs.Views.{Each, result_datum, only_given, data_by, view_datum, atom_datum, term_datum, Agrees, shown_in, atom_names, named_in}
use Rattle.pliron_rewrite_rules.proofs.Agreement.{shown_leaf, view_agrees}
use Rattle.pliron_rewrite_rules.proofs.Growing.{IsGrown, IsBuilt, op_live, grown_refl, grown_live, grown_trans, grown_put, built_put, built_lifted, put_unused}
use Rattle.pliron_rewrite_rules.proofs.PureOperations.{IsLawful, IsSingle, PassesTest, pure_passes, single_datum}

no_data : (ds : List Datum) → length ds ≡ 0 → ds ≡ []
no_data [] e = refl
no_data (d ∷ ds) e = absurd (omega (arith, e))

built_defined : (u : Tree) (v : ℕ) → IsTree u → {op : ℕ} → IsMadeBefore u op v → IsDefined u v
built_defined u v w b = subst (IsMadeBy u v) (sym (w.joined.results b.maker b.place v b.makes)) b.makes

-- the term makes an operation
abbrev pub IsNew : Term → Type 0
IsNew (Atomic (Named v)) = ⊥
IsNew (Atomic (Constant c)) = Unit {0}
IsNew (Make head atoms) = Unit {0}

-- the values stand for the atoms
abbrev pub AreBuilt : RuleTables → ℕ → Tree → List Atom → List ℕ → Type 0
AreBuilt x op u [] [] = Unit {0}
AreBuilt x op u [] (v ∷ vs) = ⊥
AreBuilt x op u (Named a ∷ atoms) [] = ⊥
AreBuilt x op u (Named a ∷ atoms) (v ∷ vs) = (v ≡ a) × AreBuilt x op u atoms vs
AreBuilt x op u (Constant c ∷ atoms) [] = ⊥
AreBuilt x op u (Constant c ∷ atoms) (v ∷ vs) = (IsTrue (x.accepts c) × IsBuilt u op (x.constant_head c) [] v) × AreBuilt x op u atoms vs

-- what a term makes is before op
pub record IsTermMade (x : RuleTables) (op : ℕ) (t u : Tree) (head : Head) (atoms : List Atom) (values : List ℕ) (new : ℕ) : Type 0 where
  pub grown : IsGrown x.meaning op t u
  pub built : IsBuilt u op head values new
  pub stand : AreBuilt x op u atoms values

module _ (x : RuleTables) (laws : IsLawful x) (op : ℕ) where
  -- a constant may be put before op
  pub constant_insertion : (t : Tree) (c : AttrObj) → IsTree t → IsSome (parent_of t op) → IsTrue (x.accepts c) → IsInsertion x.meaning t op (x.constant_head c) []
  constant_insertion t c w placed accepted =
      let makes = laws.makes c accepted in
      record {
        tree = w;
        placed = placed;
        insertable = record {
          admitted = makes.admitted;
          no_terminator = makes.no_terminator;
          no_branch = laws.plain c accepted;
          gives = λ ds e. subst IsGive (sym (ap (x.meaning.act (pure_shape (x.constant_head c) 0) Empty) (no_data ds e) ∙ makes.gives)) tt;
        };
        available = λ v i. absurd i;
      }

  pub all_lifted : (t u : Tree) → IsGrown x.meaning op t u → (atoms : List Atom) (vs : List ℕ) → AreBuilt x op t atoms vs → AreBuilt x op u atoms vs
  all_lifted t u g [] [] b = tt
  all_lifted t u g [] (v ∷ vs) b = absurd b
  all_lifted t u g (Named a ∷ atoms) [] b = absurd b
  all_lifted t u g (Named a ∷ atoms) (v ∷ vs) b = (b.0, all_lifted t u g atoms vs b.1)
  all_lifted t u g (Constant c ∷ atoms) [] b = absurd b
  all_lifted t u g (Constant c ∷ atoms) (v ∷ vs) b = ((b.0.0, built_lifted x.meaning op t u (x.constant_head c) [] v g b.0.1), all_lifted t u g atoms vs b.1)

  pub atoms_grow : (atoms : List Atom) (t : Tree) → IsTree t → IsSome (parent_of t op) → Each (IsAccepted x.accepts) atoms → IsGrown x.meaning op t (with_atoms x t op atoms) × AreBuilt x op (with_atoms x t op atoms) atoms (atom_values x t op atoms)
  atoms_grow [] t w placed accepted = (grown_refl x.meaning op t w placed, tt)
  atoms_grow (Named a ∷ atoms) t w placed accepted = let r = atoms_grow atoms t w placed accepted.1 in (r.0, (refl, r.1))
  atoms_grow (Constant c ∷ atoms) t w placed accepted =
      let i = constant_insertion t c w placed accepted.0 in
      let next = with_operation t op (x.constant_head c) [] in
      let g = grown_put x.meaning laws.counts t op (x.constant_head c) [] i in
      let b = built_put x.meaning laws.counts t op (x.constant_head c) [] i in
      let r = atoms_grow atoms next g.tree g.placed accepted.1 in
      (grown_trans x.meaning op t next (with_atoms x next op atoms) g r.0, ((accepted.0, built_lifted x.meaning op next (with_atoms x next op atoms) (x.constant_head c) [] (next_value t) r.0 b), r.1))

  values_long : (atoms : List Atom) (u : Tree) (vs : List ℕ) → AreBuilt x op u atoms vs → length vs ≡ length atoms
  values_long [] u [] b = refl
  values_long [] u (v ∷ vs) b = absurd b
  values_long (Named a ∷ atoms) u [] b = absurd b
  values_long (Named a ∷ atoms) u (v ∷ vs) b = let r = values_long atoms u vs b.1 in omega (arith, r)
  values_long (Constant c ∷ atoms) u [] b = absurd b
  values_long (Constant c ∷ atoms) u (v ∷ vs) b = let r = values_long atoms u vs b.1 in omega (arith, r)

  values_available : (u : Tree) (atoms : List Atom) (vs : List ℕ) → AreBuilt x op u atoms vs → ((v : ℕ) → In v (flat_map atom_names atoms) → IsAvailable u op v) → (v : ℕ) → In v vs → IsAvailable u op v
  values_available u [] [] b named v i = absurd i
  values_available u [] (z ∷ vs) b named v i = absurd b
  values_available u (Named a ∷ atoms) [] b named v i = absurd i
  values_available u (Named a ∷ atoms) (z ∷ vs) b named v (inl e) = subst (IsAvailable u op) (sym (e ∙ b.0)) (named a (inl refl))
  values_available u (Named a ∷ atoms) (z ∷ vs) b named v (inr i) = values_available u atoms vs b.1 (λ y j. named y (inr j)) v i
  values_available u (Constant c ∷ atoms) [] b named v i = absurd i
  values_available u (Constant c ∷ atoms) (z ∷ vs) b named v (inl e) = subst (IsAvailable u op) (sym e) (MadeBefore b.0.1.before)
  values_available u (Constant c ∷ atoms) (z ∷ vs) b named v (inr i) = values_available u atoms vs b.1 named v i

  values_data : (u : Tree) (env : Environment) (atoms : List Atom) (vs : List ℕ) → AreBuilt x op u atoms vs → ((c : AttrObj) (v : ℕ) → In v vs → IsTrue (x.accepts c) → IsBuilt u op (x.constant_head c) [] v → env v ≡ Some (datum_of c)) → data_of env vs ≡ data_by (atom_datum env) atoms
  values_data u env [] [] b made = refl
  values_data u env [] (v ∷ vs) b made = absurd b
  values_data u env (Named a ∷ atoms) [] b made = absurd b
  values_data u env (Named a ∷ atoms) (v ∷ vs) b made = ap₂ prepend_optional (ap env b.0) (values_data u env atoms vs b.1 (λ c z i. made c z (inr i)))
  values_data u env (Constant c ∷ atoms) [] b made = absurd b
  values_data u env (Constant c ∷ atoms) (v ∷ vs) b made = ap₂ prepend_optional (made c v (inl refl) b.0.0 b.0.1) (values_data u env atoms vs b.1 (λ d z i. made d z (inr i)))

  -- u is a tree in which a constant is before op, and is current in the environment
  module _ (u : Tree) (old new : ℕ) (env : Environment) (current : (k : ℕ) → IsInPattern x.meaning x.side_effects u old new k → IsAdmitted x.meaning u k × IsCurrent x.meaning u env k) (c : AttrObj) (v : ℕ) (accepted : IsTrue (x.accepts c)) (b : IsBuilt u op (x.constant_head c) [] v) (slice : IsInSlice u new b.key) where
    constant_now : GivesNow x.meaning u b.key
    constant_now o e ds long =
        let same : b.operation ≡ o = some_is (sym b.single.liveness ∙ e) in
        subst (λ z. length ds ≡ length z.operands → (r : List Datum) × (x.meaning.act (shape_of x.meaning u z) Empty ds ≡ Give r) × (length r ≡ length z.results)) same here long
      where
        here : length ds ≡ length b.operation.operands → (r : List Datum) × (x.meaning.act (shape_of x.meaning u b.operation) Empty ds ≡ Give r) × (length r ≡ length b.operation.results)
        here e =
            let none : ds ≡ [] = no_data ds (e ∙ ap length b.operands_are) in
            let plain : x.meaning.is_branch b.operation.head ≡ false = ap x.meaning.is_branch b.head_is ∙ laws.plain c accepted in
            let shape = shape_pure x.meaning u b.operation b.operation.head plain refl (ap length b.single.results) b.single.no_successors b.single.no_regions in (
              datum_of c ∷ [],
              ap (λ s. x.meaning.act s Empty ds) (shape ∙ ap₂ pure_shape b.head_is (ap length b.operands_are)) ∙ ap (x.meaning.act (pure_shape (x.constant_head c) 0) Empty) none ∙ (laws.makes c accepted).gives,
              sym (ap length b.single.results),
            )

    constant_has : env v ≡ Some (datum_of c)
    constant_has =
        let shows = op_shows u b.key b.operation b.single.liveness in
        let y = current b.key (record { slice = inr slice; no_successors = shows.successors ∙ b.single.no_successors; at_once = inr constant_now }) in
        let d = single_datum x laws u env b.key v b.operation b.single y.0 y.1 in
        d.1 ∙ sym d.2
        ∙ ap₂ (λ head vs. result_datum x.meaning head (data_of env vs)) b.head_is b.operands_are
        ∙ ap only_given (laws.makes c accepted).gives

  -- the rule is for the view of op in t
  module _ (t : Tree) (w : IsTree t) (o : Operation) (old : ℕ) (single : IsSingle t op o old) (harmless : x.side_effects o.head ≡ Some false) (placed : IsSome (parent_of t op)) where
    module _ (u : Tree) (g : IsGrown x.meaning op t u) where
      there : IsSingle u op o old
      there = record { liveness = g.ops op o single.liveness; results = single.results; no_successors = single.no_successors; no_regions = single.no_regions }

      listed : slice_get (results_of u op) 0 ≡ Some old
      listed = ap (λ vs. slice_get vs 0) ((op_shows u op o there.liveness).results ∙ single.results)

      root_slice : IsInSlice u old op
      root_slice = Makes 0 (g.tree.joined.results op 0 old listed)

      leaf_of_view : (v : ℕ) → In v (shown_in (operation_view x t o)) → IsLeaf u old v
      leaf_of_view v i = shown_leaf x t u g.tree g.ops g.defs op old o there.liveness root_slice v i

      -- the equation of the tree follows from that of the rule
      equal_by : (term : Term) (new : ℕ) → IsRule x.meaning x.side_effects x.accepts (operation_view x t o) term → ((env : Environment) → ((k : ℕ) → IsInPattern x.meaning x.side_effects u old new k → IsAdmitted x.meaning u k × IsCurrent x.meaning u env k) → (d : Datum) → term_datum x.meaning env term ≡ Some d → env new ≡ Some d) → AreEqual x.meaning x.side_effects u old new
      equal_by term new rule has env current =
          let a = view_agrees x t u g.tree g.ops g.defs laws old new env current op o there harmless root_slice in
          a.1.1 ∙ sym (has env current a.1.0 (rule.equal env a.1.0 a.0 a.1.2))

      -- the uses move
      moved : (new : ℕ) → KeepsAllRuns x.meaning u (after_replacing u old new) → KeepsAllRuns x.meaning t (after_replacing u old new)
      moved new keeps = all_trans x.meaning t u (after_replacing u old new) g.runs keeps

      by_leaf : (new : ℕ) → IsLeaf u old new → AreEqual x.meaning x.side_effects u old new → KeepsAllRuns x.meaning t (after_replacing u old new)
      by_leaf new leaf equal = moved new (leaves_keep x.meaning x.side_effects laws.counts laws.at_once u old new g.tree leaf equal)

      by_result : (new : ℕ) → IsMadeBefore u op new → AreEqual x.meaning x.side_effects u old new → KeepsAllRuns x.meaning t (after_replacing u old new)
      by_result new before equal = moved new (results_keep x.meaning x.side_effects laws.counts laws.at_once u op 0 old new g.tree listed before equal)

    here : IsGrown x.meaning op t t
    here = grown_refl x.meaning op t w placed

    pub term_insertion : (head : Head) (atoms : List Atom) → IsRule x.meaning x.side_effects x.accepts (operation_view x t o) (Make head atoms) → IsInsertion x.meaning (with_atoms x t op atoms) op head (atom_values x t op atoms)
    term_insertion head atoms rule =
        let u = with_atoms x t op atoms in
        let values = atom_values x t op atoms in
        let a = atoms_grow atoms t w placed rule.buildable.1 in
        record {
          tree = a.0.tree;
          placed = a.0.placed;
          insertable = subst (IsInsertable x.meaning head) (sym (values_long atoms u values a.1)) (pure_insertable head (length atoms) rule.buildable.0);
          available = values_available u atoms values a.1 (λ v j. AtLeaf old 0 (listed u a.0) (leaf_of_view u a.0 v (rule.shown v j)));
        }
      where
        pure_insertable : (head : Head) (n : ℕ) → IsPureHead x.meaning x.side_effects head n → IsInsertable x.meaning head n
        pure_insertable head n p = record {
          admitted = p.admitted;
          no_terminator = p.no_terminator;
          no_branch = go (x.meaning.is_branch head) refl;
          gives = λ ds e. laws.at_once (pure_shape head n) p.admitted p.harmless ds e;
        }
          where
            go : (b : Bool) → x.meaning.is_branch head ≡ b → x.meaning.is_branch head ≡ false
            go false e = e
            go true e = let one = laws.alone (pure_shape head n) p.admitted e in absurd (omega (arith, one))

    made_term : (head : Head) (atoms : List Atom) → IsRule x.meaning x.side_effects x.accepts (operation_view x t o) (Make head atoms) → IsTermMade x op t (with_term x t op (Make head atoms)) head atoms (atom_values x t op atoms) (term_value x t op (Make head atoms))
    made_term head atoms rule =
        let m = x.meaning in
        let u = with_atoms x t op atoms in
        let values = atom_values x t op atoms in
        let a = atoms_grow atoms t w placed rule.buildable.1 in
        let i = term_insertion head atoms rule in
        let g = grown_put m laws.counts u op head values i in
        let b = built_put m laws.counts u op head values i in
        record { grown = grown_trans m op t u (with_operation u op head values) a.0 g; built = b; stand = all_lifted u (with_operation u op head values) g atoms values a.1 }

    made_datum : (u : Tree) (head : Head) (atoms : List Atom) (values : List ℕ) (new : ℕ) → IsPureHead x.meaning x.side_effects head (length atoms) → IsTermMade x op t u head atoms values new → (env : Environment) → ((k : ℕ) → IsInPattern x.meaning x.side_effects u old new k → IsAdmitted x.meaning u k × IsCurrent x.meaning u env k) → (d : Datum) → term_datum x.meaning env (Make head atoms) ≡ Some d → env new ≡ Some d
    made_datum u head atoms values new pure made env current d e =
        let b = made.built in
        let shows = op_shows u b.key b.operation b.single.liveness in
        let slice : IsInSlice u new b.key = Makes 0 b.makes in
        let y = current b.key (record { slice = inr slice; no_successors = shows.successors ∙ b.single.no_successors; at_once = inl (λ h f. ap x.side_effects (some_is (sym f ∙ shows.head) ∙ b.head_is) ∙ pure.harmless) }) in
        let r = single_datum x laws u env b.key new b.operation b.single y.0 y.1 in
        let known = values_data u env atoms values made.stand (λ c v i accepted built. constant_has u old new env current c v accepted built (MakesOperand 0 b.key v slice (subst (In v) (sym (shows.operands ∙ b.operands_are)) i) built.makes)) in
        r.1 ∙ sym r.2
        ∙ ap₂ (λ h vs. result_datum x.meaning h (data_of env vs)) b.head_is b.operands_are
        ∙ ap (result_datum x.meaning head) known ∙ e

    module _ (c : AttrObj) (accepted : IsTrue (x.accepts c)) where
      abbrev alone : Tree
      alone = with_operation t op (x.constant_head c) []

      alone_grown : IsGrown x.meaning op t alone
      alone_grown = grown_put x.meaning laws.counts t op (x.constant_head c) [] (constant_insertion t c w placed accepted)

      alone_built : IsBuilt alone op (x.constant_head c) [] (next_value t)
      alone_built = built_put x.meaning laws.counts t op (x.constant_head c) [] (constant_insertion t c w placed accepted)

    pub term_grows : (term : Term) → IsRule x.meaning x.side_effects x.accepts (operation_view x t o) term → IsGrown x.meaning op t (with_term x t op term)
    term_grows (Atomic (Named v)) rule = here
    term_grows (Atomic (Constant c)) rule = alone_grown c rule.buildable
    term_grows (Make head atoms) rule = (made_term head atoms rule).grown

    pub term_keeps : (term : Term) → IsRule x.meaning x.side_effects x.accepts (operation_view x t o) term → KeepsAllRuns x.meaning t (after_rewriting x t op old term)
    term_keeps (Atomic (Named v)) rule = by_leaf t here v (leaf_of_view t here v (rule.shown v (inl refl))) (equal_by t here (Atomic (Named v)) v rule (λ env current d e. e))
    term_keeps (Atomic (Constant c)) rule =
        let u = alone c rule.buildable in
        let g = alone_grown c rule.buildable in
        let b = alone_built c rule.buildable in
        by_result u g (next_value t) b.before (equal_by u g (Atomic (Constant c)) (next_value t) rule (λ env current d e. constant_has u old (next_value t) env current c (next_value t) rule.buildable b (Makes 0 b.makes) ∙ e))
    term_keeps (Make head atoms) rule =
        let u = with_term x t op (Make head atoms) in
        let new = term_value x t op (Make head atoms) in
        let made = made_term head atoms rule in
        by_result u made.grown new made.built.before (equal_by u made.grown (Make head atoms) new rule (made_datum u head atoms (atom_values x t op atoms) new rule.buildable.0 made))

    -- which is what a pass may do
    pub term_changes : (term : Term) → IsRule x.meaning x.side_effects x.accepts (operation_view x t o) term → (root : ℕ) → IsLive t root → IsWellLinked x.meaning t root → IsInside t root op → IsWholeChange x.meaning t (after_rewriting x t op old term) root
    term_changes term rule root live linked inside =
        let u = with_term x t op term in
        let g = term_grows term rule in
        let i = g.inside root inside in
        let made : IsDefiningOperationInside u root (definition_of u old) = subst (IsDefiningOperationInside u root) (sym (g.tree.joined.results op 0 old (listed u g))) i.0 in
        record {
          liveness = grown_live x.meaning op t u g root live;
          linked = replaced_links x.meaning u old (term_value x t op term) root (g.links root linked);
          inside = inside_trans t u (after_replacing u old (term_value x t op term)) root i.1 (replaced_inside u root old (term_value x t op term) g.tree.joined made);
          runs = term_keeps term rule;
        }

    -- the value is defined there
    pub term_defined : (term : Term) → IsRule x.meaning x.side_effects x.accepts (operation_view x t o) term → IsDefined (with_term x t op term) (term_value x t op term)
    term_defined (Atomic (Named v)) rule = let leaf = leaf_of_view t here v (rule.shown v (inl refl)) in w.joined.operands leaf.reader v leaf.reads
    term_defined (Atomic (Constant c)) rule = built_defined (alone c rule.buildable) (next_value t) (alone_grown c rule.buildable).tree (alone_built c rule.buildable).before
    term_defined (Make head atoms) rule = let made = made_term head atoms rule in built_defined (with_term x t op (Make head atoms)) (term_value x t op (Make head atoms)) made.grown.tree made.built.before

    -- a new one has no uses
    pub term_unused : (term : Term) → IsRule x.meaning x.side_effects x.accepts (operation_view x t o) term → IsNew term → (k : ℕ) → In (term_value x t op term) (operands_of (with_term x t op term) k) → ⊥
    term_unused (Atomic (Named v)) rule new k i = new
    term_unused (Atomic (Constant c)) rule new k i = put_unused x.meaning laws.counts t op (x.constant_head c) [] (constant_insertion t c w placed rule.buildable) k i
    term_unused (Make head atoms) rule new k i = put_unused x.meaning laws.counts (with_atoms x t op atoms) op head (atom_values x t op atoms) (term_insertion head atoms rule) k i

    pub root_listed : (term : Term) → IsRule x.meaning x.side_effects x.accepts (operation_view x t o) term → slice_get (results_of (with_term x t op term) op) 0 ≡ Some old
    root_listed term rule = listed (with_term x t op term) (term_grows term rule)
