-- Closed facts are sound on the tree that they are about.
use Rattle.std.proofs.Common.{◌≡◌, ◌⊎◌, inl, inr, ⊎_elim, ℕ, Bool, true, false, true≢false, if◌then◌else◌, Option, Some, None, slice_get, refl, sym, ap, ◌∙◌, subst, IsTrue}
use Rattle.std.proofs.lemmas.Bool.{eq-eqb}
use Rattle.std.proofs.lemmas.Bool.Decides.{eqb_tells}
use Rattle.pliron_core.specs.declared.attrs.AttrObj.{AttrObj}
use Rattle.pliron_core.specs.declared.context.Def.{Def}
use Rattle.pliron_core.specs.declared.context.Def.TheVariants.{Result, Argument}
use Rattle.pliron_core.specs.Changes.{IsDefiningOperationInside}
use Rattle.pliron_core.specs.Tree.{Tree, In, IsInside, HoldsBlock, parent_of, results_of, arguments_of, regions_of, layout_of, first_of, definition_of}
use Rattle.pliron_core.specs.Invariant.{IsTree}
use Rattle.pliron_core.proofs.HoldingLemmas.{some_is, in_slice, slice_in, inside_block}
use Rattle.pliron_laws.specs.Tree.{Operation, op_at, shape_of}
use Rattle.pliron_laws.proofs.Records.{op_shows}
use Rattle.pliron_theory.specs.LatticeValues.{NotAConstant, AtMost, value_of_answer, LatticeValues, Says, answers_of, IsInExecutableBlock, IsFeasibleEdge, Forwards, IsBelowNamed, AreBelowNamed, AreClosed, AreHeld}
use Rattle.pliron_theory.specs.Sound.{AreSound, IsRightResult, is_it, answer_or, both, read_result, read_from, read_of}
use Rattle.pliron_theory.proofs.FactLattice.{at_most_refl, at_most_trans}

module _ (x : Says) (t : Tree) (f : LatticeValues) where
  -- the value is a result of an operation that folds and stands in a block that is reached
  pub record IsFold (v : ℕ) : Type 0 where
    pub op : ℕ
    pub index : ℕ
    pub operation : Operation
    pub answer : Option AttrObj
    pub made : definition_of t v ≡ Some (Result op index)
    pub liveness : IsInExecutableBlock t f op
    pub at : op_at t op ≡ Some operation
    pub folds : IsTrue (x.can_fold operation.head)
    pub result : slice_get operation.results index ≡ Some v
    pub answers : slice_get (answers_of x t f operation) index ≡ Some answer
    pub read : read_of x t f v ≡ value_of_answer answer

  is_there : (v : ℕ) (o : Option ℕ) → is_it v o ≡ true → o ≡ Some v
  is_there v None e = absurd (true≢false (sym e))
  is_there v (Some w) e = ⊎_elim (λ y. ap Some (sym y.1)) (λ n. absurd (true≢false (sym e ∙ n.0))) (eqb_tells v w)

  pub read_cases : (v : ℕ) → IsFold v ⊎ (read_of x t f v ≡ f.lattice_value v)
  unfolding read_of
  read_cases v = from (definition_of t v) refl
    where
      given : (k i b : ℕ) (o : Operation) → definition_of t v ≡ Some (Result k i) → parent_of t k ≡ Some b → op_at t k ≡ Some o → f.is_executable b ≡ true → x.can_fold o.head ≡ true → is_it v (slice_get o.results i) ≡ true → (a : Option (Option AttrObj)) → slice_get (answers_of x t f o) i ≡ a → read_of x t f v ≡ answer_or a (f.lattice_value v) → IsFold v ⊎ (read_of x t f v ≡ f.lattice_value v)
      given k i b o d p q r c s None e is = inr is
      given k i b o d p q r c s (Some a) e is = inl (record { op = k; index = i; operation = o; answer = a; made = d; liveness = (b, p, r); at = q; folds = c; result = is_there v (slice_get o.results i) s; answers = e; read = is })

      tested : (k i b : ℕ) (o : Operation) → definition_of t v ≡ Some (Result k i) → parent_of t k ≡ Some b → op_at t k ≡ Some o → (r c s : Bool) → f.is_executable b ≡ r → x.can_fold o.head ≡ c → is_it v (slice_get o.results i) ≡ s → read_of x t f v ≡ (if both r (both c s) then answer_or (slice_get (answers_of x t f o) i) (f.lattice_value v) else f.lattice_value v) → IsFold v ⊎ (read_of x t f v ≡ f.lattice_value v)
      tested k i b o d p q false c s re ce se is = inr is
      tested k i b o d p q true false s re ce se is = inr is
      tested k i b o d p q true true false re ce se is = inr is
      tested k i b o d p q true true true re ce se is = given k i b o d p q re ce se _ refl is

      result : (k i : ℕ) → definition_of t v ≡ Some (Result k i) → (p : Option ℕ) (q : Option Operation) → parent_of t k ≡ p → op_at t k ≡ q → read_of x t f v ≡ read_result x t f v i p q → IsFold v ⊎ (read_of x t f v ≡ f.lattice_value v)
      result k i d None q pe qe is = inr is
      result k i d (Some b) None pe qe is = inr is
      result k i d (Some b) (Some o) pe qe is = tested k i b o d pe qe _ _ _ refl refl refl is

      from : (d : Option Def) → definition_of t v ≡ d → IsFold v ⊎ (read_of x t f v ≡ f.lattice_value v)
      from None e = inr (ap (read_from x t f v) e)
      from (Some (Argument b i)) e = inr (ap (read_from x t f v) e)
      from (Some (Result k i)) e = result k i e _ _ refl refl (ap (read_from x t f v) e)

  -- of such a result its answer is read
  pub read_fold : (k i v : ℕ) (o : Operation) (a : Option AttrObj) → definition_of t v ≡ Some (Result k i) → IsInExecutableBlock t f k → op_at t k ≡ Some o → IsTrue (x.can_fold o.head) → slice_get o.results i ≡ Some v → slice_get (answers_of x t f o) i ≡ Some a → read_of x t f v ≡ value_of_answer a
  unfolding read_of
  read_fold k i v o a d (b, p, r) q c s e =
      ap (read_from x t f v) d
      ∙ ap (λ z. read_result x t f v i z (op_at t k)) p
      ∙ ap (λ z. read_result x t f v i (Some b) z) q
      ∙ ap (λ z. if both z (both (x.can_fold o.head) (is_it v (slice_get o.results i))) then answer_or (slice_get (answers_of x t f o) i) (f.lattice_value v) else f.lattice_value v) r
      ∙ ap (λ z. if both z (is_it v (slice_get o.results i)) then answer_or (slice_get (answers_of x t f o) i) (f.lattice_value v) else f.lattice_value v) c
      ∙ ap (λ z. if is_it v z then answer_or (slice_get (answers_of x t f o) i) (f.lattice_value v) else f.lattice_value v) s
      ∙ ap (λ z. if z then answer_or (slice_get (answers_of x t f o) i) (f.lattice_value v) else f.lattice_value v) (eq-eqb v v refl)
      ∙ ap (λ z. answer_or z (f.lattice_value v)) e

module _ (x : Says) (t : Tree) (root : ℕ) (f : LatticeValues) (w : IsTree t) (closed : AreClosed x t root f) (held : AreHeld t root f) where
  stands_inside : (k : ℕ) → IsInExecutableBlock t f k → IsInside t root k
  stands_inside k (b, p, r) = inside_block b p (closed.inside b r)

  made_result : (k v : ℕ) → In v (results_of t k) → (i : ℕ) × (slice_get (results_of t k) i ≡ Some v) × (definition_of t v ≡ Some (Result k i))
  made_result k v i = let at = slice_in (results_of t k) v i in (at.0, at.1, w.joined.results k at.0 v at.1)

  made_argument : (b v : ℕ) → In v (arguments_of t b) → (i : ℕ) × (definition_of t v ≡ Some (Argument b i))
  made_argument b v i = let at = slice_in (arguments_of t b) v i in (at.0, w.joined.arguments b at.0 v at.1)

  not_both : (k i b j : ℕ) → Some (Argument b j) ≡ Some (Result k i) → ⊥
  not_both k i b j e = cc

  -- arguments are read as their facts
  pub read_argument : (b v : ℕ) → In v (arguments_of t b) → read_of x t f v ≡ f.lattice_value v
  read_argument b v i = ⊎_elim
      (λ (y : IsFold x t f v). let m = made_argument b v i in absurd (not_both y.op y.index b m.0 (sym m.1 ∙ y.made)))
      (λ e. e)
      (read_cases x t f v)

  same_op : (k v : ℕ) → In v (results_of t k) → (y : IsFold x t f v) → y.op ≡ k
  same_op k v i y = let m = made_result k v i in let e : Result y.op y.index ≡ Result k m.0 = some_is (sym y.made ∙ m.2) in cc

  finer : (v : ℕ) → AtMost (f.lattice_value v) (read_of x t f v)
  finer v = ⊎_elim
      (λ (y : IsFold x t f v). subst (AtMost (f.lattice_value v)) (sym y.read) (closed.folded y.op y.index v y.answer y.operation y.liveness y.at y.folds y.result y.answers))
      (λ e. subst (AtMost (f.lattice_value v)) (sym e) (at_most_refl (f.lattice_value v)))
      (read_cases x t f v)

  no_results : (k v : ℕ) → (IsInside t root k → ⊥) → In v (results_of t k) → read_of x t f v ≡ NotAConstant
  no_results k v never i = ⊎_elim
      (λ (y : IsFold x t f v). absurd (never (subst (IsInside t root) (same_op k v i y) (stands_inside y.op y.liveness))))
      (λ e. e ∙ closed.outside v (λ made. never (subst (IsDefiningOperationInside t root) (made_result k v i).2 made)))
      (read_cases x t f v)

  no_arguments : (b v : ℕ) → (HoldsBlock t root b → ⊥) → In v (arguments_of t b) → read_of x t f v ≡ NotAConstant
  no_arguments b v never i = read_argument b v i ∙ closed.outside v (λ made. never (subst (IsDefiningOperationInside t root) (made_argument b v i).1 made))

  root_entries : (r b : ℕ) → In r (regions_of t root) → first_of (layout_of t r) None ≡ Some b → IsTrue (f.is_executable b) × ((v : ℕ) → In v (arguments_of t b) → read_of x t f v ≡ NotAConstant)
  root_entries r b i e = let y = closed.root_entries r b i e in (y.0, λ v j. read_argument b v j ∙ y.1 v j)

  entries : (k i r b : ℕ) (o : Operation) → IsInExecutableBlock t f k → op_at t k ≡ Some o → slice_get o.regions i ≡ Some r → first_of (layout_of t r) None ≡ Some b → IsTrue (f.is_executable b) × AreBelowNamed x t (read_of x t f) (read_of x t f) o i b
  entries k i r b o liveness at there e =
      let y = closed.entries k i r b o liveness at there e in
      (y.0, λ j v a. below v (in_slice (arguments_of t b) j v a) (x.entry_operands (shape_of x.meaning t o) i j) (y.1 j v a))
    where
      below : (v : ℕ) → In v (arguments_of t b) → (a : Option ℕ) → IsBelowNamed f.lattice_value f.lattice_value o.operands a v → IsBelowNamed (read_of x t f) (read_of x t f) o.operands a v
      below v i None q = read_argument b v i ∙ q
      below v i (Some p) q = λ u g. subst (λ z. AtMost z (read_of x t f u)) (sym (read_argument b v i)) (at_most_trans (f.lattice_value v) (f.lattice_value u) (read_of x t f u) (q u g) (finer u))

  jumps : (k i b : ℕ) (o : Operation) → IsInExecutableBlock t f k → op_at t k ≡ Some o → IsFeasibleEdge x t f o i b → IsTrue (f.is_executable b) × ((j v : ℕ) → slice_get (arguments_of t b) j ≡ Some v → (read_of x t f v ≡ NotAConstant) ⊎ (IsTrue (x.meaning.is_branch o.head) × ((y : ℕ) → Forwards x t o i j y → AtMost (read_of x t f v) (read_of x t f y))))
  jumps k i b o liveness at go = by _ refl
    where
      by : (c : Bool) → x.meaning.is_branch o.head ≡ c → IsTrue (f.is_executable b) × ((j v : ℕ) → slice_get (arguments_of t b) j ≡ Some v → (read_of x t f v ≡ NotAConstant) ⊎ (IsTrue (x.meaning.is_branch o.head) × ((y : ℕ) → Forwards x t o i j y → AtMost (read_of x t f v) (read_of x t f y))))
      by true e =
          let y = closed.branches k i b o liveness at e go in
          (y.0, λ j v a. inr (e, λ u p. subst (λ z. AtMost z (read_of x t f u)) (sym (read_argument b v (in_slice (arguments_of t b) j v a))) (at_most_trans (f.lattice_value v) (f.lattice_value u) (read_of x t f u) (y.1 j v u a p) (finer u))))
      by false e =
          let y = closed.jumps k i b o liveness at e go.0 in
          (y.0, λ j v a. inl (let i = in_slice (arguments_of t b) j v a in read_argument b v i ∙ y.1 v i))

  results : (k i v : ℕ) (o : Operation) → IsInExecutableBlock t f k → op_at t k ≡ Some o → slice_get o.results i ≡ Some v → IsRightResult x t f (read_of x t f) k i v o
  results k i v o liveness at listed = by _ refl
    where
      listed_there : slice_get (results_of t k) i ≡ Some v
      listed_there = ap (λ z. slice_get z i) (op_shows t k o at).results ∙ listed

      by : (c : Bool) → x.can_fold o.head ≡ c → IsRightResult x t f (read_of x t f) k i v o
      by true e = inr (inl (e, λ a answers. subst (λ z. AtMost z (value_of_answer a)) (sym (read_fold x t f k i v o a (w.joined.results k i v listed_there) liveness at e listed answers)) (at_most_refl (value_of_answer a))))
      by false e = ⊎_elim
          (λ (y : IsFold x t f v).
          let same = same_op k v (in_slice (results_of t k) i v listed_there) y in
          let one : y.operation ≡ o = some_is (sym y.at ∙ ap (op_at t) same ∙ at) in
          absurd (true≢false (sym y.folds ∙ ap (λ z. x.can_fold z.head) one ∙ e)))
          (λ is. inl (is ∙ closed.others k v o liveness at e (in_slice o.results i v listed)))
          (read_cases x t f v)

  pub closed_sound : AreSound x t root f (read_of x t f)
  closed_sound = record { finer = finer; inside = closed.inside; held = held; no_results = no_results; no_arguments = no_arguments; root_entries = root_entries; entries = entries; jumps = jumps; results = results }
