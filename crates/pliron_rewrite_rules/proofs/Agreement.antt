-- What a view says of the data in an environment is so where the pure operations that it shows are current.
use Rattle.std.proofs.Common.{◌≡◌, ◌⊎◌, ⊎_elim, inl, inr, ℕ, zero, suc, false, List, [], ◌∷◌, ◌++◌, map, Option, Some, None, slice_get, refl, sym, ap, ap₂, ◌∙◌, subst, arith}
use Rattle.std.specs.List.{flat_map}
use Rattle.pliron_core.specs.declared.attrs.AttrObj.{AttrObj}
use Rattle.pliron_core.specs.declared.context.Def.{Def}
use Rattle.pliron_core.specs.declared.context.Def.TheVariants.{Result, Argument}
use Rattle.pliron_core.specs.Tree.{Tree, In, IsDefined, IsMadeBy, operands_of, results_of, definition_of}
use Rattle.pliron_core.specs.Invariant.{IsTree}
use Rattle.pliron_core.proofs.HoldingLemmas.{some_is, not_none}
use Rattle.pliron_core.proofs.ListLemmas.{In-cases}
use Rattle.pliron_laws.specs.Datum.{Datum, datum_of, Head}
use Rattle.pliron_laws.specs.Linked.{IsAdmitted}
use Rattle.pliron_laws.specs.States.{Environment, data_of, prepend_optional}
use Rattle.pliron_laws.specs.Tree.{Operation, op_at}
use Rattle.pliron_laws.proofs.Records.{op_shows}
use Rattle.pliron_rewrite_equals.specs.Current.{IsCurrent}
use Rattle.pliron_rewrite_rules.specs.Tables.{RuleTables}
use Rattle.pliron_rewrite_rules.specs.Equations.{IsInSlice, Makes, MakesOperand, IsInPattern}
use Rattle.pliron_rewrite_rules.specs.Replacements.{IsLeaf}
use Rattle.pliron_rewrite_rules.specs.declared.view.Leaf.{Leaf}
use Rattle.pliron_rewrite_rules.specs.declared.view.Leaf.TheVariants.{Unknown, Known}
use Rattle.pliron_rewrite_rules.specs.declared.view.Operand.{Operand}
use Rattle.pliron_rewrite_rules.specs.declared.view.Operand.TheVariants.{Plain, Made}
use Rattle.pliron_rewrite_rules.specs.declared.view.View.{View}
use Rattle.pliron_rewrite_rules.specs.Seen.{pure_only, pure_maker, constant_of, leaf_with, leaf_made, leaf_of, operand_with, operand_made, operand_of, operation_view}
use Rattle.pliron_rewrite_rules.specs.Views.{Each, result_datum, data_by, leaf_value, leaf_datum, operand_value, operand_datum, view_datum, LeafAgrees, OperandAgrees, Agrees, operand_values, shown_in}
use Rattle.pliron_rewrite_rules.proofs.PureOperations.{IsLawful, IsSingle, PassesTest, pure_passes, single_datum, constant_datum}

leaf_with_value : (v : ℕ) (c : Option AttrObj) → leaf_value (leaf_with v c) ≡ v
leaf_with_value v None = refl
leaf_with_value v (Some c) = refl

leaf_made_value : (x : RuleTables) (t : Tree) (v : ℕ) (o : Option Operation) → leaf_value (leaf_made x t v o) ≡ v
leaf_made_value x t v None = refl
leaf_made_value x t v (Some o) = leaf_with_value v (constant_of x t o)

leaf_of_value : (x : RuleTables) (t : Tree) (v : ℕ) → leaf_value (leaf_of x t v) ≡ v
leaf_of_value x t v = leaf_made_value x t v (pure_maker x t (definition_of t v))

operand_with_value : (x : RuleTables) (t : Tree) (v : ℕ) (o : Operation) (c : Option AttrObj) → operand_value (operand_with x t v o c) ≡ v
operand_with_value x t v o None = refl
operand_with_value x t v o (Some c) = refl

operand_of_value : (x : RuleTables) (t : Tree) (v : ℕ) → operand_value (operand_of x t v) ≡ v
operand_of_value x t v = go (pure_maker x t (definition_of t v))
  where
    go : (o : Option Operation) → operand_value (operand_made x t v o) ≡ v
    go None = refl
    go (Some o) = operand_with_value x t v o (constant_of x t o)

-- what holds of each of the list
each_mapped : {A : Type 0} (P : A → Type 0) (f : ℕ → A) (vs : List ℕ) → ((v : ℕ) → In v vs → P (f v)) → Each P (map f vs)
each_mapped P f [] each = tt
each_mapped P f (v ∷ vs) each = (each v (inl refl), each_mapped P f vs (λ w i. each w (inr i)))

same_data : {A : Type 0} (env : Environment) (datum : A → Option Datum) (f : ℕ → A) (vs : List ℕ) → ((v : ℕ) → In v vs → datum (f v) ≡ env v) → data_by datum (map f vs) ≡ data_of env vs
same_data env datum f [] each = refl
same_data env datum f (v ∷ vs) each = ap₂ prepend_optional (each v (inl refl)) (same_data env datum f vs (λ w i. each w (inr i)))

-- the pure operation that makes a value
pub record IsMaker (x : RuleTables) (u : Tree) (v : ℕ) (o : Operation) : Type 0 where
  pub key : ℕ
  pub place : ℕ
  pub makes : definition_of u v ≡ Some (Result key place)
  pub single : IsSingle u key o v
  pub harmless : x.side_effects o.head ≡ Some false

only_place : (xs : List ℕ) (r v i : ℕ) → xs ≡ r ∷ [] → slice_get xs i ≡ Some v → r ≡ v
only_place xs r v i one at = go i (ap (λ z. slice_get z i) (sym one) ∙ at)
  where
    go : (i : ℕ) → slice_get (r ∷ []) i ≡ Some v → r ≡ v
    go zero e = some_is e
    go (suc i) e = absurd (grind arith)

-- u is t with more operations; the pure ones of the pattern of a result are current in the environment
module _ (x : RuleTables) (t u : Tree) (w : IsTree u) (ops : (k : ℕ) (o : Operation) → op_at t k ≡ Some o → op_at u k ≡ Some o) (defs : (v : ℕ) (d : Def) → definition_of t v ≡ Some d → definition_of u v ≡ Some d) where
  maker_is : (v : ℕ) (o : Operation) → IsDefined u v → pure_maker x t (definition_of t v) ≡ Some o → IsMaker x u v o
  maker_is v o is e = go (definition_of t v) refl e
    where
      go : (d : Option Def) → definition_of t v ≡ d → pure_maker x t d ≡ Some o → IsMaker x u v o
      go None at f = absurd (not_none f)
      go (Some (Argument b i)) at f = absurd (not_none f)
      go (Some (Result k i)) at f =
          let p = pure_passes x t k o f in
          let there = ops k o p.single.liveness in
          let def = defs v (Result k i) at in
          let listed : slice_get (results_of u k) i ≡ Some v = subst (IsMadeBy u v) def is in
          let one = only_place (results_of u k) p.result v i ((op_shows u k o there).results ∙ p.single.results) listed in
          record { key = k; place = i; makes = def; single = record { liveness = there; results = p.single.results ∙ ap (λ r. r ∷ []) one; no_successors = p.single.no_successors; no_regions = p.single.no_regions }; harmless = p.harmless }

  -- it is in the slice where an operation of the slice reads the value
  maker_slice : (old j v : ℕ) (o : Operation) → IsInSlice u old j → In v (operands_of u j) → (m : IsMaker x u v o) → IsInSlice u old m.key
  maker_slice old j v o s i m = MakesOperand m.place j v s i m.makes

  -- the values that a view shows are leaves
  module _ (op old : ℕ) (o : Operation) (at : op_at u op ≡ Some o) (slice : IsInSlice u old op) where
    in_shown : (vs : List ℕ) (v : ℕ) → In v (flat_map operand_values (map (operand_of x t) vs)) → (z : ℕ) × In z vs × In v (operand_values (operand_of x t z))
    in_shown [] v i = absurd i
    in_shown (z ∷ vs) v i = ⊎_elim
        (λ a. (z, inl refl, a))
        (λ b. let r = in_shown vs v b in (r.0, inr r.1, r.2))
        (In-cases v (operand_values (operand_of x t z)) (flat_map operand_values (map (operand_of x t) vs)) i)

    in_mapped : (vs : List ℕ) (v : ℕ) → In v (map leaf_value (map (leaf_of x t) vs)) → In v vs
    in_mapped [] v i = i
    in_mapped (z ∷ vs) v (inl e) = inl (e ∙ leaf_of_value x t z)
    in_mapped (z ∷ vs) v (inr i) = inr (in_mapped vs v i)

    pub shown_leaf : (v : ℕ) → In v (shown_in (operation_view x t o)) → IsLeaf u old v
    shown_leaf v i =
        let r = in_shown o.operands v i in
        let read : In r.0 (operands_of u op) = subst (In r.0) (sym (op_shows u op o at).operands) r.1 in
        made r.0 read (pure_maker x t (definition_of t r.0)) refl r.2
      where
        itself : (z : ℕ) → In z (operands_of u op) → v ≡ z → IsLeaf u old v
        itself z read e = record { reader = op; slice = slice; reads = subst (λ y. In y (operands_of u op)) (sym e) read }

        alone : (z y : ℕ) → In z (operands_of u op) → y ≡ z → In v (y ∷ []) → IsLeaf u old v
        alone z y read e (inl f) = itself z read (f ∙ e)
        alone z y read e (inr f) = absurd f

        with_constant : (z : ℕ) → In z (operands_of u op) → (q : Operation) → IsMaker x u z q → (c : Option AttrObj) → In v (operand_values (operand_with x t z q c)) → IsLeaf u old v
        with_constant z read q m (Some c) j = alone z z read refl j
        with_constant z read q m None (inl e) = itself z read e
        with_constant z read q m None (inr j) = record { reader = m.key; slice = maker_slice old op z q slice read m; reads = subst (In v) (sym (op_shows u m.key q m.single.liveness).operands) (in_mapped q.operands v j) }

        made : (z : ℕ) → In z (operands_of u op) → (q : Option Operation) → pure_maker x t (definition_of t z) ≡ q → In v (operand_values (operand_made x t z q)) → IsLeaf u old v
        made z read None e j = alone z z read refl j
        made z read (Some q) e j = with_constant z read q (maker_is z q (w.joined.operands op z read) e) (constant_of x t q) j

  module _ (laws : IsLawful x) (old new : ℕ) (env : Environment) (current : (k : ℕ) → IsInPattern x.meaning x.side_effects u old new k → IsAdmitted x.meaning u k × IsCurrent x.meaning u env k) where
    pub pattern_of : (k v : ℕ) (o : Operation) → IsInSlice u old k ⊎ IsInSlice u new k → IsSingle u k o v → x.side_effects o.head ≡ Some false → IsInPattern x.meaning x.side_effects u old new k
    pattern_of k v o s p none =
        let shows = op_shows u k o p.liveness in
        record { slice = s; no_successors = shows.successors ∙ p.no_successors; at_once = inl (λ h e. ap x.side_effects (some_is (sym e ∙ shows.head)) ∙ none) }

    maker_datum : (v : ℕ) (o : Operation) (m : IsMaker x u v o) → IsInSlice u old m.key → (d : Datum) × (env v ≡ Some d) × (result_datum x.meaning o.head (data_of env o.operands) ≡ Some d)
    maker_datum v o m s = let c = current m.key (pattern_of m.key v o (inl s) m.single m.harmless) in single_datum x laws u env m.key v o m.single c.0 c.1

    maker_constant : (v : ℕ) (o : Operation) (m : IsMaker x u v o) → IsInSlice u old m.key → (c : AttrObj) → constant_of x t o ≡ Some c → env v ≡ Some (datum_of c)
    maker_constant v o m s c e = let y = current m.key (pattern_of m.key v o (inl s) m.single m.harmless) in constant_datum x laws u env m.key v o m.single y.0 y.1 t c e

    leaf_agrees : (j v : ℕ) → IsInSlice u old j → In v (operands_of u j) → LeafAgrees env (leaf_of x t v)
    leaf_agrees j v s i = made (pure_maker x t (definition_of t v)) refl
      where
        told : (o : Operation) → IsMaker x u v o → (c : Option AttrObj) → constant_of x t o ≡ c → LeafAgrees env (leaf_with v c)
        told o m None e = refl
        told o m (Some c) e = maker_constant v o m (maker_slice old j v o s i m) c e

        made : (o : Option Operation) → pure_maker x t (definition_of t v) ≡ o → LeafAgrees env (leaf_made x t v o)
        made None e = refl
        made (Some o) e = told o (maker_is v o (w.joined.operands j v i) e) (constant_of x t o) refl

    -- the leaves of an operation have the data of its operands
    leaf_same : (j v : ℕ) → IsInSlice u old j → In v (operands_of u j) → leaf_datum env (leaf_of x t v) ≡ env v
    leaf_same j v s i = sym (leaf_agrees j v s i) ∙ ap env (leaf_of_value x t v)

    operand_agrees : (j v : ℕ) → IsInSlice u old j → In v (operands_of u j) → OperandAgrees x.meaning env (operand_of x t v) × (operand_datum x.meaning env (operand_of x t v) ≡ env v)
    operand_agrees j v s i = made (pure_maker x t (definition_of t v)) refl
      where
        told : (o : Operation) → IsMaker x u v o → (c : Option AttrObj) → constant_of x t o ≡ c → OperandAgrees x.meaning env (operand_with x t v o c) × (operand_datum x.meaning env (operand_with x t v o c) ≡ env v)
        told o m (Some c) e = let f = maker_constant v o m (maker_slice old j v o s i m) c e in (f, sym f)
        told o m None e =
            let here = maker_slice old j v o s i m in
            let d = maker_datum v o m here in
            let reads : (z : ℕ) → In z o.operands → In z (operands_of u m.key) = λ z y. subst (In z) (sym (op_shows u m.key o m.single.liveness).operands) y in
            let known : data_by (leaf_datum env) (map (leaf_of x t) o.operands) ≡ data_of env o.operands = same_data env (leaf_datum env) (leaf_of x t) o.operands (λ z y. leaf_same m.key z here (reads z y)) in
            let f : env v ≡ result_datum x.meaning o.head (data_by (leaf_datum env) (map (leaf_of x t) o.operands)) = d.1 ∙ sym d.2 ∙ ap (result_datum x.meaning o.head) (sym known) in
            ((f, each_mapped (LeafAgrees env) (leaf_of x t) o.operands (λ z y. leaf_agrees m.key z here (reads z y))), sym f)

        made : (o : Option Operation) → pure_maker x t (definition_of t v) ≡ o → OperandAgrees x.meaning env (operand_made x t v o) × (operand_datum x.meaning env (operand_made x t v o) ≡ env v)
        made None e = (refl, refl)
        made (Some o) e = told o (maker_is v o (w.joined.operands j v i) e) (constant_of x t o) refl

    -- the view of the operation that makes the old value agrees, and the datum of that value is that of the view
    pub view_agrees : (op : ℕ) (o : Operation) → IsSingle u op o old → x.side_effects o.head ≡ Some false → IsInSlice u old op → Agrees x.meaning env (operation_view x t o) × ((d : Datum) × (env old ≡ Some d) × (view_datum x.meaning env (operation_view x t o) ≡ Some d))
    view_agrees op o p none s =
        let reads : (z : ℕ) → In z o.operands → In z (operands_of u op) = λ z y. subst (In z) (sym (op_shows u op o p.liveness).operands) y in
        let c = current op (pattern_of op old o (inl s) p none) in
        let d = single_datum x laws u env op old o p c.0 c.1 in
        let known : data_by (operand_datum x.meaning env) (map (operand_of x t) o.operands) ≡ data_of env o.operands = same_data env (operand_datum x.meaning env) (operand_of x t) o.operands (λ z y. (operand_agrees op z s (reads z y)).1) in
        (each_mapped (OperandAgrees x.meaning env) (operand_of x t) o.operands (λ z y. (operand_agrees op z s (reads z y)).0), (d.0, d.1, ap (result_datum x.meaning o.head) known ∙ d.2))
