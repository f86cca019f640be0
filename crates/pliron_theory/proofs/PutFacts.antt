-- Facts while one constant is put for a value.
use Rattle.std.proofs.Common.{◌≡◌, ◌≢◌, inr, ⊎_elim, ℕ, false, nat_eq, if◌then◌else◌, List, [], ◌∷◌, map, length, Some, None, refl, sym, ap, ◌∙◌, subst, arith, IsTrue}
use Rattle.std.proofs.lemmas.Bool.{cases_eq, eq-eqb}
use Rattle.std.proofs.lemmas.Bool.Decides.{eqb_tells}
use Rattle.std.proofs.lemmas.List.{get_or-set_other, get_or-set_same}
use Rattle.std.proofs.lemmas.Option.{slice_get_within}
use Rattle.pliron_core.specs.declared.attrs.AttrObj.{AttrObj}
use Rattle.pliron_core.specs.declared.attrs.Head.{Head}
use Rattle.pliron_core.specs.declared.context.Def.{Def}
use Rattle.pliron_core.specs.Uses.{replace_target}
use Rattle.pliron_core.specs.Tree.{Tree, In, row_of, operands_of, successors_of, results_of, regions_of, parent_of, arguments_of, definition_of}
use Rattle.pliron_core.specs.Invariant.{IsTree}
use Rattle.pliron_core.specs.Changes.{IsSameTree}
use Rattle.pliron_core.specs.Writes.{after_creating, after_placing, after_replacing}
use Rattle.pliron_core.proofs.BesideLemmas.{IsBeside, created_beside}
use Rattle.pliron_core.proofs.HoldingLemmas.{some_is, slice_in, maker_is}
use Rattle.pliron_core.proofs.UsedLemmas.{get_map}
use Rattle.pliron_laws.specs.Datum.{Empty, datum_of, Give}
use Rattle.pliron_laws.specs.Tree.{Operation, op_at, shape_of}
use Rattle.pliron_laws.specs.Folding.{MakesConstant}
use Rattle.pliron_theory.specs.Renaming.{GivesConstant}
use Rattle.pliron_laws.proofs.Records.{op_shows}
use Rattle.pliron_theory.proofs.ConstantKeeps.{shape_plain, row, no_operands, no_successors}
use Rattle.pliron_theory.specs.LatticeValues.{LatticeValue, Constant, AtMost, LatticeValues, Says}
use Rattle.pliron_theory.proofs.CarriedFacts.{IsCarried}

-- the same but at n
abbrev pub instead : {A : Type 0} → ℕ → A → (ℕ → A) → ℕ → A
instead n a g v = if nat_eq v n then a else g v

pub instead_it : {A : Type 0} (n : ℕ) (a : A) (g : ℕ → A) → instead n a g n ≡ a
instead_it n a g = ap (λ b. if b then a else g n) (eq-eqb n n refl)

pub instead_other : {A : Type 0} (n : ℕ) (a : A) (g : ℕ → A) (v : ℕ) → v ≢ n → instead n a g v ≡ g v
instead_other n a g v ne = ⊎_elim
    (λ y. absurd (ne y.1))
    (λ u. ap (λ b. if b then a else g v) u.0)
    (eqb_tells v n)

-- the facts with the new value
abbrev pub facts_with : LatticeValues → (old new : ℕ) → LatticeValues
facts_with f old new = record { is_executable = f.is_executable; lattice_value = instead new (f.lattice_value old) f.lattice_value }

abbrev pub read_with : (ℕ → LatticeValue) → (new : ℕ) → AttrObj → ℕ → LatticeValue
read_with read new attr = instead new (Constant attr) read

pub defined_old : (t : Tree) (v : ℕ) → IsTree t → (d : Def) → definition_of t v ≡ Some d → v ≢ length t.definitions
defined_old t v w d e s = let lt = slice_get_within t.definitions v d e in omega (arith, lt, s)

module _ (x : Says) (t : Tree) (f : LatticeValues) (read : ℕ → LatticeValue) (w : IsTree t) (finer : (v : ℕ) → AtMost (f.lattice_value v) (read v)) (head : Head) (attr : AttrObj) (makes : MakesConstant x.meaning attr head) (plain : x.meaning.is_branch head ≡ false) (old block : ℕ) (body : List ℕ) (is : read old ≡ Constant attr) (reached : IsTrue (f.is_executable block)) where
  abbrev n : ℕ
  n = length t.operations

  abbrev new : ℕ
  new = length t.definitions

  abbrev put : Tree
  put = after_placing (after_creating t head 1 0) (length t.operations) block body

  abbrev u : Tree
  u = after_replacing (after_placing (after_creating t head 1 0) (length t.operations) block body) old (length t.definitions)

  beside : IsBeside t (after_creating t head 1 0) (length t.operations)
  beside = created_beside t head 1 0 w

  the_row : row_of (after_creating t head 1 0) (length t.operations) ≡ record { head = Some head; results = length t.definitions ∷ []; regions = [] }
  the_row = row x.meaning t head attr w makes plain

  none : operands_of u n ≡ []
  none = get_map (map (replace_target old new)) refl (after_creating t head 1 0).operands n ∙ ap (map (replace_target old new)) (no_operands x.meaning t head attr w makes plain)

  gives : GivesConstant x.meaning u n new (datum_of attr)
  gives = record { results = ap (λ z. z.results) the_row; operands = none; regions = ap (λ z. z.regions) the_row; gives = given }
    where
      given : (o : Operation) → op_at u n ≡ Some o → x.meaning.act (shape_of x.meaning u o) Empty [] ≡ Give (datum_of attr ∷ [])
      given o e =
          let s = op_shows u n o e in
          let h : o.head ≡ head = some_is (sym s.head ∙ ap (λ z. z.head) the_row) in
          let b : length o.results ≡ 1 = ap length (sym s.results ∙ ap (λ z. z.results) the_row) in
          ap (λ z. x.meaning.act z Empty []) (shape_plain x.meaning u o head plain h (sym s.operands ∙ none) b (sym s.successors ∙ no_successors x.meaning t head attr w makes plain) (sym s.regions ∙ ap (λ z. z.regions) the_row)) ∙ makes.gives

  used_old : (k v : ℕ) → In v (operands_of t k) → v ≢ new
  used_old k v i = let d = maker_is t v (w.joined.operands k v i) in defined_old t v w d.0 d.1

  result_old : (k v : ℕ) → In v (results_of t k) → v ≢ new
  result_old k v i = let at = slice_in (results_of t k) v i in defined_old t v w _ (w.joined.results k at.0 v at.1)

  argument_old : (b v : ℕ) → In v (arguments_of t b) → v ≢ new
  argument_old b v i = let at = slice_in (arguments_of t b) v i in defined_old t v w _ (w.joined.arguments b at.0 v at.1)

  used : (k v : ℕ) → In v (operands_of t k) → ((facts_with f old new).lattice_value (replace_target old new v) ≡ f.lattice_value v) × (read_with read new attr (replace_target old new v) ≡ read v)
  used k v i = ⊎_elim
      (λ y. (
        ap (λ b. instead new (f.lattice_value old) f.lattice_value (if b then new else v)) y.0 ∙ instead_it new (f.lattice_value old) f.lattice_value ∙ ap f.lattice_value (sym y.1),
        ap (λ b. instead new (Constant attr) read (if b then new else v)) y.0 ∙ instead_it new (Constant attr) read ∙ sym is ∙ ap read (sym y.1),
      ))
      (λ z. (
        ap (λ b. instead new (f.lattice_value old) f.lattice_value (if b then new else v)) z.0 ∙ instead_other new (f.lattice_value old) f.lattice_value v (used_old k v i),
        ap (λ b. instead new (Constant attr) read (if b then new else v)) z.0 ∙ instead_other new (Constant attr) read v (used_old k v i),
      ))
      (eqb_tells v old)

  finer_too : (v : ℕ) → AtMost ((facts_with f old new).lattice_value v) (read_with read new attr v)
  finer_too v = ⊎_elim
      (λ y. subst (λ b. AtMost (if b then f.lattice_value old else f.lattice_value v) (if b then Constant attr else read v)) (sym y.0) (subst (AtMost (f.lattice_value old)) is (finer old)))
      (λ z. subst (λ b. AtMost (if b then f.lattice_value old else f.lattice_value v) (if b then Constant attr else read v)) (sym z.0) (finer v))
      (eqb_tells v new)

  pub put_carried : IsCarried x t u f (facts_with f old new) read (read_with read new attr) (replace_target old new) (λ k. k ≡ n)
  put_carried = record {
    decides = λ k. cases_eq k n;
    rows = λ k ne. beside.operations k ne;
    operands = λ k ne. get_map (map (replace_target old new)) refl (after_creating t head 1 0).operands k ∙ ap (map (replace_target old new)) (beside.operands k ne);
    successors = λ k ne. beside.successors k ne;
    parents = λ k ne. get_or-set_other (after_creating t head 1 0).parents n k (Some block) None ne ∙ beside.parents k ne;
    arguments = λ b. beside.arguments b;
    block_parents = λ b. beside.block_parents b;
    layouts = λ r. beside.layouts r;
    fresh = λ k e. (ap (row_of t) e ∙ beside.fresh, ap (parent_of t) e ∙ beside.no_parent);
    childless = λ k e. ap (regions_of u) e ∙ ap (λ z. z.regions) the_row;
    edgeless = λ k e. ap (successors_of u) e ∙ no_successors x.meaning t head attr w makes plain;
    placed = λ k e. (block, ap (parent_of u) e ∙ get_or-set_same (after_creating t head 1 0).parents n (Some block) None beside.place, reached);
    gives = λ k e. (new, attr, subst (λ z. GivesConstant x.meaning u z new (datum_of attr)) (sym e) gives, instead_it new (Constant attr) read);
    is_executable = λ b. refl;
    used = used;
    listed_results = λ k v i. instead_other new (Constant attr) read v (result_old k v i);
    listed_arguments = λ b v i. instead_other new (Constant attr) read v (argument_old b v i);
    finer = finer_too;
  }

map_id : (xs : List ℕ) → map (λ v. v) xs ≡ xs
map_id [] = refl
map_id (x ∷ xs) = ap (λ ys. x ∷ ys) (map_id xs)

-- nothing changes where the trees are the same but for erased handles
pub same_carried : (x : Says) (t u : Tree) (f : LatticeValues) (read : ℕ → LatticeValue) → ((v : ℕ) → AtMost (f.lattice_value v) (read v)) → IsSameTree t u → IsCarried x t u f f read read (λ v. v) (λ k. ⊥)
same_carried x t u f read finer s = record {
  decides = λ k. inr (λ z. z);
  rows = λ k ne. s.operations k;
  operands = λ k ne. s.operands k ∙ sym (map_id (operands_of t k));
  successors = λ k ne. s.successors k;
  parents = λ k ne. s.parents k;
  arguments = s.arguments;
  block_parents = s.block_parents;
  layouts = s.layouts;
  fresh = λ k z. absurd z;
  childless = λ k z. absurd z;
  edgeless = λ k z. absurd z;
  placed = λ k z. absurd z;
  gives = λ k z. absurd z;
  is_executable = λ b. refl;
  used = λ k v i. (refl, refl);
  listed_results = λ k v i. refl;
  listed_arguments = λ b v i. refl;
  finer = finer;
}
