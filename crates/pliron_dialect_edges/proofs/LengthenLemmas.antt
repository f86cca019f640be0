-- A branch of a tree that forwards one value more, by its kind.
use Rattle.std.proofs.Common.{◌≡◌, ℕ, ◌+◌, Some, IsTrue, length, map, refl, sym, ap, ap₂, ◌∙◌, subst}
use Rattle.std.specs.Option.{option_map}
use Rattle.pliron_core.specs.declared.attrs.Head.{Head}
use Rattle.pliron_core.specs.Tree.{Tree, head_of, operands_of, results_of, successors_of, regions_of}
use Rattle.pliron_core.proofs.HoldingLemmas.{some_is}
use Rattle.pliron_core.proofs.UsedLemmas.{length_map}
use Rattle.pliron_laws.specs.Datum.{Meaning, Shape}
use Rattle.pliron_laws.specs.Tree.{Operation, op_at, shape_of, count_arguments, entry_block}
use Rattle.pliron_laws.proofs.Records.{make_op, operation_of}
use Rattle.pliron_dialect.specs.declared.form.Form.{Form}
use Rattle.pliron_dialect.specs.Roles.{Tables, form_of, role_at, allows_at, meaning_by, shortened_by}
use Rattle.pliron_dialect_edges.specs.Lengthened.{IsLengthened}
use Rattle.pliron_dialect_edges.specs.LengthenedByRoles.{LongerBy, LongerByForm, lengthened}

module _ {K : Type 0} (tables : Tables K) (t : Tree) (op : ℕ) (h : Head) (has : head_of t op ≡ Some h) (kind : K) (is : tables.kind_of h.kind ≡ Some kind) where
  abbrev by_tables : Meaning
  by_tables = meaning_by tables.value (role_at tables) (allows_at tables)

  pub lengthened_here : (i p : ℕ) (head : Head) → LongerByForm (form_of (tables.role_of kind)) h (length (operands_of t op)) (length (successors_of t op)) i p head
      → IsTrue (by_tables.admits h (length (operands_of t op)) (length (results_of t op)) (length (successors_of t op)) (length (regions_of t op)))
      → IsTrue (by_tables.admits head (length (operands_of t op) + 1) (length (results_of t op)) (length (successors_of t op)) (length (regions_of t op)))
      → (o : Operation) → op_at t op ≡ Some o → IsLengthened by_tables (shortened_by (role_at tables)) (shape_of by_tables t o) i p head
  unfolding shape_of
  lengthened_here i p head longer old new o at = subst (λ x. IsLengthened by_tables (shortened_by (role_at tables)) (shape_of by_tables t x) i p head) (some_is (sym (make_op t op h has) ∙ at)) here
    where
      shape : Shape
      shape = shape_of by_tables t (operation_of t op h)

      regions : length (map (λ r. count_arguments (entry_block t r)) (regions_of t op)) ≡ length (regions_of t op)
      regions = length_map (λ r. count_arguments (entry_block t r)) (regions_of t op)

      here : IsLengthened by_tables (shortened_by (role_at tables)) shape i p head
      here =
          lengthened tables.value (role_at tables) (allows_at tables) (role_at tables h.kind) shape i p head refl
          (subst (λ x. LongerBy x shape i p head) (sym (ap (option_map tables.role_of) is)) longer)
          (subst (λ n. IsTrue (by_tables.admits h (length (operands_of t op)) (length (results_of t op)) (length (successors_of t op)) n)) (sym regions) old)
          (subst (λ n. IsTrue (by_tables.admits head (length (operands_of t op) + 1) (length (results_of t op)) (length (successors_of t op)) n)) (sym regions) new)

  -- the same, by what was asked of the operation
  pub lengthened_by : (form : Form) (a b c d : ℕ) → form ≡ form_of (tables.role_of kind) → a ≡ length (operands_of t op) → b ≡ length (results_of t op) → c ≡ length (successors_of t op) → d ≡ length (regions_of t op)
      → (i p : ℕ) (head : Head) → LongerByForm form h a c i p head → IsTrue (by_tables.admits h a b c d) → IsTrue (by_tables.admits head (a + 1) b c d)
      → (o : Operation) → op_at t op ≡ Some o → IsLengthened by_tables (shortened_by (role_at tables)) (shape_of by_tables t o) i p head
  lengthened_by form a b c d ef ea eb ec ed i p head longer old new o at =
      lengthened_here i p head
      (subst (λ x. LongerByForm x h (length (operands_of t op)) (length (successors_of t op)) i p head) ef (subst (λ x. LongerByForm form h x (length (successors_of t op)) i p head) ea (subst (λ x. LongerByForm form h a x i p head) ec longer)))
      (sym (ap₂ (λ x y. by_tables.admits h x y c d) ea eb ∙ ap₂ (λ x y. by_tables.admits h (length (operands_of t op)) (length (results_of t op)) x y) ec ed) ∙ old)
      (sym (ap₂ (λ x y. by_tables.admits head (x + 1) y c d) ea eb ∙ ap₂ (λ x y. by_tables.admits head (length (operands_of t op) + 1) (length (results_of t op)) x y) ec ed) ∙ new)
      o at
