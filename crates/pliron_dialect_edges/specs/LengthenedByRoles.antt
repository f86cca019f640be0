-- Branches of dialects by roles that forward one value more.
use Rattle.std.proofs.Common.{◌≡◌, ℕ, suc, ◌+◌, ◌<◌, false, List, Option, Some, None, length, slice_get, IsTrue, refl, ap, sym, ◌∙◌, subst, arith}
use Rattle.std.specs.Option.{option_map}
use Rattle.std.specs.Prelude.{ℤ}
use Rattle.std.specs.List.{range_with_len}
use Rattle.std.proofs.lemmas.List.FromFn.{length-range_with_len}
use Rattle.pliron_core.specs.declared.attrs.Head.{Head}
use Rattle.pliron_core.specs.declared.attrs.AttrObj.{AttrObj}
use Rattle.pliron_laws.specs.Datum.{Shape}
use Rattle.pliron_laws.specs.Laws.{Admitted}
use Rattle.pliron_dialect.specs.declared.form.Counting.{Counting}
use Rattle.pliron_dialect.specs.declared.form.Form.{Form}
use Rattle.pliron_dialect.specs.declared.form.Form.TheVariants.{Jumps as JumpsForm, Chooses as ChoosesForm}
use Rattle.pliron_dialect.specs.Counted.{counts_by, count_of, start_of, edge_range, capped_places, uncapped}
use Rattle.pliron_dialect.specs.Roles.{Interpretation, Role, Allows, Jumps, Chooses, by_role, by_form, form_of, branches, edge_counts_of, meaning_by, shortened_by, shortened_of, takes_by}
use Rattle.pliron_dialect.specs.Parts.{both_parts}
use Rattle.pliron_dialect.specs.BranchLaws.{IsChoice, is_choice, edge_places}
use Rattle.pliron_dialect_edges.specs.Lengthened.{one_more, IsLengthened}
use Rattle.pliron_dialect_edges.specs.LongerCounts.{LongerAttributes, range_get, last_place, attributes_back, last_there}

-- the head with these attributes
abbrev pub with_attributes : Head → List AttrObj → Head
with_attributes h attrs = record h { attrs = attrs }

-- what a branch of this form with a operands and c edges has that forwards a value more along edge i, which stands at p
abbrev pub LongerByForm : Form → Head → (a c i p : ℕ) → Head → Type 0
LongerByForm JumpsForm h a c i p head = (i ≡ 0) × (p ≡ a) × (head ≡ h)
LongerByForm (ChoosesForm counting) h a c i p head = (i < c) × (p ≡ last_place (counts_by counting c a h.attrs) i) × ((attrs : List AttrObj) × (head ≡ with_attributes h attrs) × LongerAttributes counting i h.attrs attrs)
LongerByForm _ h a c i p head = ⊥

abbrev pub LongerByRole : Role → Shape → (i p : ℕ) → Head → Type 0
LongerByRole k s i p head = LongerByForm (form_of k) s.head s.operands s.successors i p head

abbrev pub LongerBy : Option Role → Shape → (i p : ℕ) → Head → Type 0
LongerBy None s i p head = ⊥
LongerBy (Some k) s i p head = LongerByRole k s i p head

module _ (value : Interpretation) (roles : ℕ → Option Role) (allows : Allows) where
  jump_longer : (s : Shape) → roles s.head.kind ≡ Some Jumps → Admitted (meaning_by value roles allows) (one_more s s.head) → IsLengthened (meaning_by value roles allows) (shortened_by roles) s 0 s.operands s.head
  unfolding meaning_by shortened_by
  jump_longer s is new = record {
    admitted = new;
    branch = subst (λ x. IsTrue (by_form false branches (option_map form_of x))) (sym is) refl;
    last = subst (λ x. slice_get (edge_places x (one_more s s.head) 0) (length (edge_places x s 0)) ≡ Some s.operands) (sym is) (ap (slice_get (range_with_len 0 (s.operands + 1))) (length-range_with_len 0 s.operands) ∙ range_get 0 (s.operands + 1) s.operands (omega arith) ∙ ap Some (omega arith));
    back = subst (λ x. by_role s.head (shortened_of (one_more s s.head) 0) x ≡ s.head) (sym is) refl;
  }

  choice_in : (counting : Counting) (choose : ℕ → List AttrObj → ℤ → Option ℕ) (s : Shape) → roles s.head.kind ≡ Some (Chooses counting choose) → Admitted (meaning_by value roles allows) s → IsChoice counting s.head s.operands s.results s.successors (length s.entry_arguments)
  unfolding meaning_by
  choice_in counting choose s is admitted =
      is_choice counting choose s.head s.operands s.results s.successors (length s.entry_arguments)
      (subst (λ x. IsTrue (by_role false (takes_by s.head s.operands s.results s.successors (length s.entry_arguments)) x)) is (both_parts _ _ admitted).0)

  choice_longer : (counting : Counting) (choose : ℕ → List AttrObj → ℤ → Option ℕ) (s : Shape) (i : ℕ) (attrs : List AttrObj) → roles s.head.kind ≡ Some (Chooses counting choose) → Admitted (meaning_by value roles allows) s → Admitted (meaning_by value roles allows) (one_more s (with_attributes s.head attrs)) → i < s.successors → LongerAttributes counting i s.head.attrs attrs → IsLengthened (meaning_by value roles allows) (shortened_by roles) s i (last_place (edge_counts_of counting s) i) (with_attributes s.head attrs)
  unfolding meaning_by shortened_by
  choice_longer counting choose s i attrs is old new lt longer =
      let before = choice_in counting choose s is old in
      let after = choice_in counting choose (one_more s (with_attributes s.head attrs)) is new in
      record {
        admitted = new;
        branch = subst (λ x. IsTrue (by_form false branches (option_map form_of x))) (sym is) refl;
        last = subst (λ x. slice_get (edge_places x (one_more s (with_attributes s.head attrs)) i) (length (edge_places x s i)) ≡ Some (last_place (edge_counts_of counting s) i)) (sym is)
            (ap (λ z. slice_get z (length (capped_places s.operands (edge_counts_of counting s) i))) (uncapped (s.operands + 1) (counts_by counting s.successors (s.operands + 1) attrs) i after.operands)
            ∙ ap (λ z. slice_get (edge_range (counts_by counting s.successors (s.operands + 1) attrs) i) (length z)) (uncapped s.operands (edge_counts_of counting s) i before.operands)
            ∙ ap (slice_get (edge_range (counts_by counting s.successors (s.operands + 1) attrs) i)) (length-range_with_len (suc (start_of (edge_counts_of counting s) i)) (count_of (edge_counts_of counting s) i))
            ∙ last_there counting s.successors s.operands i s.head.attrs attrs lt before.fits longer);
        back = subst (λ x. by_role (with_attributes s.head attrs) (shortened_of (one_more s (with_attributes s.head attrs)) i) x ≡ s.head) (sym is) (ap (with_attributes s.head) (attributes_back counting s.successors i s.head.attrs attrs lt longer));
      }

  role_longer : (k : Role) (s : Shape) (i p : ℕ) (head : Head) → roles s.head.kind ≡ Some k → Admitted (meaning_by value roles allows) s → Admitted (meaning_by value roles allows) (one_more s head) → LongerByRole k s i p head → IsLengthened (meaning_by value roles allows) (shortened_by roles) s i p head
  role_longer Jumps s i p head is old new (first, place, same) =
      subst (λ x. IsLengthened (meaning_by value roles allows) (shortened_by roles) s x p head) (sym first)
      (subst (λ x. IsLengthened (meaning_by value roles allows) (shortened_by roles) s 0 x head) (sym place)
      (subst (λ x. IsLengthened (meaning_by value roles allows) (shortened_by roles) s 0 s.operands x) (sym same)
      (jump_longer s is (subst (λ x. Admitted (meaning_by value roles allows) (one_more s x)) same new))))
  role_longer (Chooses counting choose) s i p head is old new (lt, place, (attrs, same, longer)) =
      subst (λ x. IsLengthened (meaning_by value roles allows) (shortened_by roles) s i x head) (sym place)
      (subst (λ x. IsLengthened (meaning_by value roles allows) (shortened_by roles) s i (last_place (edge_counts_of counting s) i) x) (sym same)
      (choice_longer counting choose s i attrs is old (subst (λ x. Admitted (meaning_by value roles allows) (one_more s x)) same new) lt longer))
  role_longer _ s i p head is old new longer = absurd longer

  pub lengthened : (o : Option Role) (s : Shape) (i p : ℕ) (head : Head) → roles s.head.kind ≡ o → LongerBy o s i p head → Admitted (meaning_by value roles allows) s → Admitted (meaning_by value roles allows) (one_more s head) → IsLengthened (meaning_by value roles allows) (shortened_by roles) s i p head
  lengthened None s i p head is longer old new = absurd longer
  lengthened (Some k) s i p head is longer old new = role_longer k s i p head is old new longer
