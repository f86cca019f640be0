-- A branch of any number of edges whose condition is known may become a jump: the half of the law on folding in
-- place that speaks of branches.
use Rattle.std.proofs.Common.{◌≡◌, ℕ, zero, suc, Bool, true, false, true≢false, List, [], ◌∷◌, take, Option, Some, None, length, slice_get, map, IsTrue, refl, ap, sym, ◌∙◌, subst, arith}
use Rattle.std.specs.Option.{option_map}
use Rattle.std.specs.Prelude.{ℤ}
use Rattle.std.proofs.lemmas.Option.{same_Some}
use Rattle.pliron_core.specs.declared.attrs.Head.{Head}
use Rattle.pliron_core.specs.declared.attrs.AttrObj.{AttrObj}
use Rattle.pliron_laws.specs.Datum.{Datum, Empty, Shape, Goto}
use Rattle.pliron_laws.specs.Acting.{MovesAlike, ActAlike, PassesSame, AgreeWithKnown, pick}
use Rattle.pliron_laws.specs.PlaceLaws.{pick_all}
use Rattle.pliron_dialect.specs.Ranges.{same_data}
use Rattle.pliron_dialect.specs.Counted.{edge_range, uncapped, values_of_edge, edge_passes}
use Rattle.pliron_dialect.specs.Roles.{Interpretation, Role, Allows, head_of_kind, Jumps, Chooses, first_number, edge_chosen, head_without_counts, edge_or, chosen_edge, edge_counts_of, by_role, by_form, form_of, act_of, no_act, branches, places_by, meaning_by, known_number_at}
use Rattle.pliron_laws.specs.Replacing.{branch_shape, JumpsTo, ReplacesBranch}
use Rattle.pliron_dialect.specs.Parts.{Admits, comes_first, both_true}
use Rattle.pliron_dialect.specs.declared.form.Counting.{Counting}
use Rattle.pliron_dialect.specs.FoldLaws.{AgreesWithKnown, first_agrees, branch_quiet}
use Rattle.pliron_dialect.specs.BranchLaws.{is_choice, goto_alike, nowhere}

known_is : (o : Option ℤ) (c n : ℤ) → o ≡ Some c → AgreesWithKnown o n → c ≡ n
known_is None c n e a = grind arith
known_is (Some m) c n e a = sym (same_Some m c e) ∙ a

module _ (value : Interpretation) (roles : ℕ → Option Role) (allows : Allows) (n : ℕ) (ssa : Bool) (jump : roles n ≡ Some Jumps) (allowed : (k : ℕ) → IsTrue (allows (head_of_kind n ssa) k 0 1 0)) where
  pub becomes_jump : (counting : Counting) (choose : ℕ → List AttrObj → ℤ → Option ℕ) (s : Shape) (targets : List ℕ) (known : List (Option AttrObj)) (c : ℤ) (e b : ℕ) → roles s.head.kind ≡ Some (Chooses counting choose) → Admits (Some (Chooses counting choose)) s → known_number_at known 0 ≡ Some c → chosen_edge counting choose s c ≡ Some e → slice_get targets e ≡ Some b → ReplacesBranch (meaning_by value roles allows) s targets (b ∷ []) known (head_of_kind n ssa) (edge_range (edge_counts_of counting s) e) (e ∷ [])
  unfolding meaning_by
  becomes_jump counting choose s targets known c e b is h known_c at to =
      let places : List ℕ = edge_range (edge_counts_of counting s) e in
      record {
        branch = subst (λ x. IsTrue (by_form false branches (option_map form_of x))) (sym jump) refl;
        admitted = both_true _ _ (subst (λ x. Admits x (branch_shape (head_of_kind n ssa) (length places) 1)) (sym jump) refl) (allowed (length places));
        targets_kept = ap (λ x. x ∷ []) (sym to);
        values_kept = λ k f g. kept k f g;
        alike = λ first first' l k p. acts first first' l k p;
      }
    where
      kept : (k f : ℕ) → slice_get (e ∷ []) k ≡ Some f → pick (by_role [] (places_by (branch_shape (head_of_kind n ssa) (length (edge_range (edge_counts_of counting s) e)) 1) k) (roles n)) (edge_range (edge_counts_of counting s) e) ≡ map Some (by_role [] (places_by s f) (roles s.head.kind))
      kept zero f g =
          subst (λ x. pick (by_role [] (places_by (branch_shape (head_of_kind n ssa) (length (edge_range (edge_counts_of counting s) e)) 1) zero) x) (edge_range (edge_counts_of counting s) e) ≡ map Some (by_role [] (places_by s f) (roles s.head.kind))) (sym jump)
          (pick_all (edge_range (edge_counts_of counting s) e) (length (edge_range (edge_counts_of counting s) e)) refl
          ∙ ap (λ x. map Some (edge_range (edge_counts_of counting s) x)) (same_Some e f g)
          ∙ ap (map Some) (sym (uncapped s.operands (edge_counts_of counting s) f (is_choice counting choose s.head s.operands s.results s.successors (length s.entry_arguments) h).operands))
          ∙ ap (λ x. map Some (by_role [] (places_by s f) x)) (sym is))
      kept (suc k) f g = nowhere k f g

      acts : (first first' : List Datum) → length first ≡ s.operands → AgreeWithKnown known first → map Some first' ≡ pick (edge_range (edge_counts_of counting s) e) first → ActAlike (meaning_by value roles allows).act PassesSame (JumpsTo targets (b ∷ [])) s (branch_shape (head_of_kind n ssa) (length (edge_range (edge_counts_of counting s) e)) 1) first first'
      acts first first' l k p =
          let edge : edge_chosen value counting choose s first ≡ e = ap (λ x. edge_or value (head_without_counts counting s) (take 1 first) (chosen_edge counting choose s x)) (sym (known_is (known_number_at known 0) c (first_number first) known_c (first_agrees known first k))) ∙ ap (edge_or value (head_without_counts counting s) (take 1 first)) at in
          let values : first' ≡ values_of_edge (edge_counts_of counting s) e first = same_data first' (values_of_edge (edge_counts_of counting s) e first) (p ∙ sym (edge_passes (edge_counts_of counting s) e first ((is_choice counting choose s.head s.operands s.results s.successors (length s.entry_arguments) h).operands ∙ sym l))) in
          record {
            begin = subst (λ x. MovesAlike PassesSame (JumpsTo targets (b ∷ [])) (by_role no_act (act_of value) x s Empty first) (by_role no_act (act_of value) (roles n) (branch_shape (head_of_kind n ssa) (length (edge_range (edge_counts_of counting s) e)) 1) Empty first')) (sym is)
                (subst (λ x. MovesAlike PassesSame (JumpsTo targets (b ∷ [])) (act_of value (Chooses counting choose) s Empty first) (by_role no_act (act_of value) x (branch_shape (head_of_kind n ssa) (length (edge_range (edge_counts_of counting s) e)) 1) Empty first')) (sym jump)
                (subst (λ i. MovesAlike PassesSame (JumpsTo targets (b ∷ [])) (Goto i (values_of_edge (edge_counts_of counting s) i first)) (Goto 0 first')) (sym edge)
                (goto_alike PassesSame (JumpsTo targets (b ∷ [])) e 0 (values_of_edge (edge_counts_of counting s) e first) first' (sym to, values))));
            later = λ memo input comes. absurd (true≢false (comes_first _ s first true memo input (branch_quiet value (roles s.head.kind) s (subst (λ x. IsTrue (by_form false branches (option_map form_of x))) (sym is) refl)) comes).once);
          }
