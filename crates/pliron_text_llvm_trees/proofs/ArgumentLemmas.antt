-- Arguments that are added one after another, and the numbers of phis by their blocks.
use Rattle.std.proofs.Common.{append-nil, ◌≡◌, ◌⊎◌, ℕ, suc, ◌+◌, ◌<◌, ◌≤◌, Bool, true, false, List, [], ◌∷◌, ◌++◌, length, map, get_or, set, take, replicate, refl, sym, ap, ◌∙◌, subst, inl, inr, arith}
use Rattle.std.specs.Prelude.{◌==◌, slice_get, Some, None}
use Rattle.std.specs.List.{All}
use Rattle.std.proofs.lemmas.Bool.{cases_eq, eq-eqb, ne_eqb}
use Rattle.std.proofs.lemmas.Option.{slice_get-get_or}
use Rattle.std.proofs.lemmas.List.{set_past, length-set, length-map, map-set, map-append, get_or-map, get_or-set_same, get_or-set_other, take_all, take_more, get_or-replicate, length-replicate}
use Rattle.std.proofs.lemmas.List.Elements.{All-nil, All-push}
use Rattle.pliron_text_llvm_names.specs.declared.definitions.LocalDefinition.{LocalDefinition}
use Rattle.pliron_text_llvm_edges.specs.declared.phis.BlockPhi.{BlockPhi}
use Rattle.pliron_text_llvm_edges.specs.declared.phis.PhiPlace.{PhiPlace}
use Rattle.pliron_text_llvm_edges.specs.Numbers.{numbers_passing}
use Rattle.pliron_text_llvm_edges.proofs.NumberLemmas.{passing_true, passing_false}
use Rattle.pliron_text_llvm_trees.specs.declared.arguments.TreeArgument.{TreeArgument}
use Rattle.pliron_text_llvm_trees.specs.Arguments.{IsArgument, AreTreeArguments, is_phi_of, phi_numbers, ArePhisByBlock, with_phi_number}
use Rattle.pliron_text_llvm_trees.proofs.OperandLemmas.{passing_last}

-- ---- arguments

pub arguments_none : (definitions : List LocalDefinition) (phis : List BlockPhi) (found : List TreeArgument) → found ≡ [] → AreTreeArguments definitions (take 0 phis) found
arguments_none definitions phis found e = (ap (map (λ argument. argument.place)) e, subst (All (IsArgument definitions)) (sym e) (All-nil (IsArgument definitions)))

pub arguments_more : (definitions : List LocalDefinition) (phis : List BlockPhi) (i : ℕ) (d : BlockPhi) (argument : TreeArgument) (found after : List TreeArgument) → i < length phis → AreTreeArguments definitions (take i phis) found
    → argument.place ≡ (get_or phis i d).place → IsArgument definitions argument → after ≡ found ++ argument ∷ [] → AreTreeArguments definitions (take (i + 1) phis) after
arguments_more definitions phis i d argument found after less h at one grown = (
  ap (map (λ argument. argument.place)) grown
      ∙ map-append (λ argument. argument.place) found (argument ∷ [])
      ∙ ap (λ xs. xs ++ argument.place ∷ []) h.0
      ∙ ap (λ x. map (λ phi. phi.place) (take i phis) ++ x ∷ []) at
      ∙ sym (map-append (λ phi. phi.place) (take i phis) (get_or phis i d ∷ []))
      ∙ sym (ap (map (λ phi. phi.place)) (take_more phis i d less)),
  subst (All (IsArgument definitions)) (sym grown) (All-push (IsArgument definitions) found argument h.1 one),
)

pub arguments_all : (definitions : List LocalDefinition) (phis : List BlockPhi) (i : ℕ) (found : List TreeArgument) → length phis ≤ i → AreTreeArguments definitions (take i phis) found → AreTreeArguments definitions phis found
arguments_all definitions phis i found past h = subst (λ ps. AreTreeArguments definitions ps found) (take_all i phis past) h

-- ---- lists of numbers

-- the list of the block is there
pub number_put : {A : Type 0} (f : A → List ℕ) (lists : List A) (block number : ℕ) (list d : A) → block < length lists → f list ≡ f (get_or lists block d) ++ number ∷ []
    → map f (set lists block list) ≡ with_phi_number block number (map f lists)
number_put f lists block number list d less grown =
    map-set f lists block list
    ∙ ap (λ xs. set (map f lists) block xs) (grown ∙ ap (λ xs. xs ++ number ∷ []) (sym (get_or-map f lists block d [] less)))

-- it isn't
pub number_past : {A : Type 0} (f : A → List ℕ) (lists : List A) (block number : ℕ) → length lists ≤ block → map f lists ≡ with_phi_number block number (map f lists)
number_past f lists block number past = sym (set_past (map f lists) block _ (omega (arith, past, length-map lists f)))

-- a phi of the block, or of another one
abbrev pub of_block : List BlockPhi → ℕ → ℕ → Bool
of_block phis block number = is_phi_of block (slice_get phis number)

-- the numbers below this one of the phis of each block
pub record AreNumbersBelow (count : ℕ) (phis : List BlockPhi) (end : ℕ) (lists : List (List ℕ)) : Type 0 where
  pub count_is : length lists ≡ count
  pub each : (block : ℕ) → block < count → get_or lists block [] ≡ numbers_passing (of_block phis block) 0 end

pub lists_none : (count : ℕ) (phis : List BlockPhi) (lists : List (List ℕ)) → lists ≡ replicate count [] → AreNumbersBelow count phis 0 lists
lists_none count phis lists e = record {
  count_is = ap length e ∙ length-replicate count [];
  each = λ block less. ap (λ ls. get_or ls block []) e ∙ get_or-replicate count block [] [] less;
}

of_its_block : (phis : List BlockPhi) (i block : ℕ) (d : BlockPhi) → i < length phis → (get_or phis i d).place.block ≡ block → of_block phis block i ≡ true
of_its_block phis i block d less e = ap (is_phi_of block) (slice_get-get_or phis i d less) ∙ eq-eqb (get_or phis i d).place.block block e

of_another : (phis : List BlockPhi) (i block : ℕ) (d : BlockPhi) → i < length phis → ((get_or phis i d).place.block ≡ block → ⊥) → of_block phis block i ≡ false
of_another phis i block d less ne = ap (is_phi_of block) (slice_get-get_or phis i d less) ∙ ne_eqb (get_or phis i d).place.block block ne

-- one list, a phi more
list_more : (count : ℕ) (phis : List BlockPhi) (i : ℕ) (d : BlockPhi) (lists : List (List ℕ)) (block : ℕ) → i < length phis → block < count → AreNumbersBelow count phis i lists
    → get_or (with_phi_number (get_or phis i d).place.block i lists) block [] ≡ numbers_passing (of_block phis block) 0 (suc i)
list_more count phis i d lists block less within h =
    let own : ℕ = (get_or phis i d).place.block in
    elim (cases_eq own block) [
      | inl e ↦
          ap (λ n. get_or (set lists n (get_or lists n [] ++ i ∷ [])) block []) e
          ∙ get_or-set_same lists block (get_or lists block [] ++ i ∷ []) [] (omega (arith, within, h.count_is))
          ∙ ap (λ xs. xs ++ i ∷ []) (h.each block within)
          ∙ ap (λ xs. numbers_passing (of_block phis block) 0 i ++ xs) (sym (passing_true (of_block phis block) i (of_its_block phis i block d less e)))
          ∙ sym (passing_last (of_block phis block) 0 i ∙ ap (λ n. numbers_passing (of_block phis block) 0 i ++ numbers_passing (of_block phis block) n 1) (let z : 0 + i ≡ i = omega arith in z))
      | inr ne ↦
          get_or-set_other lists own block (get_or lists own [] ++ i ∷ []) [] (λ e. ne (sym e))
          ∙ h.each block within
          ∙ sym (append-nil (numbers_passing (of_block phis block) 0 i))
          ∙ ap (λ xs. numbers_passing (of_block phis block) 0 i ++ xs) (sym (passing_false (of_block phis block) i (of_another phis i block d less ne)))
          ∙ sym (passing_last (of_block phis block) 0 i ∙ ap (λ n. numbers_passing (of_block phis block) 0 i ++ numbers_passing (of_block phis block) n 1) (let z : 0 + i ≡ i = omega arith in z))
    ]

-- a phi more
pub lists_more : (count : ℕ) (phis : List BlockPhi) (i : ℕ) (d : BlockPhi) (before after : List (List ℕ)) → i < length phis → AreNumbersBelow count phis i before
    → after ≡ with_phi_number (get_or phis i d).place.block i before → AreNumbersBelow count phis (i + 1) after
lists_more count phis i d before after less h grown =
    let own : ℕ = (get_or phis i d).place.block in
    let next : suc i ≡ i + 1 = omega arith in record {
      count_is = ap length grown ∙ length-set before own (get_or before own [] ++ i ∷ []) ∙ h.count_is;
      each = λ block within. ap (λ ls. get_or ls block []) grown ∙ list_more count phis i d before block less within h ∙ ap (numbers_passing (of_block phis block) 0) next;
    }

-- all phis
pub lists_all : (count : ℕ) (phis : List BlockPhi) (i : ℕ) (lists : List (List ℕ)) → i ≡ length phis → AreNumbersBelow count phis i lists → ArePhisByBlock count phis lists
lists_all count phis i lists e h = (h.count_is, λ block less. h.each block less ∙ ap (numbers_passing (of_block phis block) 0) e)
