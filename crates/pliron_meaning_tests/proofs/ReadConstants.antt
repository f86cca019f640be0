-- Values that every run reads as a constant.
use Rattle.std.proofs.Common.{◌≡◌, ℕ, List, [], ◌∷◌, length, Some, slice_get, refl, sym, ap, ◌∙◌, arith}
use Rattle.std.proofs.lemmas.Option.{slice_get_within}
use Rattle.pliron_core.specs.declared.attrs.Head.{Head}
use Rattle.pliron_core.specs.declared.uses.Use.{Use}
use Rattle.pliron_core.specs.Uses.{AreAgreed}
use Rattle.pliron_core.specs.Tree.{Tree, uses_of, head_of, operands_of, results_of, regions_of}
use Rattle.pliron_core.specs.Invariant.{IsTree}
use Rattle.pliron_core.proofs.HoldingLemmas.{some_is, slice_in}
use Rattle.pliron_laws.specs.Datum.{Datum, datum_of, Empty, Meaning, Give}
use Rattle.pliron_laws.specs.Tree.{Operation, op_at, shape_of}
use Rattle.pliron_theory.specs.Keeps.{IsFit}
use Rattle.pliron_theory.specs.Renaming.{IsReadAs}
use Rattle.pliron_evaluator.specs.Tiny.{first_attribute, tiny_kind_of, tiny_act_of, tiny}
use Rattle.pliron_evaluator.specs.declared.tiny.TinyKind.TheVariants.{Const}
use Rattle.pliron_laws.proofs.Records.{op_shows}
use Rattle.pliron_theory.proofs.ConstantData.{read_constant}

-- a value without uses is read nowhere
pub unused_read : (m : Meaning) (t : Tree) (uses : List (List Use)) (v : ℕ) (c : Datum) → AreAgreed t.operands uses → length (uses_of uses v) ≡ 0 → (root : ℕ) → IsFit m t root → IsReadAs m t v c root
unused_read m t uses v c agreed none root f s k rest r e first i =
    let at = slice_in (operands_of t k) v i in
    let used = agreed.complete k at.0 v at.1 in
    let lt = slice_get_within (uses_of uses v) used.0 _ used.1 in
    absurd (omega (arith, lt, none))

no_items : (xs : List ℕ) → length xs ≡ 0 → xs ≡ []
no_items [] e = refl
no_items (x ∷ xs) e = grind arith

one_item : (xs : List ℕ) (v : ℕ) → length xs ≡ 1 → slice_get xs 0 ≡ Some v → xs ≡ v ∷ []
one_item [] v e f = grind arith
one_item (x ∷ []) v e f = ap (λ z. z ∷ []) (some_is f)
one_item (x ∷ y ∷ xs) v e f = grind arith

-- the result of a constant of the tiny dialect
pub tiny_read : (t : Tree) (op v : ℕ) (head : Head) (c : Datum) → IsTree t → head_of t op ≡ Some head → tiny_kind_of head.kind ≡ Some Const → datum_of (first_attribute head.attrs) ≡ c → length (results_of t op) ≡ 1 → length (operands_of t op) ≡ 0 → length (regions_of t op) ≡ 0 → slice_get (results_of t op) 0 ≡ Some v → (root : ℕ) → IsFit tiny t root → IsReadAs tiny t v c root
unfolding tiny shape_of
tiny_read t op v head c w at kind datum results operands regions first root f =
    read_constant tiny t op v c w (record { results = one_item (results_of t op) v results first; operands = no_items (operands_of t op) operands; regions = no_items (regions_of t op) regions; gives = gives }) root f
  where
    gives : (o : Operation) → op_at t op ≡ Some o → tiny.act (shape_of tiny t o) Empty [] ≡ Give (c ∷ [])
    gives o e =
        let same : o.head ≡ head = some_is (sym (op_shows t op o e).head ∙ at) in
        ap (λ k. tiny_act_of k (shape_of tiny t o) Empty []) (ap (λ h. tiny_kind_of h.kind) same ∙ kind) ∙ ap (λ h. Give (datum_of (first_attribute h.attrs) ∷ [])) same ∙ ap (λ d. Give (d ∷ [])) datum
