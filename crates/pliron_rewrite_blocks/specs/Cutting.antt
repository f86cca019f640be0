-- Blocks of one region that are erased one after the other.
use Rattle.std.specs.Prelude.{◌≡◌, ℕ, Bool, true, false, nat_eq, if◌then◌else◌, List, [], ◌∷◌, length, Some, None}
use Rattle.pliron_core.specs.Tree.{Tree, In, IsBlock, row_of, head_of, operands_of, successors_of, parent_of, body_of, arguments_of, block_parent_of, layout_of, block_parent_operation_of, region_parent_of}
use Rattle.pliron_core.specs.Invariant.{IsTree}
use Rattle.pliron_core.specs.Erased.{is_met_above, is_in_operation, block_erased}

abbrev pub is_listed : List ℕ → ℕ → Bool
is_listed [] c = false
is_listed (b ∷ bs) c = if nat_eq b c then true else is_listed bs c

-- whether the operation is directly in one of the blocks
abbrev pub is_in_one_of : Tree → List ℕ → ℕ → Bool
is_in_one_of t [] x = false
is_in_one_of t (b ∷ bs) x = if is_in_operation t b x then true else is_in_one_of t bs x

-- what is erased with the blocks
abbrev pub cut_op : Tree → List ℕ → ℕ → Bool
cut_op t bs k = is_met_above t (is_in_one_of t bs) (Some k)

abbrev pub cut_block : Tree → List ℕ → ℕ → Bool
cut_block t bs c = if is_listed bs c then true else is_met_above t (is_in_one_of t bs) (block_parent_operation_of t c)

-- the blocks were erased one after the other
pub data ErasesAll : List ℕ → Tree → Tree → Type 0 where
  Done : {u : Tree} → ErasesAll [] u u
  Then : {u v : Tree} (b : ℕ) (bs : List ℕ) → IsBlock u b → IsTree (block_erased u b) → ErasesAll bs (block_erased u b) v → ErasesAll (b ∷ bs) u v

-- what is not in the blocks stays as it was, and what is in them is erased
pub record AreCut (t v : Tree) (region : ℕ) (bs : List ℕ) : Type 0 where
  pub count : length v.operations ≡ length t.operations
  pub deleted : (k : ℕ) → cut_op t bs k ≡ true → head_of v k ≡ None
  pub detached_blocks : (c : ℕ) → cut_block t bs c ≡ true → block_parent_of v c ≡ None
  pub rows : (k : ℕ) → cut_op t bs k ≡ false → row_of v k ≡ row_of t k
  pub operands : (k : ℕ) → cut_op t bs k ≡ false → operands_of v k ≡ operands_of t k
  pub successors : (k : ℕ) → cut_op t bs k ≡ false → successors_of v k ≡ successors_of t k
  pub parents : (k : ℕ) → cut_op t bs k ≡ false → parent_of v k ≡ parent_of t k
  pub bodies : (c : ℕ) → cut_block t bs c ≡ false → body_of v c ≡ body_of t c
  pub arguments : (c : ℕ) → cut_block t bs c ≡ false → arguments_of v c ≡ arguments_of t c
  pub block_parents : (c : ℕ) → cut_block t bs c ≡ false → block_parent_of v c ≡ block_parent_of t c
  pub layouts : (r : ℕ) → (r ≡ region → ⊥) → is_met_above t (is_in_one_of t bs) (region_parent_of t r) ≡ false → layout_of v r ≡ layout_of t r

abbrev pub CuttingLaw : Type 0
CuttingLaw = (t v : Tree) (region : ℕ) (bs : List ℕ) → IsTree t → ((b : ℕ) → In b bs → block_parent_of t b ≡ Some region) → ErasesAll bs t v → AreCut t v region bs
