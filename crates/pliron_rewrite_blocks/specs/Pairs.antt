-- Two blocks that may be merged, and what merging makes of a tree.
use Rattle.std.specs.Prelude.{◌≡◌, ◌≢◌, ℕ, List, [], ◌∷◌, Some, None, length}
use Rattle.pliron_core.specs.Tree.{Tree, In, first_of, last_of, body_of, arguments_of, layout_of}
use Rattle.pliron_core.specs.Edges.{succs_of, preds_of}
use Rattle.pliron_core.specs.Writes.{after_replacing, moved_last}
use Rattle.pliron_core.specs.Erased.{after_erasing, block_erased}
use Rattle.pliron_laws.specs.Datum.{Meaning}
use Rattle.pliron_laws.specs.Answers.{HeadPasses, AreForwarded}

-- b may be merged into a: the branch `jump` ends a and leads to b alone, which is neither a nor an entry and
-- has no other predecessor; it forwards a value for each argument of b, and none of them is one
pub record IsMergeable (m : Meaning) (t : Tree) (a b jump : ℕ) (values : List ℕ) : Type 0 where
  pub goes : succs_of t a ≡ b ∷ []
  pub ends : last_of None (body_of t a) ≡ Some jump
  pub apart : b ≢ a
  pub no_entry : (r : ℕ) → first_of (layout_of t r) None ≢ Some b
  pub single : length (preds_of t b) ≡ 1
  pub branch : HeadPasses m.is_branch t jump
  pub forwarded : AreForwarded m t jump 0 values
  pub counts : length values ≡ length (arguments_of t b)
  pub no_argument : (v : ℕ) → In v values → In v (arguments_of t b) → ⊥

-- each of these arguments is replaced by the value at its place
abbrev pub forwarded_uses : Tree → (arguments values : List ℕ) → Tree
forwarded_uses t [] vs = t
forwarded_uses t (p ∷ ps) [] = t
forwarded_uses t (p ∷ ps) (v ∷ vs) = forwarded_uses (after_replacing t p v) ps vs

-- these operations become the last of the block, one after the other
abbrev pub all_moved_last : Tree → List ℕ → ℕ → Tree
all_moved_last t [] block = t
all_moved_last t (k ∷ ks) block = all_moved_last (moved_last t k block) ks block

-- the last operation of a is erased, and so is b, whose operations are the last of a
abbrev pub after_joining : Tree → (a b jump : ℕ) → Tree
after_joining t a b jump = block_erased (all_moved_last (after_erasing t jump) (body_of t b) a) b

abbrev pub after_block_merging : Tree → (a b jump : ℕ) → List ℕ → Tree
after_block_merging t a b jump values = after_joining (forwarded_uses t (arguments_of t b) values) a b jump
