-- Adding operations.
use Rattle.std.proofs.Common.{◌≡◌, ℕ, [], ◌∷◌, ◌++◌, Option, Some, None, refl, sym, ap, ◌∙◌, append_assoc, append-nil}
use Rattle.std.proofs.lemmas.List.Elements.{All-nil, All-cons, All-append}
use Rattle.pliron_core.specs.declared.attrs.Head.{Head}
use Rattle.pliron_core.specs.Tree.{Tree, parent_of}
use Rattle.pliron_core.specs.Writes.{after_creating, moved_last, taken_from}
use Rattle.pliron_text_mlir_reader.specs.TakenHeads.{IsTakenHead}
use Rattle.pliron_text_mlir_reader.specs.Additions.{HasTakenHead, AddsTaken}

pub adds_none : (t u : Tree) → u.operations ≡ t.operations → AddsTaken t u
adds_none t u same = ([], same ∙ sym (append-nil t.operations), All-nil HasTakenHead)

pub adds_more : (t u v : Tree) → AddsTaken t u → AddsTaken u v → AddsTaken t v
adds_more t u v a b =
    (a.0 ++ b.0, b.1 ∙ ap (λ xs. xs ++ b.0) a.1 ∙ append_assoc t.operations a.0 b.0, All-append HasTakenHead a.0 b.0 a.2 b.2)

pub adds_before_none : (t u v : Tree) → AddsTaken t u → v.operations ≡ u.operations → AddsTaken t v
adds_before_none t u v a same = (a.0, same ∙ a.1, a.2)

pub adds_behind_none : (t u v : Tree) → u.operations ≡ t.operations → AddsTaken u v → AddsTaken t v
adds_behind_none t u v same b = (b.0, b.1 ∙ ap (λ xs. xs ++ b.0) same, b.2)

pub adds_one : (t u : Tree) (head : Head) (results regions : ℕ) → ∥ IsTakenHead head ∥₁ → u ≡ after_creating t head results regions → AddsTaken t u
adds_one t u head results regions is made = (_ ∷ [], ap (λ z. z.operations) made, All-cons HasTakenHead _ [] (head, refl, is) (All-nil HasTakenHead))

moved_from : (t : Tree) (op : ℕ) (o : Option ℕ) → (taken_from t op o).operations ≡ t.operations
moved_from t op None = refl
moved_from t op (Some block) = refl

pub moved_keeps : (t : Tree) (op block : ℕ) → (moved_last t op block).operations ≡ t.operations
moved_keeps t op block = moved_from t op (parent_of t op)
