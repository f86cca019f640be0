-- Operations of a text get their operands and successors.
use Rattle.std.proofs.Common.{◌≡◌, ◌≢◌, ℕ, ◌+◌, ◌<◌, List, [], ◌∷◌, ◌++◌, length, get_or, Some, None, refl, sym, ap, ◌∙◌, subst, inl, inr, ⊎_elim, arith, slice_get, length-append}
use Rattle.std.proofs.lemmas.Bool.{cases_eq}
use Rattle.std.proofs.lemmas.List.{get_or-set_same, get_or-set_other}
use Rattle.std.proofs.lemmas.Option.{slice_get_within, get_or_from_slice_get}
use Rattle.pliron_core.specs.Tree.{Tree, In, IsLive, last_of, no_entry, row_of, operands_of, successors_of, parent_of}
use Rattle.pliron_core.specs.Invariant.{IsTree}
use Rattle.pliron_core.specs.Writes.{operand_pushed, successor_pushed}
use Rattle.pliron_core.proofs.HoldingLemmas.{some_is, past_live}
use Rattle.pliron_core.proofs.UsedLemmas.{in_last}
use Rattle.pliron_text.specs.declared.build.BuiltTree.{BuiltTree}
use Rattle.pliron_text.specs.declared.syntax.OperationText.{OperationText}
use Rattle.pliron_text.specs.declared.syntax.Syntax.{Syntax}
use Rattle.pliron_text.specs.Laid.{HasUsesAs, HasNoUses, IsLaid, HasMoreOperands, HasMoreSuccessors}
use Rattle.pliron_text.proofs.LaidLemmas.{range-read, made-same, whole-same, unused-same}

-- one more operand
pub no-more-operands : (u : Tree) (op : ℕ) → HasMoreOperands u u op 0
no-more-operands u op = record { rest = refl; others = λ k ne. refl; total = omega arith }

module _ (u v : Tree) (op value i : ℕ) (is : IsTree v) (live : IsLive v op) (h : HasMoreOperands u v op i) where
  abbrev x : Tree
  x = operand_pushed v op value

  x_operands : operands_of x op ≡ operands_of v op ++ value ∷ []
  x_operands = get_or-set_same v.operands op (operands_of v op ++ value ∷ []) [] (let lt = past_live v op live in let e = is.keys.operands in omega (arith, lt, e))

  x_more : HasMoreOperands u x op (i + 1)
  x_more = record {
    rest = let f : Tree → Tree = λ z. record z { operands = x.operands } in ap f h.rest;
    others = λ k ne. get_or-set_other v.operands op k (operands_of v op ++ value ∷ []) [] ne ∙ h.others k ne;
    total = let e = ap length x_operands in let f = length-append (operands_of v op) (value ∷ []) in let g = h.total in omega (arith, e, f, g);
  }

  pub one-more-operand : (w : Tree) → w ≡ x → HasMoreOperands u w op (i + 1)
  one-more-operand w e = subst (λ z. HasMoreOperands u z op (i + 1)) (sym e) x_more

-- one more successor
pub no-more-successors : (built : BuiltTree) (u : Tree) (op : ℕ) (numbers : List ℕ) → HasMoreSuccessors built u u op 0 numbers
no-more-successors built u op numbers = record { rest = refl; others = λ k ne. refl; total = omega arith; named = λ x i. inl i }

module _ (built : BuiltTree) (u v : Tree) (op block number i : ℕ) (numbers : List ℕ) (is : IsTree v) (live : IsLive v op) (h : HasMoreSuccessors built u v op i numbers) (here : In number numbers) (at : slice_get built.blocks.items number ≡ Some block) where
  abbrev y : Tree
  y = successor_pushed v op block

  y_successors : successors_of y op ≡ successors_of v op ++ block ∷ []
  y_successors = get_or-set_same v.successors op (successors_of v op ++ block ∷ []) [] (let lt = past_live v op live in let e = is.keys.successors in omega (arith, lt, e))

  y_more : HasMoreSuccessors built u y op (i + 1) numbers
  y_more = record {
    rest = let f : Tree → Tree = λ z. record z { successors = y.successors } in ap f h.rest;
    others = λ k ne. get_or-set_other v.successors op k (successors_of v op ++ block ∷ []) [] ne ∙ h.others k ne;
    total = let e = ap length y_successors in let f = length-append (successors_of v op) (block ∷ []) in let g = h.total in omega (arith, e, f, g);
    named = λ b j. ⊎_elim
        (λ old. h.named b old)
        (λ e. inr (number, here, at ∙ ap Some (sym e)))
        (in_last b block (successors_of v op) (subst (In b) y_successors j));
  }

  pub one-more-successor : (w : Tree) → w ≡ y → HasMoreSuccessors built u w op (i + 1) numbers
  one-more-successor w e = subst (λ z. HasMoreSuccessors built u z op (i + 1) numbers) (sym e) y_more

-- the operation of this number gets its operands and successors
module _ (s : Syntax) (u v w : Tree) (built : BuiltTree) (number op : ℕ) (o : OperationText) (operands successors : List ℕ) (at : slice_get s.operations.items number ≡ Some o) (within : number < length built.operations.items) (read : op ≡ get_or built.operations.items number op) (os : operands ≡ o.operands.items) (ss : successors ≡ o.successors.items) (m : HasMoreOperands u v op (length operands)) (n : HasMoreSuccessors built v w op (length successors) successors) (root base : ℕ) (l : IsLaid s root base number 0 u built) where
  op_key : op ≡ root + 1 + number
  op_key = range-read built.operations.items (root + 1) number op l.operations within read

  same_rows : w.operations ≡ u.operations
  same_rows = ap (λ z. z.operations) n.rest ∙ ap (λ z. z.operations) m.rest

  same_parents : w.parents ≡ u.parents
  same_parents = ap (λ z. z.parents) n.rest ∙ ap (λ z. z.parents) m.rest

  same_bodies : w.bodies ≡ u.bodies
  same_bodies = ap (λ z. z.bodies) n.rest ∙ ap (λ z. z.bodies) m.rest

  same_block_parents : w.block_parents ≡ u.block_parents
  same_block_parents = ap (λ z. z.block_parents) n.rest ∙ ap (λ z. z.block_parents) m.rest

  same_operands : (k : ℕ) → k ≢ op → operands_of w k ≡ operands_of u k
  same_operands k ne = ap (λ z. get_or z.operands k []) n.rest ∙ m.others k ne

  same_successors : (k : ℕ) → k ≢ op → successors_of w k ≡ successors_of u k
  same_successors k ne = n.others k ne ∙ ap (λ z. get_or z.successors k []) m.rest

  unused_op : HasNoUses (operands_of u op) (successors_of u op)
  unused_op = l.unused op (let e = op_key in omega (arith, e))

  no_successors : successors_of v op ≡ []
  no_successors = ap (λ z. get_or z.successors op []) m.rest ∙ unused_op.no_successors

  wired_operands : length (operands_of w op) ≡ length o.operands.items
  wired_operands =
      let e : length (operands_of w op) ≡ length (operands_of v op) = ap (λ z. length (get_or z.operands op [])) n.rest in
      let f : length (operands_of u op) ≡ 0 = ap length unused_op.no_operands in
      let g = m.total in
      let h = ap length os in omega (arith, e, f, g, h)

  wired_successors : length (successors_of w op) ≡ length o.successors.items
  wired_successors =
      let f : length (successors_of v op) ≡ 0 = ap length no_successors in
      let g = n.total in
      let h = ap length ss in omega (arith, f, g, h)

  wired_op : HasUsesAs (operands_of w op) (successors_of w op) base o
  wired_op = record {
    operand_count = wired_operands;
    successor_count = wired_successors;
    named = λ b i. ⊎_elim
        (λ old. absurd (subst (In b) no_successors old))
        (λ new. (new.0, subst (In new.0) ss new.1, range-read built.blocks.items base new.0 b l.blocks (slice_get_within built.blocks.items new.0 b new.2) (sym (get_or_from_slice_get built.blocks.items new.0 b b new.2))))
        (n.named b i);
  }

  used_now : (j : ℕ) (p : OperationText) → slice_get s.operations.items j ≡ Some p → j < number + 1 → HasUsesAs (operands_of w (root + 1 + j)) (successors_of w (root + 1 + j)) base p
  used_now j p f lt = ⊎_elim
      (λ e.
      let same : o ≡ p = some_is (sym at ∙ ap (slice_get s.operations.items) (sym e) ∙ f) in
      let k : op ≡ root + 1 + j = op_key ∙ ap (λ z. root + 1 + z) (sym e) in
      subst (λ z. HasUsesAs (operands_of w z) (successors_of w z) base p) k (subst (HasUsesAs (operands_of w op) (successors_of w op) base) same wired_op))
      (λ ne.
      let other : root + 1 + j ≢ op = (λ e. ne (let g = op_key in omega (arith, e, g))) in
      subst (λ z. HasUsesAs z (successors_of w (root + 1 + j)) base p) (sym (same_operands (root + 1 + j) other))
      (subst (λ z. HasUsesAs (operands_of u (root + 1 + j)) z base p) (sym (same_successors (root + 1 + j) other)) (l.used j p f (omega (arith, lt, ne)))))
      (cases_eq j number)

  still_unused : (k : ℕ) → k ≢ op → HasNoUses (operands_of u k) (successors_of u k) → HasNoUses (operands_of w k) (successors_of w k)
  still_unused k ne h = unused-same (operands_of u k) (operands_of w k) (successors_of u k) (successors_of w k) (same_operands k ne) (same_successors k ne) h

  pub wired-operation : IsLaid s root base (number + 1) 0 w built
  wired-operation = record {
    whole = whole-same (row_of u root) (row_of w root) s.root (ap (λ z. get_or z root no_entry) same_rows) l.whole;
    operations = l.operations;
    operation_count = ap length same_rows ∙ l.operation_count;
    blocks = l.blocks;
    block_count = ap length same_bodies ∙ l.block_count;
    made = λ j p f lt. let k : ℕ = root + 1 + j in made-same (row_of u k) (row_of w k) (parent_of u k) (parent_of w k) base p (ap (λ z. get_or z k no_entry) same_rows) (ap (λ z. get_or z k None) same_parents) (l.made j p f lt);
    placed = λ j b f lt. let old = l.placed j b f lt in (old.0, old.1, ap (λ z. get_or z (base + j) None) same_block_parents ∙ old.2);
    last = λ j p f lt alone. ap (λ z. last_of None (get_or z (base + p.block) [])) same_bodies ∙ l.last j p f lt alone;
    used = used_now;
    root_operands = ap length (same_operands root (λ e. let f = op_key in omega (arith, e, f))) ∙ l.root_operands;
    root_successors = same_successors root (λ e. let f = op_key in omega (arith, e, f)) ∙ l.root_successors;
    unused = λ k le. still_unused k (λ e. let f = op_key in omega (arith, e, f, le)) (l.unused k (omega (arith, le)));
  }

-- the root gets its operands
module _ (s : Syntax) (u v : Tree) (built : BuiltTree) (root base wired passed : ℕ) (m : HasMoreOperands u v root passed) (l : IsLaid s root base wired 0 u built) where
  root_other : (n : ℕ) → root + 1 + n ≢ root
  root_other n e = omega (arith, e)

  kept_operands : (k : ℕ) → k ≢ root → operands_of v k ≡ operands_of u k
  kept_operands k ne = m.others k ne

  kept_successors : (k : ℕ) → successors_of v k ≡ successors_of u k
  kept_successors k = ap (λ z. get_or z.successors k []) m.rest

  pub wired-root : IsLaid s root base wired passed v built
  wired-root = record {
    whole = whole-same (row_of u root) (row_of v root) s.root (ap (λ z. get_or z.operations root no_entry) m.rest) l.whole;
    operations = l.operations;
    operation_count = ap (λ z. length z.operations) m.rest ∙ l.operation_count;
    blocks = l.blocks;
    block_count = ap (λ z. length z.bodies) m.rest ∙ l.block_count;
    made = λ j p f lt. let k : ℕ = root + 1 + j in made-same (row_of u k) (row_of v k) (parent_of u k) (parent_of v k) base p (ap (λ z. get_or z.operations k no_entry) m.rest) (ap (λ z. get_or z.parents k None) m.rest) (l.made j p f lt);
    placed = λ j b f lt. let old = l.placed j b f lt in (old.0, old.1, ap (λ z. get_or z.block_parents (base + j) None) m.rest ∙ old.2);
    last = λ j p f lt alone. ap (λ z. last_of None (get_or z.bodies (base + p.block) [])) m.rest ∙ l.last j p f lt alone;
    used = λ j p f lt. subst (λ z. HasUsesAs z (successors_of v (root + 1 + j)) base p) (sym (kept_operands (root + 1 + j) (root_other j))) (subst (λ z. HasUsesAs (operands_of u (root + 1 + j)) z base p) (sym (kept_successors (root + 1 + j))) (l.used j p f lt));
    root_operands = let e = m.total in let f = l.root_operands in omega (arith, e, f);
    root_successors = kept_successors root ∙ l.root_successors;
    unused = λ k le. unused-same (operands_of u k) (operands_of v k) (successors_of u k) (successors_of v k) (kept_operands k (λ e. omega (arith, e, le))) (kept_successors k) (l.unused k le);
  }
