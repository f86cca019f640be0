-- What stands where an operation that ends its block leads elsewhere.
use Rattle.std.proofs.Common.{◌≡◌, ◌≢◌, inl, ℕ, suc, List, [], ◌∷◌, ◌++◌, length, Some, None, IsSome, is_some, slice_get, refl, sym, ap, ◌∙◌, subst, arith}
use Rattle.pliron_core.specs.declared.attrs.Head.{Head}
use Rattle.pliron_core.specs.declared.context.Def.{Def}
use Rattle.pliron_core.specs.declared.context.Def.TheVariants.{Result, Argument}
use Rattle.pliron_core.specs.Changes.{IsInsideChange}
use Rattle.pliron_core.specs.Invariant.{IsTree}
use Rattle.pliron_core.specs.Tree.{Tree, In, IsLive, IsBlock, IsDefined, IsMadeBy, IsInside, row_of, head_of, operands_of, successors_of, results_of, regions_of, parent_of, body_of, arguments_of, block_parent_of, layout_of, definition_of}
use Rattle.pliron_core.proofs.HoldingLemmas.{not_none, some_of, maker_is, result_live}
use Rattle.pliron_core.proofs.InsideLemmas.{inside_trans}
use Rattle.pliron_core.proofs.ListLemmas.{In-right}
use Rattle.pliron_core.proofs.TreeLemmas.{live-within}
use Rattle.pliron_laws.specs.Replacing.{branch_replaced}
use Rattle.pliron_laws.specs.Root.{defining_block}
use Rattle.pliron_theory.specs.Rebranching.{IsRebranched}
use Rattle.pliron_theory.proofs.FoldedBranches.{rebranched}
use Rattle.pliron_theory.proofs.KeptPlaces.{inside_forth}
use Rattle.pliron_rewrite_blocks.proofs.RebranchedInside.{rebranched_inside, inside_stays}
use Rattle.pliron_opt_edges.proofs.LedTrees.{with_targets, led_places, led_at, led_other, led_tree, led_inside}
use Rattle.pliron_opt_edges.proofs.Placed.{placed, placed_long, is_placed, new_row, new_operands, new_successors, placed_any}

module _ (u : Tree) (w : IsTree u) (a op : ℕ) (head : Head) (xs front : List ℕ) (split : body_of u a ≡ front ++ op ∷ []) (childless : regions_of u op ≡ []) (no_results : results_of u op ≡ []) (he : head_of u op ≡ Some head) (blocks : (b : ℕ) → In b xs → IsBlock u b) (wv : IsTree (branch_replaced u op head (operands_of u op) xs)) where
  abbrev pub after : Tree
  after = placed u a op head (operands_of u op) xs

  abbrev pub new : ℕ
  new = length u.operations

  pub is_after : branch_replaced u op head (operands_of u op) xs ≡ after
  is_after = is_placed u a op head (operands_of u op) xs front w split childless

  live : IsLive u op
  live = ap is_some he

  pub in_a : parent_of u op ≡ Some a
  in_a = w.bodies.owned op a (subst (In op) (sym split) (In-right op front (op ∷ []) (inl refl)))

  abbrev middle : Tree
  middle = with_targets u op xs

  wm : IsTree middle
  wm = led_tree u op w live xs blocks

  pub wa : IsTree after
  wa = subst IsTree is_after wv

  from_middle : placed middle a op head (operands_of u op) xs ≡ after
  from_middle = placed_any u a op head (operands_of u op) xs front w split childless xs

  wmp : IsTree (branch_replaced middle op head (operands_of u op) xs)
  wmp = subst IsTree (sym (is_placed middle a op head (operands_of u op) xs front wm split childless ∙ from_middle)) wa

  r : IsRebranched middle after a op new front
  r = subst (λ z. IsRebranched middle z a op new front) from_middle (rebranched middle a op head (operands_of u op) xs front wm wmp split childless no_results (λ x i. i) (λ c i. subst (In c) (sym (led_at u op w live xs)) i))

  pub row_new : row_of after new ≡ record { head = Some head; results = []; regions = [] }
  row_new = new_row u a op head (operands_of u op) xs front w split childless

  pub operands_new : operands_of after new ≡ operands_of u op
  operands_new = new_operands u a op head (operands_of u op) xs front w split childless

  pub successors_new : successors_of after new ≡ xs
  successors_new = new_successors u a op head (operands_of u op) xs front w split childless

  pub rows : (k : ℕ) → k ≢ op → k ≢ new → row_of after k ≡ row_of u k
  rows = r.rows

  pub operands : (k : ℕ) → k ≢ op → k ≢ new → operands_of after k ≡ operands_of u k
  operands = r.operands

  pub successors : (k : ℕ) → k ≢ op → k ≢ new → successors_of after k ≡ successors_of u k
  successors k apart nn = r.successors k apart nn ∙ led_other u op w live xs k apart

  pub parents : (k : ℕ) → k ≢ op → k ≢ new → parent_of after k ≡ parent_of u k
  parents = r.parents

  pub put : body_of after a ≡ front ++ new ∷ []
  put = r.put

  pub parent_new : parent_of after new ≡ Some a
  parent_new = wa.bodies.owned new a (subst (In new) (sym put) (In-right new front (new ∷ []) (inl refl)))

  pub bodies : (b : ℕ) → b ≢ a → body_of after b ≡ body_of u b
  bodies = r.bodies

  pub arguments : (b : ℕ) → arguments_of after b ≡ arguments_of u b
  arguments = r.arguments

  pub block_parents : (b : ℕ) → block_parent_of after b ≡ block_parent_of u b
  block_parents = r.block_parents

  pub layouts : (q : ℕ) → layout_of after q ≡ layout_of u q
  layouts = r.layouts

  pub long : length after.operations ≡ suc (length u.operations)
  long = placed_long u a op head (operands_of u op) xs

  pub gone : head_of after op ≡ None
  gone = r.deleted

  pub not_op : (k : ℕ) → IsLive after k → k ≢ op
  not_op k l e = let y = some_of (head_of after k) l in not_none (sym gone ∙ ap (head_of after) (sym e) ∙ y.1)

  pub old_apart : (k : ℕ) → IsLive u k → k ≢ new
  old_apart k l e = let lt = live-within u k l in omega (arith, lt, e)

  pub live_before : (k : ℕ) → IsLive after k → k ≢ new → IsLive u k
  live_before k l nn = subst (λ z. IsSome z.head) (rows k (not_op k l) nn) l

  pub stays : (root k : ℕ) → IsLive after k → k ≢ new → IsInside u root k → IsInside after root k
  stays root k l nn i = inside_stays middle after a op new front wm wa r root k l nn (inside_forth (led_places u op xs) root k i)

  -- values are defined where they were
  pub home_before : (v b : ℕ) → IsDefined after v → defining_block after (definition_of after v) ≡ Some b → defining_block u (definition_of u v) ≡ Some b
  home_before v b made q = let y = maker_is after v made in go y.0 y.1 y.2
    where
      go : (d : Def) → definition_of after v ≡ Some d → IsMadeBy after v (Some d) → defining_block u (definition_of u v) ≡ Some b
      go (Result k i) e m =
          let l = result_live after wa.joined k i v m in
          let nn : k ≢ new = λ s. not_none (sym (ap (λ z. slice_get z i) (ap (results_of after) s ∙ ap (λ z. z.results) row_new)) ∙ m) in
          let no = not_op k l in
          let there : slice_get (results_of u k) i ≡ Some v = ap (λ z. slice_get z.results i) (sym (rows k no nn)) ∙ m in
          ap (defining_block u) (w.joined.results k i v there) ∙ sym (parents k no nn) ∙ sym (ap (defining_block after) e) ∙ q
      go (Argument c i) e m =
          let there : slice_get (arguments_of u c) i ≡ Some v = ap (λ z. slice_get z i) (sym (arguments c)) ∙ m in
          ap (defining_block u) (w.joined.arguments c i v there) ∙ sym (ap (defining_block after) e) ∙ q

  pub inside : (root : ℕ) → IsInside u root op → IsInsideChange u after root
  inside root i = inside_trans u middle after root (led_inside u op w live xs root i) (rebranched_inside middle after root a op new front wm wa (inside_forth (led_places u op xs) root op i) r)
