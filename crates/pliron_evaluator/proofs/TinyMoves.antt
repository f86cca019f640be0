-- The moves of the small dialect, as the evaluator makes them.
use Rattle.std.proofs.Common.{◌≡◌, ℕ, List, [], ◌∷◌, map, Option, Some, None, Result, Ok, Err, refl, sym, ap, ◌∙◌}
use Rattle.std.specs.Prelude.{slice_index_or}
use Rattle.std.specs.Result.{IfOk}
use Rattle.pliron_core.specs.Tree.{Tree, head_of, regions_of}
use Rattle.pliron_evaluator.specs.declared.tiny.TinyKind.{TinyKind}
use Rattle.pliron_evaluator.specs.declared.tiny.TinyKind.TheVariants.{Const, Ask, Scope, Br, Both, Twice}
use Rattle.pliron_laws.specs.Datum.{Datum, Head, Give, Goto, Trap, datum_of as content_of}
use Rattle.pliron_laws.specs.Tree.{Operation, op_at, shape_of, entry_block, count_arguments}
use Rattle.pliron_evaluator.specs.Tiny.{tiny, tiny_kind_of, tiny_act_of, ask_move, scope_move, both_move, twice_move, has_begun, first_attribute, first_count}
use Rattle.pliron_evaluator.specs.declared.evaluator.values.Datum.{Datum as DatumValue}
use Rattle.pliron_evaluator.specs.declared.evaluator.values.Move.{Move as MoveValue}
use Rattle.pliron_evaluator.specs.Evaluator.{datum_of_value, move_of}
use Rattle.pliron_laws.proofs.Records.{op_shows}
use Rattle.pliron_laws.proofs.ShapeLemmas.{head_at}

first_index : (ns : List ℕ) → slice_index_or ns 0 0 ≡ first_count ns
first_index [] = refl
first_index (n ∷ ns) = refl

module _ (t : Tree) (op : ℕ) (h : Head) (liveness : head_of t op ≡ Some h) (memo : Datum) (input : List Datum) where
  same_head : (o : Operation) → op_at t op ≡ Some o → h ≡ o.head
  same_head o at = let same : Some h ≡ Some o.head = sym liveness ∙ head_at t op o at in cc

  acts : (k : Option TinyKind) → tiny_kind_of h.kind ≡ k → (o : Operation) → op_at t op ≡ Some o → tiny_act_of k (shape_of tiny t o) memo input ≡ tiny.act (shape_of tiny t o) memo input
  unfolding tiny shape_of
  acts k e o at = ap (λ z. tiny_act_of z (shape_of tiny t o) memo input) (sym e ∙ ap (λ z. tiny_kind_of z.kind) (same_head o at))

  pub const_moves : (d : DatumValue) (ds : List DatumValue) → tiny_kind_of h.kind ≡ Some Const → datum_of_value d ≡ content_of (first_attribute h.attrs) → ds ≡ d ∷ [] → (o : Operation) → op_at t op ≡ Some o → Give (map datum_of_value ds) ≡ tiny.act (shape_of tiny t o) memo input
  unfolding shape_of
  const_moves d ds e f g o at =
      ap (λ z. Give (map datum_of_value z)) g ∙ ap (λ z. Give (z ∷ [])) f ∙ ap (λ z. Give (content_of (first_attribute z.attrs) ∷ [])) (same_head o at) ∙ acts (Some Const) e o at

  pub ask_moves : {E : Type 0} (r : Result MoveValue E) → tiny_kind_of h.kind ≡ Some Ask → IfOk r (λ n. move_of n ≡ ask_move (has_begun memo) input) → IfOk r (λ n. (o : Operation) → op_at t op ≡ Some o → move_of n ≡ tiny.act (shape_of tiny t o) memo input)
  ask_moves (Ok n) e g = λ o at. g ∙ acts (Some Ask) e o at
  ask_moves (Err z) e g = g

  entries : (o : Operation) → op_at t op ≡ Some o → map (λ r. count_arguments (entry_block t r)) (regions_of t op) ≡ (shape_of tiny t o).entry_arguments
  unfolding shape_of
  entries o at = ap (map (λ r. count_arguments (entry_block t r))) (op_shows t op o at).regions

  pub scope_moves : {E : Type 0} (r : Result MoveValue E) (count : ℕ) → tiny_kind_of h.kind ≡ Some Scope → count ≡ slice_index_or (map (λ r. count_arguments (entry_block t r)) (regions_of t op)) 0 0 → IfOk r (λ n. move_of n ≡ scope_move (has_begun memo) count input) → IfOk r (λ n. (o : Operation) → op_at t op ≡ Some o → move_of n ≡ tiny.act (shape_of tiny t o) memo input)
  scope_moves (Ok n) count e f g = λ o at. g ∙ ap (λ z. scope_move (has_begun memo) z input) (f ∙ ap (λ z. slice_index_or z 0 0) (entries o at) ∙ first_index (shape_of tiny t o).entry_arguments) ∙ acts (Some Scope) e o at
  scope_moves (Err z) count e f g = g

  pub both_moves : {E : Type 0} (r : Result MoveValue E) → tiny_kind_of h.kind ≡ Some Both → IfOk r (λ n. move_of n ≡ both_move memo (map (λ r. count_arguments (entry_block t r)) (regions_of t op)) input) → IfOk r (λ n. (o : Operation) → op_at t op ≡ Some o → move_of n ≡ tiny.act (shape_of tiny t o) memo input)
  both_moves (Ok n) e g = λ o at. g ∙ ap (λ z. both_move memo z input) (entries o at) ∙ acts (Some Both) e o at
  both_moves (Err z) e g = g

  pub twice_moves : {E : Type 0} (r : Result MoveValue E) → tiny_kind_of h.kind ≡ Some Twice → IfOk r (λ n. move_of n ≡ twice_move memo (map (λ r. count_arguments (entry_block t r)) (regions_of t op)) input) → IfOk r (λ n. (o : Operation) → op_at t op ≡ Some o → move_of n ≡ tiny.act (shape_of tiny t o) memo input)
  twice_moves (Ok n) e g = λ o at. g ∙ ap (λ z. twice_move memo z input) (entries o at) ∙ acts (Some Twice) e o at
  twice_moves (Err z) e g = g

  pub br_moves : tiny_kind_of h.kind ≡ Some Br → (o : Operation) → op_at t op ≡ Some o → Goto 0 input ≡ tiny.act (shape_of tiny t o) memo input
  br_moves e o at = acts (Some Br) e o at

  pub other_traps : tiny_kind_of h.kind ≡ None → (o : Operation) → op_at t op ≡ Some o → Trap ≡ tiny.act (shape_of tiny t o) memo input
  other_traps e o at = acts None e o at
