-- The moves of each role, as the code makes them.
use Rattle.std.proofs.Common.{◌≡◌, ℕ, List, Option, Some, None, Result, Ok, Err, sym, ap, ◌∙◌}
use Rattle.std.specs.Result.{IfOk}
use Rattle.std.specs.Option.{option_map, IfSome}
use Rattle.pliron_core.specs.Tree.{Tree, head_of}
use Rattle.pliron_core.specs.declared.attrs.Head.{Head}
use Rattle.pliron_laws.specs.Datum.{Datum, Meaning, Move, Trap}
use Rattle.pliron_laws.specs.Tree.{Operation, op_at, shape_of}
use Rattle.pliron_laws.specs.Answers.{ReadsShape}
use Rattle.pliron_laws.proofs.ShapeLemmas.{head_at}
use Rattle.pliron_dialect.specs.Roles.{Tables, by_role, no_act, act_of, role_at, allows_at, meaning_by}
use Rattle.pliron_evaluator.specs.declared.evaluator.values.Move.{Move as MoveValue}
use Rattle.pliron_evaluator.specs.Evaluator.{move_of}
use Rattle.pliron_role_runs.specs.declared.counts.Counts.{Counts}
use Rattle.pliron_role_runs.specs.RoleRuns.{shape_by}

-- a move that is known
abbrev pub Moves : {E : Type 0} → Result (Option MoveValue) E → Move → Type 0
Moves r move = IfOk r (λ found. IfSome found (λ next. move_of next ≡ move))

-- an operation of a kind moves as its role says, and another one traps
module _ {K : Type 0} (tables : Tables K) (t : Tree) (op : ℕ) (h : Head) (liveness : head_of t op ≡ Some h) (memo : Datum) (input : List Datum) where
  abbrev m : Meaning
  m = meaning_by tables.value (role_at tables) (allows_at tables)

  same_head : (o : Operation) → op_at t op ≡ Some o → h ≡ o.head
  same_head o at = let same : Some h ≡ Some o.head = sym liveness ∙ head_at t op o at in cc

  kind_acts : (k : K) (o : Operation) → op_at t op ≡ Some o → Some k ≡ tables.kind_of h.kind → act_of tables.value (tables.role_of k) (shape_of m t o) memo input ≡ m.act (shape_of m t o) memo input
  unfolding meaning_by shape_of
  kind_acts k o at e = ap (λ z. by_role no_act (act_of tables.value) z (shape_of m t o) memo input) (ap (option_map tables.role_of) e ∙ ap (λ z. role_at tables z.kind) (same_head o at))

  pub kind_moves : {E : Type 0} (r : Result (Option MoveValue) E) (k : K) (counts : Counts) → Some k ≡ tables.kind_of h.kind → ((o : Operation) → op_at t op ≡ Some o → shape_by o.head counts ≡ shape_of m t o) → Moves r (act_of tables.value (tables.role_of k) (shape_by h counts) memo input) → IfOk r (λ found. IfSome found (λ next. ReadsShape m (λ s. m.act s memo input) t op (move_of next)))
  kind_moves (Ok (Some n)) k counts e shapes moves = λ o at.
      moves ∙ ap (λ z. act_of tables.value (tables.role_of k) (shape_by z counts) memo input) (same_head o at)
      ∙ ap (λ z. act_of tables.value (tables.role_of k) z memo input) (shapes o at) ∙ kind_acts k o at e
  kind_moves (Ok None) k counts e shapes moves = tt
  kind_moves (Err z) k counts e shapes moves = tt

  pub others_trap : None ≡ tables.kind_of h.kind → ReadsShape m (λ s. m.act s memo input) t op Trap
  unfolding meaning_by shape_of
  others_trap e = λ o at. ap (λ z. by_role no_act (act_of tables.value) z (shape_of m t o) memo input) (ap (option_map tables.role_of) e ∙ ap (λ z. role_at tables z.kind) (same_head o at))
