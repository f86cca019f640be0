-- The shape of an operation, as its counts are read.
use Rattle.std.proofs.Common.{◌≡◌, ℕ, Bool, List, length, map, Option, Some, ap, ap₂, ◌∙◌}
use Rattle.std.specs.Option.{option_map}
use Rattle.pliron_core.specs.Tree.{Tree, operands_of, results_of, successors_of, regions_of}
use Rattle.pliron_core.specs.declared.attrs.Head.{Head}
use Rattle.pliron_laws.specs.Datum.{Shape, Meaning}
use Rattle.pliron_laws.specs.Tree.{Operation, op_at, shape_of, unless, entry_block, block_at, count_arguments}
use Rattle.pliron_laws.specs.Answers.{ReadsHead, ReadsShape}
use Rattle.pliron_laws.proofs.Records.{op_shows}
use Rattle.pliron_laws.proofs.ShapeLemmas.{head_at}
use Rattle.pliron_role_runs.specs.declared.counts.Counts.{Counts}
use Rattle.pliron_role_runs.specs.RoleRuns.{shape_by}

pub targets_read : (m : Meaning) (t : Tree) (op : ℕ) (b : Bool) (x : Option (List ℕ)) → ReadsHead m.is_branch t op b → x ≡ unless b (map (λ k. count_arguments (block_at t k)) (successors_of t op)) → ReadsShape m (λ s. s.target_arguments) t op x
unfolding shape_of
targets_read m t op b x r e = λ o at. e ∙ ap₂ unless (r o.head (head_at t op o at)) (ap (map (λ k. count_arguments (block_at t k))) (op_shows t op o at).successors)

abbrev built : Head → ℕ → ℕ → ℕ → List ℕ → Option (List ℕ) → Shape
built h a b c entries targets = record { head = h; operands = a; results = b; successors = c; entry_arguments = entries; target_arguments = targets }

pub shape_read : (m : Meaning) (t : Tree) (op : ℕ) (c : Counts) → c.operands ≡ length (operands_of t op) → c.results ≡ length (results_of t op) → c.successors ≡ length (successors_of t op) → c.entry_arguments.items ≡ map (λ r. count_arguments (entry_block t r)) (regions_of t op) → ReadsShape m (λ s. s.target_arguments) t op (option_map (λ each. each.items) c.target_arguments) → (o : Operation) → op_at t op ≡ Some o → shape_by o.head c ≡ shape_of m t o
unfolding shape_of
shape_read m t op c operands results successors entries targets o at =
    let shown = op_shows t op o at in
    let each : Option (List ℕ) = option_map (λ each. each.items) c.target_arguments in
    let inside : List ℕ = c.entry_arguments.items in
    let counted : ℕ → ℕ = λ r. count_arguments (entry_block t r) in
    ap (λ z. built o.head z c.results c.successors inside each) (operands ∙ ap length shown.operands)
    ∙ ap (λ z. built o.head (length o.operands) z c.successors inside each) (results ∙ ap length shown.results)
    ∙ ap (λ z. built o.head (length o.operands) (length o.results) z inside each) (successors ∙ ap length shown.successors)
    ∙ ap (λ z. built o.head (length o.operands) (length o.results) (length o.successors) z each) (entries ∙ ap (map counted) shown.regions)
    ∙ ap (built o.head (length o.operands) (length o.results) (length o.successors) (map counted o.regions)) (targets o at)
