-- What linked runs of the worked program show, computed.
use Rattle.std.proofs.Common.{◌≡◌, [], ◌∷◌, refl}
use Rattle.pliron_laws.specs.Machine.{Ended, Reached, step}
use Rattle.pliron_laws.specs.States.{environment_with}
use Rattle.pliron_laws.specs.Tree.{op_at, block_at, region_at, shape_of}
use Rattle.pliron_dialect.specs.Roles.{chain_of, meaning_by}
use Rattle.pliron_pass_linked.specs.LinkedRuns.{Answer, linked_step}
use Rattle.pliron_dialect_calls_tests.specs.Program.{seen, both_names, no_names, caller, inlined, number, twice, call_effect}

pub call_inside : seen both_names caller (number 4) [] ≡ Reached (call_effect 2 (twice (number 4)) ∷ [])
unfolding linked_step step environment_with op_at block_at region_at shape_of meaning_by
call_inside = refl

pub call_answered : seen both_names caller (number 4) (Answer (chain_of (number 9 ∷ [])) ∷ []) ≡ Ended (twice (number 4) ∷ number 9 ∷ []) (call_effect 2 (twice (number 4)) ∷ [])
unfolding linked_step step environment_with op_at block_at region_at shape_of meaning_by
call_answered = refl

pub call_unlinked : seen no_names caller (number 4) [] ≡ Reached (call_effect 1 (number 4) ∷ [])
unfolding linked_step step environment_with op_at block_at region_at shape_of meaning_by
call_unlinked = refl

pub inlined_inside : seen both_names inlined (number 4) [] ≡ Reached (call_effect 2 (twice (number 4)) ∷ [])
unfolding linked_step step environment_with op_at block_at region_at shape_of meaning_by
inlined_inside = refl

pub inlined_answered : seen both_names inlined (number 4) (Answer (chain_of (number 9 ∷ [])) ∷ []) ≡ Ended (twice (number 4) ∷ number 9 ∷ []) (call_effect 2 (twice (number 4)) ∷ [])
unfolding linked_step step environment_with op_at block_at region_at shape_of meaning_by
inlined_answered = refl
