-- What linked runs of the worked program show, computed.
use Rattle.std.proofs.Common.{◌≡◌, [], ◌∷◌, refl}
use Rattle.pliron_laws.specs.Datum.{Join}
use Rattle.pliron_laws.specs.Machine.{Ended, Trapped, Reached, step}
use Rattle.pliron_laws.specs.States.{environment_with}
use Rattle.pliron_laws.specs.Tree.{op_at, block_at, region_at, shape_of}
use Rattle.pliron_pass_linked.specs.LinkedRuns.{Answer, Callback, linked_step}
use Rattle.pliron_rules_tests.specs.Worked.{seen, all_names, even_alone, number, even, odd, asked}

pub even_number : seen all_names 0 (number 4) [] ≡ Ended (number 1 ∷ []) []
unfolding linked_step step environment_with op_at block_at region_at shape_of
even_number = refl

pub odd_number : seen all_names 0 (number 3) [] ≡ Ended (number 0 ∷ []) []
unfolding linked_step step environment_with op_at block_at region_at shape_of
odd_number = refl

pub world_answers : seen all_names 2 (number 5) (Answer (number 7) ∷ []) ≡ Ended (number 7 ∷ []) (asked 5 ∷ [])
unfolding linked_step step environment_with op_at block_at region_at shape_of
world_answers = refl

pub world_calls_back : seen all_names 2 (number 5) (Callback 2 even (number 2 ∷ []) ∷ Answer (number 7) ∷ []) ≡ Ended (number 7 ∷ []) (number 1 ∷ asked 5 ∷ [])
unfolding linked_step step environment_with op_at block_at region_at shape_of
world_calls_back = refl

pub world_is_silent : seen all_names 2 (number 5) (Callback 2 even (number 2 ∷ []) ∷ []) ≡ Reached (number 1 ∷ asked 5 ∷ [])
unfolding linked_step step environment_with op_at block_at region_at shape_of
world_is_silent = refl

pub unknown_call : seen even_alone 0 (number 4) [] ≡ Reached (Join odd (number 3) ∷ [])
unfolding linked_step step environment_with op_at block_at region_at shape_of
unknown_call = refl

pub unknown_answer : seen even_alone 0 (number 4) (Answer (number 1) ∷ []) ≡ Ended (number 1 ∷ []) (Join odd (number 3) ∷ [])
unfolding linked_step step environment_with op_at block_at region_at shape_of
unknown_answer = refl

pub unknown_callback : seen even_alone 2 (number 5) (Callback 2 odd [] ∷ []) ≡ Trapped (asked 5 ∷ [])
unfolding linked_step step environment_with op_at block_at region_at shape_of
unknown_callback = refl
