-- Lemmas on a row that is written twice.
use Rattle.std.proofs.Common.{◌≡◌, ℕ, ◌<◌, List, [], length, get_or, set, sym, ap, ◌∙◌, arith}
use Rattle.std.proofs.lemmas.List.{get_or-set_same, set-set, length-set}

-- a row that was written twice
pub written_again : (before now next : List (List ℕ)) (user : ℕ) (row : List ℕ) → user < length before → now ≡ set before user (get_or now user []) → next ≡ set now user row → next ≡ set before user (get_or next user [])
written_again before now next user row h e f =
    let within : user < length now = omega (arith, h, ap length e, length-set before user (get_or now user [])) in
    let row_is : get_or next user [] ≡ row = ap (λ v. get_or v user []) f ∙ get_or-set_same now user row [] within in
    f ∙ ap (λ v. set v user row) e ∙ set-set before user (get_or now user []) row ∙ ap (set before user) (sym row_is)
