-- Lemmas for the crates above, over plain lists: what `AreAgreed` says of the targets that users
-- name, and of those that no user names.
use Rattle.std.proofs.Common.{◌≡◌, ℕ, zero, ◌<◌, List, [], ◌∷◌, length, get_or, Some, refl, sym, ap, ◌∙◌}
use Rattle.std.specs.List.{slice_get}
use Rattle.pliron_core.specs.declared.uses.Use.{Use}
use Rattle.pliron_core.specs.Uses.{AreAgreed}
use Rattle.pliron_core.specs.Lists.{In}
use Rattle.pliron_core.proofs.MemberLemmas.{in_slice, in_at}
use Rattle.pliron_core.proofs.TableLemmas.{at-within}

-- a target without uses is named by no user
pub unnamed_from-no_uses : (targets : List (List ℕ)) (uses : List (List Use)) (target : ℕ) → AreAgreed targets uses → get_or uses target [] ≡ [] → (user : ℕ) → In target (get_or targets user []) → ⊥
unnamed_from-no_uses targets uses target agreed none user is =
    let place = in_at (get_or targets user []) target is in
    let listed = agreed.complete user place.0 target place.1 in
    let there : slice_get [] listed.0 ≡ Some (let u : Use = record { user = user; place = place.0 } in u) = ap (λ l. slice_get l listed.0) (sym none) ∙ listed.1 in
    absurd (cc)

-- a target that no user names is without uses
pub no_uses_from-unnamed : (targets : List (List ℕ)) (uses : List (List Use)) (target : ℕ) → AreAgreed targets uses → ((user : ℕ) → In target (get_or targets user []) → ⊥) → get_or uses target [] ≡ []
no_uses_from-unnamed targets uses target agreed unnamed = none (get_or uses target []) refl
  where
    none : (list : List Use) → get_or uses target [] ≡ list → list ≡ []
    none [] is = refl
    none (u ∷ us) is =
        let first : slice_get (get_or uses target []) zero ≡ Some u = ap (λ l. slice_get l zero) is in
        absurd (unnamed u.user (in_slice (get_or targets u.user []) u.place target (agreed.listed target zero u first)))

-- what a user names is a target
pub named-within : (targets : List (List ℕ)) (uses : List (List Use)) (user target : ℕ) → AreAgreed targets uses → In target (get_or targets user []) → target < length uses
named-within targets uses user target agreed is =
    let place = in_at (get_or targets user []) target is in
    let listed = agreed.complete user place.0 target place.1 in
    at-within uses target listed.0 _ listed.1

-- the user of a use is one, and names the target
pub user-within : (targets : List (List ℕ)) (uses : List (List Use)) (target i : ℕ) (u : Use) → AreAgreed targets uses → slice_get (get_or uses target []) i ≡ Some u → (u.user < length targets) × In target (get_or targets u.user [])
user-within targets uses target i u agreed there =
    let named = agreed.listed target i u there in
    (at-within targets u.user u.place target named, in_slice (get_or targets u.user []) u.place target named)
