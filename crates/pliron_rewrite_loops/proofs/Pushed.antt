-- Runs are kept where uses of a value become uses of its argument.
use Rattle.std.proofs.Common.{◌≡◌, ◌≢◌, ⊎_elim, ℕ, length, if◌then◌else◌, sym, ap, subst}
use Rattle.std.proofs.lemmas.Bool.{cases_eq, ne_eqb}
use Rattle.pliron_core.specs.Tree.{Tree, In, operands_of}
use Rattle.pliron_core.specs.Uses.{replace_target}
use Rattle.pliron_core.specs.Writes.{after_replacing}
use Rattle.pliron_laws.specs.Datum.{Meaning}
use Rattle.pliron_theory.specs.Keeps.{IsFit, KeepsRuns, with_roots}
use Rattle.pliron_theory.specs.Renaming.{IsRenamed, MayUse}
use Rattle.pliron_theory.proofs.ReplacedKeeps.{replaced_renamed}
use Rattle.pliron_rewrite_copies.proofs.RenamedBack.{renamed_back}
use Rattle.pliron_rewrite_arguments.specs.ArgumentLaws.{OneValueLaw}
use Rattle.pliron_rewrite_loops.specs.Pushing.{PushingLaw}

-- runs are kept where what was replaced comes back
replaced_back : (m : Meaning) (t u : Tree) (old new : ℕ) → t ≡ after_replacing u old new → KeepsRuns m u t → ((root : ℕ) → IsFit m t root → (k : ℕ) → In old (operands_of u k) → MayUse u root k old) → KeepsRuns m t u
replaced_back m t u old new is kept may = renamed_back m t u (replace_target old new) renamed (ap (λ z. length z.operations) is) kept uses
  where
    renamed : IsRenamed u t (replace_target old new)
    renamed = subst (λ z. IsRenamed u z (replace_target old new)) (sym is) (replaced_renamed u old new)

    uses : (root : ℕ) → IsFit m t root → (k x : ℕ) → In x (operands_of u k) → replace_target old new x ≢ x → MayUse u root k x
    uses root f k x i moved = ⊎_elim
        (λ e. subst (λ z. MayUse u root k z) (sym e) (may root f k (subst (λ z. In z (operands_of u k)) e i)))
        (λ ne. absurd (moved (ap (λ b. if b then new else x) (ne_eqb x old ne))))
        (cases_eq x old)

pub pushed_keeps : (m : Meaning) → OneValueLaw m → PushingLaw m
pushed_keeps m law chosen t u block index v w h is may =
    let back : KeepsRuns (with_roots m chosen) u t = subst (λ z. KeepsRuns (with_roots m chosen) u z) (sym is) (law u block index v w h chosen) in
    (replaced_back (with_roots m chosen) t u h.argument v is back may, back)
