-- Constants that are planned one after another.
use Rattle.std.proofs.Common.{append-nil, ◌≡◌, ℕ, List, [], ◌∷◌, ◌++◌, sym, ap, ◌∙◌, subst}
use Rattle.std.specs.Prelude.{Some}
use Rattle.pliron_text_llvm_sheets.specs.Constants.{constant_at, KeepsTextConstants}
use Rattle.pliron_text_llvm_plans.specs.declared.values.PlannedConstants.{PlannedConstants}
use Rattle.pliron_text_llvm_plans.specs.Values.{KeepsPlannedConstants}

pub planned_kept : (constants : PlannedConstants) → KeepsPlannedConstants constants constants
planned_kept constants = record { table = λ number constant is. is; undefined = ([], sym (append-nil constants.undefined.items)) }

-- one is made anew
pub planned_anew : (old new : PlannedConstants) (text : ℕ) → new.table ≡ old.table → new.undefined.items ≡ old.undefined.items ++ text ∷ [] → KeepsPlannedConstants old new
planned_anew old new text same grown = record {
  table = λ number constant is. subst (λ table. constant_at table number ≡ Some constant) (sym same) is;
  undefined = (text ∷ [], grown);
}

-- one is shared
pub planned_shared : (old new : PlannedConstants) → KeepsTextConstants old.table new.table → new.undefined.items ≡ old.undefined.items → KeepsPlannedConstants old new
planned_shared old new kept same = record { table = kept; undefined = ([], same ∙ sym (append-nil old.undefined.items)) }
