use Rattle.std.proofs.Common.{◌∷◌, [], subst, sym}
use Rattle.pliron_opt_sccp.specs.Constraints.{CanSatisfy}
use Rattle.pliron_opt_sccp.specs.Lowering.{IsApplied}
use Rattle.pliron_opt_sccp.specs.LatticeTables.{known_constants}
use Rattle.pliron_opt_sccp.proofs.Applied.{enter_applied, lower_applied, answer_applied}
use Rattle.pliron_opt_sccp.proofs.Stamps.{kept_fallen}
use Rattle.pliron_opt_sccp.proofs.constraints.satisfy.Goals as goal

pub mark_executable-requires : goal.mark_executable-requires
mark_executable-requires c = (subst (λ z. CanSatisfy c.args.tables.now (z ∷ [])) c.in-Enter.is c.requires).0

pub lower-requires : goal.lower-requires
lower-requires c = let m = (subst (λ z. CanSatisfy c.args.tables.now (z ∷ [])) c.in-Lower.is c.requires).0 in (m.0, m.1)

pub returns-in-Enter-clause-applied : goal.returns-in-Enter-clause-applied
returns-in-Enter-clause-applied c =
    let s = c.args.tables.now in
    subst (λ z. IsApplied (known_constants s) (z ∷ []) s c.mark_executable.new.self) (sym c.in-Enter.is) (enter_applied c.in-Enter.block s c.mark_executable.new.self c.mark_executable.ensures (known_constants s))

pub returns-in-Lower-clause-applied : goal.returns-in-Lower-clause-applied
returns-in-Lower-clause-applied c =
    let s = c.args.tables.now in
    let m = (subst (λ z. CanSatisfy s (z ∷ [])) c.in-Lower.is c.requires).0 in
    subst (λ z. IsApplied (known_constants s) (z ∷ []) s c.lower.new.self) (sym c.in-Lower.is) (lower_applied c.in-Lower.value m.0 s c.lower.new.self (c.lower.ensures m.0 m.1) (known_constants s) c.in-Lower.cell m.1)

pub returns-in-Answer-clause-applied : goal.returns-in-Answer-clause-applied
returns-in-Answer-clause-applied c =
    let s = c.args.tables.now in
    subst (λ z. IsApplied (known_constants s) (z ∷ []) s c.answer.new.self) (sym c.in-Answer.is) (answer_applied c.in-Answer.value c.in-Answer.attr s c.answer.new.self c.answer.ensures (known_constants s))

pub returns-in-Enter-clause-stamped : goal.returns-in-Enter-clause-stamped
returns-in-Enter-clause-stamped c = kept_fallen c.args.tables.now c.mark_executable.new.self c.mark_executable.ensures.facts c.mark_executable.ensures.stamps

pub returns-in-Lower-clause-stamped : goal.returns-in-Lower-clause-stamped
returns-in-Lower-clause-stamped c = let m = (subst (λ z. CanSatisfy c.args.tables.now (z ∷ [])) c.in-Lower.is c.requires).0 in (c.lower.ensures m.0 m.1).stamps

pub returns-in-Answer-clause-stamped : goal.returns-in-Answer-clause-stamped
returns-in-Answer-clause-stamped c = c.answer.ensures.stamps
