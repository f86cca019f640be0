use Rattle.pliron_theory_refinement.proofs.Paces.{agreed_refines, refinements_compose}
use Rattle.pliron_theory_refinement.proofs.Monotone.{monotone_runs, renamed_refines}
use Rattle.pliron_theory_refinement.proofs.runs_refine.Goals as goal

pub returns : goal.returns
returns c = record { agreed = λ R E m t u root p q a. agreed_refines R E p q m t u root a; transitive = λ R E m t u v root p q a b. refinements_compose R E p q m t u v root a b; monotone = monotone_runs; renamed = renamed_refines }
