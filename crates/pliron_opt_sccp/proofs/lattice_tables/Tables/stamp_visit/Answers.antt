use Rattle.std.proofs.Common.{◌≡◌, nat_eq, Some, refl, sym, ◌∙◌, true≢false, arith}
use Rattle.std.proofs.lemmas.Bool.{eq-eqb}
use Rattle.std.proofs.lemmas.Grind.{common_steps}
use Rattle.std.specs.List.{position}
use Rattle.pliron_opt_sccp.proofs.Worklists.{same_number, stamp_there}
use Rattle.pliron_opt_sccp.proofs.lattice_tables.Tables.stamp_visit.Goals as goal

pub returns-in-Some : goal.returns-in-Some
returns-in-Some c =
    let s = c.args.self.now in
    let n = c.in-Some.n in
    let at : position (nat_eq c.args.first) s.values.keys ≡ Some n = grind (arith, common_steps) in
    record {
      facts = λ v. refl;
      reached = λ b. refl;
      blocks = λ b. refl;
      values = λ v. refl;
      numbers = λ b. refl;
      constants = refl;
      visit_stamps = λ other e. stamp_there s.visit_stamps.items n _ (position (nat_eq other) s.values.keys) (λ same. true≢false (sym (eq-eqb c.args.first other (same_number s.values.keys c.args.first other n at same)) ∙ e));
      lowered = λ v. refl;
    }
