-- What closed facts say is what every run reads.
use Rattle.std.proofs.Common.{inl, inr, Some, slice_get, ap, ◌∙◌}
use Rattle.pliron_core.specs.Tree.{results_of}
use Rattle.pliron_core.proofs.HoldingLemmas.{in_slice}
use Rattle.pliron_laws.specs.Folding.{AnswersTrue, AnswersJumps}
use Rattle.pliron_laws.proofs.Records.{op_shows}
use Rattle.pliron_theory.proofs.SoundRuns.{PassesForwarded, NamesWell}
use Rattle.pliron_theory.specs.LatticeValues.{Says}
use Rattle.pliron_theory.specs.Sound.{read_of, ClosedFactsLaw}
use Rattle.pliron_theory.proofs.SoundEverywhere.{sound_facts}
use Rattle.pliron_theory.proofs.ClosedSound.{read_fold, read_argument, closed_sound}

pub closed_facts : (says : Says) → AnswersTrue says.meaning says.can_fold says.constants → AnswersJumps says.meaning says.can_fold_branch says.feasible → PassesForwarded says.meaning → NamesWell says → ClosedFactsLaw says
closed_facts says answers branches passes names = record {
  results = λ t root f w closed held k i v c o liveness at folds listed said.
      let there = ap (λ z. slice_get z i) (op_shows t k o at).results ∙ listed in
      sound_facts says answers branches passes names t root f (read_of says t f) w (closed_sound says t root f w closed held) v c (inl (k, liveness, in_slice (results_of t k) i v there)) (read_fold says t f k i v o (Some c) (w.joined.results k i v there) liveness at folds listed said);
  arguments = λ t root f w closed held b v c reached i is.
      sound_facts says answers branches passes names t root f (read_of says t f) w (closed_sound says t root f w closed held) v c (inr (b, reached, i)) (read_argument says t root f w closed held b v i ∙ is);
}
