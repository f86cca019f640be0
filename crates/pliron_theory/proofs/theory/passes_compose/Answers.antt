use Rattle.pliron_theory.proofs.ChangeLemmas.{change_refl, change_trans, same_passes, change_widen, whole_passes, links_stay}
use Rattle.pliron_theory.proofs.theory.passes_compose.Goals as goal

pub returns : goal.returns
returns c = record {
  reflexive = change_refl;
  transitive = change_trans;
  same = same_passes;
  held = change_widen;
  whole = whole_passes;
  linked = λ m t u op root wt wu h live live_u linked. links_stay m t u op wt wu h.inside root live live_u linked h.linked;
}
