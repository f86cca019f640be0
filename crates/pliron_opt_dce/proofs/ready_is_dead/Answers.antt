use Rattle.pliron_opt_dce.proofs.ReadyLemmas.{ready_dead, no_dead}
use Rattle.pliron_opt_dce.proofs.ready_is_dead.Goals as goal

pub returns : goal.returns
returns g c = record {
  dead = λ t root x r. ready_dead g.D.HasMeaning.meaning g.D.SideEffects.side_effects g.D.BlockArgRemoval.removable t root x r;
  none = λ t root never k d. no_dead g.D.HasMeaning.meaning g.D.SideEffects.side_effects g.D.BlockArgRemoval.removable t root never d;
  no_argument = λ t root never v d. no_dead g.D.HasMeaning.meaning g.D.SideEffects.side_effects g.D.BlockArgRemoval.removable t root never d;
}
