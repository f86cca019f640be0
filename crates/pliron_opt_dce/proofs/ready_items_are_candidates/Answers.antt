use Rattle.pliron_opt_dce.proofs.Progress.{step}
use Rattle.pliron_opt_dce.proofs.Pending.{ready_before}
use Rattle.pliron_opt_dce.proofs.ready_items_are_candidates.Goals as goal

pub returns : goal.returns
returns g c t t' root x used items w w' linked ready goes noted revisited =
    let d = g.met.D.Dialect in
    let s = step _ _ _ _ d.forwards_operands (λ h h' s. s.branch) d.keeps_counts g.D.SideEffects.side_effects d.gives_at_once g.D.BlockArgRemoval.removable d.acts_without_argument t t' root x w w' linked ready goes in
    ready_before g.D.HasMeaning.meaning g.D.SideEffects.side_effects g.D.BlockArgRemoval.removable t t' root w w' s.thins used noted items revisited
