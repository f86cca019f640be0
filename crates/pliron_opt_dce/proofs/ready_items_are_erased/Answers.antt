use Rattle.pliron_opt_dce.proofs.Progress.{on_the_way, one_more, at_the_end}
use Rattle.pliron_opt_dce.proofs.ready_items_are_erased.Goals as goal

pub returns : goal.returns
returns g c =
    let d = g.met.D.Dialect in
    record {
      start = on_the_way _ _ _ _ d.forwards_operands (λ h h' s. s.branch) d.keeps_counts g.D.SideEffects.side_effects d.gives_at_once g.D.BlockArgRemoval.removable d.acts_without_argument;
      more = one_more _ _ _ _ d.forwards_operands (λ h h' s. s.branch) d.keeps_counts g.D.SideEffects.side_effects d.gives_at_once g.D.BlockArgRemoval.removable d.acts_without_argument;
      done = at_the_end _ _ _ _ d.forwards_operands (λ h h' s. s.branch) d.keeps_counts g.D.SideEffects.side_effects d.gives_at_once g.D.BlockArgRemoval.removable d.acts_without_argument;
    }
