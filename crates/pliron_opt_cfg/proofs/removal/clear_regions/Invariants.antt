use Rattle.std.proofs.Common.{ℕ, vec_len}
use Rattle.pliron_opt_cfg.specs.Internal.Scopes.{IsHolder}
use Rattle.pliron_opt_cfg.specs.Internal.Cleared.{AreCleared}
use Rattle.pliron_opt_cfg.proofs.removal.clear_regions.Given as goal

abbrev pub invariant-loop-region : goal.invariant-loop-region
invariant-loop-region g l = (root : ℕ) × IsHolder l.fn.ctx.tree l.scope root × AreCleared g.D.HasMeaning.meaning l.fn.ctx.tree l.ctx.tree l.scope root l.fn.regions.items l.reached.keys l.regions.items l.status

abbrev pub decreases-loop-region : goal.decreases-loop-region
decreases-loop-region g l = vec_len l.regions
