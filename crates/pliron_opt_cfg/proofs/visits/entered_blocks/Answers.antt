use Rattle.std.proofs.Common.{◌↔◌, ℕ, IfOk, sym, ◌∙◌, subst}
use Rattle.pliron_core.specs.Tree.{In}
use Rattle.pliron_opt_cfg.specs.Visited.{IsVisitedBlockIf}
use Rattle.pliron_opt_cfg.proofs.visits.entered_blocks.Goals as goal

pub returns-then-has_ssa_dominance-clause-entered : goal.returns-then-has_ssa_dominance-clause-entered
returns-then-has_ssa_dominance-clause-entered c = subst (λ z. IfOk c.reached_blocks.result (λ r. (b : ℕ) → In b r.items ↔ IsVisitedBlockIf z c.args.ctx.now.tree c.args.region b)) (sym (sym c.has_ssa_dominance.ensures ∙ c.if-has_ssa_dominance.true)) c.reached_blocks.ensures.reached
