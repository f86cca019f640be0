use Rattle.std.proofs.Common.{◌≡◌, ◌++◌, take, IsTrue}
use Rattle.std.specs.List.{flat_map}
use Rattle.pliron_core.specs.Tree.{regions_of, body_of}
use Rattle.pliron_opt_cfg.specs.Internal.Seen.{HasGrown, blocks_postponed}
use Rattle.pliron_opt_cfg.proofs.visits.enter.Given as goal

abbrev pub invariant-loop-block : goal.invariant-loop-block
invariant-loop-block l = record {
  grown : HasGrown (flat_map (λ b. flat_map (λ k. regions_of l.ctx.tree k) (body_of l.ctx.tree b)) (take l.block-index l.entered)) l.fn.worklist.seen.keys l.fn.worklist.waiting.items l.worklist.seen.keys l.worklist.waiting.items;
  listed : IsTrue l.listed → blocks_postponed l.postponed.items ≡ blocks_postponed l.fn.postponed.items ++ take l.block-index l.entered;
  other : (IsTrue l.listed → ⊥) → l.postponed.items ≡ l.fn.postponed.items;
}
