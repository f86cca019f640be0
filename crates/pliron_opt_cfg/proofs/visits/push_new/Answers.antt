use Rattle.std.proofs.Common.{◌≡◌, ◌+◌, ◌++◌, ◌∷◌, [], true, nat_eq, ◌&&◌, take, sym, ap, ◌∙◌}
use Rattle.std.proofs.lemmas.List.{take_more}
use Rattle.pliron_graph_traversal.proofs.InsertLemmas.{was_new, was_there}
use Rattle.pliron_opt_cfg.proofs.Growing.{grew_old, grew_new}
use Rattle.pliron_opt_cfg.proofs.Tested.{tested_in, not_tested}
use Rattle.pliron_opt_cfg.proofs.visits.push_new.Goals as goal
use Rattle.pliron_opt_cfg.proofs.visits.push_new.Goals.{then-branch+in_ok-push, else-branch}

pub loop-region-preserved : goal.loop-region-preserved
loop-region-preserved c =
    let rs = c.args.regions.now in
    let x = c.region-item.result in
    let s = c.args.worklist.now.seen.keys in
    let w = c.args.worklist.now.waiting.items in
    let more : take (c.loop-region.region-index + 1) rs ≡ take c.loop-region.region-index rs ++ x ∷ [] = take_more rs c.loop-region.region-index x c.loop-region-test.true ∙ ap (λ z. take c.loop-region.region-index rs ++ z ∷ []) (sym c.region-item.is) in
    elim c.if-branch.branch [
      | then-branch+in_ok-push v ↦
          let new = was_new (λ a b. nat_eq a b && true) c.loop-region.worklist.seen.keys c.insert.new.self.keys x _ c.in_ok-insert.ensures.added c.in_ok-insert.ensures.keys v.if-branch.true in
          rw (more, v.worklist-is, new.1, v.in_ok-push.ensures.items) (grew_new (take c.loop-region.region-index rs) s w c.loop-region.worklist.seen.keys c.loop-region.worklist.waiting.items x c.loop-region.invariant (not_tested c.loop-region.worklist.seen.keys x new.0))
      | else-branch v ↦
          let old = was_there (λ a b. nat_eq a b && true) c.loop-region.worklist.seen.keys c.insert.new.self.keys x _ c.in_ok-insert.ensures.added c.in_ok-insert.ensures.keys v.if-branch.false in
          rw (more, v.worklist-is, old.1) (grew_old (take c.loop-region.region-index rs) s w c.loop-region.worklist.seen.keys c.loop-region.worklist.waiting.items x c.loop-region.invariant (tested_in c.loop-region.worklist.seen.keys x old.0))
    ]
