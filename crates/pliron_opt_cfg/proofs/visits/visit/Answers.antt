use Rattle.std.proofs.Common.{rules, ◌≡◌, ◌++◌, ◌∷◌, [], ℕ, ◌↔◌, IsTrue, append_assoc, append-nil, true, true≢false, length, length-append, subst, sym, ap, inl, refl, ◌∙◌}
use Rattle.pliron_core.specs.Tree.{In}
use Rattle.pliron_core.specs.Reads.{has_ssa}
use Rattle.pliron_core.proofs.ListLemmas.{In-right}
use Rattle.pliron_graph_traversal.specs.Regions.{IsLawfulRegion}
use Rattle.pliron_opt_cfg.specs.Visited.{IsVisitedBlockIf}
use Rattle.pliron_opt_cfg.specs.Internal.Seen.{HasGrown, blocks_postponed}
use Rattle.pliron_opt_cfg.proofs.Lawful.{visited_lawful, entered_stands, seen_few, fewer_left}
use Rattle.pliron_opt_cfg.proofs.ListLemmas.{in_permuted}
use Rattle.pliron_opt_cfg.proofs.Visiting.{IsVisiting, nested_in, visiting_starts, visiting_searched, visiting_other, visiting_reordered, visits_found}
use Rattle.pliron_opt_cfg.proofs.visits.visit.Goals as goal
use Rattle.pliron_opt_cfg.proofs.visits.visit.Goals.{then-listed+in_ok-push, else-listed}

pub loop-region-init : goal.loop-region-init
loop-region-init c =
    let grew : HasGrown c.args.starts.now [] [] c.push_new.new.worklist.seen.keys c.push_new.new.worklist.waiting.items =
    subst (λ z. HasGrown c.args.starts.now [] z c.push_new.new.worklist.seen.keys c.push_new.new.worklist.waiting.items) c.new-waiting.ensures.items
    (subst (λ z. HasGrown c.args.starts.now z c.new-waiting.result.items c.push_new.new.worklist.seen.keys c.push_new.new.worklist.waiting.items) c.new-seen.ensures.empty c.in_ok-push_new.ensures.grew) in
    rw (c.new-regions.ensures.items, c.new-blocks.ensures.items, c.new-postponed.ensures.items) (visiting_starts c.args.ctx.now.tree c.args.starts.now c.push_new.new.worklist.seen.keys c.push_new.new.worklist.waiting.items grew)

pub entered_blocks-requires : goal.entered_blocks-requires
entered_blocks-requires c =
    let e : c.loop-region.worklist.waiting.items ≡ c.pop.new.self.items ++ c.in-Some.region ∷ [] = search (rules, c.in-Some.ensures) in
    let i : In c.in-Some.region c.loop-region.worklist.waiting.items = subst (In c.in-Some.region) (sym e) (In-right c.in-Some.region c.pop.new.self.items (c.in-Some.region ∷ []) (inl refl)) in
    record { lawful = visited_lawful c.args.ctx.now.tree c.well_formed-2.ensures.tree (λ r. In r c.args.starts.now) c.requires.lawful c.in-Some.region (c.loop-region.invariant.visited c.in-Some.region (c.loop-region.invariant.waits c.in-Some.region i)) }

pub enter-requires : goal.enter-requires
enter-requires c b i =
    let e : c.loop-region.worklist.waiting.items ≡ c.pop.new.self.items ++ c.in-Some.region ∷ [] = search (rules, c.in-Some.ensures) in
    let j : In c.in-Some.region c.loop-region.worklist.waiting.items = subst (In c.in-Some.region) (sym e) (In-right c.in-Some.region c.pop.new.self.items (c.in-Some.region ∷ []) (inl refl)) in
    let l : IsLawfulRegion c.args.ctx.now.tree c.in-Some.region = visited_lawful c.args.ctx.now.tree c.well_formed-2.ensures.tree (λ r. In r c.args.starts.now) c.requires.lawful c.in-Some.region (c.loop-region.invariant.visited c.in-Some.region (c.loop-region.invariant.waits c.in-Some.region j)) in
    entered_stands c.args.ctx.now.tree c.well_formed-2.ensures.tree c.in-Some.region l b ((c.in_ok-entered.ensures.entered b).0 (subst (In b) c.deref.ensures.value i))

pub has_ssa_dominance-listed-requires : goal.has_ssa_dominance-listed-requires
has_ssa_dominance-listed-requires c =
    let e : c.loop-region.worklist.waiting.items ≡ c.pop.new.self.items ++ c.in-Some.region ∷ [] = search (rules, c.in-Some.ensures) in
    let i : In c.in-Some.region c.loop-region.worklist.waiting.items = subst (In c.in-Some.region) (sym e) (In-right c.in-Some.region c.pop.new.self.items (c.in-Some.region ∷ []) (inl refl)) in
    (visited_lawful c.args.ctx.now.tree c.well_formed-2.ensures.tree (λ r. In r c.args.starts.now) c.requires.lawful c.in-Some.region (c.loop-region.invariant.visited c.in-Some.region (c.loop-region.invariant.waits c.in-Some.region i))).liveness

pub loop-region-preserved : goal.loop-region-preserved
loop-region-preserved c =
    let t = c.args.ctx.now.tree in
    let Start : ℕ → Type 0 = λ r. In r c.args.starts.now in
    let r = c.in-Some.region in
    let entered = c.in_ok-entered.entered.items in
    let seen' = c.enter.new.worklist.seen.keys in
    let waiting' = c.enter.new.worklist.waiting.items in
    let blocks = c.loop-region.blocks.items in
    let postponed' = blocks_postponed c.enter.new.postponed.items in
    let e : c.loop-region.worklist.waiting.items ≡ c.pop.new.self.items ++ r ∷ [] = search (rules, c.in-Some.ensures) in
    let h : IsVisiting t Start c.loop-region.worklist.seen.keys (c.pop.new.self.items ++ r ∷ []) c.loop-region.regions.items (blocks ++ blocks_postponed c.loop-region.postponed.items) =
    subst (λ z. IsVisiting t Start c.loop-region.worklist.seen.keys z c.loop-region.regions.items (blocks ++ blocks_postponed c.loop-region.postponed.items)) e c.loop-region.invariant in
    let g : HasGrown (nested_in t entered) c.loop-region.worklist.seen.keys c.pop.new.self.items seen' waiting' =
    subst (λ z. HasGrown (nested_in t z) c.loop-region.worklist.seen.keys c.pop.new.self.items seen' waiting') c.deref.ensures.value c.in_ok-enter.ensures.grown in
    let sound = λ (b : ℕ). (c.in_ok-entered.ensures.entered b).0 in
    let complete = λ (b : ℕ). (c.in_ok-entered.ensures.entered b).1 in
    let next : IsVisiting t Start seen' waiting' c.if-listed.regions.items (blocks ++ postponed') = elim c.if-listed.branch [
      | then-listed+in_ok-push w ↦
          let ssa : has_ssa t r ≡ true = sym c.has_ssa_dominance-listed.ensures ∙ w.if-listed.true in
          let regions : c.if-listed.regions.items ≡ c.loop-region.regions.items ++ r ∷ [] = ap (λ z. z.items) w.regions-is ∙ w.in_ok-push.ensures.items in
          let more : blocks ++ postponed' ≡ (blocks ++ blocks_postponed c.loop-region.postponed.items) ++ entered = ap (λ z. blocks ++ z) (c.in_ok-enter.ensures.listed w.if-listed.true ∙ ap (λ z. blocks_postponed c.loop-region.postponed.items ++ z) c.deref.ensures.value) ∙ sym (append_assoc blocks (blocks_postponed c.loop-region.postponed.items) entered) in
          rw (more, regions) (visiting_searched t c.well_formed-2.ensures.tree Start c.loop-region.worklist.seen.keys c.pop.new.self.items c.loop-region.regions.items (blocks ++ blocks_postponed c.loop-region.postponed.items) r h entered seen' waiting' sound complete g ssa
          (λ b i. subst (λ z. IsVisitedBlockIf z t r b) ssa (sound b i)) (λ b i. complete b (subst (λ z. IsVisitedBlockIf z t r b) (sym ssa) i)))
      | else-listed w ↦
          let none : IsTrue c.has_ssa_dominance-listed.result → ⊥ = λ y. true≢false (sym y ∙ w.if-listed.false) in
          let same : c.enter.new.postponed.items ≡ c.loop-region.postponed.items = c.in_ok-enter.ensures.other none in
          let regions : c.if-listed.regions.items ≡ c.loop-region.regions.items = ap (λ z. z.items) w.regions-is in
          rw (regions, same) (visiting_other t c.well_formed-2.ensures.tree Start c.loop-region.worklist.seen.keys c.pop.new.self.items c.loop-region.regions.items (blocks ++ blocks_postponed c.loop-region.postponed.items) r h entered seen' waiting' sound complete g (λ s. none (c.has_ssa_dominance-listed.ensures ∙ s)))
    ] in
    visiting_reordered t Start seen' waiting' c.if-listed.regions.items (blocks ++ postponed') (c.list_postponed.new.blocks.items ++ blocks_postponed c.list_postponed.new.postponed.items) c.in_ok-list_postponed.ensures.same next

pub loop-region-smaller : goal.loop-region-smaller
loop-region-smaller c =
    let t = c.args.ctx.now.tree in
    let Start : ℕ → Type 0 = λ r. In r c.args.starts.now in
    let e : c.loop-region.worklist.waiting.items ≡ c.pop.new.self.items ++ c.in-Some.region ∷ [] = search (rules, c.in-Some.ensures) in
    let next : IsVisiting t Start c.enter.new.worklist.seen.keys c.enter.new.worklist.waiting.items c.if-listed.regions.items (c.list_postponed.new.blocks.items ++ blocks_postponed c.list_postponed.new.postponed.items) = loop-region-preserved c in
    let now = c.loop-region.invariant in
    fewer_left (length t.slots) (length c.enter.new.worklist.waiting.items) (length c.enter.new.worklist.seen.keys) (length c.pop.new.self.items) (length c.loop-region.worklist.seen.keys) (length c.loop-region.worklist.waiting.items)
    (seen_few t c.well_formed-2.ensures.tree Start c.requires.lawful c.loop-region.worklist.seen.keys now.distinct now.visited)
    (seen_few t c.well_formed-2.ensures.tree Start c.requires.lawful c.enter.new.worklist.seen.keys next.distinct next.visited)
    c.in_ok-enter.ensures.grown.count
    (ap length e ∙ length-append c.pop.new.self.items (c.in-Some.region ∷ []))

pub returns-clause-visits : goal.returns-clause-visits
returns-clause-visits c =
    let t = c.args.ctx.now.tree in
    let Start : ℕ → Type 0 = λ r. In r c.args.starts.now in
    let seen = c.loop-region.worklist.seen.keys in
    let regions = c.loop-region.regions.items in
    let listed = c.list_postponed-2.new.blocks.items in
    let e : c.loop-region.worklist.waiting.items ≡ [] = search (rules, c.in_default.ensures) in
    let none : c.list_postponed-2.new.postponed.items ≡ [] = c.in_ok-list_postponed-2.ensures.all refl in
    let same : (b : ℕ) → In b listed ↔ In b (c.loop-region.blocks.items ++ blocks_postponed c.loop-region.postponed.items) = λ b.
    subst (λ z. In b z ↔ In b (c.loop-region.blocks.items ++ blocks_postponed c.loop-region.postponed.items)) (ap (λ z. listed ++ blocks_postponed z) none ∙ append-nil listed) (c.in_ok-list_postponed-2.ensures.same b) in
    visits_found t Start seen regions c.reverse.new.self.items
    (visiting_reordered t Start seen [] regions listed c.reverse.new.self.items (λ b. in_permuted b listed c.reverse.new.self.items c.reverse.ensures.permutation)
    (visiting_reordered t Start seen [] regions (c.loop-region.blocks.items ++ blocks_postponed c.loop-region.postponed.items) listed same
    (subst (λ z. IsVisiting t Start seen z regions (c.loop-region.blocks.items ++ blocks_postponed c.loop-region.postponed.items)) e c.loop-region.invariant)))
