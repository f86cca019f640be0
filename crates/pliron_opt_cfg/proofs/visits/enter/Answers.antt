use Rattle.std.proofs.Common.{◌≡◌, ◌++◌, ◌∷◌, [], ◌∙◌, ◌+◌, append-nil, append_assoc, true≢false, ℕ, List, length, ◌≤◌, arith, ap, sym, refl, take, subst}
use Rattle.std.specs.List.{flat_map}
use Rattle.std.proofs.lemmas.List.{take_more, take_all, map-append}
use Rattle.pliron_core.specs.Tree.{regions_of, body_of}
use Rattle.pliron_laws.proofs.MappedLists.{mapped_more}
use Rattle.pliron_opt_cfg.specs.declared.visits.PostponedBlock.{PostponedBlock}
use Rattle.pliron_opt_cfg.specs.Internal.Seen.{HasGrown, blocks_postponed}
use Rattle.pliron_opt_cfg.proofs.ListLemmas.{item_in}
use Rattle.pliron_opt_cfg.proofs.Growing.{grew_none, grew_both}
use Rattle.pliron_opt_cfg.proofs.visits.enter.Goals as goal
use Rattle.pliron_opt_cfg.proofs.visits.enter.Goals.{then-listed+in_ok-push, else-listed}

pub push_nested-requires : goal.push_nested-requires
push_nested-requires c = c.requires c.block-item.result (item_in c.args.entered.now c.loop-block.block-index c.block-item.result c.loop-block-test.true c.block-item.is)

pub loop-block-init : goal.loop-block-init
loop-block-init c = record { grown = grew_none _ _; listed = λ y. sym (append-nil _); other = λ n. refl }

pub loop-block-preserved : goal.loop-block-preserved
loop-block-preserved c =
    let f : ℕ → List ℕ = λ b. flat_map (λ k. regions_of c.args.ctx.now.tree k) (body_of c.args.ctx.now.tree b) in
    let xs = c.args.entered.now in
    let i = c.loop-block.block-index in
    let x = c.block-item.result in
    let one : take (i + 1) xs ≡ take i xs ++ x ∷ [] = take_more xs i x c.loop-block-test.true ∙ ap (λ z. take i xs ++ z ∷ []) (sym c.block-item.is) in
    let more : flat_map f (take (i + 1) xs) ≡ flat_map f (take i xs) ++ f x = sym (mapped_more f xs i x [] (flat_map f (take i xs)) (flat_map f (take i xs) ++ f x) c.loop-block-test.true c.block-item.is refl refl) in
    let same : c.deref.result.now ≡ f x = c.deref.ensures.value ∙ c.in_ok-push_nested.ensures.items ∙ ap (λ z. z ++ f x) c.new-nested.ensures.items in
    let s = c.args.worklist.now.seen.keys in
    let w = c.args.worklist.now.waiting.items in
    let s' = c.push_new.new.worklist.seen.keys in
    let w' = c.push_new.new.worklist.waiting.items in
    let grew : HasGrown (f x) c.loop-block.worklist.seen.keys c.loop-block.worklist.waiting.items s' w' = subst (λ z. HasGrown z c.loop-block.worklist.seen.keys c.loop-block.worklist.waiting.items s' w') same c.in_ok-push_new.ensures.grew in
    let before = c.args.postponed.now.items in
    record {
      grown = subst (λ z. HasGrown z s w s' w') (sym more) (grew_both (flat_map f (take i xs)) (f x) s w c.loop-block.worklist.seen.keys c.loop-block.worklist.waiting.items s' w' c.loop-block.invariant.grown grew);
      listed = elim c.if-listed.branch [
        | then-listed+in_ok-push v ↦ λ y. ap (λ z. blocks_postponed z.items) v.postponed-is ∙ ap blocks_postponed v.in_ok-push.ensures.items ∙ map-append (λ (p : PostponedBlock). p.block) c.loop-block.postponed.items _ ∙ ap (λ z. z ++ x ∷ []) (c.loop-block.invariant.listed y) ∙ append_assoc (blocks_postponed before) (take i xs) (x ∷ []) ∙ ap (λ z. blocks_postponed before ++ z) (sym one)
        | else-listed v ↦ λ y. absurd (true≢false (sym y ∙ v.if-listed.false))
      ];
      other = elim c.if-listed.branch [
        | then-listed+in_ok-push v ↦ λ n. absurd (n v.if-listed.true)
        | else-listed v ↦ λ n. ap (λ z. z.items) v.postponed-is ∙ c.loop-block.invariant.other n
      ];
    }

pub returns-clause-grown : goal.returns-clause-grown
returns-clause-grown c =
    let all : length c.args.entered.now ≤ c.loop-block.block-index = omega (arith, c.loop-block-test.false) in
    subst (λ z. HasGrown (flat_map (λ b. flat_map (λ k. regions_of c.args.ctx.now.tree k) (body_of c.args.ctx.now.tree b)) z) c.args.worklist.now.seen.keys c.args.worklist.now.waiting.items c.loop-block.worklist.seen.keys c.loop-block.worklist.waiting.items) (take_all c.loop-block.block-index c.args.entered.now all) c.loop-block.invariant.grown
