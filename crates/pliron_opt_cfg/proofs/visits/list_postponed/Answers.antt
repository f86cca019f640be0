use Rattle.std.proofs.Common.{rules, ◌≡◌, ◌↔◌, ◌++◌, ◌∷◌, [], ℕ, ◌∙◌, ap, sym, subst, append-nil}
use Rattle.std.proofs.lemmas.List.{map-append}
use Rattle.pliron_core.specs.Tree.{In}
use Rattle.pliron_opt_cfg.specs.declared.visits.PostponedBlock.{PostponedBlock}
use Rattle.pliron_opt_cfg.specs.Internal.Seen.{blocks_postponed}
use Rattle.pliron_opt_cfg.proofs.ListLemmas.{in_moved}
use Rattle.pliron_opt_cfg.proofs.visits.list_postponed.Goals as goal

pub returns-then-last-waiting-clause-same : goal.returns-then-last-waiting-clause-same
returns-then-last-waiting-clause-same c = λ b.
    let e : c.push.new.self.items ≡ c.loop-last.postponed.items = c.in_ok-push.ensures.items ∙ sym (c.in-Some.ensures.items) in
    subst (λ z. In b (c.loop-last.blocks.items ++ blocks_postponed z) ↔ In b (c.args.blocks.now.items ++ blocks_postponed c.args.postponed.now.items)) (sym e) (c.loop-last.invariant b)

pub loop-last-preserved : goal.loop-last-preserved
loop-last-preserved c = λ b.
    let rest = blocks_postponed c.pop.new.self.items in
    let before : blocks_postponed c.loop-last.postponed.items ≡ rest ++ c.in-Some.last.block ∷ [] = ap blocks_postponed (c.in-Some.ensures.items) ∙ map-append (λ (p : PostponedBlock). p.block) c.pop.new.self.items _ in
    let moved : In b ((c.loop-last.blocks.items ++ c.in-Some.last.block ∷ []) ++ rest) ↔ In b (c.loop-last.blocks.items ++ blocks_postponed c.loop-last.postponed.items) =
    subst (λ z. In b ((c.loop-last.blocks.items ++ c.in-Some.last.block ∷ []) ++ rest) ↔ In b (c.loop-last.blocks.items ++ z)) (sym before) (in_moved b c.in-Some.last.block c.loop-last.blocks.items rest) in
    let now : In b (c.push-in-Some.new.self.items ++ rest) ↔ In b (c.loop-last.blocks.items ++ blocks_postponed c.loop-last.postponed.items) =
    subst (λ z. In b (z ++ rest) ↔ In b (c.loop-last.blocks.items ++ blocks_postponed c.loop-last.postponed.items)) (sym c.in_ok-push-2.ensures.items) moved in
    (λ i. (c.loop-last.invariant b).0 (now.0 i), λ i. now.1 ((c.loop-last.invariant b).1 i))

pub returns-clause-same : goal.returns-clause-same
returns-clause-same c = λ b.
    let e : c.loop-last.postponed.items ≡ c.pop.new.self.items = c.in_default.ensures.items ∙ append-nil _ in
    subst (λ z. In b (c.loop-last.blocks.items ++ blocks_postponed z) ↔ In b (c.args.blocks.now.items ++ blocks_postponed c.args.postponed.now.items)) e (c.loop-last.invariant b)
