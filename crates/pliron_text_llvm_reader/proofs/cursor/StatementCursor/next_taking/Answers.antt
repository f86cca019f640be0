use Rattle.std.proofs.Common.{rules, ◌≡◌, List, ◌∷◌, length, sym, ap, ◌∙◌, subst}
use Rattle.std.specs.Prelude.{reverse, Some}
use Rattle.pliron_text_llvm_reader.specs.declared.rules.Rule.{Rule}
use Rattle.pliron_text_llvm_reader.specs.declared.table.GrammarStep.{GrammarStep}
use Rattle.pliron_text_llvm_reader.specs.Cursors.{text_of, tokens_of}
use Rattle.pliron_text_llvm_reader.specs.Grammar.{move_of_step, move_of_rule, with_last}
use Rattle.pliron_text_llvm_reader.specs.Grammar.GrammarMove.{Skipped, Taken}
use Rattle.pliron_text_llvm_reader.specs.Readings.{LeadsBySteps}
use Rattle.pliron_text_llvm_reader.proofs.ReadingLemmas.{popped, skips_to, skips_step, emptied}
use Rattle.pliron_text_llvm_reader.proofs.cursor.StatementCursor.next_taking.Goals as goal

pub returns-in-Take-clause-next : goal.returns-in-Take-clause-next
returns-in-Take-clause-next c =
    let next : reverse c.loop-step.steps.items ≡ c.in-Some.step ∷ reverse c.pop.new.self.items = popped c.loop-step.steps.items c.pop.new.self.items c.in-Some.step c.in-Some.ensures.items in
    let move : move_of_step (text_of c.args.self.now) c.args.reads c.in-Some.step (tokens_of c.args.self.now) ≡ Some (Taken c.in-Take.taking.amount c.in-Take.taking.role (with_last c.in-Take.taking.behind.now c.in-Take.taking.last))
    = sym c.in-Some-rule.ensures.says ∙ ap (λ (r : Rule). Some (move_of_rule r)) c.in-Take.is in
    skips_to (text_of c.args.self.now) c.args.reads (reverse c.args.steps.now.items) (tokens_of c.args.self.now) c.in-Some.step (reverse c.pop.new.self.items) (reverse c.loop-step.steps.items) c.in-Take.taking c.loop-step.invariant next move

pub loop-step-preserved : goal.loop-step-preserved
loop-step-preserved c =
    let next : reverse c.loop-step.steps.items ≡ c.in-Some.step ∷ reverse c.pop.new.self.items = popped c.loop-step.steps.items c.pop.new.self.items c.in-Some.step c.in-Some.ensures.items in
    let move : move_of_step (text_of c.args.self.now) c.args.reads c.in-Some.step (tokens_of c.args.self.now) ≡ Some Skipped = sym c.in-Some-rule.ensures.says ∙ ap (λ (r : Rule). Some (move_of_rule r)) c.in-Skip.is in
    skips_step (text_of c.args.self.now) c.args.reads (reverse c.args.steps.now.items) (tokens_of c.args.self.now) c.in-Some.step (reverse c.pop.new.self.items) (reverse c.loop-step.steps.items) c.loop-step.invariant next move

pub returns-clause-skips : goal.returns-clause-skips
returns-clause-skips c = λ holes.
    let none : length c.loop-step.steps.items ≡ 0 = search rules in
    subst (λ (xs : List GrammarStep). LeadsBySteps (text_of c.args.self.now) c.args.reads (reverse c.args.steps.now.items) (tokens_of c.args.self.now) holes xs (tokens_of c.args.self.now) holes)
    (emptied c.loop-step.steps.items none) (c.loop-step.invariant holes)
