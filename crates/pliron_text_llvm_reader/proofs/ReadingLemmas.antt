-- Steps that were taken one after another.
use Rattle.std.proofs.Common.{◌≡◌, ℕ, List, [], ◌∷◌, ◌++◌, length, get_or, drop, suc, ◌+◌, ◌<◌, refl, sym, ap, ◌∙◌, subst, append_assoc, add-one, drop-cons, arith}
use Rattle.std.specs.Prelude.{reverse}
use Rattle.std.proofs.lemmas.List.{reverse-append, drop_all}
use Rattle.std.specs.Prelude.{Some}
use Rattle.pliron_text_llvm_syntax.specs.declared.forms.Hole.{Hole}
use Rattle.pliron_text_llvm_syntax.specs.declared.tokens.LlvmToken.{LlvmToken}
use Rattle.pliron_text_llvm_reader.specs.declared.rules.TakenStep.{TakenStep}
use Rattle.pliron_text_llvm_reader.specs.declared.table.Reads.{Reads}
use Rattle.pliron_text_llvm_reader.specs.declared.table.GrammarStep.{GrammarStep}
use Rattle.pliron_text_llvm_reader.specs.Cursors.{first_start}
use Rattle.pliron_text_llvm_reader.specs.Grammar.{move_of_step, with_last}
use Rattle.pliron_text_llvm_reader.specs.Grammar.GrammarMove.{Skipped, Taken}
use Rattle.pliron_text_llvm_reader.specs.Readings.{behind_taken, end_of_taken, holes_with, LeadsBySteps, Skips, IsNextTaken}
use Rattle.pliron_text_llvm_reader.specs.Readings.LeadsBySteps.{Nowhere, Past, Onward}

-- no step was pushed yet
pub pushed_none : (steps before : List GrammarStep) (left : ℕ) → left ≡ length before → reverse steps ≡ drop left before ++ reverse steps
pushed_none steps before left e = ap (λ xs. xs ++ reverse steps) (sym (drop_all left before (omega (arith, e))))

-- a step more was pushed, the one before those that were
pub pushed_next : (steps now after before : List GrammarStep) (left : ℕ) (step d : GrammarStep) → reverse now ≡ drop (left + 1) before ++ reverse steps → left < length before → step ≡ get_or before left d → after ≡ now ++ step ∷ [] → reverse after ≡ drop left before ++ reverse steps
pushed_next steps now after before left step d e less here grown =
    let ahead : drop left before ≡ step ∷ drop (left + 1) before = rw (add-one, drop-cons before left d) (ap (λ s. s ∷ drop (suc left) before) (sym here)) in
    ap reverse grown ∙ reverse-append now (step ∷ []) ∙ ap (λ xs. step ∷ xs) e ∙ ap (λ xs. xs ++ reverse steps) (sym ahead)

pub pushed_last : (steps after : List GrammarStep) (last : GrammarStep) → after ≡ steps ++ last ∷ [] → reverse after ≡ last ∷ reverse steps
pushed_last steps after last e = ap reverse e ∙ reverse-append steps (last ∷ [])

pub with_last_append : (steps : List GrammarStep) (last : GrammarStep) (rest : List GrammarStep) → with_last steps (Some last) ++ rest ≡ steps ++ last ∷ rest
with_last_append steps last rest = append_assoc steps (last ∷ []) rest

-- one way behind another
pub leads_on : {text : List ℕ} {reads : Reads} {steps next : List GrammarStep} {tokens left : List LlvmToken} {holes found : List Hole} {last : List GrammarStep} {rest : List LlvmToken} {all : List Hole}
    → LeadsBySteps text reads steps tokens holes next left found → LeadsBySteps text reads next left found last rest all → LeadsBySteps text reads steps tokens holes last rest all
leads_on before Nowhere = before
leads_on before (Past step behind move) = Past step (leads_on before behind) move
leads_on before (Onward step amount role steps behind move) = Onward step amount role steps (leads_on before behind) move

-- one step of which nothing is there
pub skips_step : (text : List ℕ) (reads : Reads) (steps : List GrammarStep) (tokens : List LlvmToken) (step : GrammarStep) (more left : List GrammarStep) → Skips text reads steps tokens left → left ≡ step ∷ more → move_of_step text reads step tokens ≡ Some Skipped
    → Skips text reads steps tokens more
skips_step text reads steps tokens step more left skips e move holes = Past step (subst (λ xs. LeadsBySteps text reads steps tokens holes xs tokens holes) e (skips holes)) move

pub skips_none : (text : List ℕ) (reads : Reads) (steps : List GrammarStep) (tokens : List LlvmToken) → Skips text reads steps tokens steps
skips_none text reads steps tokens holes = Nowhere

-- the last step that was pushed is the first
pub popped : (steps left : List GrammarStep) (step : GrammarStep) → steps ≡ left ++ step ∷ [] → reverse steps ≡ step ∷ reverse left
popped steps left step e = pushed_last left steps step e

-- no step is left
pub emptied : (steps : List GrammarStep) → length steps ≡ 0 → reverse steps ≡ []
emptied [] none = refl
emptied (step ∷ steps) none = absurd (omega (arith, none))

-- up to a step for which something is taken
pub skips_to : (text : List ℕ) (reads : Reads) (steps : List GrammarStep) (tokens : List LlvmToken) (step : GrammarStep) (more left : List GrammarStep) (taking : TakenStep) → Skips text reads steps tokens left → left ≡ step ∷ more
    → move_of_step text reads step tokens ≡ Some (Taken taking.amount taking.role (with_last taking.behind.now taking.last)) → IsNextTaken text reads steps tokens taking more
skips_to text reads steps tokens step more left taking skips e move = record {
  step = step;
  skips = subst (λ xs. Skips text reads steps tokens xs) e skips;
  move = move;
}

-- nothing was taken yet
pub leads_none : (text : List ℕ) (reads : Reads) (steps : List GrammarStep) (tokens : List LlvmToken) (holes : List Hole) → holes ≡ [] → LeadsBySteps text reads steps tokens [] steps tokens holes
leads_none text reads steps tokens holes e = subst (LeadsBySteps text reads steps tokens [] steps tokens) (sym e) Nowhere

-- no step is left
pub leads_end : (text : List ℕ) (reads : Reads) (steps : List GrammarStep) (tokens : List LlvmToken) (next : List GrammarStep) (left : List LlvmToken) (found : List Hole) → LeadsBySteps text reads steps tokens [] next left found → Skips text reads next left []
    → LeadsBySteps text reads steps tokens [] [] left found
leads_end text reads steps tokens next left found before skips = leads_on before (skips found)

-- what is taken for the next step
pub leads_taken : (text : List ℕ) (reads : Reads) (steps : List GrammarStep) (tokens : List LlvmToken) (next : List GrammarStep) (left : List LlvmToken) (found : List Hole) (taking : TakenStep) (more after : List GrammarStep) (rest : List LlvmToken) (all : List Hole) (place end : ℕ)
    → LeadsBySteps text reads steps tokens [] next left found → IsNextTaken text reads next left taking more → after ≡ with_last taking.behind.now taking.last ++ more → rest ≡ behind_taken taking.amount left
    → all ≡ holes_with taking.role place end found → place ≡ first_start left (length text) → end ≡ end_of_taken taking.amount left → LeadsBySteps text reads steps tokens [] after rest all
leads_taken text reads steps tokens next left found taking more after rest all place end before found_next steps_are rest_is all_are place_is end_is =
    let whole : LeadsBySteps text reads steps tokens [] (with_last taking.behind.now taking.last ++ more) (behind_taken taking.amount left) (holes_with taking.role (first_start left (length text)) (end_of_taken taking.amount left) found) =
    Onward found_next.step taking.amount taking.role (with_last taking.behind.now taking.last) (leads_on before (found_next.skips found)) found_next.move in
    let holes_are : all ≡ holes_with taking.role (first_start left (length text)) (end_of_taken taking.amount left) found = all_are ∙ ap (λ p. holes_with taking.role p end found) place_is ∙ ap (λ e. holes_with taking.role (first_start left (length text)) e found) end_is in
    subst (λ hs. LeadsBySteps text reads steps tokens [] after rest hs) (sym holes_are)
    (subst (λ ts. LeadsBySteps text reads steps tokens [] after ts (holes_with taking.role (first_start left (length text)) (end_of_taken taking.amount left) found)) (sym rest_is)
    (subst (λ ss. LeadsBySteps text reads steps tokens [] ss (behind_taken taking.amount left) (holes_with taking.role (first_start left (length text)) (end_of_taken taking.amount left) found)) (sym steps_are) whole))

-- what takes steps one after another
pub ruleset reading_steps = (leads_none, leads_taken, leads_end)
