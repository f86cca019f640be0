use Rattle.std.proofs.Common.{◌++◌, ◌∷◌, [], ⊎_elim, map, sym, subst}
use Rattle.pliron_opt_dce.specs.declared.worklist.DeadCandidate.TheVariants.{Operation}
use Rattle.pliron_opt_dce.specs.Readiness.{Among}
use Rattle.pliron_opt_dce.specs.Worklist.{item_of, items_of}
use Rattle.pliron_opt_dce.proofs.WorkLemmas.{among_left, among_right, among_front, among_last, among_cases}
use Rattle.pliron_opt_dce.proofs.worklist.Worklist.add.Goals as goal

pub returns-clause-kept : goal.returns-clause-kept
returns-clause-kept c = λ x i.
    let around = map (λ k. Operation k) c.args.self.now.around.ops.items in
    let old = c.args.self.now.later.items in
    let round = c.args.self.now.round.items in
    let last = old ++ c.args.candidate ∷ [] in
    subst (λ z. Among x (items_of (around ++ (z ++ round)))) (sym c.in_ok-push.ensures.items)
    (⊎_elim
    (λ j. among_left x around (last ++ round) j)
    (λ j. among_right x around (last ++ round) (⊎_elim (λ k. among_left x last round (among_front x old c.args.candidate k)) (λ k. among_right x last round k) (among_cases x old round j)))
    (among_cases x around (old ++ round) i))

pub returns-clause-added : goal.returns-clause-added
returns-clause-added c =
    let around = map (λ k. Operation k) c.args.self.now.around.ops.items in
    let old = c.args.self.now.later.items in
    let round = c.args.self.now.round.items in
    let last = old ++ c.args.candidate ∷ [] in
    subst (λ z. Among (item_of c.args.candidate) (items_of (around ++ (z ++ round)))) (sym c.in_ok-push.ensures.items)
    (among_right (item_of c.args.candidate) around (last ++ round) (among_left (item_of c.args.candidate) last round (among_last old c.args.candidate)))
