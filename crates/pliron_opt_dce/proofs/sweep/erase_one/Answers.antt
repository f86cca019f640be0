use Rattle.std.proofs.Common.{◌≡◌, ◌<◌, rules, ◌++◌, ◌∷◌, [], length, Some, slice_get, inr, true≢false, sym, subst}
use Rattle.std.proofs.lemmas.Option.{slice_get_within}
use Rattle.pliron_core.specs.Tree.{In, arguments_of}
use Rattle.pliron_opt_dce.specs.declared.worklist.DeadCandidate.TheVariants.{Operation, Argument}
use Rattle.pliron_opt_dce.specs.Dead.{Op, Arg}
use Rattle.pliron_opt_dce.specs.Readiness.{IsReady, AreRecorded}
use Rattle.pliron_opt_dce.specs.Erasing.{ErasesItem, Removes}
use Rattle.pliron_opt_dce.specs.Incoming.{incoming_of, edges_of, AreIncoming}
use Rattle.pliron_opt_dce.proofs.IncomingLemmas.{known_after, ready_branches}
use Rattle.pliron_opt_dce.specs.Worklist.{item_of, pending_candidates, HasReady}
use Rattle.pliron_laws.proofs.FoldLemmas.{on_err}
use Rattle.pliron_opt_dce.proofs.LiveOperands.{regionless}
use Rattle.pliron_opt_dce.proofs.TakeLemmas.{op_live}
use Rattle.pliron_opt_dce.proofs.SweepLemmas.{ready_all, closed_after, argument_listed}
use Rattle.pliron_opt_dce.proofs.sweep.erase_one.Goals as goal

pub has_regions-had-requires : goal.has_regions-had-requires
has_regions-had-requires g c =
    let r = subst (λ z. IsReady g.D.HasMeaning.meaning g.D.SideEffects.side_effects g.D.BlockArgRemoval.removable c.args.ctx.now.tree c.args.root (item_of z)) c.in-Operation.is c.requires.ready in
    op_live g.D.HasMeaning.meaning g.D.SideEffects.side_effects c.args.ctx.now.tree c.args.root c.in-Operation.op c.well_formed-2.ensures.tree c.requires.linked g.met.D.Dialect.keeps_counts g.D.BlockArgRemoval.removable g.met.D.Dialect.gives_at_once r

pub note-requires : goal.note-requires
note-requires g c =
    let r = subst (λ z. IsReady g.D.HasMeaning.meaning g.D.SideEffects.side_effects g.D.BlockArgRemoval.removable c.args.ctx.now.tree c.args.root (item_of z)) c.in-Operation.is c.requires.ready in
    record { live = λ leaf v i. c.in_ok-erase_dead_operation-in-Operation.ensures.live (regionless c.args.ctx.now.tree c.in-Operation.op c.has_regions-had.result c.has_regions-had.ensures leaf) v (subst (λ z. In v z) c.deref.ensures.value i); closed = closed_after _ _ _ _ g.met.D.Dialect.forwards_operands (λ h h' s. s.branch) g.met.D.Dialect.keeps_counts g.D.SideEffects.side_effects g.met.D.Dialect.gives_at_once g.D.BlockArgRemoval.removable g.met.D.Dialect.acts_without_argument c.args.ctx.now.tree c.erase_dead_operation.new.ctx.tree c.args.root (Op c.in-Operation.op) c.args.state.now.worklist.around.ops.items c.well_formed-2.ensures.tree c.well_formed-in-Operation.ensures.tree c.requires.linked r (op_live g.D.HasMeaning.meaning g.D.SideEffects.side_effects c.args.ctx.now.tree c.args.root c.in-Operation.op c.well_formed-2.ensures.tree c.requires.linked g.met.D.Dialect.keeps_counts g.D.BlockArgRemoval.removable g.met.D.Dialect.gives_at_once r, c.in_ok-erase_dead_operation-in-Operation.ensures.deleted) c.requires.closed }

pub returns-in_ok-note-in-Operation-clause-goes : goal.returns-in_ok-note-in-Operation-clause-goes
returns-in_ok-note-in-Operation-clause-goes g c =
    let r = subst (λ z. IsReady g.D.HasMeaning.meaning g.D.SideEffects.side_effects g.D.BlockArgRemoval.removable c.args.ctx.now.tree c.args.root (item_of z)) c.in-Operation.is c.requires.ready in
    subst (λ z. ErasesItem g.D.HasMeaning.meaning g.D.Dialect.shortened c.args.ctx.now.tree c.erase_dead_operation.new.ctx.tree (item_of z)) (sym c.in-Operation.is)
    (op_live g.D.HasMeaning.meaning g.D.SideEffects.side_effects c.args.ctx.now.tree c.args.root c.in-Operation.op c.well_formed-2.ensures.tree c.requires.linked g.met.D.Dialect.keeps_counts g.D.BlockArgRemoval.removable g.met.D.Dialect.gives_at_once r, c.in_ok-erase_dead_operation-in-Operation.ensures.deleted)

pub returns-in_ok-note-in-Operation-clause-all : goal.returns-in_ok-note-in-Operation-clause-all
returns-in_ok-note-in-Operation-clause-all g c =
    let ready = subst (λ z. IsReady g.D.HasMeaning.meaning g.D.SideEffects.side_effects g.D.BlockArgRemoval.removable c.args.ctx.now.tree c.args.root (item_of z)) c.in-Operation.is c.requires.ready in
    let all = subst (λ z. HasReady g.D.HasMeaning.meaning g.D.SideEffects.side_effects g.D.BlockArgRemoval.removable c.args.ctx.now.tree c.args.root ((pending_candidates c.args.state.now.worklist) ++ z ∷ [])) c.in-Operation.is c.requires.all in
    let live = op_live g.D.HasMeaning.meaning g.D.SideEffects.side_effects c.args.ctx.now.tree c.args.root c.in-Operation.op c.well_formed-2.ensures.tree c.requires.linked g.met.D.Dialect.keeps_counts g.D.BlockArgRemoval.removable g.met.D.Dialect.gives_at_once ready in
    ready_all _ _ _ _ g.met.D.Dialect.forwards_operands (λ h h' s. s.branch) g.met.D.Dialect.keeps_counts g.D.SideEffects.side_effects g.met.D.Dialect.gives_at_once g.D.BlockArgRemoval.removable g.met.D.Dialect.acts_without_argument c.args.ctx.now.tree c.erase_dead_operation.new.ctx.tree c.args.root (Operation c.in-Operation.op) c.erase_dead_operation.new.used.items (pending_candidates c.args.state.now.worklist) (pending_candidates c.note.new.worklist) c.well_formed-2.ensures.tree c.well_formed-in-Operation.ensures.tree c.requires.linked ready (live, c.in_ok-erase_dead_operation-in-Operation.ensures.deleted) all c.in_ok-erase_dead_operation-in-Operation.ensures.noted (search (rules, c.in_ok-note-in-Operation.ensures.revisited)) c.in_ok-note-in-Operation.ensures.kept

pub erase_dead_argument-requires-clause-index : goal.erase_dead_argument-requires-clause-index
erase_dead_argument-requires-clause-index g c =
    let r = subst (λ z. IsReady g.D.HasMeaning.meaning g.D.SideEffects.side_effects g.D.BlockArgRemoval.removable c.args.ctx.now.tree c.args.root (item_of z)) c.in-Argument.is c.requires.ready in
    let at = argument_listed g.D.HasMeaning.meaning g.D.BlockArgRemoval.removable c.args.ctx.now.tree c.args.root c.in-Argument.value c.in-Argument-def.block c.in-Argument-def.index c.well_formed-2.ensures.tree r c.in-Argument-def.ensures.definition in
    subst (λ z. c.in-Argument-def.index < length (arguments_of z.tree c.in-Argument-def.block)) (sym c.add.ensures.same) (slice_get_within (arguments_of c.args.ctx.now.tree c.in-Argument-def.block) c.in-Argument-def.index c.in-Argument.value at)

pub note-requires-in-Argument-def : goal.note-requires-in-Argument-def
note-requires-in-Argument-def g c =
    let r = subst (λ z. IsReady g.D.HasMeaning.meaning g.D.SideEffects.side_effects g.D.BlockArgRemoval.removable c.args.ctx.now.tree c.args.root (item_of z)) c.in-Argument.is c.requires.ready in
    let at = argument_listed g.D.HasMeaning.meaning g.D.BlockArgRemoval.removable c.args.ctx.now.tree c.args.root c.in-Argument.value c.in-Argument-def.block c.in-Argument-def.index c.well_formed-2.ensures.tree r c.in-Argument-def.ensures.definition in
    let deleted = subst (λ z. Removes g.D.HasMeaning.meaning g.D.Dialect.shortened z.tree c.erase_dead_argument.new.ctx.tree c.in-Argument.value) c.add.ensures.same (c.in_ok-lost-in-Argument-def.ensures.deleted c.in-Argument.value (subst (λ z. slice_get (arguments_of z.tree c.in-Argument-def.block) c.in-Argument-def.index ≡ Some c.in-Argument.value) (sym c.add.ensures.same) at)) in
    record { live = λ leaf v i. absurd (true≢false (sym leaf)); closed = closed_after _ _ _ _ g.met.D.Dialect.forwards_operands (λ h h' s. s.branch) g.met.D.Dialect.keeps_counts g.D.SideEffects.side_effects g.met.D.Dialect.gives_at_once g.D.BlockArgRemoval.removable g.met.D.Dialect.acts_without_argument c.args.ctx.now.tree c.erase_dead_argument.new.ctx.tree c.args.root (Arg c.in-Argument.value) c.args.state.now.worklist.around.ops.items c.well_formed-2.ensures.tree c.well_formed-in-Argument-def.ensures.tree c.requires.linked r deleted c.requires.closed }

pub returns-in_ok-note-in-Argument-def-clause-all : goal.returns-in_ok-note-in-Argument-def-clause-all
returns-in_ok-note-in-Argument-def-clause-all g c =
    let ready = subst (λ z. IsReady g.D.HasMeaning.meaning g.D.SideEffects.side_effects g.D.BlockArgRemoval.removable c.args.ctx.now.tree c.args.root (item_of z)) c.in-Argument.is c.requires.ready in
    let at = argument_listed g.D.HasMeaning.meaning g.D.BlockArgRemoval.removable c.args.ctx.now.tree c.args.root c.in-Argument.value c.in-Argument-def.block c.in-Argument-def.index c.well_formed-2.ensures.tree ready c.in-Argument-def.ensures.definition in
    let deleted = subst (λ z. Removes g.D.HasMeaning.meaning g.D.Dialect.shortened z.tree c.erase_dead_argument.new.ctx.tree c.in-Argument.value) c.add.ensures.same (c.in_ok-lost-in-Argument-def.ensures.deleted c.in-Argument.value (subst (λ z. slice_get (arguments_of z.tree c.in-Argument-def.block) c.in-Argument-def.index ≡ Some c.in-Argument.value) (sym c.add.ensures.same) at)) in
    let all = subst (λ z. HasReady g.D.HasMeaning.meaning g.D.SideEffects.side_effects g.D.BlockArgRemoval.removable c.args.ctx.now.tree c.args.root ((pending_candidates c.args.state.now.worklist) ++ z ∷ [])) c.in-Argument.is c.requires.all in
    ready_all _ _ _ _ g.met.D.Dialect.forwards_operands (λ h h' s. s.branch) g.met.D.Dialect.keeps_counts g.D.SideEffects.side_effects g.met.D.Dialect.gives_at_once g.D.BlockArgRemoval.removable g.met.D.Dialect.acts_without_argument c.args.ctx.now.tree c.erase_dead_argument.new.ctx.tree c.args.root (Argument c.in-Argument.value) c.in_ok-lost-in-Argument-def.lost.items (pending_candidates c.args.state.now.worklist) (pending_candidates c.note-in-Argument-def.new.worklist) c.well_formed-2.ensures.tree c.well_formed-in-Argument-def.ensures.tree c.requires.linked ready deleted all (subst (λ z. AreRecorded z.tree c.erase_dead_argument.new.ctx.tree c.in_ok-lost-in-Argument-def.lost.items) c.add.ensures.same c.in_ok-lost-in-Argument-def.ensures.noted) (search (rules, c.in_ok-note-in-Argument-def.ensures.revisited)) c.in_ok-note-in-Argument-def.ensures.kept

pub returns-in_err-note-in-Operation-clause-refused : goal.returns-in_err-note-in-Operation-clause-refused
returns-in_err-note-in-Operation-clause-refused g c =
    let r = subst (λ z. IsReady g.D.HasMeaning.meaning g.D.SideEffects.side_effects g.D.BlockArgRemoval.removable c.args.ctx.now.tree c.args.root (item_of z)) c.in-Operation.is c.requires.ready in
    on_err _ c.from_residual-in_err-note-in-Operation.result (inr (subst (λ z. ErasesItem g.D.HasMeaning.meaning g.D.Dialect.shortened c.args.ctx.now.tree c.erase_dead_operation.new.ctx.tree (item_of z)) (sym c.in-Operation.is)
    (op_live g.D.HasMeaning.meaning g.D.SideEffects.side_effects c.args.ctx.now.tree c.args.root c.in-Operation.op c.well_formed-2.ensures.tree c.requires.linked g.met.D.Dialect.keeps_counts g.D.BlockArgRemoval.removable g.met.D.Dialect.gives_at_once r, c.in_ok-erase_dead_operation-in-Operation.ensures.deleted)))

pub add-requires-clause-branches : goal.add-requires-clause-branches
add-requires-clause-branches g c =
    let r = subst (λ z. IsReady g.D.HasMeaning.meaning g.D.SideEffects.side_effects g.D.BlockArgRemoval.removable c.args.ctx.now.tree c.args.root (item_of z)) c.in-Argument.is c.requires.ready in
    let at = argument_listed g.D.HasMeaning.meaning g.D.BlockArgRemoval.removable c.args.ctx.now.tree c.args.root c.in-Argument.value c.in-Argument-def.block c.in-Argument-def.index c.well_formed-2.ensures.tree r c.in-Argument-def.ensures.definition in
    (ready_branches g.D.HasMeaning.meaning g.D.BlockArgRemoval.removable c.args.ctx.now.tree c.args.root c.in-Argument.value c.in-Argument-def.block c.in-Argument-def.index c.well_formed-2.ensures.tree r at).1

pub erase_dead_argument-requires-clause-edges : goal.erase_dead_argument-requires-clause-edges
erase_dead_argument-requires-clause-edges g c =
    let r = subst (λ z. IsReady g.D.HasMeaning.meaning g.D.SideEffects.side_effects g.D.BlockArgRemoval.removable c.args.ctx.now.tree c.args.root (item_of z)) c.in-Argument.is c.requires.ready in
    let at = argument_listed g.D.HasMeaning.meaning g.D.BlockArgRemoval.removable c.args.ctx.now.tree c.args.root c.in-Argument.value c.in-Argument-def.block c.in-Argument-def.index c.well_formed-2.ensures.tree r c.in-Argument-def.ensures.definition in
    subst (λ z. AreIncoming g.D.HasMeaning.meaning z.tree c.in-Argument-def.block (edges_of c.edges_to-edges.result.now)) (sym c.add.ensures.same) (c.in_ok-add-in-Argument-def.ensures.known c.in-Argument-def.block c.edges_to-edges.result.now c.edges_to-edges.ensures (ready_branches g.D.HasMeaning.meaning g.D.BlockArgRemoval.removable c.args.ctx.now.tree c.args.root c.in-Argument.value c.in-Argument-def.block c.in-Argument-def.index c.well_formed-2.ensures.tree r at).0)

pub returns-in_ok-note-in-Argument-def-clause-known : goal.returns-in_ok-note-in-Argument-def-clause-known
returns-in_ok-note-in-Argument-def-clause-known g c =
    let r = subst (λ z. IsReady g.D.HasMeaning.meaning g.D.SideEffects.side_effects g.D.BlockArgRemoval.removable c.args.ctx.now.tree c.args.root (item_of z)) c.in-Argument.is c.requires.ready in
    let at = argument_listed g.D.HasMeaning.meaning g.D.BlockArgRemoval.removable c.args.ctx.now.tree c.args.root c.in-Argument.value c.in-Argument-def.block c.in-Argument-def.index c.well_formed-2.ensures.tree r c.in-Argument-def.ensures.definition in
    let deleted = subst (λ z. Removes g.D.HasMeaning.meaning g.D.Dialect.shortened z.tree c.erase_dead_argument.new.ctx.tree c.in-Argument.value) c.add.ensures.same (c.in_ok-lost-in-Argument-def.ensures.deleted c.in-Argument.value (subst (λ z. slice_get (arguments_of z.tree c.in-Argument-def.block) c.in-Argument-def.index ≡ Some c.in-Argument.value) (sym c.add.ensures.same) at)) in
    known_after _ _ _ _ g.met.D.Dialect.forwards_operands (λ h h' s. s.branch) g.met.D.Dialect.keeps_counts g.D.SideEffects.side_effects g.met.D.Dialect.gives_at_once g.D.BlockArgRemoval.removable c.args.ctx.now.tree c.erase_dead_argument.new.ctx.tree c.args.root (Arg c.in-Argument.value) (λ b. incoming_of c.add.new.self b) c.well_formed-2.ensures.tree c.well_formed-in-Argument-def.ensures.tree c.requires.linked r deleted c.in_ok-add-in-Argument-def.ensures.known

pub returns-in_ok-note-in-Operation-clause-known : goal.returns-in_ok-note-in-Operation-clause-known
returns-in_ok-note-in-Operation-clause-known g c =
    let r = subst (λ z. IsReady g.D.HasMeaning.meaning g.D.SideEffects.side_effects g.D.BlockArgRemoval.removable c.args.ctx.now.tree c.args.root (item_of z)) c.in-Operation.is c.requires.ready in
    known_after _ _ _ _ g.met.D.Dialect.forwards_operands (λ h h' s. s.branch) g.met.D.Dialect.keeps_counts g.D.SideEffects.side_effects g.met.D.Dialect.gives_at_once g.D.BlockArgRemoval.removable c.args.ctx.now.tree c.erase_dead_operation.new.ctx.tree c.args.root (Op c.in-Operation.op) (λ b. incoming_of c.args.state.now.incoming b) c.well_formed-2.ensures.tree c.well_formed-in-Operation.ensures.tree c.requires.linked r (op_live g.D.HasMeaning.meaning g.D.SideEffects.side_effects c.args.ctx.now.tree c.args.root c.in-Operation.op c.well_formed-2.ensures.tree c.requires.linked g.met.D.Dialect.keeps_counts g.D.BlockArgRemoval.removable g.met.D.Dialect.gives_at_once r, c.in_ok-erase_dead_operation-in-Operation.ensures.deleted) c.requires.known

pub add-requires-clause-inside : goal.add-requires-clause-inside
add-requires-clause-inside g c =
    let r = subst (λ z. IsReady g.D.HasMeaning.meaning g.D.SideEffects.side_effects g.D.BlockArgRemoval.removable c.args.ctx.now.tree c.args.root (item_of z)) c.in-Argument.is c.requires.ready in
    let at = argument_listed g.D.HasMeaning.meaning g.D.BlockArgRemoval.removable c.args.ctx.now.tree c.args.root c.in-Argument.value c.in-Argument-def.block c.in-Argument-def.index c.well_formed-2.ensures.tree r c.in-Argument-def.ensures.definition in
    (ready_branches g.D.HasMeaning.meaning g.D.BlockArgRemoval.removable c.args.ctx.now.tree c.args.root c.in-Argument.value c.in-Argument-def.block c.in-Argument-def.index c.well_formed-2.ensures.tree r at).0
