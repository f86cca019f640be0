use Rattle.std.proofs.lemmas.Result.{IfOk-weaker}
use Rattle.pliron_theory.proofs.FollowedFacts.{constants_plain}
use Rattle.pliron_theory.proofs.SoundRuns.{names_well}
use Rattle.pliron_opt_sccp.proofs.StepLemmas.{step_live, step_placed, step_folds, step_entries, step_told, step_stays, step_follows, either}
use Rattle.pliron_opt_sccp.proofs.rewrite.fold_one.Goals as goal

pub fold_in_place-done-requires-clause-live : goal.fold_in_place-done-requires-clause-live
fold_in_place-done-requires-clause-live g c = let s = c.requires.step in step_live _ s.0 s.1 s.2 _ _ _ s.3

pub fold_in_place-done-requires-clause-placed : goal.fold_in_place-done-requires-clause-placed
fold_in_place-done-requires-clause-placed g c = let s = c.requires.step in step_placed _ s.0 s.1 s.2 _ _ _ s.3

pub fold_in_place-done-requires-clause-folds : goal.fold_in_place-done-requires-clause-folds
fold_in_place-done-requires-clause-folds g c = let s = c.requires.step in step_folds _ s.0 s.1 s.2 _ _ _ s.3

pub fold_in_place-done-requires-clause-entries : goal.fold_in_place-done-requires-clause-entries
fold_in_place-done-requires-clause-entries g c =
    let s = c.requires.step in step_entries _ s.0 s.1 s.2 _ _ _ s.3

pub returns-clause-reported : goal.returns-clause-reported
returns-clause-reported g c =
    let s = c.requires.step in
    let d = g.met.D.Dialect in
    let t = c.args.ctx.now.tree in
    let outcome = g.D.ConstFoldInterface.outcome in
    let u = c.fold_in_place-done.new.ctx.tree in
    IfOk-weaker c.fold_in_place-done.result _ _ (λ status is. step_told _ s.0 s.1 s.2 t c.args.op _ s.3 _ _ outcome _ d.folds_in_place u status is) c.fold_in_place-done.ensures.ok

pub returns-clause-follows : goal.returns-clause-follows
returns-clause-follows g c = λ t₀ root f₀ s.
    let d = g.met.D.Dialect in
    let t = c.args.ctx.now.tree in
    let u = c.fold_in_place-done.new.ctx.tree in
    let outcome = g.D.ConstFoldInterface.outcome in
    let done = either (λ a. outcome t u c.args.op c.args.known.now a) c.fold_in_place-done.result c.fold_in_place-done.ensures.ok c.fold_in_place-done.ensures.refused in
    step_follows _ t₀ root f₀ t c.args.op _ s _ _ outcome _ d.folds_in_place d.answers_true d.answers_jumps d.forwards_operands.passes (names_well _ _ d.names_operands d.roots) d.makes_constants (constants_plain _ _ _ _ _ _ d.forwards_operands d.makes_constants) u done.0 done.1 c.well_formed-3.ensures.tree c.fold_in_place-done.ensures.longer

pub returns-clause-stays : goal.returns-clause-stays
returns-clause-stays g c =
    let s = c.requires.step in
    let d = g.met.D.Dialect in
    let t = c.args.ctx.now.tree in
    let u = c.fold_in_place-done.new.ctx.tree in
    let outcome = g.D.ConstFoldInterface.outcome in
    let done = either (λ a. outcome t u c.args.op c.args.known.now a) c.fold_in_place-done.result c.fold_in_place-done.ensures.ok c.fold_in_place-done.ensures.refused in
    step_stays _ s.0 s.1 s.2 t c.args.op _ s.3 _ _ outcome _ d.folds_in_place u done.0 done.1
