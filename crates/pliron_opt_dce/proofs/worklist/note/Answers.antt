use Rattle.std.proofs.Common.{◌++◌, ℕ, Some, map, sym, ap, ◌∙◌, subst}
use Rattle.std.proofs.lemmas.Option.{slice_get-get_or}
use Rattle.pliron_core.proofs.HoldingLemmas.{in_slice}
use Rattle.pliron_laws.proofs.AnswerLemmas.{refuted}
use Rattle.pliron_opt_dce.specs.Dead.{Item, Op}
use Rattle.pliron_opt_dce.specs.Readiness.{Among}
use Rattle.pliron_opt_dce.specs.Worklist.{items_of, pending_candidates, AreClosedUnderNesting}
use Rattle.pliron_core.specs.Changes.{IsDefinedInside}
use Rattle.pliron_opt_dce.specs.declared.worklist.DeadCandidate.TheVariants.{Operation}
use Rattle.pliron_opt_dce.proofs.WorkLemmas.{among_left, among_set, among_more, looked_more, looked_past}
use Rattle.pliron_opt_dce.proofs.worklist.note.Goals as goal

pub loop-value-preserved-then-not-is_noted : goal.loop-value-preserved-then-not-is_noted
loop-value-preserved-then-not-is_noted c = record {
  kept = c.loop-value.invariant.kept;
  revisited = looked_past c.args.ctx.now.tree c.value-item.result c.args.used.now c.loop-value.value-index _ c.loop-value.invariant.revisited (slice_get-get_or c.args.used.now c.loop-value.value-index _ c.loop-value-test.true ∙ ap Some (sym c.value-item.is)) (λ d. refuted c.is_noted.result c.if-not-is_noted.true (c.is_noted.ensures.1 d));
  closed = c.loop-value.invariant.closed;
}

pub loop-value-preserved : goal.loop-value-preserved
loop-value-preserved c =
    let at = slice_get-get_or c.args.used.now c.loop-value.value-index _ c.loop-value-test.true ∙ ap Some (sym c.value-item.is) in
    let scans = c.in_ok-push_around.ensures.adds_parents in
    let mid = c.revisit_definer.new.worklist in
    let adds = c.in_ok-holder.ensures in
    let rest = mid.later.items ++ mid.round.items in
    let kept : (x : Item) → Among x (items_of (pending_candidates mid)) → Among x (items_of (map (λ k. Operation k) c.push_around.new.around.ops.items ++ rest)) = among_more mid.around.ops.items c.push_around.new.around.ops.items rest scans.kept in
    let round : (k : ℕ) → IsDefinedInside c.args.ctx.now.tree k c.value-item.result → Among (Op k) (items_of (map (λ k. Operation k) c.push_around.new.around.ops.items ++ rest)) = λ k m. among_left (Op k) (map (λ k. Operation k) c.push_around.new.around.ops.items) rest (among_set c.push_around.new.around.ops.items k (scans.around k m)) in
    record {
      kept = λ x i. kept x (adds.kept x (c.loop-value.invariant.kept x i));
      revisited = looked_more c.args.ctx.now.tree c.value-item.result c.args.used.now c.loop-value.value-index (pending_candidates c.loop-value.worklist) (pending_candidates mid) (map (λ k. Operation k) c.push_around.new.around.ops.items ++ rest) c.loop-value.invariant.revisited at adds.kept kept round adds.makers adds.arguments;
      closed = c.in_ok-push_around.ensures.closed;
    }

pub revisit_definer-requires : goal.revisit_definer-requires
revisit_definer-requires c = c.is_noted.ensures.0 c.if-not-is_noted.false

pub push_around-requires-clause-closed : goal.push_around-requires-clause-closed
push_around-requires-clause-closed c = subst (λ z. AreClosedUnderNesting c.args.ctx.now.tree z) (sym c.in_ok-holder.ensures.keys) c.loop-value.invariant.closed

pub is_noted-requires : goal.is_noted-requires
is_noted-requires c =
    let at = slice_get-get_or c.args.used.now c.loop-value.value-index _ c.loop-value-test.true ∙ ap Some (sym c.value-item.is) in
    λ e. c.requires.live e c.value-item.result (in_slice c.args.used.now c.loop-value.value-index c.value-item.result at)
