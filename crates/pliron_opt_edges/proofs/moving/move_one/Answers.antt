use Rattle.std.proofs.Common.{length, refl, ap, sym, ◌∙◌, subst}
use Rattle.std.proofs.lemmas.List.{length-map}
use Rattle.pliron_core.specs.Tree.{In, operands_of, successors_of}
use Rattle.pliron_laws.specs.Replacing.{branch_replaced}
use Rattle.pliron_laws.proofs.AnswerLemmas.{refuted}
use Rattle.pliron_opt_edges.specs.Ends.{known_target_of}
use Rattle.pliron_opt_edges.proofs.moving.move_one.Goals as goal

pub are_successors-requires-clause-long : goal.are_successors-requires-clause-long
are_successors-requires-clause-long g c =
    ap length (c.as_slice.ensures.value ∙ c.in_ok-targets.ensures.ok) ∙ length-map (successors_of c.args.ctx.now.tree c.args.op) (λ b. known_target_of c.args.ends.now b)

pub lead_elsewhere-requires-clause-targets : goal.lead_elsewhere-requires-clause-targets
lead_elsewhere-requires-clause-targets g c = λ b i. c.requires.targets b (subst (In b) c.in_ok-targets.ensures.ok i)

pub returns-then-are_successors-clause-ok : goal.returns-then-are_successors-clause-ok
returns-then-are_successors-clause-ok g c =
    (sym c.in_ok-targets.ensures.ok ∙ sym c.as_slice.ensures.value ∙ c.are_successors.ensures.0 c.if-are_successors.true, refl)

pub returns-clause-ok : goal.returns-clause-ok
returns-clause-ok g c =
    let t = c.args.ctx.now.tree in (
      λ same. refuted c.are_successors.result c.if-are_successors.false (c.are_successors.ensures.1 (c.as_slice.ensures.value ∙ c.in_ok-targets.ensures.ok ∙ same)),
      λ head e. c.in_ok-lead_elsewhere.ensures.ok head e ∙ ap (branch_replaced t c.args.op head (operands_of t c.args.op)) c.in_ok-targets.ensures.ok,
    )
