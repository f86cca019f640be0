use Rattle.std.proofs.Common.{◌∙◌}
use Rattle.pliron_core.specs.Tree.{regions_of}
use Rattle.pliron_core.proofs.FlatLemmas.{In-slice_get}
use Rattle.pliron_laws.proofs.AnswerLemmas.{refuted}
use Rattle.pliron_pass_fit.proofs.violations.region_violation.Goals as goal

pub returns : goal.returns
returns g c =
    let region = c.get_region-region.result in
    (c.args.op, c.requires.within, In-slice_get (regions_of c.args.ctx.now.tree c.args.op) c.args.index region c.get_region-region.ensures.region, λ ssa. refuted c.has_ssa_dominance.result c.if-has_ssa_dominance.false (c.has_ssa_dominance.ensures ∙ ssa))
