use Rattle.std.proofs.Common.{sym, ◌∙◌, eq-eqb}
use Rattle.std.proofs.lemmas.Bool.{eqb-true}
use Rattle.pliron_opt_cfg.proofs.PairLemmas.{use_is_one, pred_is_one}
use Rattle.pliron_opt_cfg.proofs.merging.pairs.has_no_other_way.Goals as goal

pub returns : goal.returns
returns c =
    let u = c.well_formed-2.ensures in
    (λ e. pred_is_one c.args.ctx.now c.args.block c.args.jump u.tree u.uses c.requires.block c.requires.goes c.requires.edges (sym c.num_use.ensures ∙ eqb-true c.num_use.result 1 e), λ one. eq-eqb c.num_use.result 1 (c.num_use.ensures ∙ use_is_one c.args.ctx.now c.args.block c.args.jump u.tree u.uses c.requires.block c.requires.goes c.requires.edges one))
