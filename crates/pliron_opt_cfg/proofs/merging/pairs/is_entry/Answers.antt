use Rattle.std.proofs.Common.{sym, ◌∙◌}
use Rattle.pliron_opt_cfg.proofs.PairLemmas.{entry_is, entry_has, none_by, none_so}
use Rattle.pliron_opt_cfg.proofs.merging.pairs.is_entry.Goals as goal

pub returns : goal.returns
returns c =
    let t = c.args.ctx.now.tree in
    let w = c.well_formed-2.ensures.tree in
    (λ e. entry_is t w c.args.block c.requires (sym c.get_prev.ensures.prev ∙ none_by c.get_prev.result c.is_none.result c.is_none.ensures e), λ x. none_so c.get_prev.result c.is_none.result c.is_none.ensures (c.get_prev.ensures.prev ∙ entry_has t w c.args.block x.0 x.1))
