use Rattle.std.proofs.Common.{◌∙◌, sym}
use Rattle.pliron_opt_combine.proofs.Listing.{seen_more}
use Rattle.pliron_opt_combine.proofs.sweep.add_before.Goals as goal

pub returns-in_ok-add_new-clause-seen : goal.returns-in_ok-add_new-clause-seen
returns-in_ok-add_new-clause-seen c = λ root seen are. seen_more c.args.ctx.now.tree c.well_formed-2.ensures.tree root c.args.op c.in-Some.new c.args.work.now.seen.keys _ (sym c.get_prev.ensures.prev ∙ c.in-Some.is) c.in_ok-add_new.ensures.seen seen are
