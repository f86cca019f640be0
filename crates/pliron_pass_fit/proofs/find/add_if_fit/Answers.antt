use Rattle.pliron_laws.proofs.AnswerLemmas.{refuted}
use Rattle.pliron_theory.specs.Keeps.{IsFit}
use Rattle.pliron_pass_fit.proofs.FitLemmas.{put_last, left_out}
use Rattle.pliron_pass_fit.proofs.find.add_if_fit.Goals as goal

pub returns-then-not-is_live-clause-added : goal.returns-then-not-is_live-clause-added
returns-then-not-is_live-clause-added g c = λ roots so_far.
    left_out (IsFit g.D.HasMeaning.meaning c.args.ctx.now.tree) roots c.args.found.now.items c.args.root (λ fit. refuted c.is_live.result c.if-not-is_live.true (c.is_live.ensures.1 fit.live)) so_far

pub returns-then-not-fit-clause-added : goal.returns-then-not-fit-clause-added
returns-then-not-fit-clause-added g c = λ roots so_far.
    left_out (IsFit g.D.HasMeaning.meaning c.args.ctx.now.tree) roots c.args.found.now.items c.args.root (λ fit. refuted c.in_ok-fit.fit c.if-not-fit.true (c.in_ok-fit.ensures.fit.1 fit)) so_far

pub returns-clause-added : goal.returns-clause-added
returns-clause-added g c = λ roots so_far.
    put_last (IsFit g.D.HasMeaning.meaning c.args.ctx.now.tree) roots c.args.found.now.items c.push.new.self.items c.args.root c.in_ok-push.ensures.items (c.in_ok-fit.ensures.fit.0 c.if-not-fit.false) so_far
