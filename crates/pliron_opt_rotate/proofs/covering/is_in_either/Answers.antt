use Rattle.std.proofs.Common.{inl, inr, sym, ◌∙◌}
use Rattle.pliron_opt_rotate.proofs.Walks.{key_in}
use Rattle.pliron_opt_rotate.proofs.covering.is_in_either.Goals as goal

pub returns-then-contains : goal.returns-then-contains
returns-then-contains c = λ e. inl (key_in c.args.users.now.keys c.args.op (sym c.contains.ensures ∙ c.if-contains.true))

pub returns : goal.returns
returns c = λ e. inr (key_in c.args.more.now.keys c.args.op (sym c.contains-2.ensures ∙ e))
