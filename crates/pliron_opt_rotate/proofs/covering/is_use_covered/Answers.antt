use Rattle.std.proofs.Common.{inl, inr}
use Rattle.pliron_opt_rotate.proofs.covering.is_use_covered.Goals as goal

pub returns-then-stands_in : goal.returns-then-stands_in
returns-then-stands_in c = λ e. inl (c.stands_in.ensures.yes c.if-stands_in.true)

pub returns : goal.returns
returns c = λ e. inr (c.if-not-passed.false, c.is_in_either.ensures e)
