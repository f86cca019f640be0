use Rattle.std.proofs.Common.{Some, ap, ◌∙◌}
use Rattle.pliron_core.specs.declared.context.Def.TheVariants.{Argument}
use Rattle.pliron_opt_rotate.specs.Tested.{IsMadeIn.OfArgument, IsMadeIn.OfResult}
use Rattle.pliron_opt_rotate.proofs.testing.is_value_of.Goals as goal

pub returns-in-Argument : goal.returns-in-Argument
returns-in-Argument c = λ e. record {
  live = c.is_live.ensures.0 c.if-not-is_live.false;
  made = OfArgument c.in-Argument.field-1 (c.in-Argument.ensures.definition ∙ ap (λ b. Some (Argument b c.in-Argument.field-1)) (c.is_same.ensures.same e));
}

pub returns-in-Result : goal.returns-in-Result
returns-in-Result c = λ e. record {
  live = c.is_live.ensures.0 c.if-not-is_live.false;
  made = OfResult _ _ c.in-Result.ensures.definition (c.only_makes.ensures.parent e) (c.only_makes.ensures.successors e);
}
