use Rattle.std.proofs.Common.{◌≡◌, take, drop}
use Rattle.pliron_opt_symbols.specs.Erasing.{AreErasableFunctions}
use Rattle.pliron_opt_symbols.specs.ErasedStates.{AreErased}
use Rattle.pliron_opt_symbols.proofs.erasing.symbol_dce.Given as goal

abbrev pub invariant-loop-function : goal.invariant-loop-function
invariant-loop-function g l = record {
  done : AreErased g.D.HasMeaning.meaning l.fn.ctx.tree l.ctx.tree l.fn.holder (take l.function-index l.function-items);
  rest : AreErasableFunctions l.ctx.tree l.fn.holder (drop l.function-index l.function-items);
  point : g.R.Rewriter.point l.rewriter ≡ g.R.Rewriter.point l.fn.rewriter;
}
