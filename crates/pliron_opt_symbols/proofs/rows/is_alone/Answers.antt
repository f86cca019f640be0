use Rattle.std.proofs.Common.{◌≡◌, sym, ◌∙◌}
use Rattle.std.proofs.lemmas.Bool.{false≢true}
use Rattle.pliron_core.specs.Tree.{head_of}
use Rattle.pliron_core.proofs.HoldingLemmas.{some_of}
use Rattle.pliron_opt_symbols.proofs.rows.is_alone.Goals as goal

pub returns-else-is_private : goal.returns-else-is_private
returns-else-is_private g c = (
  λ e. absurd (false≢true e),
  λ a. let x = some_of (head_of c.args.ctx.now.tree c.args.function) c.requires in absurd (false≢true (sym c.if-is_private.false ∙ (c.is_private.ensures x.0 x.1 ∙ a.0 x.0 x.1))),
)
