use Rattle.std.proofs.Common.{take}
use Rattle.pliron_theory.specs.Keeps.{IsFit}
use Rattle.pliron_pass_fit.specs.Chosen.{AreChosen}
use Rattle.pliron_pass_fit.proofs.find.fit_roots.Given as goal

abbrev pub invariant-loop-root : goal.invariant-loop-root
invariant-loop-root g l = AreChosen (IsFit g.D.HasMeaning.meaning l.ctx.tree) (take l.root-index l.roots) l.found.items
