use Rattle.pliron_show_places.proofs.LayoutLemmas.{laid_more}
use Rattle.pliron_show_places.proofs.layout.pretty.Goals as goal

pub loop-i-preserved : goal.loop-i-preserved
loop-i-preserved c = laid_more c.args.text.now c.loop-i.i _ _ _ _ _ _ c.loop-i-test.true c.loop-i.invariant c.in_ok-take.ensures
