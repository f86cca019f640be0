use Rattle.pliron_show_places.proofs.LayoutLemmas.{blank_written}
use Rattle.pliron_show_places.proofs.layout.Layout.part.Goals as goal

pub returns-in_ok-push : goal.returns-in_ok-push
returns-in_ok-push c = blank_written _ _ _ _ c.if-not-self.false c.in_ok-push.ensures.items
