use Rattle.pliron_show_places.proofs.LayoutLemmas.{byte_written}
use Rattle.pliron_show_places.proofs.layout.Layout.take.Goals as goal

pub returns-in_ok-put-in_default : goal.returns-in_ok-put-in_default
returns-in_ok-put-in_default c = byte_written _ _ _ _ _ _ _ _ c.in_ok-part-in_default.ensures c.in_ok-put-in_default.ensures.text c.in_ok-put-in_default.ensures.parts c.in_ok-put-in_default.ensures.breaks
