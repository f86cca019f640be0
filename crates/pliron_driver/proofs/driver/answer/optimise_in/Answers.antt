use Rattle.std.proofs.Common.{◌≡◌, refl}
use Rattle.pliron_driver.proofs.driver.answer.optimise_in.Goals as goal

pub returns : goal.returns
returns g c =
    let read = c.in_ok-document.ensures in
    let ran = c.in_ok-status.ensures in
    record { root = c.in_ok-document.document.root; before = c.read_document.new.ctx.tree; after = c.run_alone.new.ctx.tree; status = c.in_ok-status.status; printed = c.in_ok-printed.printed.items; read = read.text; runs = ran.ran; same = ran.same; liveness = ran.liveness; links = ran.links; inside = ran.inside; truly = ran.truly; prints_it = c.in_ok-printed.ensures; lines = refl }
