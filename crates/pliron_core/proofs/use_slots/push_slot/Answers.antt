use Rattle.pliron_core.proofs.PlaceLemmas.{written-again, popped-again}
use Rattle.pliron_core.proofs.use_slots.push_slot.Goals as goal

pub returns-in-Err-clause-err : goal.returns-in-Err-clause-err
returns-in-Err-clause-err c =
    let r = c.requires in (
      written-again c.args.places.now.items c.args.user r.user _ _ c.index_mut-2.ensures.value c.in-Err.ensures.err,
      popped-again c.args.uses.now.items c.args.target r.target _ _ _ _ _ c.index_mut.ensures.value c.in_ok-push.ensures.ok c.index_mut-in-Err.ensures.value c.pop.ensures,
    )
