use Rattle.std.proofs.Common.{◌≡◌, [], length, get_or, ap, ◌∙◌, arith}
use Rattle.std.proofs.lemmas.List.{get_or_default}
use Rattle.std.proofs.lemmas.Option.{slice_get_within}
use Rattle.pliron_core.proofs.TableLemmas.{at-within}
use Rattle.pliron_core.proofs.TableLemmas.{at-some}
use Rattle.pliron_core.proofs.inline_list.set_entry.Goals as goal

pub set-requires : goal.set-requires
set-requires g c =
    let s = at-some c.args.rows.now.items c.args.i c.args.j c.requires in
    let row_is : c.index_mut.result.now ≡ get_or c.args.rows.now.items c.args.i [] = c.index_mut.ensures.value ∙ get_or_default c.args.rows.now.items c.args.i c.index_mut.result.now [] (at-within c.args.rows.now.items c.args.i c.args.j s.0 s.1) in
    omega (arith, slice_get_within (get_or c.args.rows.now.items c.args.i []) c.args.j s.0 s.1, ap length row_is)
