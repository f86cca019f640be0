use Rattle.std.proofs.Common.{◌≤◌, ◌∷◌, [], length, map, ap, ◌∙◌, arith}
use Rattle.std.proofs.lemmas.List.{map-append, take_all}
use Rattle.pliron_laws.specs.Datum.{datum_of}
use Rattle.pliron_evaluator.specs.Evaluator.{datum_of_value}
use Rattle.pliron_role_runs.proofs.ListReads.{map_more}
use Rattle.pliron_role_runs.proofs.world_moves.contents_of.Goals as goal

pub loop-i-preserved : goal.loop-i-preserved
loop-i-preserved c =
    let more = ap (map datum_of_value) c.in_ok-push.ensures.items ∙ map-append datum_of_value c.loop-i.contents.items (c.in_ok-of.field-0 ∷ []) in
    map_more datum_of c.args.attrs.now c.loop-i.i c.get.result.now (datum_of_value c.in_ok-of.field-0) (map datum_of_value c.loop-i.contents.items) (map datum_of_value c.push.new.self.items) c.get.ensures c.in_ok-of.ensures more c.loop-i.invariant

pub returns : goal.returns
returns c =
    let le : length c.args.attrs.now ≤ c.loop-i.i = omega arith in
    c.loop-i.invariant ∙ ap (map datum_of) (take_all c.loop-i.i c.args.attrs.now le)
