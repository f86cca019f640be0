use Rattle.std.proofs.Common.{◌≡◌, ◌∷◌, [], rules}
use Rattle.std.specs.Str.{trim}
use denote.Text.{Utf8}
use denote.Shadow.{shadow}
use Rattle.pliron_show_mlir.specs.RunWords.{says_part, comma_parts}
use Rattle.pliron_evaluator.specs.Evaluator.{datum_of_value}
use Rattle.pliron_show_mlir.proofs.WordLemmas.{pushed_more, pushed_last}
use Rattle.pliron_show_mlir.proofs.words.data_of_parts.Goals as goal

pub loop-part-preserved : goal.loop-part-preserved
loop-part-preserved c =
    let at : comma_parts c.loop-part.rest.now ≡ c.in-Some.part.now ∷ comma_parts c.in-Some.behind.now = c.in-Some.ensures.parts in
    let says : says_part c.trim.result.now (datum_of_value c.in-Some-datum_of_part.datum) = c.in-Some-datum_of_part.ensures in
    let utf8 : shadow (Utf8 c.in-Some.behind.now) = search rules in
    (utf8, pushed_more datum_of_value c.args.word.now c.loop-part.rest.now c.in-Some.part.now c.in-Some.behind.now c.trim.result.now c.loop-part.data.items c.push.new.self.items c.in-Some-datum_of_part.datum c.loop-part.invariant.1 at c.trim.ensures.trim says c.in_ok-push-in-Some-datum_of_part.ensures.items)

pub returns : goal.returns
returns c =
    let at : comma_parts c.loop-part.rest.now ≡ c.loop-part.rest.now ∷ [] = c.in_default.ensures.parts in
    let says : says_part c.trim-2.result.now (datum_of_value c.in-Some-datum_of_part-2.datum) = c.in-Some-datum_of_part-2.ensures in
    pushed_last datum_of_value c.args.word.now c.loop-part.rest.now c.trim-2.result.now c.loop-part.data.items c.push-in-Some-datum_of_part-2.new.self.items c.in-Some-datum_of_part-2.datum c.loop-part.invariant.1 at c.trim-2.ensures.trim says c.in_ok-push-in-Some-datum_of_part-2.ensures.items
