use Rattle.std.proofs.Common.{ap, ◌∙◌, map, lit<}
use Rattle.std.proofs.lemmas.Iterator.Consumers.{YieldsList-end}
use Rattle.std.proofs.lemmas.Iterator.Splits.{YieldsList-from_str_split}
use Rattle.pliron_driver.proofs.program.pipeline_text.names.Goals as goal

pub returns : goal.returns
returns c =
    let pieces = YieldsList-from_str_split {s = c.into_iter-name-iterator.result} 44 c.args.list.text.now (lit< tt) (cc) (cc) (cc) in
    let whole = YieldsList-end pieces c.loop-name.yielded c.loop-name.name-iterator c.loop-name.yielded_by c.next.result c.next.new.self c.in-None.is c.next.ensures.steps in
    ap (λ z. map (λ name. name.now) z) c.loop-name.invariant ∙ whole.0
