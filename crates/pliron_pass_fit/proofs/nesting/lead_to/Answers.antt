use Rattle.std.proofs.Common.{◌∙◌, Some, sym, subst}
use Rattle.std.proofs.lemmas.Option.{same_Some}
use Rattle.std.proofs.lemmas.Bool.{false≢true}
use Rattle.pliron_core.specs.Tree.{In}
use Rattle.pliron_pass_fit.proofs.ContentsLemmas.{in_tested, position_at}
use Rattle.pliron_pass_fit.proofs.WayLemmas.{led}
use Rattle.pliron_pass_fit.proofs.nesting.lead_to.Goals as goal

pub unreachable-requires-in_default-get_index_of : goal.unreachable-requires-in_default-get_index_of
unreachable-requires-in_default-get_index_of c =
    let held = c.requires.held in
    let same = same_Some held.0 c.in-Some.holder (sym held.1 ∙ sym c.in-Some.ensures.holder) in
    false≢true (c.in_default-get_index_of.ensures.found ∙ in_tested c.args.way.now.keys c.in-Some.holder (subst (λ z. In z c.args.way.now.keys) same held.2))

pub returns-clause-led : goal.returns-clause-led
returns-clause-led c = λ root at way.
    let t = c.args.ctx.now.tree in
    led t c.well_formed-2.ensures.tree root at c.args.op c.in-Some.holder c.in-Some-get_index_of.above c.args.way.now.keys c.truncate.new.self.keys c.insert.new.self.keys way (sym c.in-Some.ensures.holder) (position_at c.args.way.now.keys c.in-Some.holder c.in-Some-get_index_of.above (sym c.in-Some-get_index_of.ensures.index)) c.truncate.ensures.keys c.in_ok-insert.ensures.keys
