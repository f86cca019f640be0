use Rattle.std.proofs.Common.{◌≡◌, ◌↔◌, ◌∙◌, Some, sym, subst, ap, nat_lt, nat_eq, ◌&&◌, true, IsTrue}
use Rattle.pliron_core.specs.Tree.{parent_of}
use Rattle.pliron_graph_traversal.specs.Search.{number_in}
use Rattle.pliron_laws.specs.Root.{defining_block}
use Rattle.pliron_pass_fit.specs.Definitions.{IsDefinedBefore}
use Rattle.pliron_pass_fit.proofs.OrderLemmas.{made_before_iff, less_answer}
use Rattle.pliron_pass_fit.proofs.definitions.is_defined_before.Goals as goal

pub returns-in-Result : goal.returns-in-Result
returns-in-Result c = λ block here there.
    let t = c.args.ctx.now.tree in
    let keys = c.args.contents.now.keys in
    let d = c.in-Result.ensures.definition in
    let at : parent_of t c.in-Result.op ≡ Some block = sym (ap (λ o. defining_block t o) d) ∙ there in
    let ready = c.requires.inside in
    let law = made_before_iff t c.well_formed-2.ensures.tree ready.0 keys c.in-Result.op c.args.around block ready.1 ready.2 here at in
    let answer = less_answer c.place_of-maker.result c.place_of-user.result (number_in (λ x y. nat_eq x y && true) keys c.in-Result.op) (number_in (λ x y. nat_eq x y && true) keys c.args.around) _ c.place_of-maker.ensures c.place_of-user.ensures law in
    subst (λ o. IsTrue (nat_lt c.place_of-maker.result c.place_of-user.result) ↔ IsDefinedBefore t o block c.args.around) (sym d) answer
