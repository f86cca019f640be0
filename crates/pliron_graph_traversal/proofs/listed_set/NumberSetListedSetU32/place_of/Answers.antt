use Rattle.std.proofs.Common.{rules, ◌≡◌, length, sym, ◌∙◌}
use Rattle.pliron_graph_traversal.specs.Internal.Marks.{mark_of_member}
use Rattle.pliron_graph_traversal.proofs.MarkLemmas.{place_unmarked}
use Rattle.pliron_graph_traversal.proofs.listed_set.NumberSetListedSetU32.place_of.Goals as goal

pub returns-then-mark-eq0 : goal.returns-then-mark-eq0
returns-then-mark-eq0 c =
    let none : mark_of_member c.args.self.now c.args.member.now ≡ 0 = sym c.mark-mark.ensures ∙ c.if-mark-eq0.true in
    let count : c.len.result ≡ length c.args.self.now = search rules in
    count ∙ sym (place_unmarked c.args.self.now c.args.member.now none)
