use Rattle.std.proofs.Common.{rules, ◌≡◌, ◌+◌, length, set, ap, sym, ◌∙◌}
use Rattle.std.proofs.lemmas.List.{length_push}
use Rattle.pliron_graph_traversal.specs.Internal.Marks.{AreMarksOf, mark_of_member}
use Rattle.pliron_graph_traversal.proofs.MarkLemmas.{marks_alike, marks_pushed}
use Rattle.pliron_graph_traversal.proofs.listed_set.NumberSetListedSetU32.insert.Goals as goal
use Rattle.pliron_graph_traversal.proofs.listed_set.NumberSetListedSetU32.insert.Goals.{In_ok-push}

-- the marks with that of the new member
marks : (c : In_ok-push) (mark : _) → mark ≡ length c.push.new.self.items → AreMarksOf c.push.new.self.items (set c.lengthen.new.table.items c.args.member mark)
marks c mark is =
    let members = c.self.inside.members.items in
    let none : mark_of_member c.self.inside.members.items c.args.member ≡ 0 = ap (λ xs. mark_of_member xs c.args.member) c.self.view_is ∙ sym c.mark.ensures ∙ c.if-mark-ne0.false in
    let alike = marks_alike members c.self.inside.marks.items c.self.invariant c.lengthen.new.table.items c.lengthen.ensures.same in
    let size : mark ≡ length c.self.inside.members.items + 1 = is ∙ ap length c.in_ok-push.ensures.items ∙ length_push members c.args.member in
    rw c.in_ok-push.ensures.items (marks_pushed members c.lengthen.new.table.items alike c.args.member mark c.in_ok-lengthen.ensures.within size none)

pub invariant_of-self-2 : goal.invariant_of-self-2
invariant_of-self-2 c =
    let count : c.len.result ≡ length c.push.new.self.items = search rules in
    marks ((goal.at.invariant_of-self-2 c).In_ok-push) c.len.result count

pub returns-clause-unique : goal.returns-clause-unique
returns-clause-unique c = (marks ((goal.at.returns-clause-unique c).In_ok-push) (length c.push.new.self.items) (search rules)).distinct
