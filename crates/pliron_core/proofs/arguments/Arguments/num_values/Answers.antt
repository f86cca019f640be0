use Rattle.std.proofs.Common.{rules, ◌≡◌, length, sym, ◌∙◌}
use Rattle.pliron_core.proofs.MadeLemmas.{length-defined}
use Rattle.pliron_core.proofs.arguments.Arguments.num_values.Goals as goal

pub returns : goal.returns
returns c =
    let count : c.len.result ≡ length c.self.inside.written.items = search rules in
    rw (← c.self.view_is) (count ∙ sym (length-defined c.self.inside.written.items c.self.inside.lists.uses c.self.invariant.count))
