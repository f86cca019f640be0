use Rattle.std.proofs.Common.{rules, ◌≡◌, ◌<◌, ◌≤◌, [], length, slice_index_or, Some, refl, sym, ap, ◌∙◌, arith}
use Rattle.std.specs.List.{slice_get}
use Rattle.std.proofs.lemmas.Option.{slice_get_past, slice_get_read}
use Rattle.pliron_core.specs.Arguments.{definitions_now}
use Rattle.pliron_core.specs.declared.context.Def.TheVariants.{Argument}
use Rattle.pliron_core.proofs.MadeLemmas.{length-defined, result-made, unused-made, used-made}
use Rattle.pliron_core.proofs.arguments.Arguments.definition.Goals as goal

pub returns-then-index-len : goal.returns-then-index-len
returns-then-index-len c =
    let past : length c.self.inside.written.items ≤ c.args.value = search rules in
    rw (← c.self.view_is) (sym (slice_get_past (definitions_now c.self.inside.written.items c.self.inside.lists.uses) c.args.value (omega (arith, past, length-defined c.self.inside.written.items c.self.inside.lists.uses c.self.invariant.count))))

pub returns-in-Result : goal.returns-in-Result
returns-in-Result c =
    let within : c.args.value < length c.self.inside.written.items = search rules in
    let read : c.index-made.result.now ≡ slice_index_or c.self.inside.written.items c.args.value c.index-made.result.now = search rules in
    let there = slice_get_read c.self.inside.written.items _ c.args.value c.index-made.result.now refl within read ∙ ap Some (sym c.definition-written.ensures) in
    rw (← c.self.view_is) (result-made _ _ _ c.args.value _ _ _ c.agree.ensures c.self.invariant there c.in-Result.is)

pub returns-then-num_uses-eq0 : goal.returns-then-num_uses-eq0
returns-then-num_uses-eq0 c =
    let within : c.args.value < length c.self.inside.written.items = search rules in
    let read : c.index-made.result.now ≡ slice_index_or c.self.inside.written.items c.args.value c.index-made.result.now = search rules in
    let there = slice_get_read c.self.inside.written.items _ c.args.value c.index-made.result.now refl within read ∙ ap Some (sym c.definition-written.ensures) in
    let none : length (slice_index_or c.self.inside.lists.uses c.args.value []) ≡ 0 = search rules in
    rw (← c.self.view_is) (unused-made c.self.inside.written.items c.self.inside.lists.uses c.args.value _ c.self.invariant.count there none)

pub returns : goal.returns
returns c =
    let within : c.args.value < length c.self.inside.written.items = search rules in
    let first : slice_get (slice_index_or c.self.inside.lists.uses c.args.value []) 0 ≡ Some c.get_use-user.result = search rules in
    rw (← c.self.view_is) (ap (λ b. Some (Argument b c.get_use-user.result.place)) c.new.ensures ∙ used-made c.self.inside.written.items c.self.inside.lists.uses c.args.value c.get_use-user.result c.self.invariant.count within first)
