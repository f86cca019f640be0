use Rattle.std.proofs.Common.{◌≡◌, ◌-◌, length, get_or, ap, ◌∙◌, rules, arith}
use Rattle.pliron_core.proofs.LevelLemmas.{total-none, total-one}
use Rattle.pliron_core.proofs.slot_counts.SlotCounts.total.Goals as goal

pub returns-then-is_empty : goal.returns-then-is_empty
returns-then-is_empty c =
    let none : length c.index-top.result.now ≡ 0 = search rules in
    let long : c.len.result ≡ length c.self.inside.levels.items = omega arith in
    let top : c.index-top.result.now ≡ get_or c.self.inside.levels.items (length c.self.inside.levels.items - 1) c.index-top.result.now = c.index-top.ensures ∙ ap (λ n. get_or c.self.inside.levels.items (n - 1) c.index-top.result.now) long in
    rw (← c.self.view_is) (total-none c.self.inside.levels.items _ c.self.invariant top none)

pub returns-else-is_empty : goal.returns-else-is_empty
returns-else-is_empty c =
    let long : c.len.result ≡ length c.self.inside.levels.items = omega arith in
    let top : c.index-top.result.now ≡ get_or c.self.inside.levels.items (length c.self.inside.levels.items - 1) c.index-top.result.now = c.index-top.ensures ∙ ap (λ n. get_or c.self.inside.levels.items (n - 1) c.index-top.result.now) long in
    rw (← c.self.view_is) (total-one c.self.inside.levels.items _ _ c.self.invariant top c.get.ensures)
