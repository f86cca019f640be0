use Rattle.std.proofs.Common.{◌≡◌, ◌<◌, ◌-◌, ◌*◌, ◌+◌, [], length, take, get_or, ap, ◌∙◌, arith}
use Rattle.std.specs.List.{sum}
use Rattle.std.proofs.lemmas.List.{get_or_default}
use Rattle.pliron_core.specs.Counts.{level}
use Rattle.pliron_core.proofs.TableLemmas.{at-inside}
use Rattle.pliron_core.proofs.LevelLemmas.{top-sum, down-within, down-left, down-right, selected}
use Rattle.pliron_core.proofs.slot_counts.SlotCounts.select.Goals as goal

pub loop-k-init : goal.loop-k-init
loop-k-init c =
    let long : c.len-k.result ≡ length c.self.inside.levels.items = omega arith in
    let r = rw (← c.self.view_is) at c.requires in
    record { rest = rw long (omega (arith, r, top-sum c.self.inside.levels.items c.self.invariant)); before = omega arith }

pub overflow_mul-place : goal.overflow_mul-place
overflow_mul-place c =
    let i = c.loop-k.invariant in
    let h : c.loop-k.k < length c.self.inside.levels.items = omega (arith, c.self.invariant.some) in
    let w = down-within c.self.inside.levels.items c.self.invariant c.loop-k.k c.loop-k.place c.loop-k.rest c.args.i h c.loop-k-test.true i.rest i.before in
    let row : c.index.result.now ≡ level c.self.inside.levels.items (c.loop-k.k - 1) = c.index.ensures ∙ get_or_default c.self.inside.levels.items (c.loop-k.k - 1) c.index.result.now [] (omega (arith, h)) in
    omega (arith, w, ap length row, c.len.ensures, c.len.type_inv)

pub entry-left-requires : goal.entry-left-requires
entry-left-requires c =
    let i = c.loop-k.invariant in
    let h : c.loop-k.k < length c.self.inside.levels.items = omega (arith, c.self.invariant.some) in
    let w = down-within c.self.inside.levels.items c.self.invariant c.loop-k.k c.loop-k.place c.loop-k.rest c.args.i h c.loop-k-test.true i.rest i.before in
    at-inside c.self.inside.levels.items (c.loop-k.k - 1) (c.loop-k.place * 2) (omega (arith, h)) w

pub overflow_add-place : goal.overflow_add-place
overflow_add-place c =
    let i = c.loop-k.invariant in
    let h : c.loop-k.k < length c.self.inside.levels.items = omega (arith, c.self.invariant.some) in
    let w = down-within c.self.inside.levels.items c.self.invariant c.loop-k.k c.loop-k.place c.loop-k.rest c.args.i h c.loop-k-test.true i.rest i.before in
    let row : c.index.result.now ≡ level c.self.inside.levels.items (c.loop-k.k - 1) = c.index.ensures ∙ get_or_default c.self.inside.levels.items (c.loop-k.k - 1) c.index.result.now [] (omega (arith, h)) in
    omega (arith, w, ap length row, c.len.ensures, c.len.type_inv)

pub loop-k-preserved-then-rest-left : goal.loop-k-preserved-then-rest-left
loop-k-preserved-then-rest-left c =
    let i = c.loop-k.invariant in
    let h : c.loop-k.k < length c.self.inside.levels.items = omega (arith, c.self.invariant.some) in
    let d = down-right c.self.inside.levels.items c.self.invariant c.loop-k.k c.loop-k.place c.loop-k.rest c.args.i h c.loop-k-test.true i.rest i.before c.entry-left.result c.entry-left.ensures c.if-rest-left.true in
    record { rest = d.0; before = d.1 }

pub loop-k-preserved : goal.loop-k-preserved
loop-k-preserved c =
    let i = c.loop-k.invariant in
    let h : c.loop-k.k < length c.self.inside.levels.items = omega (arith, c.self.invariant.some) in
    let d = down-left c.self.inside.levels.items c.self.invariant c.loop-k.k c.loop-k.place c.loop-k.rest c.args.i h c.loop-k-test.true i.rest i.before c.entry-left.result c.entry-left.ensures c.if-rest-left.false in
    record { rest = d.0; before = d.1 }

pub returns : goal.returns
returns c =
    let i = c.loop-k.invariant in
    let none : c.loop-k.k ≡ 0 = omega arith in
    let rest : c.loop-k.rest < get_or (level c.self.inside.levels.items 0) c.loop-k.place 0 = rw none at i.rest in
    let before : sum (take c.loop-k.place (level c.self.inside.levels.items 0)) + c.loop-k.rest ≡ c.args.i = rw none at i.before in
    let s = selected c.self.inside.levels.items c.loop-k.place c.loop-k.rest c.args.i c.self.invariant rest before in
    rw (← c.self.view_is) (record { taken = s.0; rank = s.1 })
