use Rattle.std.proofs.Common.{◌≡◌, ◌∙◌, ◌<◌, ◌+◌, [], ◌∷◌, ◌++◌, length, refl, sym, ap, subst, true, arith, Some, slice_get, IsSome}
use Rattle.std.specs.Option.{is_some}
use Rattle.std.proofs.lemmas.Option.{slice_get_read}
use Rattle.pliron_core.specs.Tree.{IsLive, row_of, results_of, parent_of}
use Rattle.pliron_core.specs.Invariant.{IsTree}
use Rattle.pliron_core.proofs.TreeLemmas.{live-within}
use Rattle.pliron_laws.specs.MaterialisedConstants.{ArePutBefore, insert_constant}
use Rattle.pliron_laws.proofs.ConstantLemmas.{made_point}
use Rattle.pliron_laws.proofs.LinkedLemmas.{tree_created}
use Rattle.pliron_laws.proofs.MaterialisedLemmas.{standing_row, standing_parent, restored_made, restored_refl}
use Rattle.pliron_laws.proofs.FoldLemmas.{none_of, passed_over, fresh_made, past_min, on_err}
use Rattle.pliron_laws.proofs.FoldSteps.{IsFolding, folding_start, folding_unknown, folding_over, folding_put, folding_end}
use Rattle.pliron_laws.proofs.dialect.ConstFoldInterface.materialise_constants.Goals as goal

pub loop-i-init : goal.loop-i-init
loop-i-init g c = record {
  folding = folding_start _ _ _ _ _ c.args.made.now.items c.requires.none;
  row = refl;
  parent = refl;
  point = c.requires.point;
}

pub loop-i-preserved-in_default : goal.loop-i-preserved-in_default
loop-i-preserved-in_default g c =
    let t = c.args.ctx.now.tree in
    let d = g.Self.ConstFoldInterface in
    let items = c.args.answers.now in
    let now = c.loop-i.ctx.tree in
    let lt : c.loop-i.i < length items = omega arith in
    let said : slice_get items c.loop-i.i ≡ Some c.index-answers-i.result = slice_get_read items (length items) c.loop-i.i c.index-answers-i.result refl lt c.index-answers-i.is in
    let within : c.loop-i.i < length (results_of t c.args.op) = omega arith in
    record {
      folding = folding_unknown d.accepts d.constant_head c.args.op items t c.loop-i.i c.index-answers-i.result c.loop-i.made.items now c.loop-i.invariant.folding within said (none_of _ c.in_default.not-Some);
      row = c.loop-i.invariant.row;
      parent = c.loop-i.invariant.parent;
      point = c.loop-i.invariant.point;
    }

pub returns-in_err-take_room-clause-refused : goal.returns-in_err-take_room-clause-refused
returns-in_err-take_room-clause-refused g c =
    let now = c.loop-i.ctx.tree in
    on_err _ c.from_residual.result (now, subst (λ l. ArePutBefore c.args.op c.args.ctx.now.tree l now) (sym c.take_room.ensures.kept) c.loop-i.invariant.folding.all_in_place, restored_refl now now refl)

pub loop-i-preserved-in_default-2 : goal.loop-i-preserved-in_default-2
loop-i-preserved-in_default-2 g c =
    let t = c.args.ctx.now.tree in
    let d = g.Self.ConstFoldInterface in
    let items = c.args.answers.now in
    let now = c.loop-i.ctx.tree in
    let next = c.materialize.new.ctx.tree in
    let f = c.loop-i.invariant.folding in
    let lt : c.loop-i.i < length items = omega arith in
    let said : slice_get items c.loop-i.i ≡ Some c.index-answers-i.result = slice_get_read items (length items) c.loop-i.i c.index-answers-i.result refl lt c.index-answers-i.is in
    let at : slice_get (results_of t c.args.op) c.loop-i.i ≡ Some c.get_result-old.result = ap (λ z. slice_get z.results c.loop-i.i) (sym c.loop-i.invariant.row) ∙ c.get_result-old.ensures.value in
    let over = passed_over d.accepts d.constant_head _ now next _ c.in_ok-constant.ensures.ok (none_of _ c.in_default-2.not-Some) in
    record {
      folding = subst (λ l. IsFolding d.accepts d.constant_head c.args.op items t (c.loop-i.i + 1) l next) (sym c.take_room.ensures.kept) (folding_over d.accepts d.constant_head c.args.op items t c.loop-i.i c.get_result-old.result c.index-answers-i.result _ c.loop-i.made.items now next f at said c.in-Some.is over);
      row = ap (λ z. row_of z c.args.op) over.1 ∙ c.loop-i.invariant.row;
      parent = ap (λ z. parent_of z c.args.op) over.1 ∙ c.loop-i.invariant.parent;
      point = c.take_room.ensures.point ∙ c.loop-i.invariant.point;
    }

pub returns-in_err-constant-clause-refused : goal.returns-in_err-constant-clause-refused
returns-in_err-constant-clause-refused g c =
    let now = c.loop-i.ctx.tree in
    let next = c.materialize.new.ctx.tree in
    on_err _ c.from_residual-in_err-constant.result (now, subst (λ l. ArePutBefore c.args.op c.args.ctx.now.tree l now) (sym c.take_room.ensures.kept) c.loop-i.invariant.folding.all_in_place, restored_refl now next (ap (λ v. v.tree) c.in_err-constant.ensures.refused))

pub insert_constant-requires-clause-fresh : goal.insert_constant-requires-clause-fresh
insert_constant-requires-clause-fresh g c =
    let d = g.Self.ConstFoldInterface in
    let now = c.loop-i.ctx.tree in
    let made = fresh_made d.accepts d.constant_head _ now c.materialize.new.ctx.tree c.in-Some-2.constant c.in_ok-constant.field-0 c.well_formed-in-loop-i.ensures.tree c.in_ok-constant.ensures.ok c.in-Some-2.is in
    (now, _, made.1)

pub insert_constant-requires-clause-point : goal.insert_constant-requires-clause-point
insert_constant-requires-clause-point g c =
    let d = g.Self.ConstFoldInterface in
    let now = c.loop-i.ctx.tree in
    let live : IsLive now c.args.op = subst (λ z. is_some z.head ≡ true) (sym c.loop-i.invariant.row) c.requires.live in
    let placed : IsSome (parent_of now c.args.op) = subst IsSome (sym c.loop-i.invariant.parent) c.requires.placed in
    let made = fresh_made d.accepts d.constant_head _ now c.materialize.new.ctx.tree c.in-Some-2.constant c.in_ok-constant.field-0 c.well_formed-in-loop-i.ensures.tree c.in_ok-constant.ensures.ok c.in-Some-2.is in
    made_point now c.materialize.new.ctx.tree c.args.op c.in-Some-2.constant _ _ (subst IsTree (sym made.1.made) (tree_created now _ c.well_formed-in-loop-i.ensures.tree)) made.1.made made.1.key (c.take_room.ensures.point ∙ c.loop-i.invariant.point) live placed

pub returns-in_err-insert_constant-clause-refused : goal.returns-in_err-insert_constant-clause-refused
returns-in_err-insert_constant-clause-refused g c =
    let d = g.Self.ConstFoldInterface in
    let now = c.loop-i.ctx.tree in
    let made = fresh_made d.accepts d.constant_head _ now c.materialize.new.ctx.tree c.in-Some-2.constant c.in_ok-constant.field-0 c.well_formed-in-loop-i.ensures.tree c.in_ok-constant.ensures.ok c.in-Some-2.is in
    on_err _ c.from_residual-in_err-insert_constant.result (now, subst (λ l. ArePutBefore c.args.op c.args.ctx.now.tree l now) (sym (c.in_err-insert_constant.ensures.kept ∙ c.take_room.ensures.kept)) c.loop-i.invariant.folding.all_in_place, restored_made now c.materialize.new.ctx.tree c.insert_constant.new.ctx.tree c.in-Some-2.constant _ made.1 c.in_err-insert_constant.ensures.err)

pub loop-i-preserved : goal.loop-i-preserved
loop-i-preserved g c =
    let t = c.args.ctx.now.tree in
    let d = g.Self.ConstFoldInterface in
    let items = c.args.answers.now in
    let now = c.loop-i.ctx.tree in
    let next = c.insert_constant.new.ctx.tree in
    let f = c.loop-i.invariant.folding in
    let lt : c.loop-i.i < length items = omega arith in
    let said : slice_get items c.loop-i.i ≡ Some c.index-answers-i.result = slice_get_read items (length items) c.loop-i.i c.index-answers-i.result refl lt c.index-answers-i.is in
    let at : slice_get (results_of t c.args.op) c.loop-i.i ≡ Some c.get_result-old.result = ap (λ z. slice_get z.results c.loop-i.i) (sym c.loop-i.invariant.row) ∙ c.get_result-old.ensures.value in
    let placed : IsSome (parent_of now c.args.op) = subst IsSome (sym c.loop-i.invariant.parent) c.requires.placed in
    let made = fresh_made d.accepts d.constant_head _ now c.materialize.new.ctx.tree c.in-Some-2.constant c.in_ok-constant.field-0 c.well_formed-in-loop-i.ensures.tree c.in_ok-constant.ensures.ok c.in-Some-2.is in
    let point = c.take_room.ensures.point ∙ c.loop-i.invariant.point in
    let more = c.in_ok-insert_constant.ensures.made now _ made.1 ∙ ap (λ l. l ++ insert_constant now c.get_result-old.result ∷ []) c.take_room.ensures.kept in
    let done = folding_put d.accepts d.constant_head c.args.op items t c.loop-i.i c.get_result-old.result c.in-Some-2.constant c.index-answers-i.result _ _ c.loop-i.made.items c.insert_constant.new.made.items now c.materialize.new.ctx.tree next f at said c.in-Some.is placed c.get_result-old.ensures.liveness made.0 made.1 point c.in_ok-insert_constant.ensures.ok more in
    let within = live-within t c.args.op c.requires.live in
    record {
      folding = done;
      row = standing_row c.args.op t _ next done.all_in_place c.args.op within;
      parent = standing_parent c.args.op t _ next done.all_in_place c.args.op within;
      point = c.insert_constant.ensures.point ∙ point;
    }

pub returns-clause-ok : goal.returns-clause-ok
returns-clause-ok g c =
    let t = c.args.ctx.now.tree in
    let d = g.Self.ConstFoldInterface in
    let items = c.args.answers.now in
    let over = past_min (length (results_of t c.args.op)) (length items) c.num_result.result (length items) c.min-count.result c.loop-i.i c.num_result.ensures refl c.min-count.ensures c.loop-i-test.false in
    folding_end d.accepts d.constant_head c.args.op items t c.loop-i.i c.loop-i.made.items c.loop-i.ctx.tree c.loop-i.invariant.folding over
