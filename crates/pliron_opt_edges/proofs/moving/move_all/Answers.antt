use Rattle.std.proofs.Common.{◌≡◌, ◌+◌, ◌<◌, ◌≤◌, length, Some, slice_get, refl, sym, ap, ◌∙◌, subst, arith}
use Rattle.std.proofs.lemmas.Option.{slice_get_read}
use Rattle.pliron_core.specs.Tree.{In}
use Rattle.pliron_laws.proofs.FoldLemmas.{on_err}
use Rattle.pliron_opt_edges.specs.MoveSteps.{branches_within, IsMoving}
use Rattle.pliron_opt_edges.proofs.MoveLemmas.{moving_start, move_live, move_placed, move_bare, move_childless, move_blocks, move_one, refused_change, refused_links, refused_blocks, all_moved, told}
use Rattle.pliron_opt_edges.proofs.moving.move_all.Goals as goal

pub loop-i-init : goal.loop-i-init
loop-i-init g c =
    moving_start g.D.HasMeaning.meaning _ _ _ g.met.D.Dialect.forwards_operands g.met.D.BranchesAtOnce.go_at_once c.args.root c.args.ctx.now.tree c.well_formed-2.ensures.tree c.args.ends.now c.requires.live c.requires.linked

pub move_one-moved-requires-clause-live : goal.move_one-moved-requires-clause-live
move_one-moved-requires-clause-live g c =
    let m = g.D.HasMeaning.meaning in
    let bs = branches_within m.is_branch c.args.ctx.now.tree c.args.root in
    let lt : c.loop-i.i < length c.args.branches.now = omega arith in
    let item : slice_get c.args.branches.now c.loop-i.i ≡ Some c.index-branches-i.result = slice_get_read c.args.branches.now (length c.args.branches.now) c.loop-i.i c.index-branches-i.result refl lt c.index-branches-i.is in
    let at : slice_get bs c.loop-i.i ≡ Some c.index-branches-i.result = ap (λ l. slice_get l c.loop-i.i) (sym c.requires.branches) ∙ item in
    move_live g.D.HasMeaning.meaning _ _ _ g.met.D.Dialect.forwards_operands g.met.D.BranchesAtOnce.go_at_once c.args.root c.args.ctx.now.tree c.well_formed-2.ensures.tree c.args.ends.now c.requires.known (λ k b x y. c.requires.there k b (subst (In k) (sym c.requires.branches) x) y) c.loop-i.i c.loop-i.status c.loop-i.ctx.tree c.loop-i.invariant c.index-branches-i.result at

pub move_one-moved-requires-clause-placed : goal.move_one-moved-requires-clause-placed
move_one-moved-requires-clause-placed g c =
    let m = g.D.HasMeaning.meaning in
    let bs = branches_within m.is_branch c.args.ctx.now.tree c.args.root in
    let lt : c.loop-i.i < length c.args.branches.now = omega arith in
    let item : slice_get c.args.branches.now c.loop-i.i ≡ Some c.index-branches-i.result = slice_get_read c.args.branches.now (length c.args.branches.now) c.loop-i.i c.index-branches-i.result refl lt c.index-branches-i.is in
    let at : slice_get bs c.loop-i.i ≡ Some c.index-branches-i.result = ap (λ l. slice_get l c.loop-i.i) (sym c.requires.branches) ∙ item in
    move_placed g.D.HasMeaning.meaning _ _ _ g.met.D.Dialect.forwards_operands g.met.D.BranchesAtOnce.go_at_once c.args.root c.args.ctx.now.tree c.well_formed-2.ensures.tree c.args.ends.now c.requires.known (λ k b x y. c.requires.there k b (subst (In k) (sym c.requires.branches) x) y) c.loop-i.i c.loop-i.status c.loop-i.ctx.tree c.loop-i.invariant c.index-branches-i.result at

pub move_one-moved-requires-clause-no_results : goal.move_one-moved-requires-clause-no_results
move_one-moved-requires-clause-no_results g c =
    let m = g.D.HasMeaning.meaning in
    let bs = branches_within m.is_branch c.args.ctx.now.tree c.args.root in
    let lt : c.loop-i.i < length c.args.branches.now = omega arith in
    let item : slice_get c.args.branches.now c.loop-i.i ≡ Some c.index-branches-i.result = slice_get_read c.args.branches.now (length c.args.branches.now) c.loop-i.i c.index-branches-i.result refl lt c.index-branches-i.is in
    let at : slice_get bs c.loop-i.i ≡ Some c.index-branches-i.result = ap (λ l. slice_get l c.loop-i.i) (sym c.requires.branches) ∙ item in
    move_bare g.D.HasMeaning.meaning _ _ _ g.met.D.Dialect.forwards_operands g.met.D.BranchesAtOnce.go_at_once c.args.root c.args.ctx.now.tree c.well_formed-2.ensures.tree c.args.ends.now c.requires.known (λ k b x y. c.requires.there k b (subst (In k) (sym c.requires.branches) x) y) c.loop-i.i c.loop-i.status c.loop-i.ctx.tree c.loop-i.invariant c.index-branches-i.result at

pub move_one-moved-requires-clause-no_regions : goal.move_one-moved-requires-clause-no_regions
move_one-moved-requires-clause-no_regions g c =
    let m = g.D.HasMeaning.meaning in
    let bs = branches_within m.is_branch c.args.ctx.now.tree c.args.root in
    let lt : c.loop-i.i < length c.args.branches.now = omega arith in
    let item : slice_get c.args.branches.now c.loop-i.i ≡ Some c.index-branches-i.result = slice_get_read c.args.branches.now (length c.args.branches.now) c.loop-i.i c.index-branches-i.result refl lt c.index-branches-i.is in
    let at : slice_get bs c.loop-i.i ≡ Some c.index-branches-i.result = ap (λ l. slice_get l c.loop-i.i) (sym c.requires.branches) ∙ item in
    move_childless g.D.HasMeaning.meaning _ _ _ g.met.D.Dialect.forwards_operands g.met.D.BranchesAtOnce.go_at_once c.args.root c.args.ctx.now.tree c.well_formed-2.ensures.tree c.args.ends.now c.requires.known (λ k b x y. c.requires.there k b (subst (In k) (sym c.requires.branches) x) y) c.loop-i.i c.loop-i.status c.loop-i.ctx.tree c.loop-i.invariant c.index-branches-i.result at

pub move_one-moved-requires-clause-targets : goal.move_one-moved-requires-clause-targets
move_one-moved-requires-clause-targets g c =
    let m = g.D.HasMeaning.meaning in
    let bs = branches_within m.is_branch c.args.ctx.now.tree c.args.root in
    let lt : c.loop-i.i < length c.args.branches.now = omega arith in
    let item : slice_get c.args.branches.now c.loop-i.i ≡ Some c.index-branches-i.result = slice_get_read c.args.branches.now (length c.args.branches.now) c.loop-i.i c.index-branches-i.result refl lt c.index-branches-i.is in
    let at : slice_get bs c.loop-i.i ≡ Some c.index-branches-i.result = ap (λ l. slice_get l c.loop-i.i) (sym c.requires.branches) ∙ item in
    move_blocks g.D.HasMeaning.meaning _ _ _ g.met.D.Dialect.forwards_operands g.met.D.BranchesAtOnce.go_at_once c.args.root c.args.ctx.now.tree c.well_formed-2.ensures.tree c.args.ends.now c.requires.known (λ k b x y. c.requires.there k b (subst (In k) (sym c.requires.branches) x) y) c.loop-i.i c.loop-i.status c.loop-i.ctx.tree c.loop-i.invariant c.index-branches-i.result at

pub loop-i-preserved : goal.loop-i-preserved
loop-i-preserved g c =
    let m = g.D.HasMeaning.meaning in
    let bs = branches_within m.is_branch c.args.ctx.now.tree c.args.root in
    let lt : c.loop-i.i < length c.args.branches.now = omega arith in
    let item : slice_get c.args.branches.now c.loop-i.i ≡ Some c.index-branches-i.result = slice_get_read c.args.branches.now (length c.args.branches.now) c.loop-i.i c.index-branches-i.result refl lt c.index-branches-i.is in
    let at : slice_get bs c.loop-i.i ≡ Some c.index-branches-i.result = ap (λ l. slice_get l c.loop-i.i) (sym c.requires.branches) ∙ item in
    subst (λ z. IsMoving m c.args.root c.args.ctx.now.tree bs (c.loop-i.i + 1) z c.move_one-moved.new.ctx.tree) (sym c.bitor_assign.ensures.after)
    (move_one g.D.HasMeaning.meaning _ _ _ g.met.D.Dialect.forwards_operands g.met.D.BranchesAtOnce.go_at_once c.args.root c.args.ctx.now.tree c.well_formed-2.ensures.tree c.args.ends.now c.requires.known (λ k b x y. c.requires.there k b (subst (In k) (sym c.requires.branches) x) y) c.loop-i.i c.loop-i.status c.loop-i.ctx.tree c.loop-i.invariant c.index-branches-i.result at c.move_one-moved.new.ctx.tree c.well_formed-in-loop-i.ensures.tree c.in_ok-moved.field-0 c.in_ok-moved.ensures.ok)

pub returns-in_err-moved-clause-change : goal.returns-in_err-moved-clause-change
returns-in_err-moved-clause-change g c =
    refused_change g.D.HasMeaning.meaning _ _ _ g.met.D.Dialect.forwards_operands g.met.D.BranchesAtOnce.go_at_once c.args.root c.args.ctx.now.tree c.well_formed-2.ensures.tree c.args.ends.now c.loop-i.i c.loop-i.status c.loop-i.ctx.tree c.loop-i.invariant c.move_one-moved.new.ctx.tree c.well_formed-in-loop-i.ensures.tree c.in_err-moved.ensures.refused c.move_one-moved.ensures.longer

pub returns-in_err-moved-clause-links : goal.returns-in_err-moved-clause-links
returns-in_err-moved-clause-links g c =
    refused_links g.D.HasMeaning.meaning _ _ _ g.met.D.Dialect.forwards_operands g.met.D.BranchesAtOnce.go_at_once c.args.root c.args.ctx.now.tree c.well_formed-2.ensures.tree c.args.ends.now c.loop-i.i c.loop-i.status c.loop-i.ctx.tree c.loop-i.invariant c.move_one-moved.new.ctx.tree c.well_formed-in-loop-i.ensures.tree c.in_err-moved.ensures.refused c.move_one-moved.ensures.longer

pub returns-in_err-moved-clause-blocks : goal.returns-in_err-moved-clause-blocks
returns-in_err-moved-clause-blocks g c =
    refused_blocks g.D.HasMeaning.meaning _ _ _ g.met.D.Dialect.forwards_operands g.met.D.BranchesAtOnce.go_at_once c.args.root c.args.ctx.now.tree c.well_formed-2.ensures.tree c.args.ends.now c.loop-i.i c.loop-i.status c.loop-i.ctx.tree c.loop-i.invariant c.move_one-moved.new.ctx.tree c.well_formed-in-loop-i.ensures.tree c.in_err-moved.ensures.refused c.move_one-moved.ensures.longer

pub returns-in_err-moved-clause-refused : goal.returns-in_err-moved-clause-refused
returns-in_err-moved-clause-refused g c =
    on_err _ c.from_residual.result (c.loop-i.ctx.tree, c.loop-i.invariant.moved, c.in_err-moved.ensures.refused)

pub returns-clause-change : goal.returns-clause-change
returns-clause-change g c =
    c.loop-i.invariant.change

pub returns-clause-moved : goal.returns-clause-moved
returns-clause-moved g c =
    c.loop-i.invariant.moved

pub returns-clause-none : goal.returns-clause-none
returns-clause-none g c =
    let m = g.D.HasMeaning.meaning in
    let past : length c.args.branches.now ≤ c.loop-i.i = omega arith in
    all_moved g.D.HasMeaning.meaning _ _ _ g.met.D.Dialect.forwards_operands g.met.D.BranchesAtOnce.go_at_once c.args.root c.args.ctx.now.tree c.well_formed-2.ensures.tree c.args.ends.now c.loop-i.i c.loop-i.status c.loop-i.ctx.tree c.loop-i.invariant (subst (λ l. length l ≤ c.loop-i.i) c.requires.branches past)

pub returns-clause-accurate : goal.returns-clause-accurate
returns-clause-accurate g c =
    told c.args.ctx.now.tree c.loop-i.ctx.tree c.loop-i.status c.loop-i.invariant.reported

pub returns-clause-blocks : goal.returns-clause-blocks
returns-clause-blocks g c =
    c.loop-i.invariant.blocks

pub returns-clause-links : goal.returns-clause-links
returns-clause-links g c =
    c.loop-i.invariant.links
