use Rattle.std.proofs.Common.{◌≡◌, [], IsSome, inl, inr, ⊎_elim, refl, sym, subst, length, arith}
use Rattle.std.proofs.lemmas.Result.{err_from_is_err_and}
use Rattle.pliron_core.specs.Tree.{In}
use Rattle.pliron_core.proofs.ListLemmas.{decide_in}
use Rattle.pliron_opt_cfg.specs.Internal.OtherUses.{HaveNoOtherUse, HaveOtherUse}
use Rattle.pliron_opt_cfg.proofs.CheckLemmas.{empty_list, some_item}
use Rattle.pliron_opt_cfg.proofs.CutOffLemmas.{exact, may_go, live_use}
use Rattle.pliron_opt_cfg.proofs.removal.region.clear_region.Goals as goal

pub returns-then-is_empty-clause-ok : goal.returns-then-is_empty-clause-ok
returns-then-is_empty-clause-ok g c =
    let t = c.args.ctx.now.tree in
    let len : length c.in_ok-blocks.blocks.items ≡ 0 = grind arith in
    let none : c.in_ok-blocks.blocks.items ≡ [] = empty_list c.in_ok-blocks.blocks.items len in
    (λ b k. subst (In b) none ((exact t c.well_formed-2.ensures.tree c.args.region c.in_ok-blocks.blocks.items c.args.reached.now.keys c.in_ok-blocks.ensures.members c.requires.reached (λ b. decide_in b c.args.reached.now.keys) b).1 k), refl)

pub check_uses-requires : goal.check_uses-requires
check_uses-requires g c b i =
    let t = c.args.ctx.now.tree in
    let m = (c.in_ok-blocks.ensures.members b).0 (subst (In b) c.deref.ensures.value i) in
    subst IsSome (sym (c.well_formed-2.ensures.tree.layouts.owned b c.args.region m.0)) refl

pub returns-in_err-check_uses-clause-err : goal.returns-in_err-check_uses-clause-err
returns-in_err-check_uses-clause-err g c =
    let t = c.args.ctx.now.tree in
    let h = c.in_err-check_uses.ensures.err in
    let p = err_from_is_err_and c.from_residual-in_err-check_uses.result c.from_residual-in_err-check_uses.ensures.1 in
    rw (p.1, p.2) (
      refl,
      ⊎_elim (λ e. inl e)
          (λ x. inr (x.0, live_use t c.well_formed-2.ensures.tree c.args.region c.in_ok-blocks.blocks.items c.args.reached.now.keys c.in_ok-blocks.ensures.members c.requires.reached (λ b. decide_in b c.args.reached.now.keys) (subst (HaveOtherUse t) c.deref.ensures.value x.1))) h,
    )

pub erase_blocks-requires-clause-may : goal.erase_blocks-requires-clause-may
erase_blocks-requires-clause-may g c =
    let t = c.args.ctx.now.tree in
    let same : c.deref-2.result.now ≡ c.in_ok-blocks.blocks.items = c.deref-2.ensures.value in
    let none : HaveNoOtherUse t c.in_ok-blocks.blocks.items = subst (HaveNoOtherUse t) c.deref.ensures.value c.in_ok-check_uses.ensures.ok in
    rw same (may_go t c.well_formed-2.ensures.tree c.args.region c.in_ok-blocks.blocks.items c.args.reached.now.keys c.in_ok-blocks.ensures.members c.requires.reached (λ b. decide_in b c.args.reached.now.keys) none)

pub returns-clause-ok : goal.returns-clause-ok
returns-clause-ok g c =
    let t = c.args.ctx.now.tree in
    let bs = c.in_ok-blocks.blocks.items in
    let some : length bs ≡ 0 → ⊥ = grind arith in
    let one = some_item bs some in
    record {
      blocks = bs;
      exact = exact t c.well_formed-2.ensures.tree c.args.region bs c.args.reached.now.keys c.in_ok-blocks.ensures.members c.requires.reached (λ b. decide_in b c.args.reached.now.keys);
      one = one.0;
      listed = one.1;
      cut = rw (← c.deref-2.ensures.value) c.erase_blocks.ensures.cut;
      runs = c.erase_blocks.ensures.runs;
    }
