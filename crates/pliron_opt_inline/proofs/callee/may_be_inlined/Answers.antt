use Rattle.std.proofs.Common.{◌≡◌, ℕ, [], ◌∷◌, length, Some, None, refl, sym, ap, ◌∙◌, subst, arith}
use Rattle.pliron_core.specs.Tree.{first_of, regions_of, arguments_of, block_parent_of, layout_of}
use Rattle.pliron_core.proofs.HoldingLemmas.{some_is, not_none}
use Rattle.std.specs.Option.{option_copied}
use Rattle.std.specs.Prelude.{option_map}
use Rattle.pliron_laws.specs.Answers.{ReadsHead}
use Rattle.pliron_laws.specs.Datum.{datum_of}
use Rattle.pliron_laws.proofs.AnswerLemmas.{no}
use Rattle.pliron_rewrite_inlining.specs.Inlined.{RunsItsRegion}
use Rattle.pliron_opt_inline.specs.Copying.{IsBlockCopyableByHead}
use Rattle.pliron_opt_inline.specs.Callees.{IsInlinableByHead}
use Rattle.pliron_opt_inline.proofs.CalleeLemmas.{only_one, same_head, head_named, head_unnamed, same_region, same_entry, runs_it, inlinable}
use Rattle.pliron_opt_inline.proofs.callee.may_be_inlined.Goals as goal

pub returns-in_default-clause-exact : goal.returns-in_default-clause-exact
returns-in_default-clause-exact g c =
    let t = c.args.ctx.now.tree in
    let D = g.D.InliningDialect in
    no (IsInlinableByHead D.convention.symbol_of D.returns D.stays D.closes t c.args.callee c.args.operands c.args.results)
    (λ x. head_unnamed D.convention.symbol_of t c.args.callee c.requires (subst (λ o. ReadsHead D.convention.symbol_of t c.args.callee (option_map datum_of (option_copied o))) c.in_default.is c.symbol_name.ensures.reads) x.named)

pub returns-then-num_region-ne1-clause-exact : goal.returns-then-num_region-ne1-clause-exact
returns-then-num_region-ne1-clause-exact g c =
    let t = c.args.ctx.now.tree in
    let D = g.D.InliningDialect in
    no (IsInlinableByHead D.convention.symbol_of D.returns D.stays D.closes t c.args.callee c.args.operands c.args.results)
    (λ x. let one : length (regions_of t c.args.callee) ≡ 1 = ap length x.holds in absurd (omega (arith, one, c.num_region.ensures, c.if-num_region-ne1.true)))

pub returns-in_default-get_head-clause-exact : goal.returns-in_default-get_head-clause-exact
returns-in_default-get_head-clause-exact g c =
    let t = c.args.ctx.now.tree in
    let D = g.D.InliningDialect in
    let one : length (regions_of t c.args.callee) ≡ 1 = omega (arith, c.num_region.ensures, c.if-num_region-ne1.false) in
    let holds = only_one (regions_of t c.args.callee) c.get_region-region.result one c.get_region-region.ensures.region in
    no (IsInlinableByHead D.convention.symbol_of D.returns D.stays D.closes t c.args.callee c.args.operands c.args.results)
    (λ x. not_none (sym c.in_default-get_head.is ∙ c.get_head.ensures.first ∙ ap (λ r. first_of (layout_of t r) None) (same_head c.get_region-region.result x.region (sym holds ∙ x.holds)) ∙ x.first))

pub returns-then-num_argument-operands-clause-exact : goal.returns-then-num_argument-operands-clause-exact
returns-then-num_argument-operands-clause-exact g c =
    let t = c.args.ctx.now.tree in
    let D = g.D.InliningDialect in
    let one : length (regions_of t c.args.callee) ≡ 1 = omega (arith, c.num_region.ensures, c.if-num_region-ne1.false) in
    let holds = only_one (regions_of t c.args.callee) c.get_region-region.result one c.get_region-region.ensures.region in
    let first = sym c.in-Some-get_head.ensures.first in
    no (IsInlinableByHead D.convention.symbol_of D.returns D.stays D.closes t c.args.callee c.args.operands c.args.results)
    (λ x.
    let takes : length (arguments_of t c.in-Some-get_head.entry) ≡ c.args.operands = ap (λ b. length (arguments_of t b)) (sym (same_entry g.D.HasMeaning.meaning t c.args.callee c.get_region-region.result c.in-Some-get_head.entry c.args.operands holds first x.region x.entry x.holds x.first)) ∙ x.takes in
    absurd (omega (arith, takes, c.num_argument.ensures, c.if-num_argument-operands.true)))

pub returns-clause-exact : goal.returns-clause-exact
returns-clause-exact g c =
    let t = c.args.ctx.now.tree in
    let D = g.D.InliningDialect in
    let one : length (regions_of t c.args.callee) ≡ 1 = omega (arith, c.num_region.ensures, c.if-num_region-ne1.false) in
    let holds = only_one (regions_of t c.args.callee) c.get_region-region.result one c.get_region-region.ensures.region in
    let first = sym c.in-Some-get_head.ensures.first in
    let takes : length (arguments_of t c.in-Some-get_head.entry) ≡ c.args.operands = omega (arith, c.num_argument.ensures, c.if-num_argument-operands.false) in (
      λ e. record {
        named = head_named D.convention.symbol_of t c.args.callee _ c.in-Some.ensures.reads;
        region = c.get_region-region.result;
        holds = holds;
        entry = c.in-Some-get_head.entry;
        first = first;
        takes = takes;
        copyable = c.may_copy_region.ensures.exact.0 e;
      },
      λ x. c.may_copy_region.ensures.exact.1 (λ b e.
          let same = same_region g.D.HasMeaning.meaning t c.args.callee c.get_region-region.result c.in-Some-get_head.entry c.args.operands holds first x.region x.holds in
          subst (λ r. IsBlockCopyableByHead D.returns D.stays D.closes t c.args.results r b) same (x.copyable b (e ∙ ap Some (sym same)))),
    )

pub returns-clause-inlinable : goal.returns-clause-inlinable
returns-clause-inlinable g c = λ e.
    let t = c.args.ctx.now.tree in
    let m = g.D.HasMeaning.meaning in
    let one : length (regions_of t c.args.callee) ≡ 1 = omega (arith, c.num_region.ensures, c.if-num_region-ne1.false) in
    let holds = only_one (regions_of t c.args.callee) c.get_region-region.result one c.get_region-region.ensures.region in
    let first = sym c.in-Some-get_head.ensures.first in
    let takes : length (arguments_of t c.in-Some-get_head.entry) ≡ c.args.operands = omega (arith, c.num_argument.ensures, c.if-num_argument-operands.false) in
    inlinable m g.D.InliningDialect.returns t c.args.results c.well_formed-2.ensures.tree c.args.operands c.args.callee c.get_region-region.result c.in-Some-get_head.entry
    (runs_it m t c.args.callee c.get_region-region.result c.in-Some-get_head.entry c.args.operands holds first c.in-Some.ensures.runs takes) first takes (c.may_copy_region.ensures.copyable e)
