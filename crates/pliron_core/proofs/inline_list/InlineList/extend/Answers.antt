use Rattle.std.proofs.Common.{◌≡◌, ◌++◌, ◌∷◌, [], length, take, ◌+◌, sym, ap, ◌∙◌}
use Rattle.std.proofs.Math.Seq.{take-append_seam}
use Rattle.std.proofs.lemmas.List.{append_assoc, take_all, take_more}
use Rattle.std.proofs.lemmas.Option.{get_or_from_slice_get, slice_get_within}
use Rattle.pliron_core.proofs.inline_list.InlineList.extend.Goals as goal

pub loop-i-preserved : goal.loop-i-preserved
loop-i-preserved g c =
    let old = c.args.self.now in
    let other = c.args.other.now in
    let x = c.get.result in
    let i = c.loop-i.i in
    let next : take (i + 1) other ≡ take i other ++ x ∷ [] =
    take_more other i x (slice_get_within other i x c.get.ensures) ∙ ap (λ y. take i other ++ y ∷ []) (get_or_from_slice_get other i x x c.get.ensures) in (
      c.in_default.ensures.ok ∙ ap (λ s. s ++ x ∷ []) c.loop-i.invariant.0 ∙ append_assoc old (take i other) (x ∷ []) ∙ ap (λ s. old ++ s) (sym next),
      c.loop-i.invariant.1,
    )

pub returns-in-Err-clause-err : goal.returns-in-Err-clause-err
returns-in-Err-clause-err g c =
    c.truncate.ensures ∙ ap (λ n. take n c.push.new.self) c.loop-i.invariant.1 ∙ ap (λ s. take (length c.args.self.now) s) (c.in-Err.ensures.err ∙ c.loop-i.invariant.0) ∙ take-append_seam c.args.self.now (take c.loop-i.i c.args.other.now)

pub returns-clause-ok : goal.returns-clause-ok
returns-clause-ok g c =
    c.loop-i.invariant.0 ∙ ap (λ s. c.args.self.now ++ s) (take_all c.loop-i.i c.args.other.now (rw (sym c.len-i-end.ensures) c.loop-i-test.false))
