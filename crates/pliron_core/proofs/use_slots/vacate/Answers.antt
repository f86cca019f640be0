use Rattle.std.proofs.Common.{◌≡◌, ◌≢◌, ◌<◌, ◌-◌, [], length, get_or, Some, ap, sym, ◌∙◌, rules, arith}
use Rattle.std.proofs.lemmas.Option.{slice_get_within}
use Rattle.pliron_core.specs.UseSlots.{at, no_target}
use Rattle.pliron_core.proofs.TableLemmas.{at-within, row-length, at-inside, some-at}
use Rattle.pliron_core.proofs.GapLemmas.{same}
use Rattle.pliron_core.proofs.LeaveLemmas.{stands1, linked-left, left-target, left-targets, left-marks}
use Rattle.pliron_core.proofs.use_slots.vacate.Goals as goal

pub index-requires : goal.index-requires
index-requires c =
    let r = c.requires in
    let real : c.entry-target.result.target ≢ no_target = λ f. r.taken.2 (ap (λ z. z.target) (same (sym r.taken.1 ∙ c.entry-target.ensures)) ∙ f) in
    let there : at c.args.uses.now.items c.entry-target.result.target c.entry-target.result.at ≡ Some (record { user = c.args.user; place = c.args.place }) = r.linked.used _ _ _ _ c.entry-target.ensures real in
    let h : c.entry-target.result.target < length c.args.uses.now.items = at-within _ _ _ _ there in
    search (rules, h)

pub overflow_sub-end : goal.overflow_sub-end
overflow_sub-end c =
    let r = c.requires in
    let real : c.entry-target.result.target ≢ no_target = λ f. r.taken.2 (ap (λ z. z.target) (same (sym r.taken.1 ∙ c.entry-target.ensures)) ∙ f) in
    let there : at c.args.uses.now.items c.entry-target.result.target c.entry-target.result.at ≡ Some (record { user = c.args.user; place = c.args.place }) = r.linked.used _ _ _ _ c.entry-target.ensures real in
    let long : c.len-end.result ≡ length (get_or c.args.uses.now.items c.entry-target.result.target []) = row-length c.args.uses.now.items c.entry-target.result.target _ _ (at-within _ _ _ _ there) c.index.ensures c.len-end.ensures in
    omega (arith, long, slice_get_within (get_or c.args.uses.now.items c.entry-target.result.target []) _ _ there)

pub entry-moved-requires : goal.entry-moved-requires
entry-moved-requires c =
    let r = c.requires in
    let real : c.entry-target.result.target ≢ no_target = λ f. r.taken.2 (ap (λ z. z.target) (same (sym r.taken.1 ∙ c.entry-target.ensures)) ∙ f) in
    let there : at c.args.uses.now.items c.entry-target.result.target c.entry-target.result.at ≡ Some (record { user = c.args.user; place = c.args.place }) = r.linked.used _ _ _ _ c.entry-target.ensures real in
    let long : c.len-end.result ≡ length (get_or c.args.uses.now.items c.entry-target.result.target []) = row-length c.args.uses.now.items c.entry-target.result.target _ _ (at-within _ _ _ _ there) c.index.ensures c.len-end.ensures in
    at-inside c.args.uses.now.items _ _ (at-within _ _ _ _ there) (omega (arith, long, slice_get_within (get_or c.args.uses.now.items c.entry-target.result.target []) _ _ there))

pub set_entry-requires-3 : goal.set_entry-requires-3
set_entry-requires-3 c =
    let r = c.requires in
    let real : c.entry-target.result.target ≢ no_target = λ f. r.taken.2 (ap (λ z. z.target) (same (sym r.taken.1 ∙ c.entry-target.ensures)) ∙ f) in
    let there : at c.args.uses.now.items c.entry-target.result.target c.entry-target.result.at ≡ Some (record { user = c.args.user; place = c.args.place }) = r.linked.used _ _ _ _ c.entry-target.ensures real in
    let long : c.len-end.result ≡ length (get_or c.args.uses.now.items c.entry-target.result.target []) = row-length c.args.uses.now.items c.entry-target.result.target _ _ (at-within _ _ _ _ there) c.index.ensures c.len-end.ensures in
    let end : at c.args.uses.now.items c.entry-target.result.target (length (get_or c.args.uses.now.items c.entry-target.result.target []) - 1) ≡ Some c.entry-moved.result = ap (λ n. at c.args.uses.now.items c.entry-target.result.target (n - 1)) (sym long) ∙ c.entry-moved.ensures in
    let s = stands1 _ _ _ _ _ _ _ r.linked c.entry-target.ensures real end in
    some-at _ _ (ap (λ v. at v c.args.user c.args.place) c.set_entry.ensures.items ∙ s.1)

pub returns-clause-linked : goal.returns-clause-linked
returns-clause-linked c =
    let r = c.requires in
    let real : c.entry-target.result.target ≢ no_target = λ f. r.taken.2 (ap (λ z. z.target) (same (sym r.taken.1 ∙ c.entry-target.ensures)) ∙ f) in
    let there : at c.args.uses.now.items c.entry-target.result.target c.entry-target.result.at ≡ Some (record { user = c.args.user; place = c.args.place }) = r.linked.used _ _ _ _ c.entry-target.ensures real in
    let long : c.len-end.result ≡ length (get_or c.args.uses.now.items c.entry-target.result.target []) = row-length c.args.uses.now.items c.entry-target.result.target _ _ (at-within _ _ _ _ there) c.index.ensures c.len-end.ensures in
    let end : at c.args.uses.now.items c.entry-target.result.target (length (get_or c.args.uses.now.items c.entry-target.result.target []) - 1) ≡ Some c.entry-moved.result = ap (λ n. at c.args.uses.now.items c.entry-target.result.target (n - 1)) (sym long) ∙ c.entry-moved.ensures in
    rw (c.set_entry-3.ensures.items, c.set_entry.ensures.items, c.pop_entry.ensures.items, c.set_entry-2.ensures.items) (linked-left _ _ _ _ _ _ _ r.linked c.entry-target.ensures real end)

pub returns-clause-target : goal.returns-clause-target
returns-clause-target c =
    let r = c.requires in
    let real : c.entry-target.result.target ≢ no_target = λ f. r.taken.2 (ap (λ z. z.target) (same (sym r.taken.1 ∙ c.entry-target.ensures)) ∙ f) in
    let there : at c.args.uses.now.items c.entry-target.result.target c.entry-target.result.at ≡ Some (record { user = c.args.user; place = c.args.place }) = r.linked.used _ _ _ _ c.entry-target.ensures real in
    let long : c.len-end.result ≡ length (get_or c.args.uses.now.items c.entry-target.result.target []) = row-length c.args.uses.now.items c.entry-target.result.target _ _ (at-within _ _ _ _ there) c.index.ensures c.len-end.ensures in
    let end : at c.args.uses.now.items c.entry-target.result.target (length (get_or c.args.uses.now.items c.entry-target.result.target []) - 1) ≡ Some c.entry-moved.result = ap (λ n. at c.args.uses.now.items c.entry-target.result.target (n - 1)) (sym long) ∙ c.entry-moved.ensures in
    left-target _ _ _ _ _ _ _ r.linked c.entry-target.ensures real end

pub returns-clause-targets : goal.returns-clause-targets
returns-clause-targets c =
    let r = c.requires in
    let real : c.entry-target.result.target ≢ no_target = λ f. r.taken.2 (ap (λ z. z.target) (same (sym r.taken.1 ∙ c.entry-target.ensures)) ∙ f) in
    let there : at c.args.uses.now.items c.entry-target.result.target c.entry-target.result.at ≡ Some (record { user = c.args.user; place = c.args.place }) = r.linked.used _ _ _ _ c.entry-target.ensures real in
    let long : c.len-end.result ≡ length (get_or c.args.uses.now.items c.entry-target.result.target []) = row-length c.args.uses.now.items c.entry-target.result.target _ _ (at-within _ _ _ _ there) c.index.ensures c.len-end.ensures in
    let end : at c.args.uses.now.items c.entry-target.result.target (length (get_or c.args.uses.now.items c.entry-target.result.target []) - 1) ≡ Some c.entry-moved.result = ap (λ n. at c.args.uses.now.items c.entry-target.result.target (n - 1)) (sym long) ∙ c.entry-moved.ensures in
    rw (c.set_entry-3.ensures.items, c.set_entry.ensures.items) (left-targets _ _ _ _ _ _ _ r.linked c.entry-target.ensures real end)

pub returns-clause-marks : goal.returns-clause-marks
returns-clause-marks c =
    let r = c.requires in
    let real : c.entry-target.result.target ≢ no_target = λ f. r.taken.2 (ap (λ z. z.target) (same (sym r.taken.1 ∙ c.entry-target.ensures)) ∙ f) in
    let there : at c.args.uses.now.items c.entry-target.result.target c.entry-target.result.at ≡ Some (record { user = c.args.user; place = c.args.place }) = r.linked.used _ _ _ _ c.entry-target.ensures real in
    let long : c.len-end.result ≡ length (get_or c.args.uses.now.items c.entry-target.result.target []) = row-length c.args.uses.now.items c.entry-target.result.target _ _ (at-within _ _ _ _ there) c.index.ensures c.len-end.ensures in
    let end : at c.args.uses.now.items c.entry-target.result.target (length (get_or c.args.uses.now.items c.entry-target.result.target []) - 1) ≡ Some c.entry-moved.result = ap (λ n. at c.args.uses.now.items c.entry-target.result.target (n - 1)) (sym long) ∙ c.entry-moved.ensures in
    rw (c.set_entry-3.ensures.items, c.set_entry.ensures.items) (left-marks _ _ _ _ _ _ _ r.linked c.entry-target.ensures real end)
