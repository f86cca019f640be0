use Rattle.std.proofs.Common.{◌≡◌, [], length, Some, slice_get, refl, ap, arith}
use Rattle.std.proofs.lemmas.Option.{slice_get_read}
use Rattle.pliron_opt_sccp.specs.Deferring.{deferred_operations}
use Rattle.pliron_opt_sccp.proofs.DeferralSteps.{first_keys, first_within, none_only_if_empty, take_aside}
use Rattle.pliron_opt_sccp.proofs.deferred.DeferredOperations.take.Goals as goal

pub returns-clause-some : goal.returns-clause-some
returns-clause-some c =
    let xs = c.args.self.now.sets.items in
    let h = c.in_ok-i.ensures.some in
    let at : slice_get xs c.in_ok-i.i ≡ Some c.index_mut.result.now = slice_get_read xs (length xs) c.in_ok-i.i c.index_mut.result.now refl (first_within (λ s. s.keys) xs c.in_ok-i.i h.keys h.at) c.index_mut.ensures.value in
    take_aside (λ s. s.keys) xs c.in_ok-i.i c.index_mut.result.now c.pop.new.self c.pop.result at c.pop.ensures.keys

pub returns-clause-none : goal.returns-clause-none
returns-clause-none c =
    let xs = c.args.self.now.sets.items in
    let h = c.in_ok-i.ensures.some in
    let at : slice_get xs c.in_ok-i.i ≡ Some c.index_mut.result.now = slice_get_read xs (length xs) c.in_ok-i.i c.index_mut.result.now refl (first_within (λ s. s.keys) xs c.in_ok-i.i h.keys h.at) c.index_mut.ensures.value in
    let same = first_keys (λ s. s.keys) xs c.in_ok-i.i c.index_mut.result.now h.keys at h.at in
    none_only_if_empty (deferred_operations c.args.self.now ≡ []) c.pop.result (length c.index_mut.result.now.keys) c.pop.ensures.found (omega (arith, h.some, ap length same))
