use Rattle.std.proofs.Common.{◌≡◌, length, Some, slice_get, slice_set, refl, subst, nat_eq, arith}
use Rattle.std.specs.List.{flat_map}
use Rattle.std.proofs.lemmas.Option.{slice_get_read}
use Rattle.pliron_opt_sccp.specs.Deferring.{Defers}
use Rattle.pliron_opt_sccp.proofs.DeferralSteps.{key_grows, put_aside}
use Rattle.pliron_opt_sccp.proofs.UserLists.{key_added, and_true}
use Rattle.pliron_opt_sccp.proofs.deferred.DeferredOperations.put.Goals as goal

pub returns-clause-ok : goal.returns-clause-ok
returns-clause-ok c =
    let xs = c.loop-alloc.self.sets.items in
    let x = c.index_mut.result.now in
    let y = c.insert.new.self in
    let at : slice_get xs c.set_number-i.result ≡ Some x = slice_get_read xs (length xs) c.set_number-i.result x refl (omega arith) c.index_mut.ensures.value in
    subst (λ old. Defers c.args.op old (flat_map (λ s. s.keys) (slice_set xs c.set_number-i.result y))) c.loop-alloc.invariant
    (put_aside (λ s. s.keys) xs c.set_number-i.result x y c.args.op at
    (key_added (λ x y. and_true (nat_eq x y)) x.keys y.keys c.args.op c.in_ok-insert.ensures.keys)
    (key_grows (λ x y. and_true (nat_eq x y)) x.keys y.keys c.args.op c.in_ok-insert.ensures.keys))
