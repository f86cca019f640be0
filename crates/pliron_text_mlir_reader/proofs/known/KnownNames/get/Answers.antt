use Rattle.std.proofs.Common.{◌≡◌, length, Some, slice_get, refl, ap, ◌∙◌, subst, arith}
use Rattle.std.proofs.lemmas.Option.{slice_get_read}
use Rattle.pliron_text_mlir_reader.specs.Known.{known_name}
use Rattle.pliron_text_mlir_reader.proofs.KnownLemmas.{known_kept, known_found, known_pushed}
use Rattle.pliron_text_mlir_reader.proofs.known.KnownNames.get.Goals as goal

pub invariant_of-self : goal.invariant_of-self
invariant_of-self c = record { known_so = known_kept c.args.self.now.names c.number.new.self c.args.self.now.known.items c.number.ensures.kept c.args.self.now.known_so }

pub invariant_of-self-in-Some : goal.invariant_of-self-in-Some
invariant_of-self-in-Some c = record { known_so = known_kept c.args.self.now.names c.number.new.self c.args.self.now.known.items c.number.ensures.kept c.args.self.now.known_so }

pub returns-in-Some : goal.returns-in-Some
returns-in-Some c =
    let s = c.args.self.now in
    let at : slice_get s.known.items c.in_ok-number.number ≡ Some c.in-Some.found.now =
    subst (λ z. slice_get z c.in_ok-number.number ≡ Some c.in-Some.found.now) c.deref.ensures.value (slice_get_read c.deref.result.now (length c.deref.result.now) c.in_ok-number.number c.in-Some.found.now refl c.in-Some.ensures.lookup.3.0 c.in-Some.ensures.lookup.1) in
    known_found s.names c.number.new.self s.known.items c.in_ok-number.number c.in-Some.found.now c.args.name.now c.number.ensures.kept s.known_so c.in_ok-number.ensures.numbered at

pub invariant_of-self-then-number-len : goal.invariant_of-self-then-number-len
invariant_of-self-then-number-len c =
    let s = c.args.self.now in
    let last : c.in_ok-number.number ≡ length s.known.items = omega (arith, c.if-number-len.true, c.len.ensures) in
    let added = c.look_up-found.ensures ∙ ap known_name c.without_quotes.ensures in
    record { known_so = known_pushed s.names c.number.new.self s.known.items c.push.new.self.items c.look_up-found.result c.args.name.now c.in_ok-number.number _ c.number.ensures.kept s.known_so c.in_ok-number.ensures.numbered last added c.push.ensures.items }

pub invariant_of-self-else-number-len : goal.invariant_of-self-else-number-len
invariant_of-self-else-number-len c = record { known_so = known_kept c.args.self.now.names c.number.new.self c.args.self.now.known.items c.number.ensures.kept c.args.self.now.known_so }
