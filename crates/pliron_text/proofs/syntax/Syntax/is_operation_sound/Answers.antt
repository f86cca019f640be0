use Rattle.std.proofs.Common.{◌≡◌, length, Some, slice_get, refl, subst}
use Rattle.std.proofs.lemmas.Option.{slice_get_read}
use Rattle.pliron_text.specs.Notation.{AllBelow, AreInRegion}
use Rattle.pliron_text.proofs.syntax.Syntax.is_operation_sound.Goals as goal

pub returns : goal.returns
returns c = λ h. record {
  operands = subst (AllBelow c.args.self.now.values) c.as_slice.ensures (c.are_below.ensures c.if-not-are_below.false);
  block = c.in-Some.block.now;
  in_block = subst (λ z. slice_get z c.args.operation.now.block ≡ Some c.in-Some.block.now) c.deref.ensures.value (slice_get_read c.deref.result.now (length c.deref.result.now) c.args.operation.now.block c.in-Some.block.now refl c.in-Some.ensures.lookup.3.0 c.in-Some.ensures.lookup.1);
  last = c.is_placed.ensures c.if-not-is_placed.false;
  own_region = subst (AreInRegion c.args.self.now c.in-Some.block.now.region) c.deref-2.ensures.value (c.are_in_region.ensures h);
}
