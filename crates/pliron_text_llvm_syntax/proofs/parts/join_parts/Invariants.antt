-- What is joined is the text up to the parts that are left.
use Rattle.std.proofs.Common.{◌≡◌, length, take, drop}
use Rattle.pliron_text_llvm_syntax.specs.Parts.{AreConsecutive}
use Rattle.pliron_text_llvm_syntax.proofs.parts.join_parts.Given as goal

abbrev pub invariant-loop-part : goal.invariant-loop-part
invariant-loop-part l =
    (l.joined.items ≡ take (length l.joined.items) l.text)
    × AreConsecutive (length l.joined.items) (length l.text) (drop l.part-index l.parts)
