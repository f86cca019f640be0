use Rattle.std.proofs.Common.{rules, tests, bytes_eq}
use Rattle.std.proofs.lemmas.Iterator.Search.{any_from_yields_List}
use Rattle.std.proofs.lemmas.Iterator.Splits.{YieldsList-from_slice_split}
use Rattle.pliron_text_mlir_syntax.specs.Numbers.{without_blanks}
use Rattle.pliron_text_mlir_reader.proofs.heads.has_part.Goals as goal

pub returns : goal.returns
returns c =
    any_from_yields_List (λ part. bytes_eq (without_blanks part) c.args.word.now) _ _ _ c.any.ensures.ran
    (YieldsList-from_slice_split _ _ c.args.list.now c.split.ensures.rest c.split.ensures.done c.split.ensures.closure (λ x r q k. search (rules, tests)))
    (λ x b q k. search (rules, tests))
