use Rattle.std.proofs.Common.{◌≡◌, ◌∷◌, [], length, map, codes, string_bytes, sym, ap, ◌∙◌, arith, rules}
use Rattle.pliron_driver.proofs.AskLemmas.{only_item}
use Rattle.pliron_driver.proofs.driver.command.read_command.Goals as goal

pub returns-then-eq : goal.returns-then-eq
returns-then-eq g c =
    let one : length c.args.words.now ≡ 1 = omega arith in
    let text : c.as_str.result.now ≡ codes "graph" = search rules in
    ap (λ ws. map string_bytes ws) (only_item c.args.words.now c.word-item.result one c.word-item.is) ∙ ap (λ l. l ∷ []) (sym c.as_str.ensures.value ∙ text)

pub returns-in-Some : goal.returns-in-Some
returns-in-Some g c =
    let one : length c.args.words.now ≡ 1 = omega arith in
    (string_bytes c.word-item.result, ap (λ ws. map string_bytes ws) (only_item c.args.words.now c.word-item.result one c.word-item.is), rw (c.in-Some.is, c.as_str-2.ensures.value) at c.in_ok-pipeline.ensures)
