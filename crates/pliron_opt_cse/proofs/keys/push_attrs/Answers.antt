use Rattle.std.proofs.Common.{◌≤◌, ◌++◌, length, ap, sym, ◌∙◌, append-nil, arith}
use Rattle.std.proofs.lemmas.List.{take_all}
use Rattle.pliron_opt_cse.specs.Keys.{attrs_words}
use Rattle.pliron_opt_cse.proofs.KeyLemmas.{one_more_attr}
use Rattle.pliron_opt_cse.proofs.keys.push_attrs.Goals as goal

pub loop-i-init : goal.loop-i-init
loop-i-init c = sym (append-nil c.args.words.now.items)

pub loop-i-preserved : goal.loop-i-preserved
loop-i-preserved c = one_more_attr c.args.words.now.items c.loop-i.words.items c.push_attr.new.words.items c.args.attrs.now c.loop-i.i c.get.result.now c.get.ensures c.loop-i.invariant c.in_ok-push_attr.ensures.words

pub returns-clause-words : goal.returns-clause-words
returns-clause-words c =
    let all : length c.args.attrs.now ≤ c.loop-i.i = omega (arith, c.loop-i-test.false, c.len-i-end.ensures) in
    c.loop-i.invariant ∙ ap (λ z. c.args.words.now.items ++ attrs_words z) (take_all c.loop-i.i c.args.attrs.now all)
