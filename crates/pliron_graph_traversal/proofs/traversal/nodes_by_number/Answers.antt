use Rattle.std.proofs.Common.{◌≡◌, ◌<◌, ◌∷◌, ◌++◌, [], Some, length, map, get_or, slice_get, take, ◌∙◌, ap, sym, refl, arith}
use Rattle.std.proofs.lemmas.List.{map_push, take_more}
use Rattle.std.proofs.lemmas.Option.{slice_get_read}
use Rattle.pliron_graph_traversal.proofs.traversal.nodes_by_number.Goals as goal

pub loop-number-preserved : goal.loop-number-preserved
loop-number-preserved g c =
    let nodes = c.args.nodes.now in
    let numbers = c.args.numbers.now in
    let i = c.loop-number.number-index in
    let within : c.loop-number.number-index < length c.args.numbers.now = omega arith in
    let low : get_or c.args.numbers.now c.loop-number.number-index 0 < length c.args.nodes.now = c.requires i 0 within in
    let at : slice_get c.args.nodes.now (get_or c.args.numbers.now c.loop-number.number-index 0) ≡ Some c.index-nodes-number.result =
    slice_get_read nodes (length nodes) (get_or numbers i 0) c.index-nodes-number.result refl low c.index-nodes-number.is in
    rw (c.in_ok-push.ensures.items, take_more numbers i 0 within)
    (map_push Some c.loop-number.named.items c.index-nodes-number.result ∙ ap (λ xs. xs ++ Some c.index-nodes-number.result ∷ []) c.loop-number.invariant
    ∙ ap (λ x. map (λ k. slice_get nodes k) (take i numbers) ++ x ∷ []) (sym at) ∙ sym (map_push (λ k. slice_get nodes k) (take i numbers) (get_or numbers i 0)))
