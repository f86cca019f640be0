use Rattle.std.proofs.Common.{◌≡◌, length, rules}
use Rattle.pliron_text_llvm_edges.proofs.function.read_all.Goals as goal

pub returns : goal.returns
returns c =
    let count : c.len.result ≡ length c.args.reading.now.body.blocks.items = search rules in
    let incoming = rw (count, c.deref.ensures.value) at c.in_ok-incoming.ensures in
    let phis = rw c.deref-2.ensures.value at c.in_ok-push_phis.ensures in
    (c.in_ok-push_edges.ensures, incoming, phis)
