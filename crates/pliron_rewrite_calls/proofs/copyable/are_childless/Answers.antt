use Rattle.std.proofs.Common.{◌≡◌, ◌≤◌, ℕ, [], true, false, length, refl, sym, ◌∙◌, arith, rules}
use Rattle.std.proofs.lemmas.Bool.{false≢true}
use Rattle.pliron_core.specs.Tree.{In, IsBlock, body_of, regions_of}
use Rattle.pliron_rewrite_calls.proofs.CopyLists.{there}
use Rattle.pliron_rewrite_calls.proofs.CopyableLemmas.{more_hold, all_hold}
use Rattle.pliron_rewrite_calls.proofs.copyable.are_childless.Goals as goal

pub loop-block-init : goal.loop-block-init
loop-block-init c b i = absurd i

pub is_childless-requires : goal.is_childless-requires
is_childless-requires c =
    let live : c.is_live.result ≡ true = search rules in
    c.is_live.ensures.0 live

pub returns-then-not-is_live : goal.returns-then-not-is_live
returns-then-not-is_live c =
    let dead : c.is_live.result ≡ false = search rules in
    let here = there c.args.blocks.now c.loop-block.block-index c.block-item.result c.loop-block-test.true c.block-item.is in
    (λ f. absurd (false≢true f), λ all. absurd (false≢true (sym dead ∙ c.is_live.ensures.1 (all.0 c.block-item.result here))))

pub returns-then-not-is_childless : goal.returns-then-not-is_childless
returns-then-not-is_childless c =
    let has : c.is_childless.result ≡ false = search rules in
    let here = there c.args.blocks.now c.loop-block.block-index c.block-item.result c.loop-block-test.true c.block-item.is in
    (λ f. absurd (false≢true f), λ all. absurd (false≢true (sym has ∙ c.is_childless.ensures.1 (λ k i. all.1 c.block-item.result k here i))))

pub loop-block-preserved : goal.loop-block-preserved
loop-block-preserved c =
    let t = c.args.ctx.now.tree in
    let live : c.is_live.result ≡ true = search rules in
    let none : c.is_childless.result ≡ true = search rules in
    more_hold (λ b. IsBlock t b × ((k : ℕ) → In k (body_of t b) → regions_of t k ≡ [])) c.args.blocks.now c.loop-block.block-index c.block-item.result c.loop-block-test.true c.block-item.is c.loop-block.invariant (c.is_live.ensures.0 live, c.is_childless.ensures.0 none)

pub returns : goal.returns
returns c =
    let t = c.args.ctx.now.tree in
    let whole : length c.args.blocks.now ≤ c.loop-block.block-index = omega (arith, c.loop-block-test.false) in
    let all = all_hold (λ b. IsBlock t b × ((k : ℕ) → In k (body_of t b) → regions_of t k ≡ [])) c.args.blocks.now c.loop-block.block-index whole c.loop-block.invariant in
    (λ e. ((λ b i. (all b i).0), λ b k i j. (all b i).1 k j), λ h. refl)
