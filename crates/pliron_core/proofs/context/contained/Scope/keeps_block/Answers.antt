use Rattle.std.proofs.Common.{◌≡◌, ◌≤◌, length, false, rules, arith}
use Rattle.pliron_core.specs.Tree.{arguments_of}
use Rattle.pliron_core.specs.Contained.{IsValueKept}
use Rattle.pliron_core.proofs.MemberLemmas.{in_slice}
use Rattle.pliron_core.proofs.ContainedLemmas.{not_kept, passed-all}
use Rattle.pliron_core.proofs.context.contained.Scope.keeps_block.Goals as goal

pub returns-then-not-keeps_value : goal.returns-then-not-keeps_value
returns-then-not-keeps_value c =
    let outside : c.keeps_value.result ≡ false = search rules in
    not_kept c.keeps_value.result outside c.keeps_value.ensures (λ kept. kept.arguments c.get_argument.result (in_slice (arguments_of c.args.ctx.now.tree c.args.block) c.loop-i.i c.get_argument.result c.get_argument.ensures.argument))

pub returns : goal.returns
returns c =
    let whole : length (arguments_of c.args.ctx.now.tree c.args.block) ≤ c.loop-i.i = omega arith in (
      λ e. record {
        block = c.keeps_target.ensures.0 e;
        arguments = passed-all (λ v. IsValueKept c.args.ctx.now.tree c.args.self.now v) (arguments_of c.args.ctx.now.tree c.args.block) c.loop-i.i c.loop-i.invariant whole;
      },
      λ kept. c.keeps_target.ensures.1 kept.block,
    )
