use Rattle.std.proofs.Common.{◌≡◌, ℕ, true, Some, vec_len}
use Rattle.std.specs.List.{slice_get}
use Rattle.pliron_theory.specs.Keeps.{IsFit}
use Rattle.pliron_opt_inline.specs.declared.facts.FunctionFacts.{FunctionFacts}
use Rattle.pliron_opt_inline.proofs.facts.all_facts.Given as goal

abbrev pub invariant-loop-i : goal.invariant-loop-i
invariant-loop-i g l = record {
  long : vec_len l.facts ≡ l.i;
  fit : (n f : ℕ) (x : FunctionFacts) → slice_get l.functions n ≡ Some f → slice_get l.facts.items n ≡ Some x → x.is_admitted ≡ true → IsFit g.D.HasMeaning.meaning l.ctx.tree f;
}
