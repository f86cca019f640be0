-- What stays where the uses of an argument go to its one value.
use Rattle.std.proofs.Common.{◌≢◌, ℕ, Bool, map, if◌then◌else◌, ⊎_elim, refl, sym, ap, ◌∙◌, subst, arith}
use Rattle.std.proofs.lemmas.Bool.Decides.{eqb_tells}
use Rattle.pliron_core.specs.Tree.{Tree, In, operands_of}
use Rattle.pliron_core.specs.Uses.{replace_target}
use Rattle.pliron_core.specs.Writes.{after_replacing}
use Rattle.pliron_core.proofs.UsedLemmas.{in_map, get_map}
use Rattle.pliron_laws.specs.Datum.{Head, Shape, Meaning}
use Rattle.pliron_laws.specs.Laws.{ForwardsOperands}
use Rattle.pliron_rewrite_blocks.proofs.RewriteLinks.{replaced_links}
use Rattle.pliron_rewrite_blocks.proofs.ReplacedInside.{replaced_argument}
use Rattle.pliron_rewrite_arguments.specs.ArgumentLaws.{OneValueChanges}
use Rattle.pliron_rewrite_arguments.proofs.ArgumentKeeps.{one_value}

-- the replaced value is used no more
old_unused : (t : Tree) (old new : ℕ) → old ≢ new → (k : ℕ) → In old (operands_of (after_replacing t old new) k) → ⊥
old_unused t old new ne k i =
    let x = in_map (replace_target old new) (operands_of t k) old (subst (In old) (get_map (map (replace_target old new)) refl t.operands k) i) in
    ⊎_elim
    (λ y. ne (x.2 ∙ ap (λ b. if b then new else x.0) y.0))
    (λ y. y.1 (sym (x.2 ∙ ap (λ b. if b then new else x.0) y.0)))
    (eqb_tells x.0 old)

pub one_value_changes : (m : Meaning) (can_fold : Head → Bool) (SameTests : Head → Head → Type 0) (shortened : Shape → ℕ → ℕ → Head) → ForwardsOperands m can_fold SameTests shortened → OneValueChanges m
one_value_changes m can_fold SameTests shortened law = record {
  change = λ t op block index v w live linked holds h. record {
    liveness = live;
    linked = replaced_links m t h.argument v op linked;
    inside = replaced_argument t op block index h.argument v w holds h.there;
    runs = one_value m can_fold SameTests shortened law t block index v w h;
  };
  links = λ t block index v h. replaced_links m t h.argument v;
  edges = λ t block index v h. record { grows = omega arith; regions = λ op. refl; layouts = λ r. refl; successors = λ b. refl; bodies = λ b. refl };
  unused = λ t block index v h k i. old_unused t h.argument v h.apart k i;
}
