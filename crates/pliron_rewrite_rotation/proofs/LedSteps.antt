-- What the call that leads one operation to the copy leaves.
use Rattle.std.proofs.Common.{◌≡◌, ℕ, ◌+◌, ◌≤◌, List, length, map, Some, sym, ap, ◌∙◌, subst}
use Rattle.pliron_core.specs.declared.attrs.Head.{Head}
use Rattle.pliron_core.specs.Invariant.{IsTree}
use Rattle.pliron_core.specs.Tree.{Tree, In, IsLive, head_of, operands_of, successors_of}
use Rattle.pliron_core.proofs.HoldingLemmas.{some_of}
use Rattle.pliron_laws.specs.Replacing.{branch_replaced}
use Rattle.pliron_rewrite_rotation.specs.Entering.{led_target}
use Rattle.pliron_rewrite_rotation.specs.HeaderSteps.{EnteredHeader, copy_of, IsEnteredHeader, IsLeadingIn}
use Rattle.pliron_rewrite_rotation.proofs.LeadingSteps.{is_led, leading, op_gone, fewer, one_more}

pub record IsLedIn (x : EnteredHeader) (u v : Tree) (op : ℕ) : Type 0 where
  pub leading : IsLeadingIn x v
  pub gone : IsLive v op → ⊥
  pub fewer : (k : ℕ) → In k x.entering → IsLive v k → IsLive u k
  pub bound : length v.operations ≤ length u.operations + 1

module _ (x : EnteredHeader) (src : IsEnteredHeader x) (u : Tree) (w : IsTree u) (l : IsLeadingIn x u) (op : ℕ) (e : In op x.entering) (live : IsLive u op) (header copy : ℕ) (same_header : x.header ≡ header) (same_copy : copy_of x ≡ copy) (targets : List ℕ) (are : targets ≡ map (led_target header copy) (successors_of u op)) where
  pub targets_are : targets ≡ map (led_target x.header (copy_of x)) (successors_of u op)
  targets_are = are ∙ ap (λ z. map (led_target z copy) (successors_of u op)) (sym same_header) ∙ ap (λ z. map (led_target x.header z) (successors_of u op)) (sym same_copy)

  module _ (v : Tree) (w' : IsTree v) (replaced : (h : Head) → head_of u op ≡ Some h → v ≡ branch_replaced u op h (operands_of u op) targets) where
    pub led_in : IsLedIn x u v op
    led_in =
        let h = some_of (head_of u op) live in
        let is : v ≡ branch_replaced u op h.0 (operands_of u op) (map (led_target x.header (copy_of x)) (successors_of u op)) = replaced h.0 h.1 ∙ ap (branch_replaced u op h.0 (operands_of u op)) targets_are in
        let wv : IsTree (branch_replaced u op h.0 (operands_of u op) (map (led_target x.header (copy_of x)) (successors_of u op))) = subst IsTree is w' in
        subst (λ z. IsLedIn x u z op) (sym (is ∙ is_led x src u w l op e live h.0 h.1 wv)) (record {
          leading = leading x src u w l op e live h.0 h.1 wv;
          gone = op_gone x src u w l op e live h.0 h.1 wv;
          fewer = fewer x src u w l op e live h.0 h.1 wv;
          bound = one_more x src u w l op e live h.0 h.1 wv;
        })
