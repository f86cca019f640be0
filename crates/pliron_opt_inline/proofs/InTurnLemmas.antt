-- Calls that are inlined one after the other.
use Rattle.std.proofs.Common.{◌≡◌, ℕ, nat_eq, if◌then◌else◌, Bool, true, false, List, [], ◌∷◌, ◌++◌, length, ◌<◌, ◌≤◌, refl, sym, ap, ◌∙◌, subst}
use Rattle.pliron_core.specs.Tree.{Tree, IsLive}
use Rattle.pliron_core.specs.Invariant.{IsTree}
use Rattle.pliron_laws.specs.Datum.{Datum, Meaning}
use Rattle.pliron_theory.specs.Keeps.{IsFit}
use Rattle.pliron_pass_linked.specs.Calls.{CallingConvention}
use Rattle.pliron_pass_linked.specs.LinkedRuns.{Program, Linker}
use Rattle.pliron_pass_linked.specs.KeepsLinked.{KeepsPrograms, with_module}
use Rattle.pliron_rewrite_inlining.specs.InliningLaws.{NamedFunction, StandAs, KeepsRunsLinkedBy}
use Rattle.pliron_rewrite_inlining.proofs.Modules.{here_tree}
use Rattle.pliron_rewrite_inlining.proofs.KeepsLinkedBy.{linked_by_laws, inlining_keeps}
use Rattle.pliron_rewrite_inlining.proofs.InlinedRoots.{inlined_roots}
use Rattle.pliron_rewrite_inlining.specs.Inlined.{IsCallInlined}
use Rattle.pliron_rewrite_calls.specs.Inlining.{IsInlined}
use Rattle.pliron_opt_inline.specs.InTurn.{InlinedName, names_in, KeepsProgramsLinkedBy, InTurnLaws}

-- who stands for all, stands for those of each part
left_names : (n : ℕ) (xs ys : List InlinedName) (link : Linker) → StandAs (names_in n (xs ++ ys)) link → StandAs (names_in n xs) link
left_names n [] ys link s = tt
left_names n (x ∷ xs) ys link s = (s.0, left_names n xs ys link s.1)

right_names : (n : ℕ) (xs ys : List InlinedName) (link : Linker) → StandAs (names_in n (xs ++ ys)) link → StandAs (names_in n ys) link
right_names n [] ys link s = s
right_names n (x ∷ xs) ys link s = right_names n xs ys link s.1

-- the module becomes the later tree
pub twice : (p : Program) (n : ℕ) (u v : Tree) → with_module (with_module p n u) n v ≡ with_module p n v
unfolding with_module
twice p n u v = λ i k. same (nat_eq k n) (p k) i
  where
    same : (b : Bool) (t : Tree) → (if b then v else (if b then u else t)) ≡ (if b then v else t)
    same true t = refl
    same false t = refl

none : (m : Meaning) (c : CallingConvention) (t u : Tree) → KeepsPrograms m t u → KeepsProgramsLinkedBy m c [] t u
none m c t u keeps p n e = linked_by_laws.all [] m c p (with_module p n u) (keeps c p n e)

wider : (m : Meaning) (c : CallingConvention) (xs ys : List InlinedName) (t u : Tree) → KeepsProgramsLinkedBy m c xs t u → KeepsProgramsLinkedBy m c (xs ++ ys) t u
wider m c xs ys t u a p n e = linked_by_laws.more (names_in n xs) (names_in n (xs ++ ys)) m c p (with_module p n u) (left_names n xs ys) (a p n e)

in_turn : (m : Meaning) (c : CallingConvention) (xs ys : List InlinedName) (t u v : Tree) → KeepsProgramsLinkedBy m c xs t u → KeepsProgramsLinkedBy m c ys u v → KeepsProgramsLinkedBy m c (xs ++ ys) t v
in_turn m c xs ys t u v a b p n e =
    let q : Program = with_module p n u in
    let names : List NamedFunction = names_in n (xs ++ ys) in
    let first = linked_by_laws.more (names_in n xs) names m c p q (left_names n xs ys) (a p n e) in
    let second = linked_by_laws.more (names_in n ys) names m c q (with_module q n v) (right_names n xs ys) (b q n (here_tree p n u)) in
    linked_by_laws.transitive names m c p q (with_module p n v) first (subst (KeepsRunsLinkedBy names m c q) (twice p n u v) second)

module _ (m : Meaning) (c : CallingConvention) (t u : Tree) (call callee : ℕ) (symbol : Datum) (w : IsTree t) (w' : IsTree u) (fit : IsFit m t callee) (h : IsInlined m c t u call callee symbol) where
  stays : (root : ℕ) → IsFit m t root → IsLive u root → IsFit m u root
  stays root = inlined_roots m c t u h.parts symbol w w' h.inlined h.copies (subst (IsFit m t) (sym h.of_callee) fit) root

  one_in : (p : Program) (n : ℕ) → p n ≡ t → KeepsRunsLinkedBy (names_in n (record { symbol = symbol; callee = callee } ∷ [])) m c p (with_module p n u)
  one_in p n e =
      let back = sym e in
      subst (λ k. KeepsRunsLinkedBy (record { in_module = n; symbol = symbol; function = record { in_module = n; root = k } } ∷ []) m c p (with_module p n u)) h.of_callee
      (inlining_keeps m c p n u h.parts symbol (subst IsTree back w) w'
      (subst (λ z. IsCallInlined m c z u h.parts symbol) back h.inlined)
      (subst (λ z. length z.operations ≤ length u.operations) back h.grows)
      (subst (λ z. (k : ℕ) → k < length z.operations → IsLive u k → IsLive z k) back h.fewer)
      (subst (λ z. (root : ℕ) → IsFit m z root → IsLive u root → IsFit m u root) back stays))

pub in_turn_laws : InTurnLaws
in_turn_laws = record {
  none = none;
  wider = wider;
  one = λ m c t u call callee symbol w w' fit h p n e. one_in m c t u call callee symbol w w' fit h p n e;
  in_turn = in_turn;
  stays_fit = λ m c t u call callee symbol w w' fit h root. stays m c t u call callee symbol w w' fit h root;
}
