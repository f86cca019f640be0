-- Linked runs that are kept where names stand for some functions.
use Rattle.std.proofs.Common.{◌≡◌, ◌<◌, ◌≤◌, ℕ, List, [], ◌∷◌, None, length, ⊎_elim, refl, sym, ap, ◌∙◌, subst, arith}
use Rattle.std.proofs.lemmas.Bool.{cases_eq}
use Rattle.pliron_core.specs.Tree.{Tree, IsLive, head_of}
use Rattle.pliron_core.specs.Invariant.{IsTree}
use Rattle.pliron_core.proofs.HoldingLemmas.{not_none, some_of, past_live}
use Rattle.pliron_laws.specs.Datum.{Datum, Meaning}
use Rattle.pliron_theory.specs.Keeps.{IsFit}
use Rattle.pliron_pass_linked.specs.Calls.{CallingConvention}
use Rattle.pliron_pass_linked.specs.LinkedRuns.{Program, Function, Linker}
use Rattle.pliron_pass_linked.specs.LinkedAgree.{LinkedAgree}
use Rattle.pliron_pass_linked.specs.KeepsLinked.{IsLiveIn, IsFitIn, IsLinker, AllLive, with_module}
use Rattle.pliron_rewrite_inlining.specs.Inlined.{InlinedCall, IsCallInlined}
use Rattle.pliron_rewrite_inlining.specs.InliningLaws.{NamedFunction, KeepsRunsLinkedBy, LinkedByLaws, InliningKeepsLaw}
use Rattle.pliron_rewrite_inlining.proofs.Modules.{here_tree, there_tree}
use Rattle.pliron_rewrite_inlining.proofs.Inlining.{inlining_law}

joined_agree : (m : Meaning) (c : CallingConvention) (link : Linker) (p q r : Program) (f : Function) → LinkedAgree m c link p q f → LinkedAgree m c link q r f → LinkedAgree m c link p r f
joined_agree m c link p q r f a b = record { alike = λ inputs world x. (λ w. (b.alike inputs world x).0 ((a.alike inputs world x).0 w), λ w. (a.alike inputs world x).1 ((b.alike inputs world x).1 w)) }

module _ (names : List NamedFunction) (m : Meaning) (c : CallingConvention) (p q r : Program) (a : KeepsRunsLinkedBy names m c p q) (b : KeepsRunsLinkedBy names m c q r) where
  more : (f : Function) → f.root < length (p f.in_module).operations → f.root < length (q f.in_module).operations
  more f lt = let x = a.grows f.in_module in omega (arith, x, lt)

  mid : (f : Function) → IsFitIn m p f → IsLiveIn r f → IsLiveIn q f
  mid f fit now = b.fewer f (more f (past_live (p f.in_module) f.root fit.live)) now

  between : (link : Linker) → IsLinker m c p link → AllLive r link → AllLive q link
  between link l live n symbol f e = mid f (l.fit n symbol f e) (live n symbol f e)

  linked_after : (link : Linker) → IsLinker m c p link → AllLive q link → IsLinker m c q link
  linked_after link l live = record {
    named = λ n symbol f e. let w = l.named n symbol f e in (w.0, a.heads f (l.fit n symbol f e) (live n symbol f e) ∙ w.1, w.2);
    fit = λ n symbol f e. a.stays f (l.fit n symbol f e) (live n symbol f e);
  }

  pub kept_in_turn : KeepsRunsLinkedBy names m c p r
  kept_in_turn = record {
    agrees = λ link f k l live fit now. joined_agree m c link p q r f
        (a.agrees link f k l (between link l live) fit (mid f fit now))
        (b.agrees link f k (linked_after link l (between link l live)) live (a.stays f fit (mid f fit now)) now);
    heads = λ f fit now. b.heads f (a.stays f fit (mid f fit now)) now ∙ a.heads f fit (mid f fit now);
    stays = λ f fit now. b.stays f (a.stays f fit (mid f fit now)) now;
    grows = λ n. let x = a.grows n in let y = b.grows n in omega (arith, x, y);
    fewer = λ f lt now. a.fewer f lt (b.fewer f (more f lt) now);
  }

pub linked_by_laws : LinkedByLaws
linked_by_laws = record {
  all = λ names m c p q k. record { agrees = λ link f y. k.agrees link f; heads = k.heads; stays = k.stays; grows = k.grows; fewer = k.fewer };
  transitive = λ names m c p q r a b. kept_in_turn names m c p q r a b;
  more = λ names more m c p q wider k. record { agrees = λ link f y. k.agrees link f (wider link y); heads = k.heads; stays = k.stays; grows = k.grows; fewer = k.fewer };
}

module _ (m : Meaning) (c : CallingConvention) (p : Program) (n : ℕ) (u : Tree) (x : InlinedCall) (symbol : Datum) (w : IsTree (p n)) (w' : IsTree u) (h : IsCallInlined m c (p n) u x symbol) (longer : length (p n).operations ≤ length u.operations) (fewer : (k : ℕ) → k < length (p n).operations → IsLive u k → IsLive (p n) k) (stays : (root : ℕ) → IsFit m (p n) root → IsLive u root → IsFit m u root) where
  abbrev after : Program
  after = with_module p n u

  -- what holds of the module's tree after, and where trees are as before, holds of each tree after
  in_module : (P : ℕ → Tree → Type 0) → P n u → ((k : ℕ) → P k (p k)) → (k : ℕ) → P k (after k)
  in_module P here there k = ⊎_elim (λ e. subst (λ i. P i (after i)) (sym e) (subst (P n) (sym (here_tree p n u)) here)) (λ ne. subst (P k) (sym (there_tree p n u k ne)) (there k)) (cases_eq k n)

  not_deleted : (k : ℕ) → head_of u k ≡ None → (root : ℕ) → IsLive u root → root ≡ k → ⊥
  not_deleted k gone root alive e = let y = some_of (head_of u k) (subst (IsLive u) e alive) in not_none (sym gone ∙ y.1)

  head_stays : (root : ℕ) → IsLive (p n) root → IsLive u root → head_of u root ≡ head_of (p n) root
  head_stays root live alive = ap (λ r. r.head) (h.rows root live (not_deleted x.call h.deleted.0 root alive) (not_deleted x.jump h.deleted.1 root alive))

  pub inlined_keeps : KeepsRunsLinkedBy (record { in_module = n; symbol = symbol; function = record { in_module = n; root = x.callee } } ∷ []) m c p after
  inlined_keeps = record {
    agrees = λ link f k l live fit now. inlining_law m c p n u x symbol link w w' h l live k.0 f fit now;
    heads = λ f. in_module (λ k y. IsFit m (p k) f.root → IsLive y f.root → head_of y f.root ≡ head_of (p k) f.root) (λ fit now. head_stays f.root fit.live now) (λ k fit now. refl) f.in_module;
    stays = λ f. in_module (λ k y. IsFit m (p k) f.root → IsLive y f.root → IsFit m y f.root) (stays f.root) (λ k fit now. fit) f.in_module;
    grows = in_module (λ k y. length (p k).operations ≤ length y.operations) longer (λ k. omega arith);
    fewer = λ f. in_module (λ k y. f.root < length (p k).operations → IsLive y f.root → IsLive (p k) f.root) (fewer f.root) (λ k lt now. now) f.in_module;
  }

pub inlining_keeps : InliningKeepsLaw
inlining_keeps m c p n u x symbol w w' h longer fewer stays = inlined_keeps m c p n u x symbol w w' h longer fewer stays
