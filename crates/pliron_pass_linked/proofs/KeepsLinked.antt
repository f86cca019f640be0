-- Changes that keep linked runs, one after the other, and of one module after the other.
use Rattle.std.proofs.Common.{◌<◌, ℕ, length, if◌then◌else◌, ⊎_elim, refl, sym, ap, ◌∙◌, subst, arith}
use Rattle.std.proofs.lemmas.Bool.Decides.{eqb_tells}
use Rattle.pliron_core.specs.Tree.{Tree}
use Rattle.pliron_core.proofs.HoldingLemmas.{past_live}
use Rattle.pliron_laws.specs.Datum.{Meaning}
use Rattle.pliron_theory.specs.Keeps.{KeepsRuns}
use Rattle.pliron_theory.specs.Change.{IsPassChange}
use Rattle.pliron_theory.proofs.Keeping.{keeps_refl}
use Rattle.pliron_pass_linked.specs.Calls.{CallingConvention}
use Rattle.pliron_pass_linked.specs.LinkedRuns.{Program, Function, Linker}
use Rattle.pliron_pass_linked.specs.LinkedAgree.{LinkedAgree}
use Rattle.pliron_pass_linked.specs.KeepsLinked.{IsLiveIn, IsFitIn, IsLinker, AllLive, KeepsLinkedRuns, KeepsPrograms, with_module}
use Rattle.pliron_pass_linked.specs.LinkedLaws.{LinkedKeepingLaws}
use Rattle.pliron_pass_linked.proofs.LinkedAgree.{linked_agree}

same_agree : (m : Meaning) (c : CallingConvention) (link : Linker) (p : Program) (f : Function) → LinkedAgree m c link p p f
same_agree m c link p f = record { alike = λ inputs world x. (λ w. w, λ w. w) }

joined_agree : (m : Meaning) (c : CallingConvention) (link : Linker) (p q r : Program) (f : Function) → LinkedAgree m c link p q f → LinkedAgree m c link q r f → LinkedAgree m c link p r f
joined_agree m c link p q r f a b = record { alike = λ inputs world x. (λ w. (b.alike inputs world x).0 ((a.alike inputs world x).0 w), λ w. (a.alike inputs world x).1 ((b.alike inputs world x).1 w)) }

linked_refl : (m : Meaning) (c : CallingConvention) (p : Program) → KeepsLinkedRuns m c p p
linked_refl m c p = record {
  agrees = λ link f l live fit now. same_agree m c link p f;
  heads = λ f fit now. refl;
  stays = λ f fit now. fit;
  grows = λ n. omega arith;
  fewer = λ f lt now. now;
}

linked_links : (m : Meaning) (c : CallingConvention) (p q : Program) (link : Linker) → KeepsLinkedRuns m c p q → IsLinker m c p link → AllLive q link → IsLinker m c q link
linked_links m c p q link k l live = record {
  named = λ n symbol f e. let w = l.named n symbol f e in (w.0, k.heads f (l.fit n symbol f e) (live n symbol f e) ∙ w.1, w.2);
  fit = λ n symbol f e. k.stays f (l.fit n symbol f e) (live n symbol f e);
}

linked_trans : (m : Meaning) (c : CallingConvention) (p q r : Program) → KeepsLinkedRuns m c p q → KeepsLinkedRuns m c q r → KeepsLinkedRuns m c p r
linked_trans m c p q r a b = record {
  agrees = λ link f l live fit now. joined_agree m c link p q r f
      (a.agrees link f l (between link l live) fit (mid f fit now))
      (b.agrees link f (linked_links m c p q link a l (between link l live)) live (a.stays f fit (mid f fit now)) now);
  heads = λ f fit now. b.heads f (a.stays f fit (mid f fit now)) now ∙ a.heads f fit (mid f fit now);
  stays = λ f fit now. b.stays f (a.stays f fit (mid f fit now)) now;
  grows = λ n. let x = a.grows n in let y = b.grows n in omega (arith, x, y);
  fewer = λ f lt now. a.fewer f lt (b.fewer f (more f lt) now);
}
  where
    more : (f : Function) → f.root < length (p f.in_module).operations → f.root < length (q f.in_module).operations
    more f lt = let x = a.grows f.in_module in omega (arith, x, lt)

    mid : (f : Function) → IsFitIn m p f → IsLiveIn r f → IsLiveIn q f
    mid f fit now = b.fewer f (more f (past_live (p f.in_module) f.root fit.live)) now

    between : (link : Linker) → IsLinker m c p link → AllLive r link → AllLive q link
    between link l live n symbol f e = mid f (l.fit n symbol f e) (live n symbol f e)

linked_modules : (m : Meaning) (c : CallingConvention) (p q : Program) → ((n : ℕ) → KeepsRuns m (p n) (q n)) → KeepsLinkedRuns m c p q
linked_modules m c p q k = record {
  agrees = λ link f l live fit now. linked_agree m c link p q f (λ n symbol g e. (k g.in_module).agrees g.root (l.fit n symbol g e) (live n symbol g e)) ((k f.in_module).agrees f.root fit now);
  heads = λ f fit now. (k f.in_module).heads f.root fit now;
  stays = λ f fit now. (k f.in_module).stays f.root fit now;
  grows = λ n. (k n).grows;
  fewer = λ f lt now. (k f.in_module).fewer f.root lt now;
}

linked_module : (m : Meaning) (t u : Tree) → KeepsRuns m t u → KeepsPrograms m t u
unfolding with_module
linked_module m t u keeps c p n is = linked_modules m c p (with_module p n u) each
  where
    each : (i : ℕ) → KeepsRuns m (p i) (with_module p n u i)
    each i = ⊎_elim
        (λ y. subst (λ o. KeepsRuns m (p i) (if o then u else p i)) (sym y.0) (subst (λ x. KeepsRuns m x u) (sym (ap p y.1 ∙ is)) keeps))
        (λ y. subst (λ o. KeepsRuns m (p i) (if o then u else p i)) (sym y.0) (keeps_refl m (p i)))
        (eqb_tells i n)

-- whatever a pass does to an operation of a module
pub pass_keeps : (m : Meaning) (t u : Tree) (op : ℕ) → IsPassChange m t u op → KeepsPrograms m t u
pass_keeps m t u op change = linked_module m t u change.runs

pub keeping_laws : LinkedKeepingLaws
keeping_laws = record {
  reflexive = linked_refl;
  transitive = linked_trans;
  links = linked_links;
  modules = linked_modules;
  one_module = linked_module;
  passed = pass_keeps;
}
