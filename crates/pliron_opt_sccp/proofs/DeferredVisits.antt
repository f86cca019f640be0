-- What is deferred goes on standing where it was visited, with what it asked met; and users are seen to one by one.
use Rattle.std.proofs.Common.{◌≡◌, ◌⊎◌, inl, inr, ⊎_elim, ℕ, ◌+◌, ◌≤◌, ◌<◌, ◌^◌, Bool, true, false, true≢false, nat_eq, if◌then◌else◌, List, [], ◌∷◌, ◌++◌, length, Some, slice_get, refl, sym, ap, ◌∙◌, subst, arith}
use Rattle.std.proofs.lemmas.Option.{slice_get_within}
use Rattle.pliron_core.specs.Lists.{In}
use Rattle.pliron_core.specs.Tree.{Tree}
use Rattle.pliron_core.proofs.FlatLemmas.{slice_get-In}
use Rattle.pliron_core.proofs.HoldingLemmas.{in_slice, some_is}
use Rattle.pliron_core.proofs.ListLemmas.{In-left, In-right, In-cases}
use Rattle.pliron_theory.specs.LatticeValues.{Says}
use Rattle.pliron_opt_sccp.specs.declared.lattice_tables.Tables.{Tables}
use Rattle.pliron_opt_sccp.specs.declared.deferred.DeferredOperations.{DeferredOperations}
use Rattle.pliron_opt_sccp.specs.LatticeTables.{is_numbered, is_executable, is_block_on_worklist, lattice_value_in, lattice_values_of, PopsBlock}
use Rattle.pliron_opt_sccp.specs.Deferring.{deferred_operations, IsDeferred, Defers}
use Rattle.pliron_opt_sccp.specs.Lowering.{ValuesAreLowered}
use Rattle.pliron_opt_sccp.specs.OperationVisits.{WasVisited, VisitsOperation, VisitsInTurn, PopsValues}
use Rattle.pliron_opt_sccp.specs.OperationVisits.VisitsInTurn.{Nothing, Then}
use Rattle.pliron_opt_sccp.specs.Searching.{IsVisitedOrDeferred, VisitsOrDefersAll}
use Rattle.pliron_opt_sccp.proofs.Settled.{met_still}
use Rattle.pliron_opt_sccp.proofs.Stepping.{below_same}

module _ (x : Says) (t : Tree) where
  looked_then : (s u : Tables) (k : ℕ) → ValuesAreLowered s u → WasVisited t s k → WasVisited t u k
  looked_then s u k f l = record { block = l.block; in_block = l.in_block; reached = f.below.is_executable l.block l.reached; taken = rests (is_block_on_worklist u l.block) refl }
    where
      rests : (q : Bool) → is_block_on_worklist u l.block ≡ q → is_block_on_worklist u l.block ≡ false
      rests false e = e
      rests true e = absurd (⊎_elim (λ old. true≢false (sym old ∙ l.taken)) (λ new. true≢false (sym l.reached ∙ new.0)) (f.came l.block e))

  -- while facts fall
  pub aside_then : (s u : Tables) (k : ℕ) → ValuesAreLowered s u → IsDeferred x t s k → IsDeferred x t u k
  aside_then s u k f a = record { was_visited = looked_then s u k f a.was_visited; met = λ o at. let m = a.met o at in (m.0, met_still x t m.0 (lattice_values_of s) (lattice_values_of u) k o f.below m.1) }

  -- where the tables say the same of facts, and no block waits that did not
  aside_same : (s u : Tables) (k : ℕ) → ((v : ℕ) → lattice_value_in u v ≡ lattice_value_in s v) → ((b : ℕ) → is_executable u b ≡ is_executable s b) → ((b : ℕ) → is_block_on_worklist s b ≡ false → is_block_on_worklist u b ≡ false) → IsDeferred x t s k → IsDeferred x t u k
  aside_same s u k facts reached rests a = record {
    was_visited = record { block = a.was_visited.block; in_block = a.was_visited.in_block; reached = reached a.was_visited.block ∙ a.was_visited.reached; taken = rests a.was_visited.block a.was_visited.taken };
    met = λ o at. let m = a.met o at in (m.0, met_still x t m.0 (lattice_values_of s) (lattice_values_of u) k o (below_same s u facts reached) m.1);
  }

  pub aside_block : (c : ℕ) (s u : Tables) (k : ℕ) → PopsBlock c s u → IsDeferred x t s k → IsDeferred x t u k
  aside_block c s u k takes a = aside_same s u k takes.facts takes.reached (λ b e. takes.blocks b ∙ by b (nat_eq c b) e) a
    where
      by : (b : ℕ) (q : Bool) → is_block_on_worklist s b ≡ false → (if q then false else is_block_on_worklist s b) ≡ false
      by b true e = refl
      by b false e = e

  pub aside_values : (values : List ℕ) (s u : Tables) (k : ℕ) → PopsValues values s u → IsDeferred x t s k → IsDeferred x t u k
  aside_values values s u k takes a = aside_same s u k takes.facts takes.reached (λ b e. takes.blocks b ∙ e) a

  -- one more was visited
  looks_more : (ks : List ℕ) (k : ℕ) (s q u : Tables) → VisitsInTurn x t ks s q → VisitsOperation x t k q u → VisitsInTurn x t (ks ++ k ∷ []) s u
  looks_more [] k s q u Nothing l = Then k u l Nothing
  looks_more (j ∷ ks) k s q u (Then _ p a d) l = Then j p a (looks_more ks k p q u d l)

  -- those of the list before index i were seen to
  pub record IsSeeing (ks : List ℕ) (i : ℕ) (s s' : Tables) (z z' : DeferredOperations) : Type 0 where
    pub short : List ℕ
    pub visits : VisitsInTurn x t short s s'
    pub among : (k : ℕ) → In k short → In k ks
    pub seen : (j k : ℕ) → j < i → slice_get ks j ≡ Some k → In k short ⊎ In k (deferred_operations z')
    pub kept : (k : ℕ) → In k (deferred_operations z) → In k (deferred_operations z')
    pub only : (k : ℕ) → In k (deferred_operations z') → In k (deferred_operations z) ⊎ In k ks
    pub grows : length (deferred_operations z') ≤ length (deferred_operations z) + i
    pub numbers : (b : ℕ) → is_numbered s' b ≡ is_numbered s b

  module _ (ks : List ℕ) (s : Tables) (z : DeferredOperations) where
    pub seeing_start : IsSeeing ks 0 s s z z
    seeing_start = record {
      short = [];
      visits = Nothing;
      among = λ k i. absurd i;
      seen = λ j k l at. absurd (omega (arith, l));
      kept = λ k i. i;
      only = λ k i. inl i;
      grows = omega arith;
      numbers = λ b. refl;
    }

    module _ (i k : ℕ) (at : slice_get ks i ≡ Some k) (q u : Tables) (y y' : DeferredOperations) (so_far : IsSeeing ks i s q z y) where
      less_or_same : (j : ℕ) → j < i + 1 → (j < i) ⊎ (j ≡ i)
      less_or_same j l = grind (arith, l)

      is_this : (j g : ℕ) → j ≡ i → slice_get ks j ≡ Some g → g ≡ k
      is_this j g same here = some_is (sym here ∙ ap (slice_get ks) same ∙ at)

      was_visited : VisitsOperation x t k q u → IsSeeing ks (i + 1) s u z y
      was_visited l = record {
        short = so_far.short ++ k ∷ [];
        visits = looks_more so_far.short k s q u so_far.visits l;
        among = λ g m. ⊎_elim (λ h. so_far.among g h) (λ h. ⊎_elim (λ e. subst (λ n. In n ks) (sym e) (in_slice ks i k at)) (λ n. absurd n) h) (In-cases g so_far.short (k ∷ []) m);
        seen = λ j g less here. ⊎_elim
            (λ before. ⊎_elim (λ m. inl (In-left g so_far.short (k ∷ []) m)) (λ m. inr m) (so_far.seen j g before here))
            (λ same. inl (In-right g so_far.short (k ∷ []) (inl (is_this j g same here))))
            (less_or_same j less);
        kept = so_far.kept;
        only = so_far.only;
        grows = let g = so_far.grows in omega (arith, g);
        numbers = λ b. l.applied.lowered.numbers b ∙ so_far.numbers b;
      }

      put : Defers k (deferred_operations y) (deferred_operations y') → IsSeeing ks (i + 1) s q z y'
      put p = record {
        short = so_far.short;
        visits = so_far.visits;
        among = so_far.among;
        seen = λ j g less here. ⊎_elim
            (λ before. ⊎_elim (λ m. inl m) (λ m. inr ((p.members g).1 (inl m))) (so_far.seen j g before here))
            (λ same. inr ((p.members g).1 (inr (is_this j g same here))))
            (less_or_same j less);
        kept = λ g m. (p.members g).1 (inl (so_far.kept g m));
        only = λ g m. ⊎_elim (λ h. so_far.only g h) (λ e. inr (subst (λ n. In n ks) (sym e) (in_slice ks i k at))) ((p.members g).0 m);
        grows = let g = so_far.grows in let h = p.grows in omega (arith, g, h);
        numbers = so_far.numbers;
      }

      pub seeing_next : IsVisitedOrDeferred x t k q u y y' → IsSeeing ks (i + 1) s u z y'
      seeing_next (inl (l, same)) = subst (λ n. IsSeeing ks (i + 1) s u z n) (sym same) (was_visited l)
      seeing_next (inr (p, same)) = subst (λ n. IsSeeing ks (i + 1) s n z y') (sym same) (put p)

    pub seeing_end : (i : ℕ) (u : Tables) (y : DeferredOperations) → length ks ≤ i → i < 2 ^ 64 → i ≤ length ks → IsSeeing ks i s u z y → VisitsOrDefersAll x t ks s u z y
    seeing_end i u y all few within g = record {
      short = g.short;
      visits = g.visits;
      among = g.among;
      seen = λ k m.
          let p = slice_get-In k ks m in
          let l = slice_get_within ks p.0 k p.1 in
          g.seen p.0 k (omega (arith, all, l)) p.1;
      kept = g.kept;
      only = g.only;
      grows = let h = g.grows in omega (arith, h, within);
      few = omega (arith, few, all);
    }
