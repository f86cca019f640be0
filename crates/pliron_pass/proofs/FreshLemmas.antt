-- Caches that stay fresh.
use Rattle.std.proofs.Common.{◌≡◌, ◌⊎◌, ℕ, zero, suc, ◌+◌, ◌<◌, ◌≤◌, List, [], ◌∷◌, ◌++◌, length, Bool, true, false, cond, ◌||◌, ◌&&◌, if◌then◌else◌, nat_eq, Option, Some, None, option_map, slice_get, take, refl, sym, ap, ◌∙◌, subst, arith, inl, inr, add-one}
use Rattle.std.specs.List.{fold, list_any, filter}
use Rattle.std.specs.Map.{set_value}
use Rattle.std.proofs.lemmas.Bool.{false≢true}
use Rattle.std.proofs.lemmas.List.Folds.{list_any-append}
use Rattle.indexmap.specs.IndexSet.{insert_key}
use Rattle.pliron_core.specs.Tree.{Tree, IsLive}
use Rattle.pliron_core.specs.declared.attrs.IRStatus.{IRStatus}
use Rattle.pliron_core.specs.declared.attrs.IRStatus.TheVariants.{Changed, Unchanged}
use Rattle.pliron_core.proofs.WithinLemmas.{equal_from}
use Rattle.pliron_pass.specs.Cache.{IsFresh, IsFreshEntry, retained, is_same_key}
use Rattle.pliron_pass.specs.Grown.{cached_at}
use Rattle.pliron_theory.specs.Edges.{edges_inside}
use Rattle.pliron_core.specs.Invariant.{IsTree}
use Rattle.pliron_core.specs.Changes.{IsSameTree}
use Rattle.std.proofs.Common.{Result, Ok, Err, IfOk}
use Rattle.pliron_laws.specs.declared.fault.OptError.{OptError}
use Rattle.pliron_pass.specs.Answer.{FreshAfter, has_changed, kept_kinds}
use Rattle.pliron_pass.specs.Optimising.{with_kind_if, with_edge_kind, edge_kinds, Reports}
use Rattle.pliron_pass.specs.declared.result.PassResult.{PassResult}

module _ {K E : Type 0} (eq : K → K → Bool) (kind : E → K) (holds : E → ℕ → Tree → Type 0) (t u : Tree) (grows : length t.operations ≤ length u.operations) (fewer : (o : ℕ) → o < length t.operations → IsLive u o → IsLive t o) where
  -- where each analysis goes on holding
  pub fresh_all : (es : List ((K × ℕ) × E)) → ((e : E) (o : ℕ) → IsLive t o → IsLive u o → holds e o t → holds e o u) → IsFresh eq kind holds t es → IsFresh eq kind holds u es
  fresh_all [] on f = tt
  fresh_all (p ∷ ps) on f = (
    (omega (arith, f.0.0, grows), λ l. let before = fewer p.0.1 f.0.0 l in let h = f.0.1 before in (h.0, on p.1 p.0.1 before l h.1)),
    fresh_all ps on f.1,
  )

  -- where each analysis of some kinds does
  pub fresh_some : (test : (K × ℕ) × E → Bool) (es : List ((K × ℕ) × E)) → ((p : (K × ℕ) × E) → test p ≡ true → eq (kind p.1) p.0.0 ≡ true → IsLive t p.0.1 → IsLive u p.0.1 → holds p.1 p.0.1 t → holds p.1 p.0.1 u) → IsFresh eq kind holds t es → IsFresh eq kind holds u (filter test es)
  fresh_some test [] on f = tt
  fresh_some test (p ∷ ps) on f = go (fresh_some test ps on f.1) (test p) refl
    where
      go : IsFresh eq kind holds u (filter test ps) → (b : Bool) → test p ≡ b → IsFresh eq kind holds u (cond b (p ∷ filter test ps) (filter test ps))
      go rest true e = ((omega (arith, f.0.0, grows), λ l. let before = fewer p.0.1 f.0.0 l in let h = f.0.1 before in (h.0, on p e h.0 before l h.1)), rest)
      go rest false e = rest

-- what is found in a fresh cache is of its kind, and holds
module _ {K E : Type 0} (eq : K → K → Bool) (kind : E → K) (holds : E → ℕ → Tree → Type 0) (same : (a b : K) → eq a b ≡ true → a ≡ b) (t : Tree) where
  pub fresh_at : (es : List ((K × ℕ) × E)) (k : K) (o : ℕ) (e : E) → IsFresh eq kind holds t es → IsLive t o → cached_at eq es k o ≡ Some e → (kind e ≡ k) × holds e o t
  fresh_at [] k o e f live h = absurd (cc)
  fresh_at (p ∷ ps) k o e f live h = go (λ g. fresh_at ps k o e f.1 live g) (eq k p.0.0) refl (nat_eq o p.0.1) refl h
    where
      here : eq k p.0.0 ≡ true → o ≡ p.0.1 → p.1 ≡ e → (kind e ≡ k) × holds e o t
      here x s v =
          let entry = f.0.1 (subst (λ z. IsLive t z) s live) in
          (ap kind (sym v) ∙ same (kind p.1) p.0.0 entry.0 ∙ sym (same k p.0.0 x), subst (λ z. holds z o t) v (subst (λ z. holds p.1 z t) (sym s) entry.1))

      value : Some p.1 ≡ Some e → p.1 ≡ e
      value g = cc

      go : (cached_at eq ps k o ≡ Some e → (kind e ≡ k) × holds e o t) → (a : Bool) → eq k p.0.0 ≡ a → (b : Bool) → nat_eq o p.0.1 ≡ b → cond (a && b) (Some p.1) (cached_at eq ps k o) ≡ Some e → (kind e ≡ k) × holds e o t
      go rest true x true y g = here x (sym (equal_from o p.0.1 y)) (value g)
      go rest true x false y g = rest g
      go rest false x b y g = rest g

-- where an analysis is written that is of its kind and holds
module _ {K E : Type 0} (eq : K → K → Bool) (kind : E → K) (holds : E → ℕ → Tree → Type 0) (t : Tree) (k : K) (o : ℕ) (w : E) (of : kind w ≡ k) (says : IsLive t o → holds w o t) where
  pub fresh_written : (es : List ((K × ℕ) × E)) → IsFresh eq kind holds t es → IsFresh eq kind holds t (set_value (is_same_key eq (k, o)) es w)
  fresh_written [] f = tt
  fresh_written (p ∷ ps) f = go (fresh_written ps f.1) (eq k p.0.0) refl (nat_eq o p.0.1) refl
    where
      go : IsFresh eq kind holds t (set_value (is_same_key eq (k, o)) ps w) → (a : Bool) → eq k p.0.0 ≡ a → (b : Bool) → nat_eq o p.0.1 ≡ b → IsFresh eq kind holds t (cond (a && b) ((p.0, w) ∷ ps) (p ∷ set_value (is_same_key eq (k, o)) ps w))
      go rest true x true y =
          let s : p.0.1 ≡ o = equal_from o p.0.1 y in
          ((f.0.0, λ live. (subst (λ z. eq z p.0.0 ≡ true) (sym of) x, subst (λ z. holds w z t) (sym s) (says (subst (λ z. IsLive t z) s live)))), f.1)
      go rest true x false y = (f.0, rest)
      go rest false x b y = (f.0, rest)

-- where nothing is kept
pub fresh_emptied : {K E : Type 0} (eq : K → K → Bool) (kind : E → K) (holds : E → ℕ → Tree → Type 0) (t : Tree) (es : List ((K × ℕ) × E)) → IsFresh eq kind holds t (retained eq Changed [] es)
fresh_emptied eq kind holds t [] = tt
fresh_emptied eq kind holds t (p ∷ ps) = fresh_emptied eq kind holds t ps

-- the kinds that were kept read edges alone
module _ {K : Type 0} (eq : K → K → Bool) (edges : K → Bool) where
  abbrev pub AllEdges : List K → Type 0
  AllEdges [] = Unit {0}
  AllEdges (k ∷ ks) = (edges k ≡ true) × AllEdges ks

  edges_one : (ks : List K) (k : K) → AllEdges ks → edges k ≡ true → AllEdges (ks ++ k ∷ [])
  edges_one [] k h e = (e, tt)
  edges_one (j ∷ ks) k h e = (h.0, edges_one ks k h.1 e)

  edges_more : (ks : List K) (k : K) → AllEdges ks → AllEdges (with_kind_if eq edges ks k)
  edges_more ks k h = outer (edges k) refl
    where
      inner : edges k ≡ true → (b : Bool) → AllEdges (cond b ks (ks ++ k ∷ []))
      inner e true = h
      inner e false = edges_one ks k h e

      outer : (b : Bool) → edges k ≡ b → AllEdges (cond b (insert_key eq ks k) ks)
      outer true e = inner e (list_any (eq k) ks)
      outer false e = h

  edges_fold : {E : Type 0} (es : List ((K × ℕ) × E)) (ks : List K) → AllEdges ks → AllEdges (fold (λ ks p. with_kind_if eq edges ks p.0.0) ks es)
  edges_fold [] ks h = h
  edges_fold (p ∷ ps) ks h = edges_fold ps (with_kind_if eq edges ks p.0.0) (edges_more ks p.0.0 h)

  pub edges_kept : (same : (a b : K) → eq a b ≡ true → a ≡ b) (k : K) (ks : List K) → AllEdges ks → list_any (eq k) ks ≡ true → edges k ≡ true
  edges_kept same k [] h e = absurd (false≢true e)
  edges_kept same k (j ∷ ks) h e = go (edges_kept same k ks h.1) (eq k j) refl e
    where
      go : (list_any (eq k) ks ≡ true → edges k ≡ true) → (b : Bool) → eq k j ≡ b → (b || list_any (eq k) ks) ≡ true → edges k ≡ true
      go more true f g = subst (λ z. edges z ≡ true) (sym (same k j f)) h.0
      go more false f g = more g

  pub all_edges : {E : Type 0} (es : List ((K × ℕ) × E)) → AllEdges (edge_kinds eq edges es)
  all_edges es = edges_fold es [] tt

  one_more : {E : Type 0} (i : ℕ) (es : List ((K × ℕ) × E)) (ks : List K) → fold (λ ks p. with_kind_if eq edges ks p.0.0) ks (take (suc i) es) ≡ with_edge_kind eq edges (fold (λ ks p. with_kind_if eq edges ks p.0.0) ks (take i es)) (option_map (λ p. p.0.0) (slice_get es i))
  one_more zero [] ks = refl
  one_more (suc i) [] ks = refl
  one_more zero (p ∷ ps) ks = refl
  one_more (suc i) (p ∷ ps) ks = one_more i ps (with_kind_if eq edges ks p.0.0)

  pub edge_kind_added : {E : Type 0} (i : ℕ) (es : List ((K × ℕ) × E)) (k : Option K) → k ≡ option_map (λ p. p.0.0) (slice_get es i) → edge_kinds eq edges (take (i + 1) es) ≡ with_edge_kind eq edges (edge_kinds eq edges (take i es)) k
  edge_kind_added i es k h = rw (h, add-one i) (one_more i es [])

-- what an optimisation's pass owes, from what the optimisation tells
module _ {K E : Type 0} (eq : K → K → Bool) (kind : E → K) (holds : E → ℕ → Tree → Type 0) (edges : K → Bool) (same : (a b : K) → eq a b ≡ true → a ≡ b) (stays : (e : E) (o : ℕ) (t u : Tree) → IsTree t → IsTree u → IsSameTree t u → IsLive u o → holds e o t → holds e o u) (keeps : (e : E) (o : ℕ) (t u : Tree) → IsTree t → IsTree u → edges (kind e) ≡ true → IsLive t o → IsLive u o → edges_inside u o ≡ edges_inside t o → holds e o t → holds e o u) (t u : Tree) (wt : IsTree t) (wu : IsTree u) (grows : length t.operations ≤ length u.operations) (fewer : (o : ℕ) → o < length t.operations → IsLive u o → IsLive t o) where
  fresh_answer : (status : IRStatus) → Reports t u status → (es : List ((K × ℕ) × E)) (ks : List K) → AllEdges eq edges ks → IsFresh eq kind holds t es → IsFresh eq kind holds u (retained eq status ks es)
  fresh_answer Unchanged h es ks all f = fresh_all eq kind holds t u grows fewer es (λ e o lt lu. stays e o t u wt wu h lu) f
  fresh_answer Changed h es ks all f =
      fresh_some eq kind holds t u grows fewer (λ p. list_any (eq p.0.0) ks) es (λ p e k lt lu. keeps p.1 p.0.1 t u wt wu (subst (λ z. edges z ≡ true) (sym (same (kind p.1) p.0.0 k)) (edges_kept eq edges same p.0.0 ks all e)) lt lu (h p.0.1 lt lu)) f

  pub fresh_result : (status : IRStatus) → Reports t u status → (es : List ((K × ℕ) × E)) (r : Result (PassResult K) OptError) → IfOk r (λ a. has_changed a ≡ status) → IfOk r (λ a. kept_kinds a ≡ edge_kinds eq edges es) → IfOk r (λ a. FreshAfter eq kind holds t es u es a)
  fresh_result status h es (Err e) c k = k
  fresh_result status h es (Ok a) c k =
      λ f. subst (λ z. IsFresh eq kind holds u (retained eq z (kept_kinds a) es)) (sym c) (subst (λ z. IsFresh eq kind holds u (retained eq status z es)) (sym k) (fresh_answer status h es (edge_kinds eq edges es) (all_edges eq edges es) f))
