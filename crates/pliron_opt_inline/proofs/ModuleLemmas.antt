-- Functions of a module, and the calls in one of them, while calls are inlined.
use Rattle.std.proofs.Common.{◌≡◌, ◌≢◌, ◌⊎◌, inl, inr, ⊎_elim, ℕ, zero, suc, ◌+◌, ◌<◌, Bool, true, false, MatchBool, get_or, List, [], ◌∷◌, ◌++◌, length, map, Option, Some, None, IsSome, is_some, refl, sym, ap, ◌∙◌, subst, arith}
use Rattle.std.specs.List.{All, Contains, slice_get}
use Rattle.std.specs.Option.{option_and_then, option_map_or}
use Rattle.std.proofs.lemmas.List.{append-nil}
use Rattle.std.proofs.lemmas.List.Elements.{All-nil, All-cons}
use Rattle.std.proofs.lemmas.Option.{slice_get_within, slice_get_read, slice_get-get_or}
use Rattle.pliron_core.specs.declared.attrs.Head.{Head}
use Rattle.pliron_core.specs.Tree.{Tree, In, IsDistinct, IsLive, head_of}
use Rattle.pliron_core.proofs.GapLemmas.{slice-some}
use Rattle.pliron_core.proofs.HoldingLemmas.{some_is, not_none, some_of, in_slice, slice_in}
use Rattle.pliron_core.proofs.ListLemmas.{In-left, In-right, In-cases, distinct-front, distinct-apart}
use Rattle.pliron_laws.specs.Datum.{Datum, Empty, Meaning}
use Rattle.pliron_theory.specs.Keeps.{IsFit}
use Rattle.pliron_pass_linked.specs.Calls.{CallingConvention}
use Rattle.pliron_pass_linked.specs.KeepsLinked.{KeepsPrograms}
use Rattle.pliron_rewrite_inlining.proofs.Modules.{here_tree}
use Rattle.pliron_graph_calls.specs.declared.call_sites.CallSite.{CallSite}
use Rattle.pliron_graph_calls.specs.CallSites.{callee_at, IsCallSite, AreCallSites, AreCallSites.NoOperations, AreCallSites.CallingNone, AreCallSites.CallingOne}
use Rattle.pliron_graph_calls.specs.FunctionNames.{symbol_at, with_function, with_name, functions_among, names_among}
use Rattle.pliron_opt_inline.specs.declared.facts.FunctionFacts.{FunctionFacts}
use Rattle.pliron_opt_inline.specs.InTurn.{InlinedName, KeepsProgramsLinkedBy}
use Rattle.pliron_opt_inline.specs.Module.{with_own_name, own_names, AreInlined}
use Rattle.pliron_opt_inline.specs.Turns.{ArePlanned, IsUnderWay, AreApartSites}
use Rattle.pliron_opt_inline.proofs.InTurnLemmas.{in_turn_laws}
use Rattle.pliron_graph_traversal.specs.Internal.AdjacencyLawful.{node_below}
use Rattle.pliron_graph_components.specs.declared.components.Scc.{Scc}
use Rattle.pliron_graph_components.proofs.PreSentinelLemmas.{item_pushed, item_kept}
use Rattle.pliron_opt_inline.specs.CallGraph.{AreCallComponents}
use Rattle.pliron_opt_inline.proofs.OneCallLemmas.{unchanged, live_by}
use Rattle.pliron_opt_inline.proofs.RowLemmas.{last_or}

-- ---- names

named_behind : (f : ℕ) (o : Option Datum) (xs ys : List InlinedName) → with_own_name f o (xs ++ ys) ≡ with_own_name f o xs ++ ys
named_behind f None xs ys = refl
named_behind f (Some symbol) xs ys = refl

abbrev pub named_as : ℕ → Datum → InlinedName
named_as f symbol = record { symbol = symbol; callee = f }

own_names_more : (c : CallingConvention) (t : Tree) (fs : List ℕ) (f : ℕ) (symbol : Datum) → symbol_at c t f ≡ Some symbol → own_names c t (fs ++ f ∷ []) ≡ own_names c t fs ++ named_as f symbol ∷ []
own_names_more c t [] f symbol e = ap (λ o. with_own_name f o []) e
own_names_more c t (g ∷ gs) f symbol e = ap (with_own_name g (symbol_at c t g)) (own_names_more c t gs f symbol e) ∙ named_behind g (symbol_at c t g) (own_names c t gs) (named_as f symbol ∷ [])

-- a function of a table and its name stand at one place
pub name_beside : (c : CallingConvention) (t : Tree) (ks : List ℕ) (i f : ℕ) (name : Datum) → slice_get (functions_among c t ks) i ≡ Some f → slice_get (names_among c t ks) i ≡ Some name → symbol_at c t f ≡ Some name
name_beside c t [] i f name = λ at_f at_n. absurd (not_none at_f)
name_beside c t (k ∷ ks) i f name = go (name_beside c t ks) (symbol_at c t k) refl i
  where
    go : ((n g : ℕ) (own : Datum) → slice_get (functions_among c t ks) n ≡ Some g → slice_get (names_among c t ks) n ≡ Some own → symbol_at c t g ≡ Some own) → (o : Option Datum) → symbol_at c t k ≡ o → (n : ℕ) → slice_get (with_function k o (functions_among c t ks)) n ≡ Some f → slice_get (with_name o (names_among c t ks)) n ≡ Some name → symbol_at c t f ≡ Some name
    go later None e n at_f at_n = later n f name at_f at_n
    go later (Some symbol) e zero at_f at_n = ap (symbol_at c t) (sym (some_is at_f)) ∙ e ∙ at_n
    go later (Some symbol) e (suc n) at_f at_n = later n f name at_f at_n

pub as_many_names : (c : CallingConvention) (t : Tree) (ks : List ℕ) → length (names_among c t ks) ≡ length (functions_among c t ks)
as_many_names c t [] = refl
as_many_names c t (k ∷ ks) = go (as_many_names c t ks) (symbol_at c t k)
  where
    go : length (names_among c t ks) ≡ length (functions_among c t ks) → (o : Option Datum) → length (with_name o (names_among c t ks)) ≡ length (with_function k o (functions_among c t ks))
    go later None = later
    go later (Some symbol) = omega (arith, later)

pub all_live : (c : CallingConvention) (t : Tree) (ks : List ℕ) → ((k : ℕ) → In k ks → IsLive t k) → All (λ f. IsLive t f) (functions_among c t ks)
all_live c t [] live = All-nil (λ f. IsLive t f)
all_live c t (k ∷ ks) live = go (all_live c t ks (λ j i. live j (inr i))) (symbol_at c t k)
  where
    go : All (λ f. IsLive t f) (functions_among c t ks) → (o : Option Datum) → All (λ f. IsLive t f) (with_function k o (functions_among c t ks))
    go later None = later
    go later (Some symbol) = All-cons (λ f. IsLive t f) k (functions_among c t ks) (live k (inl refl)) later

pub live_in : (t : Tree) (fs : List ℕ) → All (λ f. IsLive t f) fs → (f : ℕ) → In f fs → IsLive t f
live_in t fs all f i =
    let at = slice_in fs f i in
    let lt = slice_get_within fs at.0 f at.1 in
    subst (λ z. IsLive t z) (some_is (sym (slice_get-get_or fs at.0 f lt) ∙ at.1)) (all at.0 f lt)

-- ---- calls that are inlined one after the other

pub none_inlined : (m : Meaning) (c : CallingConvention) (t : Tree) → AreInlined m c t t []
none_inlined m c t = record { fit = λ f i. absurd i; keeps = in_turn_laws.none m c t t (unchanged m t) }

module _ (m : Meaning) (c : CallingConvention) (t u v : Tree) (callees : List ℕ) (h : AreInlined m c t u callees) where
  pub one_more : (f : ℕ) (symbol : Datum) → IsFit m t f → symbol_at c t f ≡ Some symbol → KeepsProgramsLinkedBy m c (named_as f symbol ∷ []) u v → AreInlined m c t v (callees ++ f ∷ [])
  one_more f symbol fit named k = record {
    fit = λ g i. ⊎_elim (h.fit g) (λ j. ⊎_elim (λ e. subst (IsFit m t) (sym e) fit) (λ x. absurd x) j) (In-cases g callees (f ∷ []) i);
    keeps = subst (λ names. KeepsProgramsLinkedBy m c names t v) (sym (own_names_more c t callees f symbol named)) (in_turn_laws.in_turn m c (own_names c t callees) (named_as f symbol ∷ []) t u v h.keeps k);
  }

  pub as_many : KeepsPrograms m u v → AreInlined m c t v callees
  as_many k = record {
    fit = h.fit;
    keeps = subst (λ names. KeepsProgramsLinkedBy m c names t v) (append-nil (own_names c t callees)) (in_turn_laws.in_turn m c (own_names c t callees) [] t u v h.keeps (in_turn_laws.none m c u v k));
  }

-- what was fit to run is fit while it is live
pub still_fit : (m : Meaning) (c : CallingConvention) (t u : Tree) (callees : List ℕ) → AreInlined m c t u callees → (root : ℕ) → IsFit m t root → IsLive u root → IsFit m u root
still_fit m c t u callees h root fit live =
    let same = here_tree (λ n. t) 0 u in
    subst (λ z. IsFit m z root) same ((h.keeps (λ n. t) 0 refl).stays (record { in_module = 0; root = root }) fit (subst (λ z. IsLive z root) (sym same) live))

-- ---- the functions of a plan

-- what is read at an index of an equal list
pub read_at : (xs fs : List ℕ) (i f : ℕ) → xs ≡ fs → i < length fs → f ≡ get_or xs i f → slice_get fs i ≡ Some f
read_at xs fs i f same lt is = slice_get_read fs (length fs) i f refl lt (is ∙ ap (λ ys. get_or ys i f) same)

pub match_true : (P Q : Type 0) (b : Bool) → b ≡ true → MatchBool b P Q → P
match_true P Q b e h = subst (λ z. MatchBool z P Q) e h

pub match_false : (P Q : Type 0) (b : Bool) → b ≡ false → MatchBool b P Q → Q
match_false P Q b e h = subst (λ z. MatchBool z P Q) e h

module _ (m : Meaning) (c : CallingConvention) (t : Tree) (functions : List ℕ) (names : List Datum) (facts : List FunctionFacts) (plan : ArePlanned m c t functions names facts) where
  pub has_name : (f : ℕ) → In f functions → (name : Datum) × (symbol_at c t f ≡ Some name)
  has_name f i =
      let at = slice_in functions f i in
      let lt : at.0 < length names = let a = slice_get_within functions at.0 f at.1 in let b = plan.as_many_names in omega (arith, a, b) in
      let name = slice-some names at.0 lt in
      (name.0, plan.named at.0 f name.0 at.1 name.1)

  -- a function that is admitted, and its name
  pub first_fit : (i f : ℕ) → slice_get functions i ≡ Some f → ((x : FunctionFacts) → slice_get facts i ≡ Some x → x.is_admitted ≡ true) → IsFit m t f
  first_fit i f at_f admitted =
      let lt : i < length facts = let a = slice_get_within functions i f at_f in let b = plan.as_many_facts in omega (arith, a, b) in
      let x = slice-some facts i lt in
      plan.fit i f x.0 at_f x.1 (admitted x.0 x.1)

  pub site_within : (i : ℕ) (name : Datum) → slice_get names i ≡ Some name → i < length functions
  site_within i name e = let a = slice_get_within names i name e in let b = plan.as_many_names in omega (arith, a, b)

  module _ (u : Tree) (callees : List ℕ) (way : IsUnderWay m c t u functions callees) where
    pub function_live : (f : ℕ) → In f functions → IsLive u f
    function_live f i = subst (λ o. IsSome o) (sym (way.heads f i)) (way.live f i)

    pub symbol_now : (f : ℕ) → In f functions → (name : Datum) × (symbol_at c u f ≡ Some name)
    symbol_now f i = let n = has_name f i in (n.0, ap (option_and_then c.symbol_of) (way.heads f i) ∙ n.1)

    -- it is still fit
    pub callee_fit : (i f : ℕ) → slice_get functions i ≡ Some f → ((x : FunctionFacts) → slice_get facts i ≡ Some x → x.is_admitted ≡ true) → IsFit m u f
    callee_fit i f at_f admitted = still_fit m c t u callees way.inlined f (first_fit i f at_f admitted) (function_live f (in_slice functions i f at_f))

    -- the next tree, in which functions have their heads
    pub next_way : (v : Tree) (more : List ℕ) → AreInlined m c t v more → ((k : ℕ) (name : Datum) → symbol_at c u k ≡ Some name → head_of v k ≡ head_of u k) → IsUnderWay m c t v functions more
    next_way v more inlined stay = record {
      inlined = inlined;
      live = way.live;
      heads = λ f i. let n = symbol_now f i in stay f n.0 n.1 ∙ way.heads f i;
    }

pub way_begins : (m : Meaning) (c : CallingConvention) (t : Tree) (functions : List ℕ) → ((f : ℕ) → In f functions → IsLive t f) → IsUnderWay m c t t functions []
way_begins m c t functions live = record { inlined = none_inlined m c t; live = live; heads = λ f i. refl }

-- ---- the calls in a function

-- the name that an operation calls
abbrev pub called_name : Option Datum → Datum
called_name o = option_map_or (λ (name : Datum). name) o Empty

module _ (callee : Head → Option Datum) (u : Tree) (names : List Datum) where
  pub called_by : (s : CallSite) → IsCallSite callee u names s.call s → callee_at callee u s.call ≡ Some (called_name (callee_at callee u s.call))
  called_by s is = is.calls ∙ ap Some (sym (ap called_name is.calls))

  pub called_there : (s : CallSite) → IsCallSite callee u names s.call s → slice_get names s.callee ≡ Some (called_name (callee_at callee u s.call))
  called_there s is = is.at_place ∙ ap Some (sym (ap called_name is.calls))

  its_own : (k : ℕ) (s : CallSite) → IsCallSite callee u names k s → IsCallSite callee u names s.call s
  its_own k s is = record { call = refl; name = is.name; calls = subst (λ z. callee_at callee u z ≡ Some is.name) (sym is.call) is.calls; at_place = is.at_place }

  sites_in : {ks : List ℕ} {sites : List CallSite} → AreCallSites callee u names ks sites → (i : ℕ) (s : CallSite) → slice_get sites i ≡ Some s → IsCallSite callee u names s.call s × In s.call ks
  sites_in NoOperations i s e = absurd (not_none e)
  sites_in (CallingNone ks sites k all none) i s e = let r = sites_in all i s e in (r.0, In-left s.call ks (k ∷ []) r.1)
  sites_in (CallingOne ks sites k site all is) i s e =
      ⊎_elim
      (λ a. let r = sites_in all i s a in (r.0, In-left s.call ks (k ∷ []) r.1))
      (λ b. subst (λ (z : CallSite). IsCallSite callee u names z.call z × In z.call (ks ++ k ∷ [])) (sym b.1) (its_own k site is, In-right site.call ks (k ∷ []) (inl is.call)))
      (last_or sites site s i e)

  sites_apart : {ks : List ℕ} {sites : List CallSite} → AreCallSites callee u names ks sites → IsDistinct ks → (i j : ℕ) (a b : CallSite) → slice_get sites i ≡ Some a → slice_get sites j ≡ Some b → a.call ≡ b.call → i ≡ j
  sites_apart NoOperations d i j a b at_a at_b e = absurd (not_none at_a)
  sites_apart (CallingNone ks sites k all none) d i j a b at_a at_b e = sites_apart all (distinct-front ks (k ∷ []) d) i j a b at_a at_b e
  sites_apart (CallingOne ks sites k site all is) d i j a b at_a at_b e =
      by (λ x y. sites_apart all (distinct-front ks (k ∷ []) d) i j a b x y e) (last_or sites site a i at_a) (last_or sites site b j at_b)
    where
      twice_there : (n : ℕ) (s : CallSite) → slice_get sites n ≡ Some s → s.call ≡ site.call → ⊥
      twice_there n s at same = distinct-apart ks (k ∷ []) d k (subst (λ z. In z ks) (same ∙ is.call) (sites_in all n s at).1) (inl refl)

      by : (slice_get sites i ≡ Some a → slice_get sites j ≡ Some b → i ≡ j) → (slice_get sites i ≡ Some a) ⊎ ((i ≡ length sites) × (a ≡ site)) → (slice_get sites j ≡ Some b) ⊎ ((j ≡ length sites) × (b ≡ site)) → i ≡ j
      by before (inl x) (inl y) = before x y
      by before (inl x) (inr y) = absurd (twice_there i a x (e ∙ ap (λ (z : CallSite). z.call) y.1))
      by before (inr x) (inl y) = absurd (twice_there j b y (sym e ∙ ap (λ (z : CallSite). z.call) x.1))
      by before (inr x) (inr y) = x.0 ∙ sym y.0

  pub apart_sites : (ks : List ℕ) (sites : List CallSite) → AreCallSites callee u names ks sites → IsDistinct ks → AreApartSites callee u names sites
  apart_sites ks sites all d = record { each = λ i s e. (sites_in all i s e).0; apart = sites_apart all d }

  -- each is a call of a function of these names
  pub site_places : (ks : List ℕ) (sites : List CallSite) → AreCallSites callee u names ks sites → (i : ℕ) (s : CallSite) → slice_get sites i ≡ Some s → s.callee < length names
  site_places ks sites all i s e = let is = (sites_in all i s e).0 in slice_get_within names s.callee is.name is.at_place

  -- the last one is taken out
  module _ (sites : List CallSite) (s : CallSite) (h : AreApartSites callee u names (sites ++ s ∷ [])) where
    at_end : slice_get (sites ++ s ∷ []) (length sites) ≡ Some s
    at_end = item_pushed sites s

    pub last_site : IsCallSite callee u names s.call s
    last_site = h.each (length sites) s at_end

    pub sites_left : (v : Tree) → ((k : ℕ) → IsLive u k → k ≢ s.call → head_of v k ≡ head_of u k) → AreApartSites callee v names sites
    sites_left v others = record {
      each = λ i x e.
          let is = h.each i x (item_kept sites s i x e) in
          let live : IsLive u x.call = live_by callee u x.call is.name is.calls in
          let other : x.call ≢ s.call = λ same. let p = h.apart i (length sites) x s (item_kept sites s i x e) at_end same in let l = slice_get_within sites i x e in omega (arith, p, l) in
          record { call = refl; name = is.name; calls = ap (option_and_then callee) (others x.call live other) ∙ is.calls; at_place = is.at_place };
      apart = λ i j a b at_a at_b. h.apart i j a b (item_kept sites s i a at_a) (item_kept sites s j b at_b);
    }

-- ---- the components of the graph of calls

pub nodes_within : (callee : Head → Option Datum) (t : Tree) (names : List Datum) (functions : List ℕ) (components : List (Scc ℕ)) → AreCallComponents callee t names functions components → (x : Scc ℕ) (v : ℕ) → Contains components x → Contains x.nodes.items v → v < length functions
nodes_within callee t names functions components h x v hx hv =
    let lt = node_below (length h.graph.succ) v ((h.components_of.covers v).1 (x, hx, hv)) in
    let long = h.rows.long in
    omega (arith, lt, long)
