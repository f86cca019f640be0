-- One region after the other loses its unreachable blocks.
use Rattle.std.proofs.Common.{◌≡◌, ◌↔◌, ◌⊎◌, inl, inr, ⊎_elim, ℕ, true, List, [], ◌∷◌, ◌++◌, Some, refl, sym, ◌∙◌, subst, is_some}
use Rattle.pliron_core.specs.declared.attrs.IRStatus.{IRStatus}
use Rattle.pliron_core.specs.declared.attrs.IRStatus.TheVariants.{Changed, Unchanged}
use Rattle.pliron_core.specs.Tree.{Tree, In, IsLive, block_parent_of, region_parent_of}
use Rattle.pliron_core.specs.Invariant.{IsTree}
use Rattle.pliron_core.specs.Erased.{IsInOperation}
use Rattle.pliron_core.specs.Changes.{IsInsideChange}
use Rattle.pliron_core.specs.ChangeLaws.{InsideChangeLaws}
use Rattle.pliron_core.proofs.ListLemmas.{In-cases, In-left, In-right, decide_in}
use Rattle.pliron_core.proofs.HoldingLemmas.{some_is, not_none}
use Rattle.pliron_laws.specs.Datum.{Meaning}
use Rattle.pliron_laws.specs.Linked.{IsWellLinked}
use Rattle.pliron_theory.specs.Change.{IsWholeChange}
use Rattle.pliron_theory.specs.Whole.{WholeLaws}
use Rattle.pliron_graph_traversal.specs.Regions.{IsLawfulRegion}
use Rattle.pliron_rewrite_blocks.specs.Links.{KeepsLinks, CutLinksLaw}
use Rattle.pliron_rewrite_blocks.specs.Inside.{CutInsideLaw}
use Rattle.pliron_opt_cfg.specs.Visited.{Start, IsVisitedSsaRegion, IsCutOff, IsUnreachable, IsReachedIn}
use Rattle.pliron_opt_cfg.specs.Visits.{AreVisits}
use Rattle.pliron_opt_cfg.proofs.Lawful.{visited_lawful, reached_in}
use Rattle.pliron_opt_cfg.specs.Removed.{IsWithout, RemovesSome.Nothing, RemovesSome.Then, RemovesAll, RemovalFails, HasLiveUse}
use Rattle.pliron_laws.specs.declared.fault.OptError.{OptError}
use Rattle.pliron_laws.specs.declared.fault.OptError.TheVariants.{Memory, LiveUse}
use Rattle.pliron_opt_cfg.specs.declared.removal.scope.RemovalScope.{RemovalScope}
use Rattle.pliron_opt_cfg.specs.Internal.Scopes.{start_of_scope, IsScopeLive, IsHolder}
use Rattle.pliron_opt_cfg.proofs.ScopeLemmas.{start_lawful, top_held, top_apart, within_root, root_row, start_to, start_from, stands_still, holder_still}
use Rattle.pliron_opt_cfg.specs.Internal.Clears.{LosesCutOff, ClearsRegion}
use Rattle.pliron_opt_cfg.specs.Internal.Cleared.{status_after_more, ReportsLoss, AreCleared, Went}
use Rattle.pliron_opt_cfg.proofs.Without.{is_without}
use Rattle.pliron_opt_cfg.proofs.Composed.{none_go, gone_alike, gone_in_turn}
use Rattle.pliron_opt_cfg.proofs.Stability.{visits_still, cut_off_was, cut_off_still, none_left}

module _ (m : Meaning) (t u v : Tree) (scope : RemovalScope) (root r : ℕ) (rs ks rest : List ℕ) (laws : WholeLaws) (cut_links : CutLinksLaw) (cut_inside : CutInsideLaw) (inside_laws : InsideChangeLaws) (w : IsTree u) (wv : IsTree v) where
  left_cases : (q : ℕ) → In q (rest ++ r ∷ []) → In q rest ⊎ (q ≡ r)
  left_cases q i = ⊎_elim (λ a. inl a) (λ a. ⊎_elim (λ s. inr s) (λ z. absurd z) a) (In-cases q rest (r ∷ []) i)

  module _ (status : IRStatus) (h : AreCleared m t u scope root rs ks (rest ++ r ∷ []) status) where
    start_held : (q : ℕ) → start_of_scope scope u q → IsLawfulRegion u q
    start_held = start_lawful u w scope root h.liveness h.holder h.change.linked.edges

    searched : IsVisitedSsaRegion (start_of_scope scope) u r
    searched = (h.visits.regions r).0 (h.among r (In-right r rest (r ∷ []) (inl refl)))

    pub region_lawful : IsLawfulRegion u r
    region_lawful = visited_lawful u w (start_of_scope scope u) start_held r searched.0

    -- the set of reached blocks tells which blocks of the region are reached
    pub tells_reached : (b : ℕ) → block_parent_of u b ≡ Some r → (In b ks ↔ IsReachedIn u r b)
    tells_reached b p = (
      λ i.
          let x = (h.visits.blocks b).0 i in
          let l = visited_lawful u w (start_of_scope scope u) start_held x.0 x.1 in
          subst (λ z. IsReachedIn u z b) (some_is (sym (reached_in u w x.0 l b x.3) ∙ p)) x.3,
      λ y. (h.visits.blocks b).1 (r, searched.0, searched.1, y),
    )

    pub region_searched : IsVisitedSsaRegion (start_of_scope scope) u r
    region_searched = searched

    pub fails : (e : OptError) → v ≡ u → (e ≡ Memory) ⊎ ((e ≡ LiveUse) × HasLiveUse u r) → RemovalFails (start_of_scope scope) t v e
    fails e same x = subst (λ z. RemovalFails (start_of_scope scope) t z e) (sym same) (h.some, ⊎_elim (λ a. inl a) (λ y. inr (y.0, (r, searched, y.1))) x)

    same_next : ((b : ℕ) → IsCutOff u r b → ⊥) → AreCleared m t u scope root rs ks rest status
    same_next none = record {
      liveness = h.liveness;
      holder = h.holder;
      first = h.first;
      some = h.some;
      without = h.without;
      were = h.were;
      visits = h.visits;
      change = h.change;
      links = h.links;
      among = λ q i. h.among q (In-left q rest (r ∷ []) i);
      cleared = λ q i. ⊎_elim (λ a. ⊎_elim (λ j. inl j) (λ s. inr (subst (λ z. (b : ℕ) → IsCutOff u z b → ⊥) (sym s) none)) (left_cases q a)) (λ n. inr n) (h.cleared q i);
      accurate = h.accurate;
    }

    module _ (l : LosesCutOff m u v r) where
      own : (b : ℕ) → In b l.blocks → block_parent_of u b ≡ Some r
      own b i = ((l.exact b).0 i).0

      start_apart : (q k b : ℕ) → start_of_scope scope u q → region_parent_of u q ≡ Some k → In b l.blocks → IsInOperation u b k → ⊥
      start_apart q k b s e i y =
          let top = top_held u w scope q h.liveness s in
          top_apart u w scope root h.liveness h.holder h.change.linked.edges r b top.0 searched.0 (own b i) top.1 (subst (IsInOperation u b) (some_is (sym e ∙ top.2)) y)

      to : (q : ℕ) → start_of_scope scope u q → start_of_scope scope v q
      to = start_to u v w wv root r l.blocks own l.cut scope h.liveness h.holder h.change.linked.edges searched.0

      from : (q : ℕ) → start_of_scope scope v q → start_of_scope scope u q
      from = start_from u v w wv root r l.blocks own l.cut scope h.liveness h.holder h.change.linked.edges searched.0

      visits_next : AreVisits v (start_of_scope scope v) rs ks
      visits_next = visits_still u v w wv r l.blocks l.exact l.cut searched.1 (start_of_scope scope u) (start_of_scope scope v) start_held start_apart to from rs ks h.visits

      links_next : KeepsLinks m u v
      links_next = cut_links m u v r l.blocks w wv l.cut

      inside_next : IsInsideChange u v root
      inside_next =
          let x = region_lawful in
          let held = cut_inside u v r x.holder l.blocks w wv x.held own l.cut in
          ⊎_elim (λ s. subst (IsInsideChange u v) s held) (λ i. inside_laws.wider u v root x.holder w i held) (within_root u w scope root h.liveness h.holder h.change.linked.edges r searched.0 x.holder x.held)

      change_next : IsWholeChange m u v root
      change_next = record {
        liveness = subst (λ z. is_some z.head ≡ true) (sym (root_row u v w wv root r l.blocks own l.cut scope h.liveness h.holder h.change.linked.edges searched.0)) h.change.liveness;
        linked = links_next root h.change.linked;
        inside = inside_next;
        runs = l.runs;
      }

      -- a region is searched after if it was before
      unreachable_was : (b : ℕ) → IsUnreachable (start_of_scope scope) v b → IsUnreachable (start_of_scope scope) u b
      unreachable_was b x =
          let s = (h.visits.regions x.0).0 ((visits_next.regions x.0).1 x.1) in
          (x.0, s, cut_off_was u v w wv r l.blocks l.exact l.cut searched.1 (start_of_scope scope u) (start_of_scope scope v) start_held start_apart to from x.0 s.0 b x.2)

      unreachable_still : (b : ℕ) → (In b l.blocks → ⊥) → IsUnreachable (start_of_scope scope) u b → IsUnreachable (start_of_scope scope) v b
      unreachable_still b n x = (
        x.0,
        (visits_next.regions x.0).0 ((h.visits.regions x.0).1 x.1),
        cut_off_still u v w wv r l.blocks l.exact l.cut searched.1 (start_of_scope scope u) (start_of_scope scope v) start_held start_apart to from x.0 x.1.0 b n x.2,
      )

      without_region : IsWithout u v (IsCutOff u r)
      without_region = is_without u v w wv r l.blocks l.exact l.cut

      -- what went before and what goes now is what went after
      went_now : (b : ℕ) → IsCutOff u r b → Went (start_of_scope scope) t v b
      went_now b y = (h.were b (r, searched, y), λ x. not_none (sym (without_region.detached_blocks b (b, y, inl refl)) ∙ x.2.0))

      went_either : (b : ℕ) → Went (start_of_scope scope) t v b → Went (start_of_scope scope) t u b ⊎ IsCutOff u r b
      went_either b y = ⊎_elim
          (λ i. inr ((l.exact b).0 i))
          (λ n. inl (y.0, λ x. y.1 (unreachable_still b n x)))
          (decide_in b l.blocks)

      without_next : IsWithout t v (Went (start_of_scope scope) t v)
      without_next = gone_in_turn t u h.first w (Went (start_of_scope scope) t u) h.without v (IsCutOff u r) (Went (start_of_scope scope) t v) without_region
          (λ b y. (y.0, λ x. y.1 (unreachable_was b x)))
          went_now
          went_either

      tells_next : (s : IRStatus) → ReportsLoss (start_of_scope scope) t u s → ReportsLoss (start_of_scope scope) t v Changed
      tells_next Changed x = x
      tells_next Unchanged x = subst (λ z. (b : ℕ) × IsUnreachable (start_of_scope scope) z b) x (l.one, (r, searched, (l.exact l.one).0 l.listed))

      less_next : AreCleared m t v scope root rs ks rest Changed
      less_next = record {
        liveness = stands_still u v w wv root r l.blocks own l.cut scope h.liveness h.holder h.change.linked.edges searched.0;
        holder = holder_still u v w wv root r l.blocks own l.cut scope h.liveness h.holder h.change.linked.edges searched.0;
        first = h.first;
        some = Then r l.one h.some searched ((l.exact l.one).0 l.listed) without_region;
        without = without_next;
        were = λ b x. h.were b (unreachable_was b x);
        visits = visits_next;
        change = laws.transitive m t u v root h.change change_next;
        links = λ k x. links_next k (h.links k x);
        among = λ q i. h.among q (In-left q rest (r ∷ []) i);
        cleared = λ q i. ⊎_elim
            (λ a. ⊎_elim (λ j. inl j) (λ s. inr (subst (λ z. (b : ℕ) → IsCutOff v z b → ⊥) (sym s) deleted)) (left_cases q a))
            (λ n. inr (λ b y. n b (cut_off_was u v w wv r l.blocks l.exact l.cut searched.1 (start_of_scope scope u) (start_of_scope scope v) start_held start_apart to from q ((h.visits.regions q).0 i).0 b y)))
            (h.cleared q i);
        accurate = tells_next status h.accurate;
      }
        where
          deleted : (b : ℕ) → IsCutOff v r b → ⊥
          deleted b y = none_left u v w wv r l.blocks l.exact l.cut searched.1 (start_of_scope scope u) (start_of_scope scope v) start_held start_apart to from searched.0 b y

    pub next : (more : IRStatus) → ClearsRegion m u v r more → AreCleared m t v scope root rs ks rest (status_after_more more status)
    next Changed l = less_next l
    next Unchanged e = subst (λ z. AreCleared m t z scope root rs ks rest status) (sym e.1) (same_next e.0)

pub none_cleared : (m : Meaning) (t : Tree) (scope : RemovalScope) (root : ℕ) (rs ks : List ℕ) → WholeLaws → IsTree t → IsScopeLive t scope → IsHolder t scope root → IsLive t root → IsWellLinked m t root → AreVisits t (start_of_scope scope t) rs ks → AreCleared m t t scope root rs ks rs Unchanged
none_cleared m t scope root rs ks laws w liveness holder live linked visits = record {
  liveness = liveness;
  holder = holder;
  first = w;
  some = Nothing;
  without = none_go t (Went (start_of_scope scope) t t) (λ b y. y.1 y.0);
  were = λ b x. x;
  visits = visits;
  change = laws.reflexive m t root live linked;
  links = λ k x. x;
  among = λ r i. i;
  cleared = λ r i. inl i;
  accurate = refl;
}

pub all_cleared : (m : Meaning) (t u : Tree) (scope : RemovalScope) (root : ℕ) (rs ks : List ℕ) (status : IRStatus) → AreCleared m t u scope root rs ks [] status → RemovesAll (start_of_scope scope) t u status
all_cleared m t u scope root rs ks status h = go status h.accurate
  where
    none : (b : ℕ) → IsUnreachable (start_of_scope scope) u b → ⊥
    none b x = ⊎_elim (λ i. i) (λ n. n b x.2) (h.cleared x.0 ((h.visits.regions x.0).1 x.1))

    go : (s : IRStatus) → ReportsLoss (start_of_scope scope) t u s → RemovesAll (start_of_scope scope) t u s
    go Changed x = (x, gone_alike t u (Went (start_of_scope scope) t u) (IsUnreachable (start_of_scope scope) t) (λ b y. y.0) (λ b y. (y, none b)) h.without, h.some, none)
    go Unchanged e = (subst (λ z. (b : ℕ) → IsUnreachable (start_of_scope scope) z b → ⊥) e none, e)

-- the reached blocks by another list with the same members
pub visits_as : (t : Tree) (A : ℕ → Type 0) (rs bs ks : List ℕ) → ((b : ℕ) → In b ks ↔ In b bs) → AreVisits t A rs bs → AreVisits t A rs ks
visits_as t A rs bs ks same a = record {
  regions = a.regions;
  blocks = λ b. (λ i. (a.blocks b).0 ((same b).0 i), λ x. (same b).1 ((a.blocks b).1 x));
}

-- the answer reports accurately
pub reports_change : (start : Start) (t v : Tree) (status : IRStatus) → RemovesAll start t v status → (status ≡ Unchanged) ↔ (v ≡ t)
reports_change start t v Changed x = ((λ e. absurd (cc)), (λ e. absurd (x.3 x.0.0 (subst (λ z. IsUnreachable start z x.0.0) (sym e) x.0.1))))
reports_change start t v Unchanged x = ((λ e. x.1), (λ e. refl))
