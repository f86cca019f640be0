-- No redundant operation is left, where uses are behind definitions.
use Rattle.std.proofs.Common.{◌≡◌, ◌≢◌, ◌⊎◌, ℕ, ◌<◌, ◌≤◌, ◌+◌, Bool, List, [], ◌∷◌, ◌++◌, length, get_or, map, Option, Some, refl, sym, ap, ◌∙◌, subst, inl, inr, ⊎_elim, arith}
use Rattle.pliron_core.specs.declared.attrs.IRStatus.{IRStatus}
use Rattle.pliron_core.specs.declared.attrs.IRStatus.TheVariants.{Changed, Unchanged}
use Rattle.pliron_core.specs.Invariant.{IsTree}
use Rattle.pliron_core.specs.Tree.{Tree, In, IsLive, head_of, operands_of, results_of, successors_of, regions_of, block_parent_of, up_from}
use Rattle.pliron_core.specs.Uses.{replace_target}
use Rattle.pliron_core.specs.Writes.{after_replacing}
use Rattle.pliron_core.specs.declared.context.Def.TheVariants.{Result}
use Rattle.pliron_core.proofs.HoldingLemmas.{some_is, slice_in}
use Rattle.pliron_laws.specs.Datum.{Head, Meaning}
use Rattle.pliron_laws.specs.Laws.{KeepsCounts, GivesAtOnce}
use Rattle.pliron_laws.specs.Linked.{IsWellLinked}
use Rattle.pliron_rewrite_equals.specs.OperationDominance.{DominatesOperation}
use Rattle.pliron_rewrite_equals.specs.Merging.{replaced_all, results_merged, after_merging}
use Rattle.pliron_rewrite_equals.proofs.Replaced.{target_cases, operands_replaced}
use Rattle.pliron_rewrite_equals.proofs.Merging.{results_same, rows_same}
use Rattle.pliron_rewrite_equals.proofs.OperationDominance.{stands_trans}
use Rattle.pliron_graph_order.proofs.NumberLemmas.{at_in}
use Rattle.pliron_graph_order.proofs.PreorderLemmas.{in_at}
use Rattle.pliron_opt_cse.specs.Keys.{head_words_of, operand_words, key_words}
use Rattle.pliron_opt_cse.specs.Left.{HasRedundancy, UsesAreBehind, LeavesNoRedundancy, ReportsEquivalent}
use Rattle.pliron_opt_cse.specs.MergingSteps.{IsEliminable, MayMerge, LeadsAt, FindLeaders, StaysAlone, AreNotRedundant, AreOrderedOperations, IsExact}
use Rattle.pliron_opt_cse.specs.Merges.{IsPair}
use Rattle.pliron_laws.specs.EdgeChecks.{region_around}
use Rattle.pliron_opt_cse.proofs.Moved.{moved_regions, moved_successors}
use Rattle.pliron_opt_cse.proofs.OnWay.{merged_stands, merged_seen, merged_gone, merged_fewer, row_of_merged, operands_of_merged, successors_of_merged, place_of_merged}

-- the operation is as it was, as far as it tells what is redundant
pub record LooksAlike (t u : Tree) (k : ℕ) : Type 0 where
  pub head : head_of u k ≡ head_of t k
  pub operands : operands_of u k ≡ operands_of t k
  pub results : results_of u k ≡ results_of t k
  pub successors : successors_of u k ≡ successors_of t k
  pub regions : regions_of u k ≡ regions_of t k
  pub region : region_around u k ≡ region_around t k

looks_key : (t u : Tree) (k : ℕ) → LooksAlike t u k → key_words u k ≡ key_words t k
looks_key t u k l =
    ap (λ z. head_words_of z ++ length (results_of u k) ∷ operand_words (operands_of u k) (region_around u k)) l.head
    ∙ ap (λ z. head_words_of (head_of t k) ++ length z ∷ operand_words (operands_of u k) (region_around u k)) l.results
    ∙ ap (λ z. head_words_of (head_of t k) ++ length (results_of t k) ∷ operand_words z (region_around u k)) l.operands
    ∙ ap (λ z. head_words_of (head_of t k) ++ length (results_of t k) ∷ operand_words (operands_of t k) z) l.region

looks_repeats : (side_effects : Head → Option Bool) (t u : Tree) (k : ℕ) → LooksAlike t u k → IsEliminable side_effects u k → IsEliminable side_effects t k
looks_repeats side_effects t u k l r = record { regions = sym l.regions ∙ r.regions; successors = sym l.successors ∙ r.successors; harmless = λ h e. r.harmless h (l.head ∙ e) }

looks_alike : (side_effects : Head → Option Bool) (t u : Tree) (a b : ℕ) → LooksAlike t u a → LooksAlike t u b → MayMerge side_effects u a b → MayMerge side_effects t a b
looks_alike side_effects t u a b la lb n = record {
  alike = record {
    head = sym lb.head ∙ n.alike.head ∙ la.head;
    operands = sym lb.operands ∙ n.alike.operands ∙ la.operands;
    results = ap length (sym lb.results) ∙ n.alike.results ∙ ap length la.results;
    no_successors = sym lb.successors ∙ n.alike.no_successors;
    none_of_first = sym la.successors ∙ n.alike.none_of_first;
    no_regions = sym lb.regions ∙ n.alike.no_regions;
    no_region_of_first = sym la.regions ∙ n.alike.no_region_of_first;
    harmless = λ h e. n.alike.harmless h (lb.head ∙ e);
  };
  near = λ e. sym la.region ∙ n.near (lb.operands ∙ e) ∙ lb.region;
}

-- uses of other values stay
map_other : (v x : ℕ) (ys : List ℕ) → (In v ys → ⊥) → map (replace_target v x) ys ≡ ys
map_other v x [] none = refl
map_other v x (y ∷ ys) none =
    let first : replace_target v x y ≡ y = ⊎_elim (λ q. absurd (none (inl (sym q.0)))) (λ q. q.1) (target_cases v x y) in
    ap (λ z. z ∷ map (replace_target v x) ys) first ∙ ap (λ z. y ∷ z) (map_other v x ys (λ i. none (inr i)))

operands_stay : (vs xs : List ℕ) (t : Tree) (k : ℕ) → ((v : ℕ) → In v vs → In v (operands_of t k) → ⊥) → operands_of (replaced_all t vs xs) k ≡ operands_of t k
operands_stay [] xs t k none = refl
operands_stay (v ∷ vs) [] t k none = refl
operands_stay (v ∷ vs) (x ∷ xs) t k none =
    let same : operands_of (after_replacing t v x) k ≡ operands_of t k = operands_replaced t v x k ∙ map_other v x (operands_of t k) (λ i. none v (inl refl) i) in
    operands_stay vs xs (after_replacing t v x) k (λ y i j. none y (inr i) (subst (In y) same j)) ∙ same

-- what an operation uses after uses moved, it used, or used what stands in its place
in_mapped : (v x y : ℕ) (ys : List ℕ) → In y (map (replace_target v x) ys) → In y ys ⊎ ((y ≡ x) × In v ys)
in_mapped v x y [] i = absurd i
in_mapped v x y (z ∷ zs) (inr i) = ⊎_elim (λ j. inl (inr j)) (λ q. inr (q.0, inr q.1)) (in_mapped v x y zs i)
in_mapped v x y (z ∷ zs) (inl e) = ⊎_elim
    (λ q. inr (e ∙ q.1, inl (sym q.0)))
    (λ q. inl (inl (e ∙ q.1)))
    (target_cases v x z)

used_before : (vs xs : List ℕ) (t : Tree) (k y : ℕ) → In y (operands_of (replaced_all t vs xs) k) → In y (operands_of t k) ⊎ (In y xs × ((v : ℕ) × In v vs × In v (operands_of t k)) ⊎ (In y xs × ((v : ℕ) × In v vs × ((w : ℕ) × In w xs × (v ≡ w)))))
used_before [] xs t k y i = inl i
used_before (v ∷ vs) [] t k y i = inl i
used_before (v ∷ vs) (x ∷ xs) t k y i = ⊎_elim
    (λ j. ⊎_elim (λ q. inl q) (λ q. inr (inl (inl q.0, (v, inl refl, q.1)))) (in_mapped v x y (operands_of t k) (subst (In y) (operands_replaced t v x k) j)))
    (λ r. ⊎_elim
    (λ q. ⊎_elim
    (λ j. inr (inl (inr q.0, (q.1.0, inr q.1.1, j))))
    (λ s. inr (inr (inr q.0, (q.1.0, inr q.1.1, (x, inl refl, s.0)))))
    (in_mapped v x q.1.0 (operands_of t k) (subst (In q.1.0) (operands_replaced t v x k) q.1.2)))
    (λ q. inr (inr (inr q.0, (q.1.0, inr q.1.1, (q.1.2.0, inr q.1.2.1, q.1.2.2)))))
    r)
    (used_before vs xs (after_replacing t v x) k y i)

module _ (m : Meaning) (side_effects : Head → Option Bool) (counts : KeepsCounts m) (free : GivesAtOnce m side_effects) (t : Tree) (a b root : ℕ) (w : IsTree t) (live : IsLive t root) (linked : IsWellLinked m t root) (pair : IsPair side_effects t root a b) (w' : IsTree (after_merging t a b)) where
  deleted : (k : ℕ) → IsLive (after_merging t a b) k → k ≢ b
  deleted k l = merged_gone m side_effects counts free t a b root w live linked pair w' k l

  fewer : (k : ℕ) → IsLive (after_merging t a b) k → IsLive t k
  fewer k l = merged_fewer m side_effects counts free t a b root w live linked pair w' k l

  looks : (k : ℕ) → k ≢ b → ((v : ℕ) → In v (results_of t b) → In v (operands_of t k) → ⊥) → LooksAlike t (after_merging t a b) k
  looks k ne none =
      let row = row_of_merged m side_effects counts free t a b root w live linked pair w' k ne in
      record {
        head = ap (λ z. z.head) row ∙ rows_same (results_of t b) (results_of t a) t k;
        operands = operands_of_merged m side_effects counts free t a b root w live linked pair w' k ne ∙ operands_stay (results_of t b) (results_of t a) t k none;
        results = ap (λ z. z.results) row ∙ results_same (results_of t b) (results_of t a) t k;
        successors = successors_of_merged m side_effects counts free t a b root w live linked pair w' k ne ∙ moved_successors (results_of t b) (results_of t a) t k;
        regions = ap (λ z. z.regions) row ∙ moved_regions (results_of t b) (results_of t a) t k;
        region = place_of_merged m side_effects counts free t a b root w live linked pair w' k ne;
      }

  -- a value is a result of one operation
  one_maker : (v k l : ℕ) → In v (results_of t k) → In v (results_of t l) → k ≡ l
  one_maker v k l i j =
      let x = slice_in (results_of t k) v i in
      let y = slice_in (results_of t l) v j in
      let e : Result k x.0 ≡ Result l y.0 = some_is (sym (w.joined.results k x.0 v x.1) ∙ w.joined.results l y.0 v y.1) in
      cc

  pub behind_merged : UsesAreBehind t root → UsesAreBehind (after_merging t a b) root
  behind_merged h k v user sk su made used =
      let nk : k ≢ b = deleted k (w'.joined.all_in_place k sk.block sk.in_block).0 in
      let nu : user ≢ b = deleted user (w'.joined.all_in_place user su.block su.in_block).0 in
      let sk' = (merged_seen m side_effects counts free t a b root w live linked pair w' k nk).1 sk in
      let su' = (merged_seen m side_effects counts free t a b root w live linked pair w' user nu).1 su in
      let made' : In v (results_of t k) = subst (In v) (ap (λ z. z.results) (row_of_merged m side_effects counts free t a b root w live linked pair w' k nk) ∙ results_same (results_of t b) (results_of t a) t k) made in
      let used' : In v (operands_of (results_merged t a b) user) = subst (In v) (operands_of_merged m side_effects counts free t a b root w live linked pair w' user nu) used in
      let there : DominatesOperation t k user = ⊎_elim
      (λ i. h k v user sk' su' made' i)
      (λ r. ⊎_elim
      (λ q.
      let same : k ≡ a = one_maker v k a made' q.0 in
      let below : DominatesOperation t b user = h b q.1.0 user pair.second su' q.1.1 q.1.2 in
      subst (λ z. DominatesOperation t z user) (sym same) (stands_trans t w a b user pair.leads.before below))
      (λ q. absurd (pair.leads.apart (sym (one_maker q.1.0 b a q.1.1 (subst (λ z. In z (results_of t a)) (sym q.1.2.2) q.1.2.1)))))
      r)
      (used_before (results_of t b) (results_of t a) t user v used') in
      (merged_stands m side_effects counts free t a b root w live linked pair w' k user nk nu).0 there

  module _ (ops ends : List ℕ) (place : ℕ) (low : place < length ops) (at : b ≡ get_or ops place 0) (o : AreOrderedOperations t root ops ends place) (behind : UsesAreBehind t root) where
    -- what comes before the redundant one uses none of its results
    looks_before : (i : ℕ) → i < place → IsLive (after_merging t a b) (get_or ops i 0) → LooksAlike t (after_merging t a b) (get_or ops i 0)
    looks_before i lt l =
        let k = get_or ops i 0 in
        let li : i < length ops = omega (arith, lt, low) in
        let seen = o.seen k (at_in ops i li) (fewer k l) in
        looks k (deleted k l) (λ v made used.
        let s : DominatesOperation t (get_or ops place 0) k = subst (λ z. DominatesOperation t z k) at (behind b v k pair.second seen made used) in
        let q = (o.all_in_place place i low li (subst (IsLive t) at (w.joined.all_in_place b pair.second.block pair.second.in_block).0) (fewer k l)).1 s in
        omega (arith, q.0, lt))

    before : (i : ℕ) → i < place + 1 → IsLive (after_merging t a b) (get_or ops i 0) → i < place
    before i lt l = ⊎_elim (λ e. absurd (deleted (get_or ops i 0) l (ap (λ z. get_or ops z 0) e ∙ sym at))) (λ ne. omega (arith, lt, ne)) (cases i place)
      where
        cases : (x y : ℕ) → (x ≡ y) ⊎ (x ≢ y)
        cases x y = grind arith

    pub found_merged : (find find' : List ℕ → Option ℕ) → ((key : List ℕ) → find' key ≡ find key) → FindLeaders side_effects t ops ends place find → FindLeaders side_effects (after_merging t a b) ops ends (place + 1) find'
    found_merged find find' same h i lt li l r =
        let lt' = before i lt l in
        let k = get_or ops i 0 in
        let look = looks_before i lt' l in
        ⊎_elim
        (λ e. inl (same (key_words (after_merging t a b) k) ∙ ap find (looks_key t (after_merging t a b) k look) ∙ e))
        (λ e. inr (omega (arith, e)))
        (h i lt' li (fewer k l) (looks_repeats side_effects t (after_merging t a b) k look r))

    pub none_merged : AreNotRedundant side_effects t ops ends place → AreNotRedundant side_effects (after_merging t a b) ops ends (place + 1)
    none_merged h i j lt lj l q =
        let lt' = before j lt l in
        h i j lt' lj (fewer (get_or ops j 0) l) (record {
          first = q.first;
          within = q.within;
          live = fewer (get_or ops i 0) q.live;
          alike = looks_alike side_effects t (after_merging t a b) (get_or ops i 0) (get_or ops j 0) (looks_before i (omega (arith, q.first, lt')) q.live) (looks_before j lt' l) q.alike;
        })

  pub exact_merged : (t0 : Tree) (ops ends : List ℕ) (place : ℕ) (find find' : List ℕ → Option ℕ) (status : IRStatus) → place < length ops → b ≡ get_or ops place 0 → AreOrderedOperations t root ops ends place → ((k : ℕ) → IsLive t k → IsLive t0 k) → (status ≡ Unchanged → t ≡ t0) → ((key : List ℕ) → find' key ≡ find key) → IsExact side_effects t0 t root ops ends place find status → IsExact side_effects t0 (after_merging t a b) root ops ends (place + 1) find' Changed
  exact_merged t0 ops ends place find find' status low at o before_all unchanged same x = record {
    behind = λ h. behind_merged (x.behind h);
    found = λ h. found_merged ops ends place low at o (x.behind (uses h)) find find' same (x.found (inl (uses h)));
    none = λ h. none_merged ops ends place low at o (x.behind (uses h)) (x.none (inl (uses h)));
    had = λ e. had status refl;
  }
    where
      uses : UsesAreBehind t0 root ⊎ (after_merging t a b ≡ t0) → UsesAreBehind t0 root
      uses (inl h) = h
      uses (inr e) = absurd (deleted b (subst (λ z. IsLive z b) (sym e) (before_all b (w.joined.all_in_place b pair.second.block pair.second.in_block).0)) refl)

      had : (s : IRStatus) → status ≡ s → HasRedundancy side_effects t0 root
      had Changed e = x.had e
      had Unchanged e = subst (λ z. HasRedundancy side_effects z root) (unchanged e) (a, b, pair)

module _ (side_effects : Head → Option Bool) where
  pub exact_start : (t : Tree) (root : ℕ) (ops ends : List ℕ) (find : List ℕ → Option ℕ) → IsExact side_effects t t root ops ends 0 find Unchanged
  exact_start t root ops ends find = record {
    behind = λ h. h;
    found = λ h i lt. absurd (omega (arith, lt));
    none = λ h i j lt. absurd (omega (arith, lt));
    had = λ e. absurd (cc e);
  }

  pub exact_stays : (t0 t : Tree) (root : ℕ) (ops ends : List ℕ) (place : ℕ) (find find' : List ℕ → Option ℕ) (status : IRStatus) → StaysAlone side_effects t ops ends place find find' → IsExact side_effects t0 t root ops ends place find status → IsExact side_effects t0 t root ops ends (place + 1) find' status
  exact_stays t0 t root ops ends place find find' status s x = record {
    behind = x.behind;
    found = λ h. s.found (x.found h);
    none = λ h i j lt lj l q. ⊎_elim (λ e. s.none (x.found h) i (subst (LeadsAt side_effects t ops ends i) e q)) (λ ne. x.none h i j (omega (arith, lt, ne)) lj l q) (cases j place);
    had = x.had;
  }
    where
      cases : (x y : ℕ) → (x ≡ y) ⊎ (x ≢ y)
      cases x y = grind arith

  -- what is redundant is told by its place
  redundancy_leads : (t : Tree) (w : IsTree t) (root : ℕ) (ops ends : List ℕ) (place : ℕ) → AreOrderedOperations t root ops ends place → HasRedundancy side_effects t root → (i j : ℕ) × (j < length ops) × IsLive t (get_or ops j 0) × LeadsAt side_effects t ops ends i j
  redundancy_leads t w root ops ends place o (a, b, p) =
      let ia = in_at ops a (o.each a p.first) in
      let ib = in_at ops b (o.each b p.second) in
      let la = (w.joined.all_in_place a p.first.block p.first.in_block).0 in
      let lb = (w.joined.all_in_place b p.second.block p.second.in_block).0 in
      let la' : IsLive t (get_or ops ia.0 0) = subst (IsLive t) (sym ia.2) la in
      let lb' : IsLive t (get_or ops ib.0 0) = subst (IsLive t) (sym ib.2) lb in
      let s : DominatesOperation t (get_or ops ia.0 0) (get_or ops ib.0 0) = subst (λ z. DominatesOperation t z (get_or ops ib.0 0)) (sym ia.2) (subst (DominatesOperation t a) (sym ib.2) p.leads.before) in
      let q = (o.all_in_place ia.0 ib.0 ia.1 ib.1 la' lb').1 s in (
        ia.0,
        ib.0,
        ib.1,
        lb',
        record {
          first = q.0;
          within = q.1;
          live = la';
          alike = subst (λ z. MayMerge side_effects t z (get_or ops ib.0 0)) (sym ia.2) (subst (MayMerge side_effects t a) (sym ib.2) (record {
            alike = p.leads.alike;
            near = λ e.
                let around = p.leads.near e in
                let home : region_around t a ≡ Some p.leads.before.region = ap (λ o. up_from o (λ c. block_parent_of t c)) p.leads.before.in_home ∙ p.leads.before.home_region in
                let own : region_around t b ≡ Some p.leads.before.region = ap (λ z. region_around t z) (sym around) ∙ ap (λ o. up_from o (λ c. block_parent_of t c)) p.leads.before.in_block ∙ p.leads.before.in_region in
                home ∙ sym own;
          }));
        },
      )

  pub exact_end : (t0 t : Tree) (w : IsTree t) (root : ℕ) (ops ends : List ℕ) (place : ℕ) (find : List ℕ → Option ℕ) (status : IRStatus) → length ops ≤ place → AreOrderedOperations t root ops ends place → (status ≡ Unchanged → t ≡ t0) → IsExact side_effects t0 t root ops ends place find status → LeavesNoRedundancy side_effects t0 t root × ReportsEquivalent side_effects t0 root status
  exact_end t0 t w root ops ends place find status all o unchanged x = (λ h redundancy. over (inl h) redundancy, (λ e. x.had e, λ redundancy. reported status refl redundancy))
    where
      over : UsesAreBehind t0 root ⊎ (t ≡ t0) → HasRedundancy side_effects t root → ⊥
      over h redundancy = let q = redundancy_leads t w root ops ends place o redundancy in x.none h q.0 q.1 (omega (arith, q.2, all)) q.2 q.3 q.4

      reported : (s : IRStatus) → status ≡ s → HasRedundancy side_effects t0 root → status ≡ Changed
      reported Changed e redundancy = e
      reported Unchanged e redundancy = absurd (over (inr (unchanged e)) (subst (λ z. HasRedundancy side_effects z root) (sym (unchanged e)) redundancy))
