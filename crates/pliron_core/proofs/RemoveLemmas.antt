-- The lists after a node was taken out.
use Rattle.std.proofs.Common.{◌≡◌, ◌≢◌, ℕ, ◌<◌, List, [], ◌∷◌, ◌++◌, length, get_or, set, Some, None, refl, sym, ap, ◌∙◌, subst, inl, inr, arith, append_assoc}
use Rattle.std.proofs.lemmas.Bool.{cases_eq}
use Rattle.std.proofs.lemmas.List.{get_or-set_same, get_or-set_other, length-set, map-set, append-nil}
use Rattle.pliron_core.specs.declared.links.Node.{Node}
use Rattle.pliron_core.specs.declared.links.Ends.{Ends}
use Rattle.pliron_core.specs.Lists.{first_of, last_of}
use Rattle.pliron_core.specs.Nodes.{no_node, no_ends, node_at, ends_at, with_next, with_prev, with_first, with_tail, In, IsDistinct, IsRow, IsList, AreSoundLists, owners_of}
use Rattle.pliron_core.proofs.ListLemmas.{AreApart, In-left, In-right, In-cases, distinct-front, distinct-back, distinct-apart, distinct-join}
use Rattle.pliron_core.proofs.RowLemmas.{relink, row-front, row-back, row-append, row-frame, owner-row}
use Rattle.pliron_core.proofs.SoundLemmas.{owners-at, owners-with_next, owners-with_prev, row-same}
use Rattle.pliron_core.proofs.StepLemmas.{same-next, same-prev, length-with_next, length-with_prev, head-linked, tail-linked, tail-keeps, head-keeps, last_of-tail}

module _ (nodes : List Node) (ends : List Ends) (lists : List (List ℕ)) (l x : ℕ) (front back : List ℕ) where
  abbrev pub nodes1 : List Node
  nodes1 = with_prev (with_next nodes (last_of None front) (first_of back None)) (first_of back None) (last_of None front)

  abbrev pub nodes2 : List Node
  nodes2 = set nodes1 x no_node

  abbrev pub ends2 : Ends
  ends2 = with_tail (with_first (ends_at ends l) (last_of None front) (first_of back None)) (first_of back None) (last_of None front)

  module _ (is : AreSoundLists nodes ends lists) (within : l < length ends) (here : get_or lists l [] ≡ front ++ x ∷ back) where
    old : IsList nodes l (ends_at ends l) (front ++ x ∷ back)
    old = subst (IsList nodes l (ends_at ends l)) here (is.each l within)

    apart : AreApart front (x ∷ back)
    apart = distinct-apart front (x ∷ back) old.distinct

    tail_distinct : IsDistinct (x ∷ back)
    tail_distinct = distinct-back front (x ∷ back) old.distinct

    not_front : In x front → ⊥
    not_front i = apart x i (inl refl)

    tail_row : IsRow nodes l (last_of None front) (x ∷ back) None
    tail_row = row-back nodes l None front (x ∷ back) None old.row

    pub node-here : node_at nodes x ≡ record { owner = Some l; prev = last_of None front; next = first_of back None }
    node-here = tail_row.1

    pub within-here : x < length nodes
    within-here = tail_row.0

    rows1 : IsRow nodes1 l None front (first_of back None) × IsRow nodes1 l (last_of None front) back None
    rows1 = relink nodes l front back (Some x) (Some x) (first_of back None) (last_of None front) (distinct-front front (x ∷ back) old.distinct) tail_distinct.1 (λ z i j. apart z i (inr j)) (row-front nodes l None front (x ∷ back) None old.row) tail_row.2

    long1 : length nodes1 ≡ length nodes
    long1 = length-with_prev _ (first_of back None) (last_of None front) ∙ length-with_next nodes (last_of None front) (first_of back None)

    same : (y : ℕ) → y ≢ x → (In y (front ++ x ∷ back) → ⊥) → node_at nodes2 y ≡ node_at nodes y
    same y ne outside = get_or-set_other nodes1 x y no_node no_node ne ∙ same-prev _ back (last_of None front) y (λ i. outside (In-right y front (x ∷ back) (inr i))) ∙ same-next nodes front (first_of back None) y (λ i. outside (In-left y front (x ∷ back) i))

    long : length nodes2 ≡ length nodes
    long = length-set nodes1 x no_node ∙ long1

    changed : IsList nodes2 l ends2 (front ++ back)
    changed = record {
      head = head-keeps _ (first_of back None) (last_of None front) ∙ head-linked front [] back (ends_at ends l) (first_of back None) refl (λ y ys e. old.head ∙ ap (λ f. first_of (f ++ x ∷ back) None) e) ∙ ap (λ r. first_of (r ++ back) None) (append-nil front);
      tail = tail-linked front back _ (last_of None front) refl (elim (last_of-tail (front ++ x ∷ []) back) [ inl t ↦ inl (tail-keeps (ends_at ends l) (last_of None front) (first_of back None) ∙ old.tail ∙ sym (ap (last_of None) (append_assoc front (x ∷ []) back)) ∙ t) | inr none ↦ inr none ]);
      row = row-append nodes2 l None front back None (row-frame nodes1 l x no_node None front (first_of back None) not_front rows1.0) (row-frame nodes1 l x no_node (last_of None front) back None tail_distinct.0 rows1.1);
      distinct = distinct-join front back (distinct-front front (x ∷ back) old.distinct) tail_distinct.1 (λ z i j. apart z i (inr j));
    }

    others : (k : ℕ) → k ≢ l → IsList nodes k (ends_at ends k) (get_or lists k []) → IsList nodes2 k (ends_at ends k) (get_or lists k [])
    others k ne was = record {
      head = was.head;
      tail = was.tail;
      row = row-same nodes nodes2 k None (get_or lists k []) None (omega (arith, long)) (λ y i.
          let own : (node_at nodes y).owner ≡ Some k = owner-row nodes k None (get_or lists k []) None y was.row i in
          let out : In y (front ++ x ∷ back) → ⊥ = λ j. let other : (node_at nodes y).owner ≡ Some l = owner-row nodes l None (front ++ x ∷ back) None y old.row j in ne (cc) in
          same y (λ e. out (In-right y front (x ∷ back) (inl e))) out) was.row;
      distinct = was.distinct;
    }

    pub owners-removed : owners_of nodes2 ≡ set (owners_of nodes) x None
    owners-removed = map-set (λ n. n.owner) nodes1 x no_node ∙ ap (λ os. set os x None) (owners-with_prev _ (first_of back None) (last_of None front) ∙ owners-with_next nodes (last_of None front) (first_of back None))

    kept : (y : ℕ) → y ≢ x → In y (front ++ x ∷ back) → In y (front ++ back)
    kept y ne i = elim (In-cases y front (x ∷ back) i) [ inl a ↦ In-left y front back a | inr b ↦ elim b [ inl e ↦ absurd (ne e) | inr c ↦ In-right y front back c ] ]

    owned : (y k : ℕ) → (node_at nodes2 y).owner ≡ Some k → (k < length (set ends l ends2)) × In y (get_or (set lists l (front ++ back)) k [])
    owned y k own =
        elim (cases_eq y x) [
          | inl e ↦
              let none : (node_at nodes2 y).owner ≡ None = ap (λ z. (node_at nodes2 z).owner) e ∙ ap (λ n. n.owner) (get_or-set_same nodes1 x no_node no_node (omega (arith, within-here, long1))) in
              absurd (cc)
          | inr ne ↦
              let was : (node_at nodes y).owner ≡ Some k =
              sym (owners-at nodes y) ∙ sym (get_or-set_other (owners_of nodes) x y None None ne) ∙ sym (ap (λ o. get_or o y None) owners-removed) ∙ owners-at nodes2 y ∙ own in
              let there = is.owned y k was in (
                omega (arith, there.0, length-set ends l ends2),
                elim (cases_eq k l) [
                  | inl kl ↦ subst (λ k. In y (get_or (set lists l (front ++ back)) k [])) (sym kl) (rw (get_or-set_same lists l (front ++ back) [] (omega (arith, within, is.count))) (kept y ne (subst (In y) here (subst (λ k. In y (get_or lists k [])) kl there.1))))
                  | inr nkl ↦ rw (get_or-set_other lists l k (front ++ back) [] nkl) there.1
                ],
              )
        ]

    -- the node that stood between `front` and `back` is out of the list
    pub IsSound-remove : AreSoundLists nodes2 (set ends l ends2) (set lists l (front ++ back))
    IsSound-remove =
        record {
          count = length-set ends l _ ∙ is.count ∙ sym (length-set lists l _);
          each = λ k h. elim (cases_eq k l) [
            | inl e ↦ subst (λ k. IsList nodes2 k (ends_at (set ends l ends2) k) (get_or (set lists l (front ++ back)) k [])) (sym e) (rw (get_or-set_same ends l ends2 no_ends within, get_or-set_same lists l (front ++ back) [] (omega (arith, is.count, within))) changed)
            | inr ne ↦ rw (get_or-set_other ends l k ends2 no_ends ne, get_or-set_other lists l k (front ++ back) [] ne) (others k ne (is.each k (omega (arith, h, length-set ends l ends2))))
          ];
          owned = owned;
          few = omega (arith, is.few, length-set ends l ends2);
          few_nodes = omega (arith, is.few_nodes, long);
        }
