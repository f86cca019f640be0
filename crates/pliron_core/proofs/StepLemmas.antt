-- The lists after a node was linked or unlinked.
use Rattle.std.proofs.Common.{◌≡◌, ◌≢◌, ◌⊎◌, ℕ, ◌<◌, List, [], ◌∷◌, ◌++◌, length, get_or, set, Option, Some, None, refl, sym, ap, ◌∙◌, subst, inl, inr, arith, append_assoc}
use Rattle.std.proofs.lemmas.Bool.{cases_eq}
use Rattle.std.proofs.lemmas.List.{get_or-set_same, get_or-set_other, length-set, map-set}
use Rattle.pliron_core.specs.declared.links.Node.{Node}
use Rattle.pliron_core.specs.declared.links.Ends.{Ends}
use Rattle.pliron_core.specs.Lists.{first_of, last_of}
use Rattle.pliron_core.specs.Nodes.{no_node, no_ends, node_at, ends_at, with_next, with_prev, with_first, with_tail, In, IsRow, IsList, AreSoundLists, owners_of}
use Rattle.pliron_core.proofs.ListLemmas.{AreApart, In-left, In-right, In-cases, distinct-front, distinct-back, distinct-apart, distinct-join}
use Rattle.pliron_core.proofs.RowLemmas.{final, In-final, last_of-final, relink, row-front, row-back, row-append, row-frame, owner-row, last_of-append}
use Rattle.pliron_core.proofs.SoundLemmas.{owners-at, owners-with_next, owners-with_prev, row-same}

-- a node that is not the last before the gap is as before
pub same-next : (nodes : List Node) (front : List ℕ) (v : Option ℕ) (y : ℕ) → (In y front → ⊥) → node_at (with_next nodes (last_of None front) v) y ≡ node_at nodes y
same-next nodes [] v y out = refl
same-next nodes (x ∷ xs) v y out =
    let ne : y ≢ final x xs = λ e. out (subst (λ z. In z (x ∷ xs)) (sym e) (In-final x xs)) in
    subst (λ p. node_at (with_next nodes p v) y ≡ node_at nodes y) (sym (last_of-final None x xs)) (get_or-set_other nodes (final x xs) y _ no_node ne)

-- a node that is not the first after the gap is as before
pub same-prev : (nodes : List Node) (back : List ℕ) (v : Option ℕ) (y : ℕ) → (In y back → ⊥) → node_at (with_prev nodes (first_of back None) v) y ≡ node_at nodes y
same-prev nodes [] v y out = refl
same-prev nodes (x ∷ xs) v y out =
    let ne : y ≢ x = λ e. out (inl e) in get_or-set_other nodes x y _ no_node ne

-- no node comes or goes
pub length-with_next : (nodes : List Node) (p v : Option ℕ) → length (with_next nodes p v) ≡ length nodes
length-with_next nodes None v = refl
length-with_next nodes (Some x) v = length-set nodes x _

pub length-with_prev : (nodes : List Node) (p v : Option ℕ) → length (with_prev nodes p v) ≡ length nodes
length-with_prev nodes None v = refl
length-with_prev nodes (Some x) v = length-set nodes x _

-- the head and the tail after a change between `front` and `back`
pub head-linked : (front middle back : List ℕ) (e : Ends) (v : Option ℕ) → v ≡ first_of (middle ++ back) None → ((y : ℕ) (ys : List ℕ) → front ≡ y ∷ ys → e.head ≡ Some y) → (with_first e (last_of None front) v).head ≡ first_of (front ++ middle ++ back) None
head-linked [] middle back e v is here = is
head-linked (y ∷ ys) middle back e v is here =
    subst (λ p. (with_first e p v).head ≡ Some y) (sym (last_of-final None y ys)) (here y ys refl)

pub tail-linked : (rest back : List ℕ) (e : Ends) (v : Option ℕ) → v ≡ last_of None rest → (e.tail ≡ last_of None back ⊎ back ≡ []) → (with_tail e (first_of back None) v).tail ≡ last_of None (rest ++ back)
tail-linked rest [] e v is here = is ∙ sym (last_of-append None rest [])
tail-linked rest (b ∷ bs) e v is here =
    elim here [
      | inl t ↦ t ∙ last_of-final None b bs ∙ sym (last_of-final (last_of None rest) b bs) ∙ sym (last_of-append None rest (b ∷ bs))
      | inr none ↦ absurd (cc)
    ]

-- each end is written alone
pub tail-keeps : (e : Ends) (p v : Option ℕ) → (with_first e p v).tail ≡ e.tail
tail-keeps e None v = refl
tail-keeps e (Some x) v = refl

pub head-keeps : (e : Ends) (p v : Option ℕ) → (with_tail e p v).head ≡ e.head
head-keeps e None v = refl
head-keeps e (Some x) v = refl

-- the last of two parts is that of the second, if it has any
pub last_of-tail : (front back : List ℕ) → (last_of None (front ++ back) ≡ last_of None back) ⊎ (back ≡ [])
last_of-tail front [] = inr refl
last_of-tail front (b ∷ bs) = inl (last_of-append None front (b ∷ bs) ∙ last_of-final (last_of None front) b bs ∙ sym (last_of-final None b bs))

module _ (nodes : List Node) (ends : List Ends) (lists : List (List ℕ)) (l x : ℕ) (front back : List ℕ) where
  abbrev pub linked_node : Node
  linked_node = record { owner = Some l; prev = last_of None front; next = first_of back None }

  abbrev pub nodes1 : List Node
  nodes1 = set nodes x linked_node

  abbrev pub nodes3 : List Node
  nodes3 = with_prev (with_next nodes1 (last_of None front) (Some x)) (first_of back None) (Some x)

  abbrev pub ends3 : Ends
  ends3 = with_tail (with_first (ends_at ends l) (last_of None front) (Some x)) (first_of back None) (Some x)

  module _ (is : AreSoundLists nodes ends lists) (within : l < length ends) (inside : x < length nodes) (free : (node_at nodes x).owner ≡ None) (here : get_or lists l [] ≡ front ++ back) where
    old : IsList nodes l (ends_at ends l) (front ++ back)
    old = subst (IsList nodes l (ends_at ends l)) here (is.each l within)

    out : (y : ℕ) → In y (front ++ back) → y ≢ x
    out y i e = let own : (node_at nodes y).owner ≡ Some l = owner-row nodes l None (front ++ back) None y old.row i in let none : (node_at nodes y).owner ≡ None = ap (λ z. (node_at nodes z).owner) e ∙ free in cc

    apart : AreApart front back
    apart = distinct-apart front back old.distinct

    rows : IsRow nodes3 l None front (Some x) × IsRow nodes3 l (Some x) back None
    rows = relink nodes1 l front back (first_of back None) (last_of None front) (Some x) (Some x) (distinct-front front back old.distinct) (distinct-back front back old.distinct) apart (row-frame nodes l x linked_node None front (first_of back None) (λ i. out x (In-left x front back i) refl) (row-front nodes l None front back None old.row)) (row-frame nodes l x linked_node (last_of None front) back None (λ i. out x (In-right x front back i) refl) (row-back nodes l None front back None old.row))

    long : length nodes3 ≡ length nodes
    long = length-with_prev _ (first_of back None) (Some x) ∙ length-with_next nodes1 (last_of None front) (Some x) ∙ length-set nodes x linked_node

    same : (y : ℕ) → y ≢ x → (In y (front ++ back) → ⊥) → node_at nodes3 y ≡ node_at nodes y
    same y ne outside = same-prev _ back (Some x) y (λ i. outside (In-right y front back i)) ∙ same-next nodes1 front (Some x) y (λ i. outside (In-left y front back i)) ∙ get_or-set_other nodes x y linked_node no_node ne

    here3 : node_at nodes3 x ≡ linked_node
    here3 = same-prev _ back (Some x) x (λ i. out x (In-right x front back i) refl) ∙ same-next nodes1 front (Some x) x (λ i. out x (In-left x front back i) refl) ∙ get_or-set_same nodes x linked_node no_node inside

    changed : IsList nodes3 l ends3 (front ++ x ∷ back)
    changed = record {
      head = head-keeps _ (first_of back None) (Some x) ∙ head-linked front (x ∷ []) back (ends_at ends l) (Some x) refl (λ y ys e. old.head ∙ ap (λ f. first_of (f ++ back) None) e) ∙ ap (λ r. first_of r None) (append_assoc front (x ∷ []) back);
      tail = tail-linked (front ++ x ∷ []) back _ (Some x) (sym (last_of-append None front (x ∷ []))) (elim (last_of-tail front back) [ inl t ↦ inl (tail-keeps (ends_at ends l) (last_of None front) (Some x) ∙ old.tail ∙ t) | inr none ↦ inr none ]) ∙ ap (last_of None) (append_assoc front (x ∷ []) back);
      row = row-append nodes3 l None front (x ∷ back) None rows.0 (omega (arith, long), here3 ∙ refl, rows.1);
      distinct = distinct-join front (x ∷ back) (distinct-front front back old.distinct) (λ i. out x (In-right x front back i) refl, distinct-back front back old.distinct) (λ z i j. elim j [ inl e ↦ out z (In-left z front back i) e | inr k ↦ apart z i k ]);
    }

    others : (k : ℕ) → k ≢ l → IsList nodes k (ends_at ends k) (get_or lists k []) → IsList nodes3 k (ends_at ends k) (get_or lists k [])
    others k ne was = record {
      head = was.head;
      tail = was.tail;
      row = row-same nodes nodes3 k None (get_or lists k []) None (omega (arith, long)) (λ y i.
          let own : (node_at nodes y).owner ≡ Some k = owner-row nodes k None (get_or lists k []) None y was.row i in
          same y (λ e. let none : (node_at nodes y).owner ≡ None = ap (λ z. (node_at nodes z).owner) e ∙ free in cc) (λ j. let other : (node_at nodes y).owner ≡ Some l = owner-row nodes l None (front ++ back) None y old.row j in ne (cc))) was.row;
      distinct = was.distinct;
    }

    pub owners3 : owners_of nodes3 ≡ set (owners_of nodes) x (Some l)
    owners3 = owners-with_prev _ (first_of back None) (Some x) ∙ owners-with_next nodes1 (last_of None front) (Some x) ∙ map-set (λ n. n.owner) nodes x linked_node

    added : (y : ℕ) → In y (front ++ back) → In y (front ++ x ∷ back)
    added y i = elim (In-cases y front back i) [ inl a ↦ In-left y front (x ∷ back) a | inr b ↦ In-right y front (x ∷ back) (inr b) ]

    owned : (y k : ℕ) → (node_at nodes3 y).owner ≡ Some k → (k < length (set ends l ends3)) × In y (get_or (set lists l (front ++ x ∷ back)) k [])
    owned y k own =
        elim (cases_eq y x) [
          | inl e ↦
              let mine : Some k ≡ Some l = sym own ∙ ap (λ z. (node_at nodes3 z).owner) e ∙ ap (λ n. n.owner) here3 in
              let kl : k ≡ l = cc in (
                omega (arith, kl, within, length-set ends l ends3),
                subst (λ k. In y (get_or (set lists l (front ++ x ∷ back)) k [])) (sym kl) (rw (get_or-set_same lists l (front ++ x ∷ back) [] (omega (arith, is.count))) (In-right y front (x ∷ back) (inl e))),
              )
          | inr ne ↦
              let was : (node_at nodes y).owner ≡ Some k =
              sym (owners-at nodes y) ∙ sym (get_or-set_other (owners_of nodes) x y (Some l) None ne) ∙ sym (ap (λ o. get_or o y None) owners3) ∙ owners-at nodes3 y ∙ own in
              let there = is.owned y k was in (
                omega (arith, there.0, length-set ends l ends3),
                elim (cases_eq k l) [
                  | inl kl ↦ subst (λ k. In y (get_or (set lists l (front ++ x ∷ back)) k [])) (sym kl) (rw (get_or-set_same lists l (front ++ x ∷ back) [] (omega (arith, is.count))) (added y (subst (In y) here (subst (λ k. In y (get_or lists k [])) kl there.1))))
                  | inr nkl ↦ rw (get_or-set_other lists l k (front ++ x ∷ back) [] nkl) there.1
                ],
              )
        ]

    -- a node that no list has goes between `front` and `back`
    pub IsSound-insert : AreSoundLists nodes3 (set ends l ends3) (set lists l (front ++ x ∷ back))
    IsSound-insert =
        record {
          count = length-set ends l _ ∙ is.count ∙ sym (length-set lists l _);
          each = λ k h. elim (cases_eq k l) [
            | inl e ↦ subst (λ k. IsList nodes3 k (ends_at (set ends l ends3) k) (get_or (set lists l (front ++ x ∷ back)) k [])) (sym e) (rw (get_or-set_same ends l ends3 no_ends within, get_or-set_same lists l (front ++ x ∷ back) [] (omega (arith, is.count))) changed)
            | inr ne ↦ rw (get_or-set_other ends l k ends3 no_ends ne, get_or-set_other lists l k (front ++ x ∷ back) [] ne) (others k ne (is.each k (omega (arith, length-set ends l ends3))))
          ];
          owned = owned;
          few = omega (arith, is.few, length-set ends l ends3);
          few_nodes = omega (arith, is.few_nodes, long);
        }
