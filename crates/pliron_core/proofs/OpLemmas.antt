-- Each operation on the tables, and the lists that they stand for.
use Rattle.std.proofs.Common.{◌≡◌, ◌⊎◌, ℕ, zero, suc, ◌+◌, ◌<◌, ◌≤◌, List, [], ◌∷◌, ◌++◌, length, get_or, set, Option, Some, None, refl, sym, ap, ◌∙◌, subst, inl, inr, arith, length-append}
use Rattle.std.specs.Prelude.{IfSome}
use Rattle.std.proofs.lemmas.List.{append-nil, get_or_default, length-map, get_or_past, map-append}
use Rattle.pliron_core.specs.declared.links.Node.{Node}
use Rattle.pliron_core.specs.declared.links.Ends.{Ends}
use Rattle.pliron_core.specs.Lists.{Lists, first_of, last_of, without, put_before, next_in, next_in_lists, prev_in, prev_in_lists}
use Rattle.pliron_core.specs.Keys.{key_limit}
use Rattle.pliron_core.specs.Nodes.{no_node, no_ends, node_at, ends_at, with_next, with_prev, with_first, with_tail, In, IsDistinct, IsRow, IsList, AreSoundLists, owners_of, lists_of, InRange}
use Rattle.pliron_core.proofs.ListLemmas.{split_at, without-split, put_before-split, next_in-split, prev_in-split, distinct-apart}
use Rattle.pliron_core.proofs.NeighbourLemmas.{first_of-In, last_of-In, next_in-In, prev_in-In}
use Rattle.pliron_core.proofs.RowLemmas.{In-final, final, last_of-final, within-row, row-front, row-back}
use Rattle.pliron_core.proofs.SoundLemmas.{lists-sound, IsSound-view, owners-at, row-same}
use Rattle.pliron_core.proofs.OwnLemmas.{owned-sound}
use Rattle.pliron_core.proofs.StepLemmas as step
use Rattle.pliron_core.proofs.RemoveLemmas as taken

-- the tables stand for these lists and owners
pub record StandsFor (nodes : List Node) (ends : List Ends) (lists : List (List ℕ)) (owners : List (Option ℕ)) : Type 0 where
  pub sound : AreSoundLists nodes ends (lists_of nodes ends)
  pub lists_is : lists_of nodes ends ≡ lists
  pub owners_is : owners_of nodes ≡ owners

liveness : (nodes : List Node) (ends : List Ends) (lists : List (List ℕ)) (owners : List (Option ℕ)) → AreSoundLists nodes ends lists → owners_of nodes ≡ owners → StandsFor nodes ends lists owners
liveness nodes ends lists owners is own =
    record { sound = IsSound-view nodes ends lists is; lists_is = sym (lists-sound nodes ends lists is); owners_is = own }

-- the parts of a view
pub view_of : {a b : List (List ℕ)} {c d : List (Option ℕ)} {m n r s : ℕ} → a ≡ b → c ≡ d → m ≡ n → r ≡ s → record { lists = a; owners = c; node_room = m; list_room = r } ≡ (let v : Lists = record { lists = b; owners = d; node_room = n; list_room = s } in v)
view_of e f g h = cc

pub InRange-last : (nodes : List Node) (l : ℕ) (xs : List ℕ) (a : Option ℕ) → IsRow nodes l None xs a → InRange nodes (last_of None xs)
InRange-last nodes l [] a row = tt
InRange-last nodes l (x ∷ xs) a row = subst (InRange nodes) (sym (last_of-final None x xs)) (within-row nodes l None (x ∷ xs) a (final x xs) row (In-final x xs))

pub InRange-first : (nodes : List Node) (l : ℕ) (b : Option ℕ) (xs : List ℕ) (a : Option ℕ) → IsRow nodes l b xs a → InRange nodes (first_of xs None)
InRange-first nodes l b [] a row = tt
InRange-first nodes l b (x ∷ xs) a row = row.0

pub InRange-longer : (nodes new : List Node) (p : Option ℕ) → length nodes ≡ length new → InRange nodes p → InRange new p
InRange-longer nodes new None e r = tt
InRange-longer nodes new (Some x) e r = omega (arith, r)

module _ (nodes : List Node) (ends : List Ends) (is : AreSoundLists nodes ends (lists_of nodes ends)) where
  listed_within : (l : ℕ) → l < length (lists_of nodes ends) → l < length ends
  listed_within l h = omega (arith, h, is.count)

  owned_within : (x : ℕ) → x < length (owners_of nodes) → x < length nodes
  owned_within x h = omega (arith, h, length-map nodes (λ n. n.owner))

  pub ends_read : (l : ℕ) (e : Ends) → l < length ends → e ≡ get_or ends l e → e ≡ ends_at ends l
  ends_read l e within r = r ∙ get_or_default ends l e no_ends within

  -- the last node of a list is in range
  pub InRange-tail : (l : ℕ) (e : Ends) → l < length (lists_of nodes ends) → e ≡ get_or ends l e → InRange nodes e.tail
  InRange-tail l e listed r =
      let within : l < length ends = listed_within l listed in
      let list = is.each l within in
      subst (λ t. InRange nodes t) (sym (ap (λ z. z.tail) (ends_read l e within r) ∙ list.tail)) (InRange-last nodes l (get_or (lists_of nodes ends) l []) None list.row)

  -- the tables after a node went to the end
  pub pushed : (l x : ℕ) (e e2 e3 : Ends) (n2 n3 : List Node) → l < length (lists_of nodes ends) → x < length (owners_of nodes) → get_or (owners_of nodes) x None ≡ None → e ≡ get_or ends l e
      → n2 ≡ with_next (set nodes x (record { owner = Some l; prev = e.tail; next = None })) e.tail (Some x) → n3 ≡ n2
      → e2 ≡ with_first e e.tail (Some x) → e3 ≡ with_tail e2 None (Some x)
      → StandsFor n3 (set ends l e3) (set (lists_of nodes ends) l (get_or (lists_of nodes ends) l [] ++ x ∷ [])) (set (owners_of nodes) x (Some l))
  pushed l x e e2 e3 n2 n3 listed known free read linked same headed ended =
      let within : l < length ends = listed_within l listed in
      let inside : x < length nodes = owned_within x known in
      let front = get_or (lists_of nodes ends) l [] in
      let here : get_or (lists_of nodes ends) l [] ≡ front ++ [] = sym (append-nil front) in
      let unowned : (node_at nodes x).owner ≡ None = sym (owners-at nodes x) ∙ free in
      let sound = step.IsSound-insert nodes ends (lists_of nodes ends) l x front [] is within inside unowned here in
      let owned = step.owners3 nodes ends (lists_of nodes ends) l x front [] is within inside unowned here in
      let tail : e.tail ≡ last_of None front = ap (λ z. z.tail) (ends_read l e within read) ∙ (is.each l within).tail in
      let n_is : n3 ≡ step.nodes3 nodes ends (lists_of nodes ends) l x front [] = same ∙ linked ∙ ap (λ t. with_next (set nodes x (record { owner = Some l; prev = t; next = None })) t (Some x)) tail in
      let e_is : e3 ≡ step.ends3 nodes ends (lists_of nodes ends) l x front [] = ended ∙ ap (λ z. with_tail z None (Some x)) headed ∙ ap (λ t. with_tail (with_first e t (Some x)) None (Some x)) tail ∙ ap (λ z. with_tail (with_first z (last_of None front) (Some x)) None (Some x)) (ends_read l e within read) in
      rw (n_is, e_is) (liveness _ _ _ _ sound owned)

  -- the tables after a node went to the front
  pub pushed_front : (l x : ℕ) (e e2 e3 : Ends) (n2 n3 : List Node) → l < length (lists_of nodes ends) → x < length (owners_of nodes) → get_or (owners_of nodes) x None ≡ None → e ≡ get_or ends l e
      → n2 ≡ set nodes x (record { owner = Some l; prev = None; next = e.head }) → n3 ≡ with_prev n2 e.head (Some x)
      → e2 ≡ with_first e None (Some x) → e3 ≡ with_tail e2 e.head (Some x)
      → StandsFor n3 (set ends l e3) (set (lists_of nodes ends) l (x ∷ get_or (lists_of nodes ends) l [])) (set (owners_of nodes) x (Some l))
  pushed_front l x e e2 e3 n2 n3 listed known free read linked behind headed ended =
      let within : l < length ends = listed_within l listed in
      let inside : x < length nodes = owned_within x known in
      let back = get_or (lists_of nodes ends) l [] in
      let unowned : (node_at nodes x).owner ≡ None = sym (owners-at nodes x) ∙ free in
      let sound = step.IsSound-insert nodes ends (lists_of nodes ends) l x [] back is within inside unowned refl in
      let owned = step.owners3 nodes ends (lists_of nodes ends) l x [] back is within inside unowned refl in
      let head : e.head ≡ first_of back None = ap (λ z. z.head) (ends_read l e within read) ∙ (is.each l within).head in
      let n_is : n3 ≡ step.nodes3 nodes ends (lists_of nodes ends) l x [] back = behind ∙ ap (λ ns. with_prev ns e.head (Some x)) linked ∙ ap (λ t. with_prev (set nodes x (record { owner = Some l; prev = None; next = t })) t (Some x)) head in
      let e_is : e3 ≡ step.ends3 nodes ends (lists_of nodes ends) l x [] back = ended ∙ ap (λ z. with_tail z e.head (Some x)) headed ∙ ap (λ t. with_tail (with_first e None (Some x)) t (Some x)) head ∙ ap (λ z. with_tail (with_first z None (Some x)) (first_of back None) (Some x)) (ends_read l e within read) in
      rw (n_is, e_is) (liveness _ _ _ _ sound owned)

  -- where the node at hand stands
  pub held : (x l : ℕ) → get_or (owners_of nodes) x None ≡ Some l → (l < length ends) × (front : List ℕ) × (back : List ℕ) × (get_or (lists_of nodes ends) l [] ≡ front ++ x ∷ back)
  held x l own = let o = is.owned x l (sym (owners-at nodes x) ∙ own) in let s = split_at x _ o.1 in (o.0, s.0, s.1, s.2)

  -- what a read node is, where it stands between `front` and `back`
  node_read : (l x : ℕ) (n : Node) (front back : List ℕ) → l < length ends → get_or (lists_of nodes ends) l [] ≡ front ++ x ∷ back → n ≡ get_or nodes x n → n ≡ record { owner = Some l; prev = last_of None front; next = first_of back None }
  node_read l x n front back within here nread =
      nread ∙ get_or_default nodes x n no_node (taken.within-here nodes ends (lists_of nodes ends) l x front back is within here) ∙ taken.node-here nodes ends (lists_of nodes ends) l x front back is within here

  -- nothing stands twice
  not_before : (l x : ℕ) (front back : List ℕ) → l < length ends → get_or (lists_of nodes ends) l [] ≡ front ++ x ∷ back → In x front → ⊥
  not_before l x front back within here i =
      distinct-apart front (x ∷ back) (subst IsDistinct here (is.each l within).distinct) x i (inl refl)

  -- the tables after a node was taken out
  pub removed : (l x : ℕ) (n : Node) (e e1 e2 : Ends) (n1 n2 : List Node) → get_or (owners_of nodes) x None ≡ Some l → n ≡ get_or nodes x n → e ≡ get_or ends l e
      → n1 ≡ with_next nodes n.prev n.next → e1 ≡ with_first e n.prev n.next
      → n2 ≡ with_prev n1 n.next n.prev → e2 ≡ with_tail e1 n.next n.prev
      → StandsFor (set n2 x no_node) (set ends l e2) (set (lists_of nodes ends) l (without x (get_or (lists_of nodes ends) l []))) (set (owners_of nodes) x None)
  removed l x n e e1 e2 n1 n2 own nread read nodes_next head_next nodes_prev tail_prev =
      let h = held x l own in
      let front = h.1 in
      let back = h.2 in
      let here : get_or (lists_of nodes ends) l [] ≡ front ++ x ∷ back = h.3 in
      let sound = taken.IsSound-remove nodes ends (lists_of nodes ends) l x front back is h.0 here in
      let owned = taken.owners-removed nodes ends (lists_of nodes ends) l x front back is h.0 here in
      let n_is = node_read l x n front back h.0 here nread in
      let p : n.prev ≡ last_of None front = ap (λ z. z.prev) n_is in
      let q : n.next ≡ first_of back None = ap (λ z. z.next) n_is in
      let deleted : without x (get_or (lists_of nodes ends) l []) ≡ front ++ back = ap (without x) here ∙ without-split x front back (not_before l x front back h.0 here) in
      let e_is = ends_read l e h.0 read in
      rw (deleted, nodes_prev, nodes_next, tail_prev, head_next, p, q, e_is) (liveness _ _ _ _ sound owned)

  -- the tables after a node went before another
  pub inserted : (l at x : ℕ) (n : Node) (e e2 e3 : Ends) (n2 n3 : List Node) → get_or (owners_of nodes) at None ≡ Some l → x < length (owners_of nodes) → get_or (owners_of nodes) x None ≡ None → n ≡ get_or nodes at n → e ≡ get_or ends l e
      → n2 ≡ with_next (set nodes x (record { owner = Some l; prev = n.prev; next = Some at })) n.prev (Some x) → n3 ≡ with_prev n2 (Some at) (Some x)
      → e2 ≡ with_first e n.prev (Some x) → e3 ≡ e2
      → StandsFor n3 (set ends l e3) (set (lists_of nodes ends) l (put_before at x (get_or (lists_of nodes ends) l []))) (set (owners_of nodes) x (Some l))
  inserted l at x n e e2 e3 n2 n3 own known free nread read linked behind headed ended =
      let h = held at l own in
      let front = h.1 in
      let back = h.2 in
      let here : get_or (lists_of nodes ends) l [] ≡ front ++ at ∷ back = h.3 in
      let inside : x < length nodes = owned_within x known in
      let unowned : (node_at nodes x).owner ≡ None = sym (owners-at nodes x) ∙ free in
      let sound = step.IsSound-insert nodes ends (lists_of nodes ends) l x front (at ∷ back) is h.0 inside unowned here in
      let owned = step.owners3 nodes ends (lists_of nodes ends) l x front (at ∷ back) is h.0 inside unowned here in
      let p : n.prev ≡ last_of None front = ap (λ z. z.prev) (node_read l at n front back h.0 here nread) in
      let put : put_before at x (get_or (lists_of nodes ends) l []) ≡ front ++ x ∷ at ∷ back = ap (put_before at x) here ∙ put_before-split at x front back (not_before l at front back h.0 here) in
      let e_is = ends_read l e h.0 read in
      rw (put, behind, linked, ended, headed, p, e_is) (liveness _ _ _ _ sound owned)

  -- the neighbours of a node are in range
  pub InRange-links : (l x : ℕ) (n : Node) → get_or (owners_of nodes) x None ≡ Some l → n ≡ get_or nodes x n → InRange nodes n.prev × InRange nodes n.next × (l < length ends)
  InRange-links l x n own nread =
      let h = held x l own in
      let n_is = node_read l x n h.1 h.2 h.0 h.3 nread in
      let list : IsList nodes l (ends_at ends l) (h.1 ++ x ∷ h.2) = subst (IsList nodes l (ends_at ends l)) h.3 (is.each l h.0) in
      let whole = row-back nodes l None h.1 (x ∷ h.2) None list.row in (
        subst (InRange nodes) (sym (ap (λ z. z.prev) n_is)) (InRange-last nodes l h.1 _ (row-front nodes l None h.1 (x ∷ h.2) None list.row)),
        subst (InRange nodes) (sym (ap (λ z. z.next) n_is)) (InRange-first nodes l (Some x) h.2 None whole.2),
        h.0,
      )

  -- the stored neighbours are those in the list
  pub next_is : (l x : ℕ) (n : Node) → get_or (owners_of nodes) x None ≡ Some l → n ≡ get_or nodes x n → n.next ≡ next_in x (get_or (lists_of nodes ends) l [])
  next_is l x n own nread =
      let h = held x l own in
      ap (λ z. z.next) (node_read l x n h.1 h.2 h.0 h.3 nread) ∙ sym (ap (next_in x) h.3 ∙ next_in-split x h.1 h.2 (not_before l x h.1 h.2 h.0 h.3))

  pub prev_is : (l x : ℕ) (n : Node) → get_or (owners_of nodes) x None ≡ Some l → n ≡ get_or nodes x n → n.prev ≡ prev_in None x (get_or (lists_of nodes ends) l [])
  prev_is l x n own nread =
      let h = held x l own in
      ap (λ z. z.prev) (node_read l x n h.1 h.2 h.0 h.3 nread) ∙ sym (ap (prev_in None x) h.3 ∙ prev_in-split None x h.1 h.2 (not_before l x h.1 h.2 h.0 h.3))

-- one more of what stands past the end
get_or-pad : {A : Type 0} (xs : List A) (d : A) (y : ℕ) → get_or (xs ++ d ∷ []) y d ≡ get_or xs y d
get_or-pad [] d zero = refl
get_or-pad [] d (suc y) = refl
get_or-pad (x ∷ xs) d zero = refl
get_or-pad (x ∷ xs) d (suc y) = get_or-pad xs d y

-- the tables after a node was added
pub node_added : (nodes : List Node) (ends : List Ends) → length nodes < key_limit → AreSoundLists nodes ends (lists_of nodes ends) → StandsFor (nodes ++ no_node ∷ []) ends (lists_of nodes ends) (owners_of nodes ++ None ∷ [])
node_added nodes ends room is =
    liveness _ _ _ _ (record {
      count = is.count;
      each = λ l h. let was = is.each l h in record { head = was.head; tail = was.tail; row = row-same nodes _ l None _ None (omega (arith, length-append nodes (no_node ∷ []))) (λ y i. get_or-pad nodes no_node y) was.row; distinct = was.distinct };
      owned = λ x l own. is.owned x l (sym (ap (λ n. n.owner) (get_or-pad nodes no_node x)) ∙ own);
      few = is.few;
      few_nodes = omega (arith, room, length-append nodes (no_node ∷ []));
    }) (map-append (λ n. n.owner) nodes (no_node ∷ []))

-- the tables after a list was added
pub list_added : (nodes : List Node) (ends : List Ends) → length ends < key_limit → AreSoundLists nodes ends (lists_of nodes ends) → StandsFor nodes (ends ++ no_ends ∷ []) (lists_of nodes ends ++ [] ∷ []) (owners_of nodes)
list_added nodes ends room is =
    let longer : length (ends ++ no_ends ∷ []) ≡ length ends + 1 = omega (arith, length-append ends (no_ends ∷ [])) in
    liveness _ _ _ _ (record {
      count = omega (arith, longer, is.count, length-append (lists_of nodes ends) ([] ∷ []));
      each = λ l h. rw (get_or-pad ends no_ends l, get_or-pad (lists_of nodes ends) [] l) (elim (cases_lt l) [ inl lt ↦ is.each l lt | inr le ↦ rw (get_or_past ends l no_ends le, get_or_past (lists_of nodes ends) l [] (omega (arith, is.count, le))) (record { head = refl; tail = refl; row = tt; distinct = tt }) ]);
      owned = λ x l own. let o = is.owned x l own in (omega (arith, o.0, longer), rw (get_or-pad (lists_of nodes ends) [] l) o.1);
      few = omega (arith, longer, room);
      few_nodes = is.few_nodes;
    }) refl
  where
    cases_lt : (l : ℕ) → (l < length ends) ⊎ (length ends ≤ l)
    cases_lt l = grind arith

-- a read node's owner
owner_read : (nodes : List Node) (x l : ℕ) (n : Node) → x < length (owners_of nodes) → n ≡ get_or nodes x n → n.owner ≡ Some l → get_or (owners_of nodes) x None ≡ Some l
owner_read nodes x l n known read own =
    let inside : x < length nodes = omega (arith, known, length-map nodes (λ n. n.owner)) in
    owners-at nodes x ∙ sym (ap (λ z. z.owner) (read ∙ get_or_default nodes x n no_node inside)) ∙ own

-- what holds of whatever a value may have
IfSome-each : {X : Type 0} (o : Option X) (P : X → Type 0) → ((x : X) → o ≡ Some x → P x) → IfSome o P
IfSome-each None P each = tt
IfSome-each (Some x) P each = each x refl

-- the stored neighbours are those that a contract sees
pub next_of-is : (nodes : List Node) (ends : List Ends) (is : AreSoundLists nodes ends (lists_of nodes ends)) (x l : ℕ) (n : Node) (m r : ℕ) → x < length (owners_of nodes) → n ≡ get_or nodes x n → n.owner ≡ Some l → n.next ≡ next_in_lists (record { lists = lists_of nodes ends; owners = owners_of nodes; node_room = m; list_room = r }) x
next_of-is nodes ends is x l n m r known read own =
    let owned = owner_read nodes x l n known read own in
    rw owned (next_is nodes ends is l x n owned read)

pub prev_of-is : (nodes : List Node) (ends : List Ends) (is : AreSoundLists nodes ends (lists_of nodes ends)) (x l : ℕ) (n : Node) (m r : ℕ) → x < length (owners_of nodes) → n ≡ get_or nodes x n → n.owner ≡ Some l → n.prev ≡ prev_in_lists (record { lists = lists_of nodes ends; owners = owners_of nodes; node_room = m; list_room = r }) x
prev_of-is nodes ends is x l n m r known read own =
    let owned = owner_read nodes x l n known read own in
    rw owned (prev_is nodes ends is l x n owned read)

-- a list that has a node is there
pub owner_within : (nodes : List Node) (ends : List Ends) (is : AreSoundLists nodes ends (lists_of nodes ends)) (x : ℕ) (n : Node) → x < length (owners_of nodes) → n ≡ get_or nodes x n → IfSome n.owner (λ l. l < length (lists_of nodes ends))
owner_within nodes ends is x n known read =
    let inside : x < length nodes = omega (arith, known, length-map nodes (λ n. n.owner)) in
    IfSome-each n.owner (λ l. l < length (lists_of nodes ends)) (λ l own.
    let here : (node_at nodes x).owner ≡ Some l = sym (ap (λ z. z.owner) (read ∙ get_or_default nodes x n no_node inside)) ∙ own in
    let within : l < length ends = (is.owned x l here).0 in
    omega (arith, is.count, within))

-- the nodes at both ends of a list are owned by it
pub first_owned : (nodes : List Node) (ends : List Ends) (is : AreSoundLists nodes ends (lists_of nodes ends)) (l : ℕ) (e : Ends) → l < length (lists_of nodes ends) → e ≡ get_or ends l e → IfSome e.head (λ x. get_or (owners_of nodes) x None ≡ Some l)
first_owned nodes ends is l e listed read =
    let within : l < length ends = omega (arith, listed, is.count) in
    let e_is : e.head ≡ first_of (get_or (lists_of nodes ends) l []) None = ap (λ z. z.head) (ends_read nodes ends is l e within read) ∙ (is.each l within).head in
    IfSome-each e.head (λ x. get_or (owners_of nodes) x None ≡ Some l) (λ x some. (owned-sound nodes ends is).owned x l (first_of-In x _ (sym e_is ∙ some)))

pub last_owned : (nodes : List Node) (ends : List Ends) (is : AreSoundLists nodes ends (lists_of nodes ends)) (l : ℕ) (e : Ends) → l < length (lists_of nodes ends) → e ≡ get_or ends l e → IfSome e.tail (λ x. get_or (owners_of nodes) x None ≡ Some l)
last_owned nodes ends is l e listed read =
    let within : l < length ends = omega (arith, listed, is.count) in
    let e_is : e.tail ≡ last_of None (get_or (lists_of nodes ends) l []) = ap (λ z. z.tail) (ends_read nodes ends is l e within read) ∙ (is.each l within).tail in
    IfSome-each e.tail (λ x. get_or (owners_of nodes) x None ≡ Some l) (λ x some. (owned-sound nodes ends is).owned x l (last_of-In x _ (sym e_is ∙ some)))

-- the neighbours of a node are owned by the list that has it
pub next_owned : (nodes : List Node) (ends : List Ends) (is : AreSoundLists nodes ends (lists_of nodes ends)) (x l : ℕ) (n : Node) → x < length (owners_of nodes) → n ≡ get_or nodes x n → n.owner ≡ Some l → IfSome n.next (λ y. get_or (owners_of nodes) y None ≡ get_or (owners_of nodes) x None)
next_owned nodes ends is x l n known read own =
    let here = owner_read nodes x l n known read own in
    IfSome-each n.next (λ y. get_or (owners_of nodes) y None ≡ get_or (owners_of nodes) x None) (λ y some.
    (owned-sound nodes ends is).owned y l (next_in-In y x _ (sym (next_is nodes ends is l x n here read) ∙ some)) ∙ sym here)

pub prev_owned : (nodes : List Node) (ends : List Ends) (is : AreSoundLists nodes ends (lists_of nodes ends)) (x l : ℕ) (n : Node) → x < length (owners_of nodes) → n ≡ get_or nodes x n → n.owner ≡ Some l → IfSome n.prev (λ y. get_or (owners_of nodes) y None ≡ get_or (owners_of nodes) x None)
prev_owned nodes ends is x l n known read own =
    let here = owner_read nodes x l n known read own in
    IfSome-each n.prev (λ y. get_or (owners_of nodes) y None ≡ get_or (owners_of nodes) x None) (λ y some.
    (owned-sound nodes ends is).owned y l (prev_in-In y x _ (sym (prev_is nodes ends is l x n here read) ∙ some)) ∙ sym here)
