-- The collection of a component over predecessors.
use Rattle.std.proofs.Common.{◌≡◌, ℕ, ◌+◌, ◌-◌, ◌<◌, ◌≤◌, Bool, true, false, List, [], ◌∷◌, ◌++◌, length, take, get_or, slice_get, Some, refl, sym, ◌∙◌, ap, subst, arith, inl, inr, ◌⊎◌, Contains, length-append, append_assoc, append-nil, ◌↔◌, if◌then◌else◌}
use Rattle.std.specs.Cmp.{IsEquivalence}
use Rattle.std.specs.List.{IsDistinct, AllByRecursion, list_any}
use Rattle.indexmap.specs.IndexSet.{insert_key}
use Rattle.std.proofs.lemmas.Option.{slice_get_within, slice_get-get_or}
use Rattle.std.proofs.lemmas.Map.Made.{length-le_from_is_member}
use Rattle.pliron_graph_traversal.specs.Digraph.{Digraph, IsLawful}
use Rattle.pliron_graph_components.specs.Components.{IsCyclic}
use Rattle.pliron_graph_traversal.specs.Internal.Membership.{HasMember, in_from, contains_from, in_left, in_right, in_cases, in_from_any, any_from_in, not_in_from_any}
use Rattle.pliron_graph_components.specs.Internal.Collecting.{TakesIn, IsPathOutside, LeadsOutside, Collects}
use Rattle.pliron_graph_traversal.proofs.ItemLemmas.{in_from_item, item_from_in, apart_from}
use Rattle.pliron_graph_components.proofs.ItemLemmas.{item_left, item_right}
use Rattle.pliron_graph_traversal.proofs.UnwindingLemmas.{take_next}

-- what was read by index stands there
pub read_item : {N : Type 0} (xs ys : List N) (i : ℕ) (v : N) → ys ≡ xs → i < length xs → v ≡ get_or ys i v → slice_get xs i ≡ Some v
read_item xs ys i v keys within is = slice_get-get_or xs i v within ∙ ap Some (subst (λ z. get_or z i v ≡ v) keys (sym is))

-- a list of one node lies on a cycle exactly if the node has an edge to itself
pub single_cyclic : {N : Type 0} (g : Digraph N) (nodes : List N) (v : N) → length nodes ≤ 1 → slice_get nodes 0 ≡ Some v → (IsCyclic g nodes ↔ Contains (g.succ v) v)
single_cyclic {N} g nodes v short at = (there, λ e. inr (v, contains_from nodes v (in_from_item nodes 0 v at), e))
  where
    one : (xs : List N) (w : N) → length xs ≤ 1 → slice_get xs 0 ≡ Some v → HasMember xs w → w ≡ v
    one [] w l a h = absurd h
    one (x ∷ xs) w l a (inl e) = let here : x ≡ v = cc in sym e ∙ here
    one (x ∷ y ∷ xs) w l a (inr h) = absurd (omega (arith, l))
    one (x ∷ []) w l a (inr h) = absurd h

    there : IsCyclic g nodes → Contains (g.succ v) v
    there (inl l) = absurd (omega (arith, l, short))
    there (inr k) = subst (λ z. Contains (g.succ z) z) (one nodes k.0 short at (in_from nodes k.0 k.1)) k.2

pub none_cyclic : {N : Type 0} (g : Digraph N) (nodes : List N) → length nodes ≤ 0 → IsCyclic g nodes → ⊥
none_cyclic g nodes short (inl l) = omega (arith, l, short)
none_cyclic g [] short (inr k) = in_from [] k.0 k.1
none_cyclic g (x ∷ xs) short (inr k) = omega (arith, short)

module _ {N : Type 0} (eq : N → N → Bool) (g : Digraph N) (root : N) where
  -- what is held while the component of the root is collected: the predecessors of what stands before next are held
  pub record IsCollecting (old now : List N) (next : ℕ) : Type 0 where
    pub added : List N
    pub is : now ≡ old ++ added
    pub distinct : IsDistinct eq now
    pub inside : (x : N) → HasMember added x → Contains g.nodes x
    pub leads : (x : N) → HasMember added x → LeadsOutside g old x root
    pub has_root : HasMember added root
    pub past : length old ≤ next
    pub closed : (k : ℕ) (y x : N) → length old ≤ k → k < next → slice_get now k ≡ Some y → HasMember (g.pred y) x → HasMember now x

module _ {N : Type 0} (eq : N → N → Bool) (laws : IsEquivalence eq) (same : (x y : N) → eq x y ≡ true → x ≡ y) where
  all_left : (P : N → Type 0) (xs ys : List N) → AllByRecursion P (xs ++ ys) → AllByRecursion P xs
  all_left P [] ys h = tt
  all_left P (x ∷ xs) ys h = (h.0, all_left P xs ys h.1)

  -- the parts of a list without repeats share nothing
  pub parts_apart : (xs ys : List N) (v : N) → IsDistinct eq (xs ++ ys) → HasMember xs v → HasMember ys v → ⊥
  unfolding IsDistinct
  parts_apart [] ys v h i j = i
  parts_apart (x ∷ xs) ys v h (inl e) j = apart_from eq laws same x (xs ++ ys) v h.0 (in_right xs ys v j) e
  parts_apart (x ∷ xs) ys v h (inr i) j = parts_apart xs ys v h.1 i j

  pub right_distinct : (xs ys : List N) → IsDistinct eq (xs ++ ys) → IsDistinct eq ys
  unfolding IsDistinct
  right_distinct [] ys h = h
  right_distinct (x ∷ xs) ys h = right_distinct xs ys h.1

  -- nodes without repeats among others are no more than those
  pub fewer : (xs ys : List N) → IsDistinct eq xs → ((v : N) → HasMember xs v → HasMember ys v) → length xs ≤ length ys
  fewer xs ys h within = length-le_from_is_member laws xs ys h (λ q m. any_from_in eq same laws.refl ys q (within q (in_from_any eq same laws.refl xs q m)))

  -- one more of the items is taken in
  pub takes_next : (xs old now new : List N) (i : ℕ) (x : N) → slice_get xs i ≡ Some x → new ≡ insert_key eq now x → IsDistinct eq new → TakesIn eq (take i xs) old now → TakesIn eq (take (i + 1) xs) old new
  takes_next xs old now new i x at keys distinct t = subst (λ zs. TakesIn eq zs old new) (sym (take_next xs i x at)) (by (list_any (eq x) now) refl)
    where
      all_in : ((y : N) → HasMember now y → HasMember new y) → HasMember new x → (y : N) → HasMember (take i xs ++ x ∷ []) y → HasMember new y
      all_in more here y h = elim (in_cases (take i xs) (x ∷ []) y h) [
        | inl a ↦ more y (t.all y a)
        | inr b ↦ elim b [ inl e ↦ subst (HasMember new) e here | inr n ↦ absurd n ]
      ]

      by : (b : Bool) → list_any (eq x) now ≡ b → TakesIn eq (take i xs ++ x ∷ []) old new
      by true e =
          let stays : new ≡ now = keys ∙ ap (λ b. if b then now else now ++ x ∷ []) e in
          record {
            added = t.added;
            is = stays ∙ t.is;
            of = λ y h. in_left (take i xs) (x ∷ []) y (t.of y h);
            all = all_in (λ y h. subst (λ z. HasMember z y) (sym stays) h) (subst (λ z. HasMember z x) (sym stays) (in_from_any eq same laws.refl now x e));
            distinct = λ _. distinct;
          }
      by false e =
          let grows : new ≡ now ++ x ∷ [] = keys ∙ ap (λ b. if b then now else now ++ x ∷ []) e in
          record {
            added = t.added ++ x ∷ [];
            is = grows ∙ ap (λ z. z ++ x ∷ []) t.is ∙ append_assoc old t.added (x ∷ []);
            of = λ y h. elim (in_cases t.added (x ∷ []) y h) [ inl a ↦ in_left (take i xs) (x ∷ []) y (t.of y a) | inr b ↦ in_right (take i xs) (x ∷ []) y b ];
            all = all_in (λ y h. subst (λ z. HasMember z y) (sym grows) (in_left now (x ∷ []) y h)) (subst (λ z. HasMember z x) (sym grows) (in_right now (x ∷ []) x (inl refl)));
            distinct = λ _. distinct;
          }

  pub takes_none : (xs old : List N) → TakesIn eq (take 0 xs) old old
  takes_none xs old = record { added = []; is = sym (append-nil old); of = λ y h. h; all = λ y h. absurd h; distinct = λ h. h }

  module _ (g : Digraph N) (lawful : IsLawful eq g) (root : N) where
    pub collects_root : (old now : List N) → Contains g.nodes root → list_any (eq root) old ≡ false → now ≡ old ++ root ∷ [] → IsDistinct eq now → IsCollecting eq g root old now (length old)
    collects_root old now member unheld is distinct = record {
      added = root ∷ [];
      is = is;
      distinct = distinct;
      inside = λ x h. elim h [ inl e ↦ subst (Contains g.nodes) e member | inr n ↦ absurd n ];
      leads = λ x h. elim h [ inl e ↦ ([], (λ i. not_in_from_any eq same laws.refl old root unheld (subst (HasMember old) (sym e) i), sym e)) | inr n ↦ absurd n ];
      has_root = inl refl;
      past = omega arith;
      closed = λ k y x low high at h. absurd (omega (arith, low, high));
    }

    module _ (old now : List N) (next : ℕ) (c : IsCollecting eq g root old now next) where
      pub few : length now ≤ length old + length g.nodes
      few =
          let parts : IsDistinct eq (old ++ c.added) = subst (IsDistinct eq) c.is c.distinct in
          omega (arith, ap length c.is, length-append old c.added, fewer c.added g.nodes (right_distinct old c.added parts) (λ v h. in_from g.nodes v (c.inside v h)))

      -- an item from the end of the old ones on was added
      item_added : (k : ℕ) (y : N) → length old ≤ k → slice_get now k ≡ Some y → HasMember c.added y
      item_added k y low at =
          let there : slice_get (old ++ c.added) k ≡ Some y = subst (λ z. slice_get z k ≡ Some y) c.is at in
          in_from_item c.added (k - length old) y (sym (item_right old c.added (k - length old) k (omega (arith, low))) ∙ there)

      pub item_inside : (y : N) → slice_get now next ≡ Some y → Contains g.nodes y
      item_inside y at = c.inside y (item_added next y c.past at)

      pub collects_next : (new : List N) (y : N) → slice_get now next ≡ Some y → TakesIn eq (g.pred y) now new → IsCollecting eq g root old new (next + 1)
      collects_next new y at t =
          let is : new ≡ old ++ (c.added ++ t.added) = t.is ∙ ap (λ z. z ++ t.added) c.is ∙ append_assoc old c.added t.added in
          let distinct : IsDistinct eq new = t.distinct c.distinct in
          let y_in : HasMember c.added y = item_added next y c.past at in
          let y_node : Contains g.nodes y = c.inside y y_in in
          record {
            added = c.added ++ t.added;
            is = is;
            distinct = distinct;
            inside = λ x h. elim (in_cases c.added t.added x h) [ inl a ↦ c.inside x a | inr b ↦ pred_node y_node x b ];
            leads = λ x h. elim (in_cases c.added t.added x h) [
              | inl a ↦ c.leads x a
              | inr b ↦
                  let edge : Contains (g.succ x) y = (lawful.inverse x y (pred_node y_node x b) y_node).0 (contains_from (g.pred y) x (t.of x b)) in
                  let rest = c.leads y y_in in
                  (y ∷ rest.0, (λ i. parts_apart old (c.added ++ t.added) x (subst (IsDistinct eq) is distinct) i (in_right c.added t.added x b), edge, rest.1))
            ];
            has_root = in_left c.added t.added root c.has_root;
            past = omega (arith, c.past);
            closed = λ k z x low high there h. split k z x low high there h (order k next);
          }
        where
          pred_node : Contains g.nodes y → (x : N) → HasMember t.added x → Contains g.nodes x
          pred_node member x b = lawful.pred_in x y member (contains_from (g.pred y) x (t.of x b))

          order : (m n : ℕ) → (m < n) ⊎ (n ≤ m)
          order m n = grind arith

          kept : (k : ℕ) → k < length now → slice_get new k ≡ slice_get now k
          kept k l = subst (λ z. slice_get z k ≡ slice_get now k) (sym t.is) (item_left now t.added k l)

          split : (k : ℕ) (z x : N) → length old ≤ k → k < next + 1 → slice_get new k ≡ Some z → HasMember (g.pred z) x → (k < next) ⊎ (next ≤ k) → HasMember new x
          split k z x low high there h (inl l) =
              let within : next < length now = slice_get_within now next y at in
              subst (λ xs. HasMember xs x) (sym t.is) (in_left now t.added x (c.closed k z x low l (sym (kept k (omega (arith, l, within))) ∙ there) h))
          split k z x low high there h (inr l) =
              let within : next < length now = slice_get_within now next y at in
              let here : k ≡ next = omega (arith, l, high) in
              let item : slice_get now next ≡ Some z = sym (kept next within) ∙ subst (λ j. slice_get new j ≡ Some z) here there in
              let one : z ≡ y = cc in
              t.all x (subst (λ w. HasMember (g.pred w) x) one h)

      pub collected : length now ≤ next → Collects g eq root old now
      collected done = record {
        added = c.added;
        is = c.is;
        distinct = c.distinct;
        inside = c.inside;
        leads = λ x member. (c.leads x, λ h. back x h.0 member h.1);
      }
        where
          all_closed : (y x : N) → HasMember c.added y → HasMember (g.pred y) x → HasMember now x
          all_closed y x h p =
              let k = item_from_in c.added y h in
              let at : slice_get now (length old + k.0) ≡ Some y = subst (λ z. slice_get z (length old + k.0) ≡ Some y) (sym c.is) (item_right old c.added k.0 (length old + k.0) refl ∙ k.1) in
              c.closed (length old + k.0) y x (omega arith) (omega (arith, done, slice_get_within now (length old + k.0) y at)) at p

          not_old : (x : N) → HasMember now x → (HasMember old x → ⊥) → HasMember c.added x
          not_old x h n = elim (in_cases old c.added x (subst (λ z. HasMember z x) c.is h)) [ inl a ↦ absurd (n a) | inr b ↦ b ]

          back : (x : N) (ws : List N) → Contains g.nodes x → IsPathOutside g old x ws root → HasMember c.added x
          back x [] member p = subst (HasMember c.added) (sym p.1) c.has_root
          back x (w ∷ ws) member p =
              let w_node : Contains g.nodes w = lawful.succ_in x w member p.1 in
              let rest : HasMember c.added w = back w ws w_node p.2 in
              not_old x (all_closed w x rest (in_from (g.pred w) x ((lawful.inverse x w member w_node).1 p.1))) p.0
