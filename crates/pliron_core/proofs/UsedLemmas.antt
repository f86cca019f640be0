-- The invariant of a tree is kept where only operands and successors change.
use Rattle.std.proofs.Common.{◌≡◌, ◌⊎◌, ℕ, zero, suc, ◌<◌, ◌≤◌, List, [], ◌∷◌, ◌++◌, length, map, get_or, None, refl, sym, ap, ◌∙◌, subst, inl, inr, ⊎_elim, arith, slice_set, if◌then◌else◌, remove}
use Rattle.std.specs.List.{insert}
use Rattle.std.proofs.lemmas.Bool.{cases_eq, eq-eqb, ne_eqb}
use Rattle.std.proofs.lemmas.Bool.Decides.{eqb_tells}
use Rattle.std.proofs.lemmas.List.{get_or-set_other, get_or-set_same}
use Rattle.pliron_core.specs.Uses.{replace_target}
use Rattle.pliron_core.specs.Tree.{Tree, In, IsLive, IsBlock, IsDefined, head_of, operands_of, successors_of}
use Rattle.pliron_core.specs.Invariant.{IsJoined}
use Rattle.pliron_core.specs.Writes.{operand_pushed, successor_pushed, operand_inserted, operand_removed, after_replacing}
use Rattle.pliron_core.proofs.RemovalLemmas.{in_from-remove}
use Rattle.pliron_core.proofs.TreeLemmas.{live_dead}

pub kept_used : (t : Tree) (operands successors : List (List ℕ)) → IsJoined t → ((k v : ℕ) → In v (get_or operands k []) → IsDefined t v) → ((k b : ℕ) → In b (get_or successors k []) → IsBlock t b) → ((k : ℕ) → head_of t k ≡ None → (get_or operands k [] ≡ []) × (get_or successors k [] ≡ [])) → IsJoined (record t { operands = operands; successors = successors })
kept_used t operands successors w defined all_in_place dead = record {
  all_in_place = w.all_in_place;
  placed = w.placed;
  regions = w.regions;
  results = w.results;
  arguments = w.arguments;
  operands = defined;
  successors = all_in_place;
  ordered = w.ordered;
  erased = λ k e. let x = dead k e in (x.0, x.1, (w.erased k e).2);
  unplaced = w.unplaced;
  rooted = w.rooted;
}

-- a member of the changed row of one operation, or of a row as it was
pub in_changed : (rows : List (List ℕ)) (op k v : ℕ) (row : List ℕ) → In v (get_or (slice_set rows op row) k []) → ((k ≡ op) × In v row) ⊎ In v (get_or rows k [])
in_changed rows op k v row i =
    elim (cases_eq k op) [
      | inl e ↦ here e (within op)
      | inr ne ↦ inr (subst (In v) (get_or-set_other rows op k row [] ne) i)
    ]
  where
    within : (op : ℕ) → (op < length rows) ⊎ (length rows ≤ op)
    within op = grind arith

    set-past : (rows : List (List ℕ)) (op : ℕ) (row : List ℕ) → length rows ≤ op → slice_set rows op row ≡ rows
    set-past [] op row le = refl
    set-past (x ∷ xs) zero row le = absurd (omega arith)
    set-past (x ∷ xs) (suc op) row le = ap (λ z. x ∷ z) (set-past xs op row (let h : suc (length xs) ≤ suc op = le in omega (arith, h)))

    here : k ≡ op → (op < length rows) ⊎ (length rows ≤ op) → ((k ≡ op) × In v row) ⊎ In v (get_or rows k [])
    here e (inl lt) = inl (e, subst (In v) (ap (λ z. get_or (slice_set rows op row) z []) e ∙ get_or-set_same rows op row [] lt) i)
    here e (inr le) = inr (subst (λ z. In v (get_or z k [])) (set-past rows op row le) i)

pub in_last : (v x : ℕ) (xs : List ℕ) → In v (xs ++ x ∷ []) → In v xs ⊎ (v ≡ x)
in_last v x [] (inl e) = inr e
in_last v x [] (inr i) = absurd i
in_last v x (y ∷ ys) (inl e) = inl (inl e)
in_last v x (y ∷ ys) (inr i) = ⊎_elim (λ j. inl (inr j)) (λ e. inr e) (in_last v x ys i)

pub in_map : (f : ℕ → ℕ) (xs : List ℕ) (v : ℕ) → In v (map f xs) → (x : ℕ) × In x xs × (v ≡ f x)
in_map f [] v i = absurd i
in_map f (x ∷ xs) v (inl e) = (x, inl refl, e)
in_map f (x ∷ xs) v (inr i) = let r = in_map f xs v i in (r.0, inr r.1, r.2)

pub get_map : (f : List ℕ → List ℕ) → f [] ≡ [] → (xs : List (List ℕ)) (i : ℕ) → get_or (map f xs) i [] ≡ f (get_or xs i [])
get_map f e [] i = sym e
get_map f e (x ∷ xs) zero = refl
get_map f e (x ∷ xs) (suc i) = get_map f e xs i

replace_cases : (old new x : ℕ) → (replace_target old new x ≡ new) ⊎ (replace_target old new x ≡ x)
replace_cases old new x = ⊎_elim (λ y. inl (ap (λ b. if b then new else x) y.0)) (λ n. inr (ap (λ b. if b then new else x) n.0)) (eqb_tells x old)

pub length_map : {A B : Type 0} (f : A → B) (xs : List A) → length (map f xs) ≡ length xs
length_map f [] = refl
length_map f (x ∷ xs) = ap suc (length_map f xs)

-- the row of an operation that is not the changed one
unchanged : (t : Tree) (rows : List (List ℕ)) (op k : ℕ) (row : List ℕ) → IsLive t op → head_of t k ≡ None → get_or (slice_set rows op row) k [] ≡ get_or rows k []
unchanged t rows op k row live e = get_or-set_other rows op k row [] (λ s. live_dead t k (subst (IsLive t) (sym s) live) e)

pub kept_push : (t : Tree) (op value : ℕ) → IsJoined t → IsLive t op → IsDefined t value → IsJoined (operand_pushed t op value)
kept_push t op value w live d = kept_used t (slice_set t.operands op (operands_of t op ++ value ∷ [])) t.successors w
    (λ k v i. elim (in_changed t.operands op k v _ i) [
      | inl c ↦ elim (in_last v value (operands_of t op) c.1) [ inl j ↦ w.operands op v j | inr s ↦ subst (IsDefined t) (sym s) d ]
      | inr j ↦ w.operands k v j
    ])
    w.successors
    (λ k e. let x = w.erased k e in (unchanged t t.operands op k _ live e ∙ x.0, x.1))

in_put : (x y : ℕ) (xs : List ℕ) (i : ℕ) → In x (insert xs i y) → In x xs ⊎ (x ≡ y)
in_put x y xs zero j = elim j [ inl e ↦ inr e | inr k ↦ inl k ]
in_put x y [] (suc i) j = elim j [ inl e ↦ inr e | inr k ↦ absurd k ]
in_put x y (z ∷ zs) (suc i) j = elim j [
  | inl e ↦ inl (inl e)
  | inr k ↦ elim (in_put x y zs i k) [ inl l ↦ inl (inr l) | inr e ↦ inr e ]
]

pub kept_insert : (t : Tree) (op i value : ℕ) → IsJoined t → IsLive t op → IsDefined t value → IsJoined (operand_inserted t op i value)
kept_insert t op i value w live d = kept_used t (slice_set t.operands op (insert (operands_of t op) i value)) t.successors w
    (λ k v j. elim (in_changed t.operands op k v _ j) [
      | inl c ↦ elim (in_put v value (operands_of t op) i c.1) [ inl l ↦ w.operands op v l | inr s ↦ subst (IsDefined t) (sym s) d ]
      | inr l ↦ w.operands k v l
    ])
    w.successors
    (λ k e. let x = w.erased k e in (unchanged t t.operands op k _ live e ∙ x.0, x.1))

pub kept_push_successor : (t : Tree) (op block : ℕ) → IsJoined t → IsLive t op → IsBlock t block → IsJoined (successor_pushed t op block)
kept_push_successor t op block w live is = kept_used t t.operands (slice_set t.successors op (successors_of t op ++ block ∷ [])) w
    w.operands
    (λ k b i. elim (in_changed t.successors op k b _ i) [
      | inl c ↦ elim (in_last b block (successors_of t op) c.1) [ inl j ↦ w.successors op b j | inr s ↦ subst (IsBlock t) (sym s) is ]
      | inr j ↦ w.successors k b j
    ])
    (λ k e. let x = w.erased k e in (x.0, unchanged t t.successors op k _ live e ∙ x.1))

pub kept_remove : (t : Tree) (op i : ℕ) → IsJoined t → IsLive t op → IsJoined (operand_removed t op i)
kept_remove t op i w live = kept_used t (slice_set t.operands op (remove (operands_of t op) i)) t.successors w
    (λ k v j. elim (in_changed t.operands op k v _ j) [ inl c ↦ w.operands op v (in_from-remove v (operands_of t op) i c.1) | inr j ↦ w.operands k v j ])
    w.successors
    (λ k e. let x = w.erased k e in (unchanged t t.operands op k _ live e ∙ x.0, x.1))

pub kept_replace : (t : Tree) (old new : ℕ) → IsJoined t → IsDefined t new → IsJoined (after_replacing t old new)
kept_replace t old new w d = kept_used t (map (map (replace_target old new)) t.operands) t.successors w go w.successors
    (λ k e. let x = w.erased k e in (get_map (map (replace_target old new)) refl t.operands k ∙ ap (map (replace_target old new)) x.0, x.1))
  where
    go : (k v : ℕ) → In v (get_or (map (map (replace_target old new)) t.operands) k []) → IsDefined t v
    go k v i =
        let x = in_map (replace_target old new) (operands_of t k) v (subst (In v) (get_map (map (replace_target old new)) refl t.operands k) i) in
        ⊎_elim (λ e. subst (IsDefined t) (sym (x.2 ∙ e)) d) (λ e. subst (IsDefined t) (sym (x.2 ∙ e)) (w.operands k x.0 x.1)) (replace_cases old new x.0)

replace-same : (x y : ℕ) → replace_target x x y ≡ y
replace-same x y = elim (cases_eq y x) [ inl e ↦ rw (eq-eqb y x e) (sym e) | inr ne ↦ rw (ne_eqb y x ne) refl ]

map-same : {A : Type 0} (f : A → A) → ((x : A) → f x ≡ x) → (xs : List A) → map f xs ≡ xs
map-same f same [] = refl
map-same f same (x ∷ xs) = let h = same x in let t = map-same f same xs in cc

pub replace-all_same : (x y : ℕ) (rows : List (List ℕ)) → x ≡ y → map (map (replace_target x y)) rows ≡ rows
replace-all_same x y rows e = subst (λ z. map (map (replace_target x z)) rows ≡ rows) e (map-same (map (replace_target x x)) (map-same (replace_target x x) (replace-same x)) rows)
