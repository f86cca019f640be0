-- What the functions of the small dialect read and leave.
use Rattle.std.proofs.Common.{◌≡◌, ℕ, zero, suc, nat_eq, Bool, true, false, ◌&&◌, if◌then◌else◌, IsTrue, ◌<◌, List, [], ◌∷◌, length, map, slice_index_or, slice_set, Option, Some, None, refl, sym, ap, ◌∙◌, subst, arith}
use Rattle.std.specs.List.{slice_get}
use Rattle.std.specs.Option.{option_map}
use Rattle.std.proofs.lemmas.Option.{slice_get-map, slice_get_past}
use Rattle.pliron_core.specs.declared.attrs.AttrObj.{AttrObj}
use Rattle.pliron_core.specs.Tree.{Tree, IsLive, head_of, row_of, no_entry, operands_of}
use Rattle.pliron_core.specs.Writes.{operand_removed}
use Rattle.pliron_core.proofs.GrownLemmas.{range_at, range_get}
use Rattle.pliron_laws.specs.Datum.{Head}
use Rattle.pliron_laws.specs.Tree.{Operation, op_at, shape_of}
use Rattle.pliron_laws.specs.Acting.{pick}
use Rattle.pliron_laws.specs.Answers.{AreForwarded, IsForwardedAt, HasPlace, LosesForwarded, ReadsHead, ReadsShape, with_head}
use Rattle.pliron_laws.specs.PlaceLaws.{pick_all}
use Rattle.pliron_evaluator.specs.Tiny.{first_attribute, forwarded_along, tiny, tiny_kind_of, first_entry_operand, tiny_constants, tiny_entry_operands, tiny_shortened}
use Rattle.pliron_evaluator.specs.TinyEntries.{at_first}
use Rattle.pliron_evaluator.specs.declared.tiny.TinyKind.{TinyKind}
use Rattle.pliron_laws.proofs.ShapeLemmas.{head_at, operands_at, live_at}

-- what is written is what stood there
rewritten : {A : Type 0} (xs : List A) (k : ℕ) (x d : A) → x ≡ slice_index_or xs k d → slice_set xs k x ≡ xs
rewritten [] k x d e = refl
rewritten (y ∷ ys) zero x d e = ap (λ z. z ∷ ys) e
rewritten (y ∷ ys) (suc k) x d e = ap (λ z. y ∷ z) (rewritten ys k x d e)

head_kept : (t : Tree) (op : ℕ) (h : Head) → head_of t op ≡ Some h → with_head t op h ≡ t
head_kept t op h e = ap (λ z. record t { operations = z }) (rewritten t.operations op (record (row_of t op) { head = Some h }) no_entry (ap (λ z. record (row_of t op) { head = z }) (sym e)))

-- a constant folds to its attribute
pub constants_of : (t : Tree) (op : ℕ) (h : Head) (o : Operation) (known : List (Option AttrObj)) → head_of t op ≡ Some h → op_at t op ≡ Some o → tiny_constants (shape_of tiny t o) known ≡ Some (first_attribute h.attrs) ∷ []
unfolding tiny_constants shape_of
constants_of t op h o known e at =
    let same : Some h ≡ Some o.head = sym e ∙ head_at t op o at in
    let heads : h ≡ o.head = cc in
    ap (λ z. Some (first_attribute z.attrs) ∷ []) (sym heads)

place_is : (n i j p : ℕ) → slice_get (forwarded_along i n) j ≡ Some p → (p ≡ j) × (j < n)
place_is n zero j p e = let at = range_at 0 n j p e in (omega (arith, at.0), at.1)
place_is n (suc i) j p e = absurd (cc)

-- all operands along the one edge, and none along another
pub all_forwarded : (t : Tree) (op i : ℕ) (values : List ℕ) → i ≡ 0 → values ≡ operands_of t op → AreForwarded tiny t op i values
unfolding tiny shape_of
all_forwarded t op i values e f = λ o at.
    let same : values ≡ o.operands = f ∙ sym (operands_at t op o at) in
    ap (map Some) same ∙ sym (pick_all o.operands (length o.operands) refl) ∙ ap (λ z. pick (forwarded_along z (length o.operands)) o.operands) (sym e)

nothing_along : (n i : ℕ) (xs : List ℕ) → (i ≡ 0 → ⊥) → pick (forwarded_along i n) xs ≡ []
nothing_along n zero xs e = absurd (e refl)
nothing_along n (suc i) xs e = refl

pub none_forwarded : (t : Tree) (op i : ℕ) (values : List ℕ) → (i ≡ 0 → ⊥) → values ≡ [] → AreForwarded tiny t op i values
unfolding tiny shape_of
none_forwarded t op i values e f = λ o at. ap (map Some) f ∙ sym (nothing_along (length o.operands) i o.operands e)

-- the one edge forwards at place j what stands there among the operands, another edge nothing
pub one_forwarded : (t : Tree) (op i j : ℕ) (value : Option ℕ) → i ≡ 0 → value ≡ slice_get (operands_of t op) j → IsForwardedAt tiny t op i j value
one_forwarded t op i j value e f = λ o at.
    ap (option_map Some) f ∙ sym (slice_get-map Some (operands_of t op) j) ∙ ap (λ z. slice_get z j) (all_forwarded t op i (operands_of t op) e refl o at)

pub no_one_forwarded : (t : Tree) (op i j : ℕ) → (i ≡ 0 → ⊥) → IsForwardedAt tiny t op i j None
no_one_forwarded t op i j e = λ o at. sym (slice_get_past [] j (omega arith)) ∙ ap (λ z. slice_get z j) (none_forwarded t op i [] e refl o at)

pub place_within : (t : Tree) (op i j : ℕ) → IsLive t op → HasPlace tiny t op i j → j < length (operands_of t op)
unfolding tiny shape_of
place_within t op i j live has =
    let o = live_at t op live in
    let p = has o.0 o.1 in
    subst (λ z. j < length z) (operands_at t op o.0 o.1) (place_is (length o.0.operands) i j p.0 p.1).1

pub loses_operand : (t : Tree) (op i j v : ℕ) → slice_get (operands_of t op) j ≡ Some v → LosesForwarded tiny tiny_shortened t (operand_removed t op j) op i j v
unfolding tiny tiny_shortened shape_of
loses_operand t op i j v e = λ o p at place.
    let is : p ≡ j = (place_is (length o.operands) i j p place).0 in (
      ap (slice_get o.operands) is ∙ ap (λ z. slice_get z j) (operands_at t op o at) ∙ e,
      sym (head_kept (operand_removed t op j) op o.head (head_at t op o at)) ∙ ap (λ z. with_head (operand_removed t op z) op o.head) (sym is),
    )

-- each operand of a branch has a place on its edge
pub place_of : (t : Tree) (op j : ℕ) → j < length (operands_of t op) → HasPlace tiny t op 0 j
unfolding tiny shape_of
place_of t op j lt = λ o at.
    let within : j < length o.operands = subst (λ z. j < length z) (sym (operands_at t op o at)) lt in
    (j, range_get 0 (length o.operands) j within ∙ ap Some (omega arith), within)

-- what is read of the operand that is named for the first argument of the first region, and for another
pub entry_named : (t : Tree) (op i j : ℕ) (kind : Option TinyKind) (n : ℕ) (k : Option ℕ) → ReadsHead (λ h. tiny_kind_of h.kind) t op kind → n ≡ length (operands_of t op) → i ≡ 0 → j ≡ 0 → k ≡ first_entry_operand kind n → ReadsShape tiny (λ s. tiny_entry_operands s i j) t op k
unfolding tiny tiny_entry_operands shape_of
entry_named t op i j kind n k reads e first begin f = λ o at.
    f ∙ ap (λ z. first_entry_operand z n) (reads o.head (head_at t op o at))
    ∙ ap (first_entry_operand (tiny_kind_of o.head.kind)) (e ∙ sym (ap length (operands_at t op o at)))
    ∙ ap (λ z. if nat_eq z 0 && nat_eq 0 0 then first_entry_operand (tiny_kind_of o.head.kind) (length o.operands) else None) (sym first)
    ∙ ap (λ z. if nat_eq i 0 && nat_eq z 0 then first_entry_operand (tiny_kind_of o.head.kind) (length o.operands) else None) (sym begin)

nowhere_else : (b : Bool) (k : Option ℕ) → (IsTrue b → ⊥) → None ≡ (if b then k else None)
nowhere_else true k fails = absurd (fails refl)
nowhere_else false k fails = refl

pub other_region : (t : Tree) (op i j : ℕ) → (i ≡ 0 → ⊥) → ReadsShape tiny (λ s. tiny_entry_operands s i j) t op None
unfolding tiny tiny_entry_operands shape_of
other_region t op i j apart = λ o at. nowhere_else (nat_eq i 0 && nat_eq j 0) _ (λ h. apart (at_first i j h).0)

pub other_argument : (t : Tree) (op i j : ℕ) → (j ≡ 0 → ⊥) → ReadsShape tiny (λ s. tiny_entry_operands s i j) t op None
unfolding tiny tiny_entry_operands shape_of
other_argument t op i j apart = λ o at. nowhere_else (nat_eq i 0 && nat_eq j 0) _ (λ h. apart (at_first i j h).1)
