-- Folding by constants, one result after the other.
use Rattle.std.proofs.Common.{◌≡◌, ◌⊎◌, inl, inr, ℕ, zero, suc, ◌+◌, ◌<◌, ◌≤◌, Bool, true, false, List, [], ◌∷◌, ◌++◌, length, drop, Option, Some, None, IsSome, is_some, refl, sym, ap, ◌∙◌, subst, arith, slice_get, IsTrue}
use Rattle.std.proofs.lemmas.List.{get_or_past, drop_all}
use Rattle.std.proofs.lemmas.Option.{same_Some, slice_get-get_or}
use Rattle.pliron_core.specs.declared.attrs.AttrObj.{AttrObj}
use Rattle.pliron_core.specs.declared.attrs.IRStatus.{IRStatus}
use Rattle.pliron_core.specs.declared.attrs.IRStatus.TheVariants.{Changed, Unchanged}
use Rattle.pliron_core.specs.declared.rewriter.OpInsertionPoint.{OpInsertionPoint}
use Rattle.pliron_core.specs.declared.rewriter.OpInsertionPoint.TheVariants.{BeforeOperation}
use Rattle.pliron_core.specs.Tree.{Tree, IsDefined, no_entry, head_of, results_of, parent_of}
use Rattle.pliron_core.specs.Writes.{after_creating, put_next_to}
use Rattle.pliron_core.specs.Insertion.{after_inserting}
use Rattle.pliron_core.specs.Invariant.{IsTree}
use Rattle.pliron_core.specs.Changes.{IsSameTree}
use Rattle.pliron_core.proofs.GrownLemmas.{get_grown}
use Rattle.pliron_core.proofs.SameTreeLemmas.{same_refl}
use Rattle.pliron_core.proofs.TreeLemmas.{live-within, live_dead}
use Rattle.pliron_laws.specs.declared.materialised_constants.MaterialisedConstant.{MaterialisedConstant}
use Rattle.pliron_laws.specs.Datum.{Head, Meaning}
use Rattle.pliron_laws.specs.Answers.{ReadsShape}
use Rattle.pliron_laws.specs.Folding.{Constants}
use Rattle.pliron_laws.specs.Outcomes.{Materialises, IsMadeConstant, after_materialising}
use Rattle.pliron_laws.specs.Outcomes.Materialises.{Finished, Unanswered, Unknown, PassedOver, Put}
use Rattle.pliron_laws.specs.InPlace.{ReportsChange, materialising_outcome}
use Rattle.pliron_laws.specs.MaterialisedConstants.{insert_constant, with_constant, ArePutBefore, FoldsByConstants, ReportsNew, all_replaced, status_of}
use Rattle.pliron_laws.specs.MaterialisedConstants.ArePutBefore.{NoneYet, Another}
use Rattle.pliron_laws.proofs.FoldLemmas.{put_row, put_row-new, outcome_of}
use Rattle.pliron_laws.proofs.MaterialisedLemmas.{another_folds, status_more}

told_put : (status : IRStatus) (t now : Tree) (op v : ℕ) (head : Head) → ReportsNew status t now → ReportsNew Changed t (after_materialising now op v head)
told_put Changed t now op v head (k, none, live) =
    (k, none, subst (λ z. is_some z.head ≡ true) (sym (put_row now op v k head (live-within now k live))) live)
told_put Unchanged t now op v head e = (
  length now.operations,
  ap (λ z. head_of z (length now.operations)) (sym e) ∙ ap (λ z. z.head) (get_or_past now.operations (length now.operations) no_entry (omega arith)),
  ap (λ z. is_some z.head) (put_row-new now op v head),
)

pub told_change : (status : IRStatus) (t now : Tree) → ReportsNew status t now → ReportsChange (Some status) t now
told_change Unchanged t now e = subst (λ z. IsSameTree t z) (sym e) (same_refl t)
told_change Changed t now (k, none, live) = λ same. live_dead now k live (ap (λ z. z.head) (same.operations k) ∙ none)

drop_at : {A : Type 0} (xs : List A) (i : ℕ) (x : A) → slice_get xs i ≡ Some x → drop i xs ≡ x ∷ drop (i + 1) xs
drop_at [] i x e = absurd (grind arith)
drop_at (y ∷ ys) zero x e = ap (λ z. z ∷ ys) (same_Some y x e)
drop_at (y ∷ ys) (suc i) x e =
    let one : suc i + 1 ≡ suc (i + 1) = omega arith in drop_at ys i x e ∙ ap (λ n. x ∷ drop n (y ∷ ys)) (sym one)

-- where a rewriter inserts before op
put_there : (t : Tree) (op : ℕ) (head : Head) (point : OpInsertionPoint) → point ≡ BeforeOperation op → after_inserting (after_creating t head 1 0) point (length t.operations) ≡ with_constant t op head
put_there t op head point at =
    ap (λ p. after_inserting (after_creating t head 1 0) p (length t.operations)) at ∙ ap (λ o. put_next_to (after_creating t head 1 0) (length t.operations) op o) (get_grown t.parents None op)

-- constants stand for the results before index i: what folds the later ones, where these are folded, folds all from the start
pub record IsFolding (accepts : AttrObj → Bool) (head : AttrObj → Head) (op : ℕ) (answers : List (Option AttrObj)) (t : Tree) (i : ℕ) (made : List MaterialisedConstant) (now : Tree) : Type 0 where
  pub all_in_place : ArePutBefore op t made now
  pub reported : ReportsNew (status_of made) t (all_replaced made now)
  pub rest : (u : Tree) → Materialises accepts head op (drop i (results_of t op)) (drop i answers) (all_replaced made now) u → Materialises accepts head op (results_of t op) answers t u

module _ (accepts : AttrObj → Bool) (head : AttrObj → Head) (op : ℕ) (answers : List (Option AttrObj)) (t : Tree) where
  abbrev pub Folding : ℕ → List MaterialisedConstant → Tree → Type 0
  Folding i made now = IsFolding accepts head op answers t i made now

  abbrev Later : List ℕ → List (Option AttrObj) → Tree → Tree → Type 0
  Later vs more now u = Materialises accepts head op vs more now u

  pub folding_start : (made : List MaterialisedConstant) → made ≡ [] → Folding 0 made t
  folding_start made e = subst (λ l. Folding 0 l t) (sym e) (record { all_in_place = NoneYet; reported = refl; rest = λ u m. m })

  -- one more result: nothing is changed, or a constant stands for it
  one_kept : (i v : ℕ) (answer : Option AttrObj) (made : List MaterialisedConstant) (now : Tree) → Folding i made now → slice_get (results_of t op) i ≡ Some v → slice_get answers i ≡ Some answer → ((vs : List ℕ) (more : List (Option AttrObj)) (u : Tree) → Later vs more (all_replaced made now) u → Later (v ∷ vs) (answer ∷ more) (all_replaced made now) u) → Folding (i + 1) made now
  one_kept i v answer made now f at said step =
      record {
        all_in_place = f.all_in_place;
        reported = f.reported;
        rest = λ u m. f.rest u (subst (λ z. Later z (drop i answers) (all_replaced made now) u) (sym (drop_at (results_of t op) i v at)) (subst (λ z. Later (v ∷ drop (i + 1) (results_of t op)) z (all_replaced made now) u) (sym (drop_at answers i answer said)) (step _ _ u m)));
      }

  pub folding_unknown : (i : ℕ) (answer : Option AttrObj) (made : List MaterialisedConstant) (now : Tree) → Folding i made now → i < length (results_of t op) → slice_get answers i ≡ Some answer → answer ≡ None → Folding (i + 1) made now
  folding_unknown i answer made now f lt said none =
      one_kept i _ None made now f (slice_get-get_or (results_of t op) i 0 lt) (said ∙ ap Some none) (λ vs more u m. Unknown m)

  one_stands : (i v : ℕ) (attr : AttrObj) (made : List MaterialisedConstant) (now : Tree) → Folding i made now → slice_get (results_of t op) i ≡ Some v → slice_get answers i ≡ Some (Some attr) → IsTree now → IsSome (parent_of now op) → IsDefined now v → IsTrue (accepts attr) → Folding (i + 1) (made ++ insert_constant now v ∷ []) (with_constant now op (head attr))
  one_stands i v attr made now f at said w placed defined accepted =
      let folded : Tree = all_replaced made now in
      let e = another_folds made now op v (head attr) in
      record {
        all_in_place = Another v (head attr) f.all_in_place w placed defined;
        reported = subst (λ s. ReportsNew s t (all_replaced (made ++ insert_constant now v ∷ []) (with_constant now op (head attr)))) (sym (status_more made (insert_constant now v))) (subst (ReportsNew Changed t) (sym e) (told_put (status_of made) t folded op v (head attr) f.reported));
        rest = λ u m. f.rest u (subst (λ z. Later z (drop i answers) folded u) (sym (drop_at (results_of t op) i v at)) (subst (λ z. Later (v ∷ drop (i + 1) (results_of t op)) z folded u) (sym (drop_at answers i (Some attr) said)) (Put accepted (subst (λ z. Later (drop (i + 1) (results_of t op)) (drop (i + 1) answers) z u) e m))));
      }

  pub folding_over : (i v : ℕ) (answer : Option AttrObj) (attr : AttrObj) (made : List MaterialisedConstant) (now next : Tree) → Folding i made now → slice_get (results_of t op) i ≡ Some v → slice_get answers i ≡ Some answer → answer ≡ Some attr → (accepts attr ≡ false) × (next ≡ now) → Folding (i + 1) made next
  folding_over i v answer attr made now next f at said some over =
      subst (Folding (i + 1) made) (sym over.1) (one_kept i v (Some attr) made now f at (said ∙ ap Some some) (λ vs more u m. PassedOver over.0 m))

  pub folding_put : (i v c : ℕ) (answer : Option AttrObj) (attr : AttrObj) (point : OpInsertionPoint) (made made' : List MaterialisedConstant) (now between next : Tree) → Folding i made now → slice_get (results_of t op) i ≡ Some v → slice_get answers i ≡ Some answer → answer ≡ Some attr → IsSome (parent_of now op) → IsDefined now v → IsTrue (accepts attr) → IsMadeConstant now between c (head attr) → point ≡ BeforeOperation op → next ≡ after_inserting between point c → made' ≡ made ++ insert_constant now v ∷ [] → Folding (i + 1) made' next
  folding_put i v c answer attr point made made' now between next f at said some placed defined accepted fresh before is more =
      let there : next ≡ with_constant now op (head attr) =
      is ∙ ap (λ z. after_inserting z point c) fresh.made ∙ ap (λ n. after_inserting (after_creating now (head attr) 1 0) point n) fresh.key ∙ put_there now op (head attr) point before in
      subst (λ l. Folding (i + 1) l next) (sym more) (subst (Folding (i + 1) (made ++ insert_constant now v ∷ [])) (sym there) (one_stands i v attr made now f at (said ∙ ap Some some) fresh.tree placed defined accepted))

  pub folding_end : (i : ℕ) (made : List MaterialisedConstant) (now : Tree) → Folding i made now → (length (results_of t op) ≤ i) ⊎ (length answers ≤ i) → FoldsByConstants accepts head op answers t made now
  folding_end i made now f past = record { all_in_place = f.all_in_place; folds = all past; reported = f.reported }
    where
      all : (length (results_of t op) ≤ i) ⊎ (length answers ≤ i) → Later (results_of t op) answers t (all_replaced made now)
      all (inl le) = f.rest (all_replaced made now) (subst (λ z. Later z (drop i answers) (all_replaced made now) (all_replaced made now)) (sym (drop_all i (results_of t op) le)) Finished)
      all (inr le) = f.rest (all_replaced made now) (subst (λ z. Later (drop i (results_of t op)) z (all_replaced made now) (all_replaced made now)) (sym (drop_all i answers le)) Unanswered)

-- all constants stand, and each got the uses of its result
pub finished : (m : Meaning) (constants : Constants) (accepts : AttrObj → Bool) (head : AttrObj → Head) (op : ℕ) (known answers listed_answers : List (Option AttrObj)) (t u z : Tree) (made listed : List MaterialisedConstant) (status : IRStatus) → ReadsShape m (λ s. constants s known) t op answers → listed_answers ≡ answers → FoldsByConstants accepts head op listed_answers t made u → listed ≡ made → z ≡ all_replaced listed u → status ≡ status_of listed → materialising_outcome m constants accepts head t z op known (Some status)
finished m constants accepts head op known answers listed_answers t u z made listed status reads same_answers stood same is answer =
    let folded : z ≡ all_replaced made u = is ∙ ap (λ l. all_replaced l u) same in
    let reported : status ≡ status_of made = answer ∙ ap status_of same in
    let all : Materialises accepts head op (results_of t op) answers t (all_replaced made u) = subst (λ l. Materialises accepts head op (results_of t op) l t (all_replaced made u)) same_answers stood.folds in
    let outcome : materialising_outcome m constants accepts head t (all_replaced made u) op known (Some (status_of made)) = (outcome_of m constants accepts head op known answers t (all_replaced made u) reads all, told_change (status_of made) t (all_replaced made u) stood.reported) in
    subst (λ a. materialising_outcome m constants accepts head t z op known (Some a)) (sym reported) (subst (λ x. materialising_outcome m constants accepts head t x op known (Some (status_of made))) (sym folded) outcome)
