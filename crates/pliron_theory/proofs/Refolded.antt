-- Folding a branch by constants that are read keeps what roots do.
use Rattle.std.proofs.Common.{◌≡◌, ℕ, zero, suc, true, List, [], ◌∷◌, length, map, Option, Some, None, slice_get, refl, sym, ap, ap₂, ◌∙◌, subst, arith}
use Rattle.std.proofs.lemmas.List.{length-map}
use Rattle.pliron_core.specs.declared.attrs.AttrObj.{AttrObj}
use Rattle.pliron_core.specs.Tree.{Tree, In, IsInside, operands_of, successors_of, arguments_of}
use Rattle.pliron_core.proofs.HoldingLemmas.{some_is, not_none, in_slice}
use Rattle.pliron_laws.specs.Datum.{Datum, datum_of, Head, Shape, Meaning}
use Rattle.pliron_laws.specs.Tree.{Operation, op_at, block_at, entry_block, count_arguments, shape_of, unless}
use Rattle.pliron_laws.specs.States.{Environment, prepend_optional, data_of}
use Rattle.pliron_laws.specs.Acting.{ActAlike, PassesSame, AgreeWithKnown, pick}
use Rattle.pliron_laws.specs.Answers.{HeadPasses}
use Rattle.pliron_laws.specs.Linked.{IsAdmitted}
use Rattle.pliron_theory.specs.Keeps.{IsFit}
use Rattle.pliron_theory.specs.Rebranching.{ActsInPlace, FitsInPlace}
use Rattle.pliron_laws.specs.Replacing.{branch_shape, JumpsTo}
use Rattle.pliron_laws.proofs.Records.{op_shows}
use Rattle.pliron_theory.proofs.Alike.{data_long}
use Rattle.pliron_theory.proofs.KnownData.{picked_at, put_both}
use Rattle.pliron_theory.proofs.RebranchedStays.{rebranched_keeps}
use Rattle.pliron_theory.specs.Refolded.{AreReadAs, IsRefolded, RefoldingLaw}

-- the datum of one operand
datum_read : (env : Environment) (vs : List ℕ) (ds : List Datum) → data_of env vs ≡ Some ds → (n v : ℕ) → slice_get vs n ≡ Some v → (d : Datum) × (slice_get ds n ≡ Some d) × (env v ≡ Some d)
datum_read env [] ds e n v at = absurd (not_none at)
datum_read env (w ∷ vs) ds e zero v at =
    let x = put_both (env w) (data_of env vs) ds e in
    (x.0, ap (λ z. slice_get z zero) (sym x.4), ap env (sym (some_is at)) ∙ x.2)
datum_read env (w ∷ vs) ds e (suc n) v at =
    let x = put_both (env w) (data_of env vs) ds e in
    let y = datum_read env vs x.1 x.3 n v at in
    (y.0, ap (λ z. slice_get z (suc n)) (sym x.4) ∙ y.1, y.2)

-- the data of picked operands are the picked data
data_picked : (env : Environment) (vs : List ℕ) (ds : List Datum) → data_of env vs ≡ Some ds → (places ws : List ℕ) → map Some ws ≡ pick places vs → (es : List Datum) × (data_of env ws ≡ Some es) × (map Some es ≡ pick places ds)
data_picked env vs ds e [] [] p = ([], refl, refl)
data_picked env vs ds e [] (w ∷ ws) p = grind arith
data_picked env vs ds e (q ∷ places) [] p = grind arith
data_picked env vs ds e (q ∷ places) (w ∷ ws) p =
    let here : Some w ≡ slice_get vs q = cc in
    let rest : map Some ws ≡ pick places vs = cc in
    let x = datum_read env vs ds e q w (sym here) in
    let y = data_picked env vs ds e places ws rest in
    (x.0 ∷ y.0, ap₂ prepend_optional x.2 y.1, ap₂ (λ a b. a ∷ b) (sym x.1) y.2)

-- what is known is what is read
pub known_read : (env : Environment) (known : List (Option AttrObj)) (vs : List ℕ) (ds : List Datum) → length known ≡ length vs → data_of env vs ≡ Some ds → ((j v : ℕ) (c : AttrObj) → slice_get vs j ≡ Some v → slice_get known j ≡ Some (Some c) → env v ≡ Some (datum_of c)) → AgreeWithKnown known ds
known_read env [] [] ds l e so = let f : [] ≡ ds = some_is e in subst (AgreeWithKnown []) f tt
known_read env [] (v ∷ vs) ds l e so = grind arith
known_read env (a ∷ known) [] ds l e so = grind arith
known_read env (a ∷ known) (v ∷ vs) ds l e so =
    let x = put_both (env v) (data_of env vs) ds e in
    let rest = known_read env known vs x.1 (grind (arith, l)) x.3 (λ j w c at is. so (suc j) w c at is) in
    subst (AgreeWithKnown (a ∷ known)) x.4 (go a refl x.0 x.1 x.2 rest)
  where
    go : (b : Option AttrObj) → a ≡ b → (d : Datum) (others : List Datum) → env v ≡ Some d → AgreeWithKnown known others → AgreeWithKnown (b ∷ known) (d ∷ others)
    go None s d others e k = k
    go (Some c) s d others e k = (sym (some_is (sym e ∙ so zero v c refl (ap Some s))), k)

length_picked : {A : Type 0} (xs : List A) (places : List ℕ) (ys : List A) → map Some xs ≡ pick places ys → length xs ≡ length places
length_picked xs places ys e = sym (length-map xs Some) ∙ ap length e ∙ length-map places (λ i. slice_get ys i)

counted : (m : Meaning) (t : Tree) (o : Operation) → length o.operands ≡ (shape_of m t o).operands
unfolding shape_of
counted m t o = refl

-- the new branch is admitted
pub refolded_admitted : (m : Meaning) (t t' : Tree) (a op new : ℕ) (front : List ℕ) (known : List (Option AttrObj)) → IsRefolded m t t' a op new front known → IsAdmitted m t' new
refolded_admitted m t t' a op new front known h x e =
    let p = length_picked (operands_of t' new) h.places h.operation.operands h.operands in
    let q = length_picked (successors_of t' new) h.edges h.operation.successors h.replaces.targets_kept in
    let z : h.head ≡ x = some_is (sym h.new_head ∙ e) in
    rw (p, q, ap length h.placed.new_no_results, ap length h.placed.new_childless, sym z) h.replaces.admitted

module _ (m : Meaning) (t t' : Tree) (a op new : ℕ) (front : List ℕ) (known : List (Option AttrObj)) (branch : HeadPasses m.is_branch t op) (long : length known ≡ length (operands_of t op)) (h : IsRefolded m t t' a op new front known) (so : AreReadAs m t op known) where
  s : Shape
  s = shape_of m t h.operation

  -- the shape of the new branch
  new_shape : (o : Operation) → op_at t' new ≡ Some o → shape_of m t' o ≡ branch_shape h.head (length h.places) (length h.edges)
  unfolding shape_of
  new_shape o e =
      let x = op_shows t' new o e in
      let head : o.head ≡ h.head = some_is (sym x.head ∙ h.new_head) in
      let results : o.results ≡ [] = sym x.results ∙ h.placed.new_no_results in
      let regions : o.regions ≡ [] = sym x.regions ∙ h.placed.new_childless in
      let operands : length o.operands ≡ length h.places = ap length (sym x.operands) ∙ length_picked (operands_of t' new) h.places h.operation.operands h.operands in
      let successors : length o.successors ≡ length h.edges = ap length (sym x.successors) ∙ length_picked (successors_of t' new) h.edges h.operation.successors h.replaces.targets_kept in
      let is : m.is_branch o.head ≡ true = ap m.is_branch head ∙ h.replaces.branch in
      built o.head h.head head (length o.operands) (length h.places) operands (length o.results) (ap length results) (length o.successors) (length h.edges) successors _ (ap (map (λ r. count_arguments (entry_block t' r))) regions) _ (ap (λ z. unless z (map (λ b. count_arguments (block_at t' b)) o.successors)) is)
    where
      built : (x x' : Head) → x ≡ x' → (p p' : ℕ) → p ≡ p' → (r : ℕ) → r ≡ 0 → (q q' : ℕ) → q ≡ q' → (es : List ℕ) → es ≡ [] → (ts : Option (List ℕ)) → ts ≡ None → ◌≡◌ {A = Shape} (record { head = x; operands = p; results = r; successors = q; entry_arguments = es; target_arguments = ts }) (branch_shape x' p' q')
      built x x' a p p' b r c q q' d es e ts f = cc

  acts : (root : ℕ) → IsFit m t root → ActsInPlace m t t' root op new
  acts root f st rest o o' first r at none e e' reads =
      let same : h.operation ≡ o = some_is (sym h.liveness ∙ e) in
      let x = op_shows t' new o' e' in
      let picked : map Some o'.operands ≡ pick h.places o.operands = ap (map Some) (sym x.operands) ∙ h.operands ∙ ap (λ z. pick h.places z.operands) same in
      let y = data_picked st.environment o.operands first reads h.places o'.operands picked in
      let old = op_shows t op o e in
      let knows : AgreeWithKnown known first = known_read st.environment known o.operands first (long ∙ ap length old.operands) reads (λ j v c at' is. so root j v c f (ap (λ z. slice_get z j) old.operands ∙ at') is st op rest r at none (subst (In v) (sym old.operands) (in_slice o.operands j v at'))) in
      let alike = h.replaces.alike first y.0 (data_long st.environment o.operands first reads ∙ ap (λ z. length z.operands) (sym same) ∙ counted m t h.operation) knows y.2 in
      let targets : h.operation.successors ≡ successors_of t op = sym (op_shows t op h.operation h.liveness).successors in (
        y.0,
        y.1,
        subst (λ z. ActAlike m.act PassesSame (JumpsTo (successors_of t op) (successors_of t' new)) z (shape_of m t' o') first y.0) (ap (shape_of m t) same)
            (subst (λ z. ActAlike m.act PassesSame (JumpsTo (successors_of t op) (successors_of t' new)) (shape_of m t h.operation) z first y.0) (sym (new_shape o' e'))
            (subst (λ z. ActAlike m.act PassesSame (JumpsTo z (successors_of t' new)) (shape_of m t h.operation) (branch_shape h.head (length h.places) (length h.edges)) first y.0) targets alike)),
      )

  fits : (root : ℕ) → IsFit m t root → IsInside t root op → FitsInPlace m t' new
  fits root f inside = record {
    admitted = refolded_admitted m t t' a op new front known h;
    forwards = λ o i c e is at. forwards o i c e at;
  }
    where
      forwards : (o : Operation) (i c : ℕ) → op_at t' new ≡ Some o → slice_get o.successors i ≡ Some c → length (m.forwarded (shape_of m t' o) i) ≡ length (arguments_of t' c)
      forwards o i c e at =
          let x = op_shows t' new o e in
          let there : slice_get (successors_of t' new) i ≡ Some c = ap (λ z. slice_get z i) x.successors ∙ at in
          let q = picked_at h.edges h.operation.successors i (Some c) (ap (λ z. slice_get z i) (sym h.replaces.targets_kept) ∙ mapped (successors_of t' new) i c there) in
          let kept = h.replaces.values_kept i q.0 q.1 in
          let old = f.defined.forwards op q.0 c h.operation inside h.liveness (branch h.operation.head (op_shows t op h.operation h.liveness).head) q.2 in
          ap (λ z. length (m.forwarded z i)) (new_shape o e)
          ∙ sym (length-map (m.forwarded (branch_shape h.head (length h.places) (length h.edges)) i) (λ j. slice_get h.places j)) ∙ ap length kept ∙ length-map (m.forwarded (shape_of m t h.operation) q.0) Some
          ∙ old ∙ ap length (sym (h.placed.arguments c))
        where
          mapped : (xs : List ℕ) (n y : ℕ) → slice_get xs n ≡ Some y → slice_get (map Some xs) n ≡ Some (Some y)
          mapped [] n y f = absurd (not_none f)
          mapped (z ∷ xs) zero y f = ap Some f
          mapped (z ∷ xs) (suc n) y f = mapped xs n y f

pub refolded : RefoldingLaw
refolded m t t' a op new front known w w' longer fresh branch long h so = rebranched_keeps m t t' a op new front w w' h.placed longer fresh (λ root f inside. fits m t t' a op new front known branch long h so root f inside) (λ root f. acts m t t' a op new front known branch long h so root f)
