-- The branches of a dialect of roles, with any number of edges, keep the law on branches.
use Rattle.std.proofs.Common.{◌≡◌, ◌⊎◌, inl, inr, ℕ, zero, suc, ◌+◌, ◌-◌, ◌<◌, ◌≤◌, Bool, true, false, true≢false, nat_eq, nat_lt, ◌&&◌, if◌then◌else◌, List, [], ◌∷◌, Option, Some, None, length, slice_get, slice_set, map, remove, take, drop, IsTrue, refl, ap, ap₂, sym, ◌∙◌, subst, arith}
use Rattle.std.specs.Option.{option_map}
use Rattle.std.specs.Prelude.{pos, ℤ}
use Rattle.std.specs.List.{range_with_len}
use Rattle.pliron_core.specs.declared.attrs.Head.{Head}
use Rattle.pliron_core.specs.declared.attrs.AttrObj.{AttrObj}
use Rattle.pliron_core.specs.declared.attrs.AttrObj.TheVariants.{Int}
use Rattle.pliron_core.specs.Lists.{In}
use Rattle.pliron_core.proofs.GrownLemmas.{range_at}
use Rattle.pliron_laws.specs.Datum.{Datum, Empty, Shape, Move, Give, Visit, Goto, Leave, Emit, Trap}
use Rattle.pliron_laws.specs.Acting.{MovesAlike, ActAlike, PassesSame, DropsAt, pick}
use Rattle.pliron_laws.specs.Laws.{moved_up, fewer_operands, IsHeadBut, LosesOperand, ForwardsOperands}
use Rattle.pliron_laws.specs.PlaceLaws.{pick_all}
use Rattle.pliron_dialect.specs.Ranges.{in_range, range_without}
use Rattle.pliron_dialect.specs.declared.form.Counting.{Counting}
use Rattle.pliron_dialect.specs.Counted.{counts_by, counts_fit, all_counted, fits_again, fewer_by, fewer_counted_by, counted_attributes, rest_kept, one_other, total, start_of, count_of, fewer, edge_range, values_of_edge, fewer_total, edge_within, edges_distinct, edge_passes, edges_lose, capped_places, uncapped, capped_get, value_there, value_else}
use Rattle.pliron_dialect.specs.Roles.{Interpretation, Role, Allows, Fits, RoleFits, RolesFit, Jumps, Chooses, first_number, edge_chosen, head_without_counts, edge_or, chosen_edge, edge_counts_of, by_role, by_form, form_of, act_of, no_act, branches, folds_of, places_by, jump_range, takes_by, meaning_by, folds_by, branch_folds_by, is_of_number, interfaces_by, shortened_by, shortened_of}
use Rattle.pliron_laws.specs.InPlace.{PassSameTests}
use Rattle.pliron_dialect.specs.Parts.{Admits, AdmitsAll, comes_first, three, both_parts, both_true, same, same_true, below}
use Rattle.pliron_dialect.specs.FoldLaws.{branch_quiet}

-- the tests of the dialect read the same of both heads
abbrev pub SameTests : Interpretation → (ℕ → Option Role) → Allows → {K : Type 0} → (K → ℕ) → Head → Head → Type 0
SameTests value roles allows number_of = PassSameTests (meaning_by value roles allows) (folds_by roles) (branch_folds_by roles) (is_of_number number_of) (interfaces_by roles)

-- ---- what branches have beside their edges

no_length : {A : Type 0} (xs : List A) → length xs ≡ 0 → xs ≡ []
no_length [] e = refl
no_length (x ∷ xs) e = grind arith

-- what a branch of many edges may have
pub record IsChoice (counting : Counting) (h : Head) (a b c d : ℕ) : Type 0 where
  pub fits : IsTrue (counts_fit counting h.attrs c a)
  pub operands : suc (total (counts_by counting c a h.attrs)) ≡ a
  pub results : b ≡ 0
  pub successors : 1 < c
  pub regions : d ≡ 0

pub is_choice : (counting : Counting) (choose : ℕ → List AttrObj → ℤ → Option ℕ) (h : Head) (a b c d : ℕ) → IsTrue (takes_by h a b c d (Chooses counting choose)) → IsChoice counting h a b c d
is_choice counting choose h a b c d t =
    let p = both_parts (counts_fit counting h.attrs c a) _ t in
    let q = three b 0 _ p.1 in
    let u = both_parts (nat_lt 1 c) (nat_eq d 0) q.1 in
    record { fits = p.0; operands = all_counted counting h.attrs c a p.0; results = q.0; successors = below 1 c u.0; regions = same d 0 u.1 }

pub choice_taken : (counting : Counting) (choose : ℕ → List AttrObj → ℤ → Option ℕ) (h : Head) (a b c d : ℕ) → IsTrue (counts_fit counting h.attrs c a) → b ≡ 0 → 1 < c → d ≡ 0 → IsTrue (takes_by h a b c d (Chooses counting choose))
choice_taken counting choose h a b c d fits results successors regions =
    both_true _ _ fits
    (both_true _ _ (same_true b 0 results)
    (both_true _ _ (below_true 1 c successors) (same_true d 0 regions)))
  where
    below_true : (x y : ℕ) → x < y → IsTrue (nat_lt x y)
    below_true x y lt = search (Rattle.std.proofs.Common.rules, arith)

jump_counts : (s : Shape) → Admits (Some Jumps) s → (s.results ≡ 0) × (s.successors ≡ 1) × (length s.entry_arguments ≡ 0)
jump_counts s h =
    let p = three s.results 0 _ h in
    let q = three s.successors 1 _ p.1 in (p.0, q.0, same (length s.entry_arguments) 0 q.1)

choice_of : (counting : Counting) (choose : ℕ → List AttrObj → ℤ → Option ℕ) (s : Shape) → Admits (Some (Chooses counting choose)) s → IsChoice counting s.head s.operands s.results s.successors (length s.entry_arguments)
choice_of counting choose s h = is_choice counting choose s.head s.operands s.results s.successors (length s.entry_arguments) h

role_alone : (k : Role) (s : Shape) → IsTrue (branches (form_of k)) → Admits (Some k) s → (s.results ≡ 0) × (s.entry_arguments ≡ []) × (folds_of (form_of k) ≡ false)
role_alone Jumps s br h = let c = jump_counts s h in (c.0, no_length s.entry_arguments c.2, refl)
role_alone (Chooses counting choose) s br h = let c = choice_of counting choose s h in (c.results, no_length s.entry_arguments c.regions, refl)
role_alone _ s br h = grind arith

alone : (o : Option Role) (s : Shape) → Admits o s → IsTrue (by_form false branches (option_map form_of o)) → (s.results ≡ 0) × (s.entry_arguments ≡ []) × (by_form false folds_of (option_map form_of o) ≡ false)
alone None s h br = grind arith
alone (Some k) s h br = role_alone k s br h

role_edge : (k : Role) (s : Shape) → IsTrue (branches (form_of k)) → Admits (Some k) s → 0 < s.successors
role_edge Jumps s br h = let c = jump_counts s h in omega (arith, c.1)
role_edge (Chooses counting choose) s br h = let c = choice_of counting choose s h in omega (arith, c.successors)
role_edge _ s br h = grind arith

some_edge : (o : Option Role) (s : Shape) → Admits o s → IsTrue (by_form false branches (option_map form_of o)) → 0 < s.successors
some_edge None s h br = grind arith
some_edge (Some k) s h br = role_edge k s br h

-- ---- places

abbrev pub edge_places : Option Role → Shape → ℕ → List ℕ
edge_places o s i = by_role [] (places_by s i) o

pub nowhere : {A : Type 0} (k p : ℕ) → slice_get [] k ≡ Some p → A
nowhere k p e = grind arith

jump_within : (n i p : ℕ) → In p (jump_range n i) → p < n
jump_within n zero p h = omega (arith, (in_range n 0 p h).1)
jump_within n (suc i) p h = absurd h

role_within : (k : Role) (s : Shape) (i p : ℕ) → IsTrue (branches (form_of k)) → Admits (Some k) s → In p (edge_places (Some k) s i) → p < s.operands
role_within Jumps s i p br h l = jump_within s.operands i p l
role_within (Chooses counting choose) s i p br h l = edge_within (edge_counts_of counting s) i p s.operands (choice_of counting choose s h).operands (subst (In p) (uncapped s.operands (edge_counts_of counting s) i (choice_of counting choose s h).operands) l)
role_within _ s i p br h l = grind arith

within : (o : Option Role) (s : Shape) (i p : ℕ) → Admits o s → IsTrue (by_form false branches (option_map form_of o)) → In p (edge_places o s i) → p < s.operands
within None s i p h br l = grind arith
within (Some k) s i p h br l = role_within k s i p br h l

jump_distinct : (n i j k l p : ℕ) → slice_get (jump_range n i) k ≡ Some p → slice_get (jump_range n j) l ≡ Some p → (i ≡ j) × (k ≡ l)
jump_distinct n zero zero k l p e f = (refl, omega (arith, (range_at 0 n k p e).0, (range_at 0 n l p f).0))
jump_distinct n zero (suc j) k l p e f = nowhere l p f
jump_distinct n (suc i) j k l p e f = nowhere k p e

role_distinct : (k : Role) (s : Shape) (i j u v p : ℕ) → IsTrue (branches (form_of k)) → slice_get (edge_places (Some k) s i) u ≡ Some p → slice_get (edge_places (Some k) s j) v ≡ Some p → (i ≡ j) × (u ≡ v)
role_distinct Jumps s i j u v p br e f = jump_distinct s.operands i j u v p e f
role_distinct (Chooses counting choose) s i j u v p br e f = edges_distinct (edge_counts_of counting s) i j u v p (capped_get s.operands (edge_counts_of counting s) i u p e) (capped_get s.operands (edge_counts_of counting s) j v p f)
role_distinct _ s i j u v p br e f = grind arith

pub distinct : (o : Option Role) (s : Shape) (i j u v p : ℕ) → IsTrue (by_form false branches (option_map form_of o)) → slice_get (edge_places o s i) u ≡ Some p → slice_get (edge_places o s j) v ≡ Some p → (i ≡ j) × (u ≡ v)
distinct None s i j u v p br e f = grind arith
distinct (Some k) s i j u v p br e f = role_distinct k s i j u v p br e f

-- ---- what a jump passes

abbrev pub PassesAt : (ℕ → List ℕ) → List Datum → Move → Type 0
PassesAt places first (Goto i ds) = map Some ds ≡ pick (places i) first
PassesAt places first (Give ds) = Unit {0}
PassesAt places first (Visit i ds memo) = Unit {0}
PassesAt places first (Leave ds) = Unit {0}
PassesAt places first (Emit e memo) = Unit {0}
PassesAt places first Trap = Unit {0}

role_passes : (value : Interpretation) (k : Role) (s : Shape) (memo : Datum) (first : List Datum) → IsTrue (branches (form_of k)) → Admits (Some k) s → length first ≡ s.operands → PassesAt (edge_places (Some k) s) first (act_of value k s memo first)
role_passes value Jumps s memo first br h l = sym (pick_all first s.operands l)
role_passes value (Chooses counting choose) s memo first br h l = edge_passes (edge_counts_of counting s) (edge_chosen value counting choose s first) first ((choice_of counting choose s h).operands ∙ sym l) ∙ ap (λ z. pick z first) (sym (uncapped s.operands (edge_counts_of counting s) (edge_chosen value counting choose s first) (choice_of counting choose s h).operands))
role_passes value _ s memo first br h l = grind arith

passes : (value : Interpretation) (o : Option Role) (s : Shape) (memo : Datum) (first : List Datum) → Admits o s → IsTrue (by_form false branches (option_map form_of o)) → length first ≡ s.operands → PassesAt (edge_places o s) first (by_role no_act (act_of value) o s memo first)
passes value None s memo first h br l = tt
passes value (Some k) s memo first h br l = role_passes value k s memo first br h l

role_at_once : (value : Interpretation) (k : Role) (s : Shape) (first : List Datum) → IsTrue (branches (form_of k)) → Admits (Some k) s → s.successors ≡ 1 → (ds : List Datum) × (act_of value k s Empty first ≡ Goto 0 ds)
role_at_once value Jumps s first br h e = (first, refl)
role_at_once value (Chooses counting choose) s first br h e = absurd (omega (arith, e, (choice_of counting choose s h).successors))
role_at_once value _ s first br h e = grind arith

at_once : (value : Interpretation) (o : Option Role) (s : Shape) (first : List Datum) → Admits o s → IsTrue (by_form false branches (option_map form_of o)) → s.successors ≡ 1 → (ds : List Datum) × (by_role no_act (act_of value) o s Empty first ≡ Goto 0 ds)
at_once value None s first h br e = grind arith
at_once value (Some k) s first h br e = role_at_once value k s first br h e

-- ---- a branch without one of its operands

abbrev JumpsLess : ℕ → ℕ → ℕ → List Datum → ℕ → List Datum → Type 0
JumpsLess i j k ds l es = (l ≡ k) × DropsAt i j k ds es

pub goto_alike : (visits : ℕ → List Datum → List Datum → Type 0) (gotos : ℕ → List Datum → ℕ → List Datum → Type 0) (i j : ℕ) (ds es : List Datum) → gotos i ds j es → MovesAlike visits gotos (Goto i ds) (Goto j es)
goto_alike visits gotos i j ds es g = record {
  give = λ xs e. grind arith;
  visit = λ n xs memo e. grind arith;
  goto = λ n xs e. (j, es, refl, subst (λ m. gotos (index_of m) (values_of m) j es) e g);
  leave = λ xs e. grind arith;
  emit = λ d memo e. grind arith;
  traps = λ e. grind arith;
}
  where
    index_of : Move → ℕ
    index_of (Goto n xs) = n
    index_of (Give xs) = 0
    index_of (Visit n xs memo) = 0
    index_of (Leave xs) = 0
    index_of (Emit d memo) = 0
    index_of Trap = 0

    values_of : Move → List Datum
    values_of (Goto n xs) = xs
    values_of (Give xs) = []
    values_of (Visit n xs memo) = []
    values_of (Leave xs) = []
    values_of (Emit d memo) = []
    values_of Trap = []

nothing_without : (b : Bool) (p j : ℕ) → [] ≡ map (moved_up p) (if b then remove [] j else [])
nothing_without true p zero = refl
nothing_without true p (suc j) = refl
nothing_without false p j = refl

jump_edges : (n j p k : ℕ) → slice_get (jump_range n 0) j ≡ Some p → jump_range (n - 1) k ≡ map (moved_up p) (if nat_eq k 0 then remove (jump_range n k) j else jump_range n k)
jump_edges zero j p zero e = nowhere j p e
jump_edges (suc n) j p zero e = let a = range_at 0 (suc n) j p e in ap (range_with_len 0) (omega arith) ∙ sym (range_without p n 0 j (omega (arith, a.0)) (omega (arith, a.1)))
jump_edges n j p (suc k) e = nothing_without (nat_eq (suc k) 0) p j

-- the values of an edge whatever edge is taken
choice_loses : (ns : List ℕ) (i j p k : ℕ) (first : List Datum) → p ≡ suc (start_of ns i) + j → j < count_of ns i → suc (total ns) ≡ length first → DropsAt i j k (values_of_edge ns k first) (values_of_edge (fewer ns i) k (remove first p))
choice_loses ns i j p k [] e lt l = absurd (omega (arith, l))
choice_loses ns i j zero k (d ∷ ds) e lt l = absurd (omega (arith, e))
choice_loses ns i j (suc q) k (d ∷ ds) e lt l = by_order (order k i)
  where
    order : (a b : ℕ) → (a ≡ b) ⊎ ((a < b) ⊎ (b < a))
    order zero zero = inl refl
    order zero (suc b) = inr (inl (omega arith))
    order (suc a) zero = inr (inr (omega arith))
    order (suc a) (suc b) = again (order a b)
      where
        again : (a ≡ b) ⊎ ((a < b) ⊎ (b < a)) → (suc a ≡ suc b) ⊎ ((suc a < suc b) ⊎ (suc b < suc a))
        again (inl f) = inl (ap suc f)
        again (inr (inl f)) = inr (inl (omega (arith, f)))
        again (inr (inr f)) = inr (inr (omega (arith, f)))

    by_order : (k ≡ i) ⊎ ((k < i) ⊎ (i < k)) → DropsAt i j k (values_of_edge ns k (d ∷ ds)) (values_of_edge (fewer ns i) k (d ∷ remove ds q))
    by_order (inl f) = inl (f, subst (λ x. values_of_edge (fewer ns i) x (d ∷ remove ds q) ≡ remove (values_of_edge ns x (d ∷ ds)) j) (sym f) (value_there ns i j q d ds (omega (arith, e)) lt (omega (arith, l))))
    by_order (inr f) = inr (differs f, value_else ns i j q k d ds (omega (arith, e)) lt (omega (arith, l)) f)
      where
        differs : (k < i) ⊎ (i < k) → k ≡ i → ⊥
        differs (inl x) g = omega (arith, x, g)
        differs (inr x) g = omega (arith, x, g)

module _ (value : Interpretation) (roles : ℕ → Option Role) (allows : Allows) {K : Type 0} (number_of : K → ℕ) where
  alike_at_once : (s s' : Shape) (first first' : List Datum) (i j : ℕ) → IsTrue ((meaning_by value roles allows).is_branch s.head) → MovesAlike PassesSame (JumpsLess i j) ((meaning_by value roles allows).act s Empty first) ((meaning_by value roles allows).act s' Empty first') → ActAlike (meaning_by value roles allows).act PassesSame (JumpsLess i j) s s' first first'
  unfolding meaning_by
  alike_at_once s s' first first' i j br begin = record {
    begin = begin;
    later = λ memo input comes. absurd (true≢false (comes_first _ s first true memo input (branch_quiet value (roles s.head.kind) s br) comes).once);
  }

  same_tests : (h : Head) (attrs : List AttrObj) → SameTests value roles allows number_of h (record h { attrs = attrs })
  unfolding meaning_by folds_by branch_folds_by is_of_number interfaces_by
  same_tests h attrs = record { terminator = refl; branch = refl; folds = refl; folds_branch = refl; kinds = λ kind. refl; interfaces = λ interface. refl }

  jump_loses : (o : Option Role) (s : Shape) (j p : ℕ) → o ≡ Some Jumps → roles s.head.kind ≡ o → Admits o s → IsTrue (allows s.head (s.operands - 1) s.results s.successors (length s.entry_arguments)) → slice_get (jump_range s.operands 0) j ≡ Some p → LosesOperand (meaning_by value roles allows) (SameTests value roles allows number_of) s 0 j p s.head
  unfolding meaning_by
  jump_loses o s j p f e h allowed at = record {
    same_head = inl refl;
    same_tests = same_tests s.head s.head.attrs;
    admitted = both_true _ _ (subst (λ x. Admits x (fewer_operands s s.head)) (sym (e ∙ f)) (subst (λ x. Admits x s) f h)) allowed;
    same_edges = λ k. subst (λ x. edge_places x (fewer_operands s s.head) k ≡ map (moved_up p) (if nat_eq k 0 then remove (edge_places x s k) j else edge_places x s k)) (sym (e ∙ f)) (jump_edges s.operands j p k at);
    alike = λ first l. alike_at_once s (fewer_operands s s.head) first (remove first p) 0 j (subst (λ x. IsTrue (by_form false branches (option_map form_of x))) (sym (e ∙ f)) refl)
        (subst (λ x. MovesAlike PassesSame (JumpsLess 0 j) (by_role no_act (act_of value) x s Empty first) (by_role no_act (act_of value) x (fewer_operands s s.head) Empty (remove first p))) (sym (e ∙ f)) (goto_alike PassesSame (JumpsLess 0 j) 0 0 first (remove first p) (refl, inl (refl, ap (remove first) (omega (arith, (range_at 0 s.operands j p at).0))))));
  }

  -- the condition stays
  condition_kept : (first : List Datum) (p : ℕ) → 0 < p → first_number (remove first p) ≡ first_number first
  condition_kept first zero lt = absurd (omega (arith, lt))
  condition_kept [] (suc p) lt = refl
  condition_kept (d ∷ ds) (suc p) lt = refl

  taken_kept : (first : List Datum) (p : ℕ) → 0 < p → take 1 (remove first p) ≡ take 1 first
  taken_kept first zero lt = absurd (omega (arith, lt))
  taken_kept [] (suc p) lt = refl
  taken_kept (d ∷ ds) (suc p) lt = refl

  choice_without : (counting : Counting) (choose : ℕ → List AttrObj → ℤ → Option ℕ) (o : Option Role) (s : Shape) (i j p : ℕ) → o ≡ Some (Chooses counting choose) → roles s.head.kind ≡ o → Admits o s → i < s.successors → (0 < count_of (edge_counts_of counting s) i → IsTrue (allows (record s.head { attrs = fewer_by counting s.head.attrs s.successors i }) (s.operands - 1) s.results s.successors (length s.entry_arguments))) → slice_get (capped_places s.operands (edge_counts_of counting s) i) j ≡ Some p → LosesOperand (meaning_by value roles allows) (SameTests value roles allows number_of) s i j p (record s.head { attrs = fewer_by counting s.head.attrs s.successors i })
  unfolding meaning_by
  choice_without counting choose o s i j p f e h lt allowed capped_at =
      let at = capped_get s.operands (edge_counts_of counting s) i j p capped_at in
      let k = choice_of counting choose s (subst (λ x. Admits x s) f h) in
      let s' : Shape = fewer_operands s (record s.head { attrs = fewer_by counting s.head.attrs s.successors i }) in
      let place = range_at (suc (start_of (edge_counts_of counting s) i)) (count_of (edge_counts_of counting s) i) j p at in
      let some : 0 < count_of (edge_counts_of counting s) i = omega (arith, place.1) in
      let counts : edge_counts_of counting s' ≡ fewer (edge_counts_of counting s) i = fewer_counted_by counting s.successors s.operands i s.head.attrs lt some in
      let less : suc (total (edge_counts_of counting s')) ≡ s.operands - 1 = ap (λ ns. suc (total ns)) counts ∙ omega (arith, fewer_total (edge_counts_of counting s) i some, k.operands) in
      record {
        same_head = head_but (one_other counting s.successors i s.head.attrs);
        same_tests = same_tests s.head (fewer_by counting s.head.attrs s.successors i);
        admitted = both_true _ _ (subst (λ x. Admits x s') (sym (e ∙ f)) (choice_taken counting choose s'.head s'.operands s.results s.successors (length s.entry_arguments) (fits_again counting s.head.attrs s.successors s.operands i lt some k.fits) k.results k.successors k.regions)) (allowed some);
        same_edges = λ n. subst (λ x. edge_places x s' n ≡ map (moved_up p) (if nat_eq n i then remove (edge_places x s n) j else edge_places x s n)) (sym (e ∙ f)) (uncapped s'.operands (edge_counts_of counting s') n less ∙ ap (λ ns. edge_range ns n) counts ∙ edges_lose (edge_counts_of counting s) i j p n at ∙ ap (λ z. map (moved_up p) (if nat_eq n i then remove z j else z)) (sym (uncapped s.operands (edge_counts_of counting s) n k.operands)));
        alike = λ first l. alike_at_once s s' first (remove first p) i j (subst (λ x. IsTrue (by_form false branches (option_map form_of x))) (sym (e ∙ f)) refl)
            (subst (λ x. MovesAlike PassesSame (JumpsLess i j) (by_role no_act (act_of value) x s Empty first) (by_role no_act (act_of value) x s' Empty (remove first p))) (sym (e ∙ f))
            (let rest : drop (counted_attributes counting s.successors) (fewer_by counting s.head.attrs s.successors i) ≡ drop (counted_attributes counting s.successors) s.head.attrs = rest_kept counting s.successors i s.head.attrs lt in
            let edge : edge_chosen value counting choose s' (remove first p) ≡ edge_chosen value counting choose s first =
            ap₂ (λ attrs ds. edge_or value (record s.head { attrs = attrs }) ds (choose s.head.kind attrs (first_number (remove first p)))) rest (taken_kept first p (omega (arith, place.0)))
            ∙ ap (λ c. edge_or value (head_without_counts counting s) (take 1 first) (chosen_edge counting choose s c)) (condition_kept first p (omega (arith, place.0))) in
            goto_alike PassesSame (JumpsLess i j) (edge_chosen value counting choose s first) (edge_chosen value counting choose s' (remove first p)) (values_of_edge (edge_counts_of counting s) (edge_chosen value counting choose s first) first) (values_of_edge (edge_counts_of counting s') (edge_chosen value counting choose s' (remove first p)) (remove first p)) (
              edge,
              subst (λ x. DropsAt i j (edge_chosen value counting choose s first) (values_of_edge (edge_counts_of counting s) (edge_chosen value counting choose s first) first) (values_of_edge (edge_counts_of counting s') x (remove first p))) (sym edge)
                  (subst (λ ns. DropsAt i j (edge_chosen value counting choose s first) (values_of_edge (edge_counts_of counting s) (edge_chosen value counting choose s first) first) (values_of_edge ns (edge_chosen value counting choose s first) (remove first p))) (sym counts)
                  (choice_loses (edge_counts_of counting s) i j p (edge_chosen value counting choose s first) first place.0 place.1 (k.operands ∙ sym l))),
            )));
      }
    where
      head_but : (fewer_by counting s.head.attrs s.successors i ≡ s.head.attrs) ⊎ ((a : ℕ) × (x : AttrObj) × (fewer_by counting s.head.attrs s.successors i ≡ slice_set s.head.attrs a x)) → IsHeadBut s.head (record s.head { attrs = fewer_by counting s.head.attrs s.successors i })
      head_but (inl e) = inl (ap (λ attrs. record s.head { attrs = attrs }) e)
      head_but (inr (a, x, e)) = inr (a, x, ap (λ attrs. record s.head { attrs = attrs }) e)

  role_loses : (k : Role) (s : Shape) (i j p : ℕ) → roles s.head.kind ≡ Some k → Fits allows k s → RoleFits allows k s → IsTrue (branches (form_of k)) → i < s.successors → slice_get (edge_places (Some k) s i) j ≡ Some p → LosesOperand (meaning_by value roles allows) (SameTests value roles allows number_of) s i j p (shortened_by roles s i j)
  unfolding shortened_by
  role_loses Jumps s zero j p e h own br lt at = subst (λ x. LosesOperand (meaning_by value roles allows) (SameTests value roles allows number_of) s 0 j p (by_role s.head (shortened_of s 0) x)) (sym e) (jump_loses (Some Jumps) s j p refl e (both_parts _ _ h).0 (own (omega (arith, (range_at 0 s.operands j p at).1)) h) at)
  role_loses Jumps s (suc i) j p e h own br lt at = nowhere j p at
  role_loses (Chooses counting choose) s i j p e h own br lt at = subst (λ x. LosesOperand (meaning_by value roles allows) (SameTests value roles allows number_of) s i j p (by_role s.head (shortened_of s i) x)) (sym e) (choice_without counting choose (Some (Chooses counting choose)) s i j p refl e (both_parts _ _ h).0 lt (λ some. own i lt some h) at)
  role_loses _ s i j p e h own br lt at = grind arith

  loses : (o : Option Role) (s : Shape) (i j p : ℕ) → roles s.head.kind ≡ o → AdmitsAll allows o s → ((r : Role) → o ≡ Some r → RoleFits allows r s) → IsTrue (by_form false branches (option_map form_of o)) → i < s.successors → slice_get (edge_places o s i) j ≡ Some p → LosesOperand (meaning_by value roles allows) (SameTests value roles allows number_of) s i j p (shortened_by roles s i j)
  loses None s i j p e h own br lt at = grind arith
  loses (Some k) s i j p e h own br lt at = role_loses k s i j p e h (own k refl) br lt at

pub forwards_operands : (value : Interpretation) (roles : ℕ → Option Role) (allows : Allows) {K : Type 0} (number_of : K → ℕ) → RolesFit allows roles → ForwardsOperands (meaning_by value roles allows) (folds_by roles) (SameTests value roles allows number_of) (shortened_by roles)
unfolding meaning_by folds_by
forwards_operands value roles allows number_of own = record {
  alone = λ s h br. alone (roles s.head.kind) s (both_parts _ _ h).0 br;
  some_edge = λ s h br. some_edge (roles s.head.kind) s (both_parts _ _ h).0 br;
  places = λ s h br i p l. within (roles s.head.kind) s i p (both_parts _ _ h).0 br l;
  distinct = λ s h br i j k l p e f. distinct (roles s.head.kind) s i j k l p br e f;
  passes = λ s h br first l later memo input i ds comes e.
      let at = comes_first _ s first later memo input (branch_quiet value (roles s.head.kind) s br) comes in
      subst (PassesAt (edge_places (roles s.head.kind) s) first) e (subst (λ x. PassesAt (edge_places (roles s.head.kind) s) first (by_role no_act (act_of value) (roles s.head.kind) s memo x)) (sym at.same_input) (passes value (roles s.head.kind) s memo first (both_parts _ _ h).0 br l));
  one_way = λ s h br one first l. at_once value (roles s.head.kind) s first (both_parts _ _ h).0 br one;
  removal = λ s h br i j p lt at. loses value roles allows number_of (roles s.head.kind) s i j p refl h (own s) br lt at;
}
