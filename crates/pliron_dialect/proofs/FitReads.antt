-- Whether the edges of a branch fit their targets, as the functions read it.
use Rattle.std.proofs.Common.{◌≡◌, ◌↔◌, inl, inr, ℕ, ◌+◌, ◌<◌, ◌≤◌, nat_eq, Bool, true, false, true≢false, List, Option, Some, None, IsSome, length, slice_get, IsTrue, refl, ap, sym, ◌∙◌, subst, arith, add-one, get_or}
use Rattle.std.proofs.lemmas.Bool.{cases_eq}
use Rattle.std.specs.List.{range_with_len}
use Rattle.std.proofs.lemmas.Option.{same_Some, slice_get_within, slice_get-get_or}
use Rattle.std.proofs.lemmas.List.FromFn.{length-range_with_len}
use Rattle.pliron_core.specs.Tree.{Tree, IsLive, head_of, successors_of, arguments_of}
use Rattle.pliron_laws.specs.Datum.{Head}
use Rattle.pliron_laws.specs.Answers.{ReadsHead}
use Rattle.pliron_dialect.specs.Roles.{Role, Tables, role_at}
use Rattle.pliron_dialect.specs.Outcomes.{places_of_edge, AllFit, EdgesFit}
use Rattle.pliron_dialect.specs.Parts.{same, same_true}
use Rattle.pliron_dialect.proofs.BranchReads.{ReadsPlaces}

-- so many places are as many as there are arguments
pub fit_read : (roles : ℕ → Option Role) (t : Tree) (op i first count n x b : ℕ) (h : Head) → ReadsPlaces roles t op i (range_with_len first count) → n ≡ length (arguments_of t x) → slice_get (successors_of t op) i ≡ Some x → head_of t op ≡ Some h → slice_get (successors_of t op) i ≡ Some b → (IsTrue (nat_eq count n) → length (places_of_edge roles t op h i) ≡ length (arguments_of t b)) × (length (places_of_edge roles t op h i) ≡ length (arguments_of t b) → IsTrue (nat_eq count n))
fit_read roles t op i first count n x b h reads e at head to =
    let target : x ≡ b = same_Some x b (sym at ∙ to) in
    let arguments : n ≡ length (arguments_of t b) = e ∙ ap (λ z. length (arguments_of t z)) target in
    let places : length (places_of_edge roles t op h i) ≡ count = ap length (sym (reads h head)) ∙ length-range_with_len first count in (
      λ is. places ∙ same count n is ∙ arguments,
      λ is. same_true count n (sym places ∙ is ∙ sym arguments),
    )

-- the edge with index i fits
abbrev pub EdgeFits : (ℕ → Option Role) → Tree → ℕ → ℕ → Type 0
EdgeFits roles t op i = (h : Head) (b : ℕ) → head_of t op ≡ Some h → slice_get (successors_of t op) i ≡ Some b → length (places_of_edge roles t op h i) ≡ length (arguments_of t b)

-- the answer says whether it does
abbrev pub TellsFit : (ℕ → Option Role) → Tree → ℕ → ℕ → Bool → Type 0
TellsFit roles t op i fits = (h : Head) (b : ℕ) → head_of t op ≡ Some h → slice_get (successors_of t op) i ≡ Some b → IsTrue fits ↔ (length (places_of_edge roles t op h i) ≡ length (arguments_of t b))

abbrev pub FitBelow : (ℕ → Option Role) → Tree → ℕ → ℕ → Type 0
FitBelow roles t op n = (k : ℕ) → k < n → EdgeFits roles t op k

pub one_more_fits : (roles : ℕ → Option Role) (t : Tree) (op i : ℕ) (fits : Bool) → FitBelow roles t op i → TellsFit roles t op i fits → fits ≡ true → FitBelow roles t op (i + 1)
one_more_fits roles t op i fits below accurate is k lt = elim (cases_eq k i) [ inl e ↦ subst (EdgeFits roles t op) (sym e) (λ h b head to. (accurate h b head to).0 is) | inr ne ↦ below k (omega (arith, lt, ne)) ]

pub all_fit : (roles : ℕ → Option Role) (t : Tree) (op n : ℕ) → length (successors_of t op) ≤ n → FitBelow roles t op n → AllFit roles t op
all_fit roles t op n le below = λ h i b head to. below i (omega (arith, le, slice_get_within (successors_of t op) i b to)) h b head to

some_head : (o : Option Head) → IsSome o → (h : Head) × (o ≡ Some h)
some_head None is = grind arith
some_head (Some h) is = (h, refl)

-- an edge that does not fit is found
pub unfit_found : (roles : ℕ → Option Role) (t : Tree) (op i : ℕ) (fits : Bool) → IsLive t op → i < length (successors_of t op) → TellsFit roles t op i fits → fits ≡ false → AllFit roles t op → ⊥
unfit_found roles t op i fits live lt accurate is all =
    let h = some_head (head_of t op) live in
    let to = slice_get-get_or (successors_of t op) i 0 lt in
    true≢false (sym ((accurate h.0 (get_or (successors_of t op) i 0) h.1 to).1 (all h.0 i (get_or (successors_of t op) i 0) h.1 to)) ∙ is)

-- ---- what the table asks

pub unchecked : {K : Type 0} (tables : Tables K) (t : Tree) (op : ℕ) (k : K) (checks : Bool) → ReadsHead (λ h. tables.kind_of h.kind) t op (Some k) → checks ≡ tables.checks_edges k → checks ≡ false → EdgesFit tables t op
unchecked tables t op k checks reads e is = λ h l head kind asked.
    absurd (true≢false (sym asked ∙ ap tables.checks_edges (sym (same_Some k l (reads h head ∙ kind))) ∙ sym e ∙ is))

pub no_kind : {K : Type 0} (tables : Tables K) (t : Tree) (op : ℕ) → ReadsHead (λ h. tables.kind_of h.kind) t op None → EdgesFit tables t op
no_kind tables t op reads = λ h l head kind asked. absurd (different (reads h head ∙ kind))
  where
    different : {A : Type 0} {x : A} → None ≡ Some x → ⊥
    different e = cc

pub checked : {K : Type 0} (tables : Tables K) (t : Tree) (op : ℕ) (k : K) (checks fits : Bool) → IsLive t op → ReadsHead (λ h. tables.kind_of h.kind) t op (Some k) → checks ≡ tables.checks_edges k → checks ≡ true → IsTrue fits ↔ AllFit (role_at tables) t op → IsTrue fits ↔ EdgesFit tables t op
checked tables t op k checks fits live reads e is tells = (
  λ f. λ h l head kind asked. tells.0 f,
  λ all.
      let h = some_head (head_of t op) live in tells.1 (all h.0 k h.1 (sym (reads h.0 h.1)) (sym e ∙ is)),
)
