-- Entries of phis that are read one after another, and compared.
use Rattle.std.proofs.Common.{append-nil, ◌≡◌, ◌⊎◌, ℕ, zero, suc, ◌+◌, ◌-◌, ◌<◌, ◌≤◌, Bool, true, List, [], ◌∷◌, ◌++◌, length, map, get_or, take, refl, sym, ap, ◌∙◌, subst, inl, inr, append_assoc, arith}
use Rattle.std.specs.Prelude.{IsPermutation}
use Rattle.std.specs.List.Sorted.{IsNonDecreasingBy}
use Rattle.std.proofs.lemmas.Bool.{cases_eq}
use Rattle.std.proofs.lemmas.List.{take_all, take_more, map-append}
use Rattle.pliron_text_llvm_reader.specs.declared.body.BodyStatement.{BodyStatement}
use Rattle.pliron_text_llvm_functions.specs.declared.function.FunctionReading.{FunctionReading}
use Rattle.pliron_text_llvm_edges.specs.declared.edges.BlockEdge.{BlockEdge}
use Rattle.pliron_text_llvm_edges.specs.declared.entries.PhiEntry.{PhiEntry}
use Rattle.pliron_text_llvm_edges.specs.Phis.{IsEntryAt, AreEntries, AreEntriesOf, HaveOneValue, HaveOneValueEach, HasEntries}

-- ---- reading

-- behind these entries come those of the holes from this number on
abbrev pub GoOn : FunctionReading → ℕ → ℕ → ℕ → List PhiEntry → Type 0
GoOn reading first number end found =
    (rest : List PhiEntry) → AreEntries reading number (end - number) rest → AreEntries reading first (end - first) (found ++ rest)

pub entries_none : (reading : FunctionReading) (first end : ℕ) (found : List PhiEntry) → found ≡ [] → GoOn reading first first end found
entries_none reading first end found e rest h = subst (λ xs. AreEntries reading first (end - first) (xs ++ rest)) (sym e) h

pub entries_more : (reading : FunctionReading) (first number next end : ℕ) (entry : PhiEntry) (found after : List PhiEntry) → 2 ≤ end - number → GoOn reading first number end found → IsEntryAt reading number entry
    → after ≡ found ++ entry ∷ [] → next ≡ number + 2 → GoOn reading first next end after
entries_more reading first number next end entry found after two ahead one grown next_is rest h =
    let count : end - number ≡ suc (suc (end - (number + 2))) = omega (arith, two) in
    let there : AreEntries reading (number + 2) (end - (number + 2)) rest = subst (λ n. AreEntries reading n (end - n) rest) next_is h in
    let whole : AreEntries reading number (end - number) (entry ∷ rest) = subst (λ n. AreEntries reading number n (entry ∷ rest)) (sym count) (one, there) in
    subst (AreEntries reading first (end - first)) (sym (ap (λ xs. xs ++ rest) grown ∙ append_assoc found (entry ∷ []) rest)) (ahead (entry ∷ rest) whole)

pub entries_all : (reading : FunctionReading) (line : BodyStatement) (number : ℕ) (found : List PhiEntry) → line.end_hole ≤ number → GoOn reading line.first_hole number line.end_hole found → AreEntriesOf reading line found
entries_all reading line number found past ahead =
    let none : line.end_hole - number ≡ 0 = omega (arith, past) in
    subst (AreEntries reading line.first_hole (line.end_hole - line.first_hole)) (append-nil found)
    (ahead [] (subst (λ n. AreEntries reading number n []) (sym none) tt))

-- ---- order

pub entries_sorted : (reading : FunctionReading) (line : BodyStatement) (before after : List PhiEntry) → AreEntriesOf reading line before → IsPermutation before after → HasEntries reading line after
entries_sorted reading line before after h moved = (before, h, moved)

-- ---- blocks

pub blocks_none : (entries : List PhiEntry) (edges : List BlockEdge) → map (λ entry. entry.block) (take 0 entries) ≡ map (λ edge. edge.from) (take 0 edges)
blocks_none entries edges = refl

pub blocks_more : (entries : List PhiEntry) (edges : List BlockEdge) (i : ℕ) (d : PhiEntry) (e : BlockEdge) → i < length entries → i < length edges
    → map (λ entry. entry.block) (take i entries) ≡ map (λ edge. edge.from) (take i edges) → (get_or entries i d).block ≡ (get_or edges i e).from
    → map (λ entry. entry.block) (take (i + 1) entries) ≡ map (λ edge. edge.from) (take (i + 1) edges)
blocks_more entries edges i d e less within same one =
    ap (map (λ entry. entry.block)) (take_more entries i d less)
    ∙ map-append (λ entry. entry.block) (take i entries) (get_or entries i d ∷ [])
    ∙ ap (λ xs. xs ++ (get_or entries i d).block ∷ []) same
    ∙ ap (λ x. map (λ edge. edge.from) (take i edges) ++ x ∷ []) one
    ∙ sym (map-append (λ edge. edge.from) (take i edges) (get_or edges i e ∷ []))
    ∙ sym (ap (map (λ edge. edge.from)) (take_more edges i e within))

pub blocks_all : (entries : List PhiEntry) (edges : List BlockEdge) (i : ℕ) → length entries ≤ i → length entries ≡ length edges
    → map (λ entry. entry.block) (take i entries) ≡ map (λ edge. edge.from) (take i edges) → map (λ entry. entry.block) entries ≡ map (λ edge. edge.from) edges
blocks_all entries edges i past count h =
    sym (ap (map (λ entry. entry.block)) (take_all i entries past)) ∙ h ∙ ap (map (λ edge. edge.from)) (take_all i edges (omega (arith, past, count)))

-- ---- values

-- neighbours up to here agree
abbrev pub NeighboursAgree : List ℕ → FunctionReading → List PhiEntry → ℕ → Type 0
NeighboursAgree text reading entries end = (k : ℕ) (d : PhiEntry) → suc k < end → HaveOneValue text reading (get_or entries k d) (get_or entries (suc k) d)

pub agree_none : (text : List ℕ) (reading : FunctionReading) (entries : List PhiEntry) → NeighboursAgree text reading entries 1
agree_none text reading entries k d less = absurd (omega (arith, less))

pub agree_more : (text : List ℕ) (reading : FunctionReading) (entries : List PhiEntry) (i : ℕ) → NeighboursAgree text reading entries i
    → ((d : PhiEntry) → HaveOneValue text reading (get_or entries (i - 1) d) (get_or entries i d)) → NeighboursAgree text reading entries (i + 1)
agree_more text reading entries i h one k d less =
    elim (cases_eq (suc k) i) [
      | inl e ↦
          let before : i - 1 ≡ k = omega (arith, e) in
          subst (λ n. HaveOneValue text reading (get_or entries k d) (get_or entries n d)) (sym e) (subst (λ n. HaveOneValue text reading (get_or entries n d) (get_or entries i d)) before (one d))
      | inr ne ↦ h k d (omega (arith, less, ne))
    ]

-- neighbours that agree, in the order of their blocks, have one value for each block
apart : (text : List ℕ) (reading : FunctionReading) (entries : List PhiEntry) → IsNonDecreasingBy (λ entry. entry.block) entries → NeighboursAgree text reading entries (length entries)
    → (i j : ℕ) (d : PhiEntry) → i < j → j < length entries → HaveOneValue text reading (get_or entries i d) (get_or entries j d)
apart text reading entries order agree i zero d less within same = absurd (omega (arith, less))
apart text reading entries order agree i (suc j) d less within same =
    elim (cases_eq i j) [
      | inl e ↦ subst (λ n. HaveOneValue text reading (get_or entries n d) (get_or entries (suc j) d)) (sym e) (agree j d within) same
      | inr ne ↦
          let low : (get_or entries i d).block ≤ (get_or entries j d).block = order i j d (omega (arith, less)) (omega (arith, within)) in
          let high : (get_or entries j d).block ≤ (get_or entries (suc j) d).block = order j (suc j) d (omega arith) within in
          let first : (get_or entries i d).block ≡ (get_or entries j d).block = omega (arith, low, high, same) in
          let second : (get_or entries j d).block ≡ (get_or entries (suc j) d).block = omega (arith, low, high, same) in
          apart text reading entries order agree i j d (omega (arith, less, ne)) (omega (arith, within)) first ∙ agree j d within second
    ]

pub values_all : (text : List ℕ) (reading : FunctionReading) (entries : List PhiEntry) (i : ℕ) → length entries ≤ i → IsNonDecreasingBy (λ entry. entry.block) entries → NeighboursAgree text reading entries i
    → HaveOneValueEach text reading entries
values_all text reading entries i past order agree =
    apart text reading entries order (λ k d less. agree k d (omega (arith, less, past)))
