-- Phis that are read one after another.
use Rattle.std.proofs.Common.{◌≡◌, ℕ, suc, ◌+◌, ◌-◌, ◌<◌, ◌≤◌, Bool, true, false, List, [], ◌∷◌, ◌++◌, length, map, get_or, take, drop, refl, sym, ap, ◌∙◌, subst, arith}
use Rattle.std.specs.Prelude.{Some, None, slice_get, Option, ◌&&◌}
use Rattle.std.specs.List.{All}
use Rattle.std.specs.Option.{option_map, unwrap_or}
use Rattle.std.proofs.lemmas.Option.{slice_get-map, unwrap_or-slice_get}
use Rattle.std.proofs.lemmas.List.{take_all, take_more}
use Rattle.std.proofs.lemmas.List.Elements.{All-nil, All-push, All-more}
use Rattle.pliron_text_llvm_reader.specs.declared.blocks.BlockLines.{BlockLines}
use Rattle.pliron_text_llvm_reader.specs.declared.body.BodyLine.{BodyLine}
use Rattle.pliron_text_llvm_reader.specs.declared.body.BodyLine.TheVariants.{Statement}
use Rattle.pliron_text_llvm_reader.specs.declared.body.BodyStatement.{BodyStatement}
use Rattle.pliron_text_llvm_reader.specs.declared.body.FunctionBody.{FunctionBody}
use Rattle.pliron_text_llvm_functions.specs.declared.function.FunctionReading.{FunctionReading}
use Rattle.pliron_text_llvm_edges.specs.declared.edges.BlockEdge.{BlockEdge}
use Rattle.pliron_text_llvm_edges.specs.declared.phis.BlockPhi.{BlockPhi}
use Rattle.pliron_text_llvm_edges.specs.declared.phis.PhiPlace.{PhiPlace}
use Rattle.pliron_text_llvm_edges.specs.Numbers.{numbers_passing, in_block, in_blocks}
use Rattle.pliron_text_llvm_edges.specs.Phis.{is_phi_at, is_head_at, ArePhisFirst, HasPhisFirst, place_of_phi, edges_into, HasEntries, HaveOneValueEach, FitsEdges, FitsIncoming}
use Rattle.pliron_text_llvm_edges.proofs.NumberLemmas.{one_pushed, none_pushed, blocks_begun}

-- ---- phis come first

pub first_more : (lines : List BodyLine) (whole : Type 0) (at_head behind : Bool) (line end : ℕ) → line < end → (ArePhisFirst lines at_head line (end - line) → whole)
    → (is_phi_at lines line ≡ true → at_head ≡ true) → behind ≡ (at_head && is_head_at lines line) → ArePhisFirst lines behind (line + 1) (end - (line + 1)) → whole
first_more lines whole at_head behind line end less ahead placed behind_is h =
    let count : end - line ≡ suc (end - (line + 1)) = omega (arith, less) in
    ahead (subst (ArePhisFirst lines at_head line) (sym count) (placed, subst (λ b. ArePhisFirst lines b (line + 1) (end - (line + 1))) behind_is h))

pub first_all : (lines : List BodyLine) (whole : Type 0) (at_head : Bool) (line end : ℕ) → end ≤ line → (ArePhisFirst lines at_head line (end - line) → whole) → whole
first_all lines whole at_head line end past ahead =
    let none : end - line ≡ 0 = omega (arith, past) in
    ahead (subst (ArePhisFirst lines at_head line) (sym none) tt)

pub heads_none : (body : FunctionBody) (blocks : List BlockLines) → All (HasPhisFirst body) (take 0 blocks)
heads_none body blocks k d less = absurd (omega (arith, less))

pub heads_more : (body : FunctionBody) (blocks : List BlockLines) (i : ℕ) (d : BlockLines) → i < length blocks → All (HasPhisFirst body) (take i blocks) → HasPhisFirst body (get_or blocks i d)
    → All (HasPhisFirst body) (take (i + 1) blocks)
heads_more body blocks i d less h one = All-more (HasPhisFirst body) blocks i d less h one

pub heads_all : (body : FunctionBody) (blocks : List BlockLines) (i : ℕ) → length blocks ≤ i → All (HasPhisFirst body) (take i blocks) → All (HasPhisFirst body) blocks
heads_all body blocks i past h = subst (All (HasPhisFirst body)) (take_all i blocks past) h

-- ---- edges to a block

pub into_some : {A : Type 0} (f : A → List BlockEdge) (lists : List A) (number : ℕ) (list : A) → slice_get lists number ≡ Some list → f list ≡ edges_into (map f lists) number
into_some f lists number list e =
    sym (ap (λ o. unwrap_or (option_map f o) []) e) ∙ sym (ap (λ o. unwrap_or o []) (slice_get-map f lists number)) ∙ unwrap_or-slice_get (map f lists) number []

pub into_none : {A : Type 0} (f : A → List BlockEdge) (lists : List A) (number : ℕ) → slice_get lists number ≡ None → [] ≡ edges_into (map f lists) number
into_none f lists number e =
    sym (ap (λ o. unwrap_or (option_map f o) []) e) ∙ sym (ap (λ o. unwrap_or o []) (slice_get-map f lists number)) ∙ unwrap_or-slice_get (map f lists) number []

-- ---- a phi

pub phi_fits : (text : List ℕ) (reading : FunctionReading) (incoming : List BlockEdge) (line : BodyStatement) (phi : BlockPhi) → slice_get reading.body.lines.items phi.place.line ≡ Some (Statement line) → HasEntries reading line phi.entries.items
    → map (λ entry. entry.block) phi.entries.items ≡ map (λ edge. edge.from) incoming → HaveOneValueEach text reading phi.entries.items → FitsEdges text reading incoming phi
phi_fits text reading incoming line phi at entries blocks values = (line, at, entries, blocks, values)

pub phi_pushed : (test : ℕ → Bool) (place : PhiPlace) (phi : BlockPhi) (found after : List BlockPhi) → test place.line ≡ true → phi.place ≡ place → after ≡ found ++ phi ∷ []
    → map place_of_phi after ≡ map place_of_phi found ++ in_block place.block (numbers_passing test place.line 1)
phi_pushed test place phi found after passes at grown =
    one_pushed place_of_phi test place.block place.line phi found after passes (ap (λ p. (p.block, p.line)) at) grown

pub phis_fit : (text : List ℕ) (reading : FunctionReading) (lists : List (List BlockEdge)) (place : PhiPlace) (edges : List BlockEdge) (phi : BlockPhi) (found after : List BlockPhi) → All (FitsIncoming text reading lists) found
    → edges ≡ edges_into lists place.block → phi.place ≡ place → FitsEdges text reading edges phi → after ≡ found ++ phi ∷ [] → All (FitsIncoming text reading lists) after
phis_fit text reading lists place edges phi found after h edges_are at fits grown =
    subst (All (FitsIncoming text reading lists)) (sym grown)
    (All-push (FitsIncoming text reading lists) found phi h
    (subst (λ es. FitsEdges text reading es phi) (edges_are ∙ ap (λ p. edges_into lists p.block) (sym at)) fits))

-- ---- no phi yet

pub phis_begun : (numbers_of : BlockLines → List ℕ) (found : List BlockPhi) (blocks : List BlockLines) → found ≡ [] → map place_of_phi found ++ in_blocks numbers_of 0 (drop 0 blocks) ≡ in_blocks numbers_of 0 blocks
phis_begun numbers_of found blocks e = blocks_begun place_of_phi numbers_of found blocks e

pub phis_none : (text : List ℕ) (reading : FunctionReading) (lists : List (List BlockEdge)) (found : List BlockPhi) → found ≡ [] → All (FitsIncoming text reading lists) found
phis_none text reading lists found e = subst (All (FitsIncoming text reading lists)) (sym e) (All-nil (FitsIncoming text reading lists))

pub phi_unpushed : (test : ℕ → Bool) (place : PhiPlace) (found : List BlockPhi) → test place.line ≡ false
    → map place_of_phi found ≡ map place_of_phi found ++ in_block place.block (numbers_passing test place.line 1)
phi_unpushed test place found fails = none_pushed place_of_phi test place.block place.line found fails
