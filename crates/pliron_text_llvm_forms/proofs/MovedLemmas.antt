-- Holes in the text from some byte on.
use Rattle.std.proofs.Common.{◌≡◌, ℕ, ◌≤◌, ◌-◌, ◌+◌, Bool, true, false, cond, List, [], ◌∷◌, ◌++◌, length, take, drop, slice_range, map, count_by, refl, sym, ap, ◌∙◌, subst, arith, inl, inr, length-drop}
use Rattle.std.specs.Prelude.{◌||◌}
use Rattle.std.specs.List.{list_any}
use Rattle.std.proofs.lemmas.Bool.{cond-true, cond-false, cases_Bool}
use Rattle.std.proofs.lemmas.List.{drop-drop, length-map}
use Rattle.std.proofs.lemmas.List.Sums.{sum_by-cons}
use Rattle.pliron_text_llvm_syntax.specs.declared.forms.Hole.{Hole}
use Rattle.pliron_text_llvm_syntax.specs.Forms.{is_hole_byte, mark_of_kind, bytes_of_hole, AreHoles, form_behind, text_of_form}
use Rattle.pliron_text_llvm_forms.specs.StatementForms.{moved_hole, HasForm, IsForm}

-- the text from some byte on, from another one on
drop_moved : (text : List ℕ) (start at : ℕ) → start ≤ at → drop (at - start) (drop start text) ≡ drop at text
drop_moved text start at h = drop-drop (at - start) start text ∙ ap (λ n. drop n text) (omega arith)

range_moved : (text : List ℕ) (start from end : ℕ) → start ≤ from → slice_range (drop start text) (from - start) (end - start) ≡ slice_range text from end
range_moved text start from end h =
    ap (λ n. take n (drop (from - start) (drop start text))) (let e : (end - start) - (from - start) ≡ end - from = omega arith in e)
    ∙ ap (λ bytes. take (end - from) bytes) (drop_moved text start from h)

-- holes that are in order stay so
pub holes_moved : (text : List ℕ) (start at : ℕ) (holes : List Hole) → start ≤ at → AreHoles text at holes → AreHoles (drop start text) (at - start) (map (moved_hole start) holes)
holes_moved text start at [] h within = let e : length (drop start text) ≡ length text - start = length-drop start text in omega (arith, e, within)
holes_moved text start at (hole ∷ holes) h (first, ordered, rest) =
    (omega arith, omega arith, holes_moved text start hole.span.end holes (omega arith) rest)

-- the form is the same
pub form_moved : (text : List ℕ) (start at : ℕ) (holes : List Hole) → start ≤ at → AreHoles text at holes → form_behind (drop start text) (at - start) (map (moved_hole start) holes) ≡ form_behind text at holes
form_moved text start at [] h within = drop_moved text start at h
form_moved text start at (hole ∷ holes) h (first, ordered, rest) =
    let tail : form_behind (drop start text) (hole.span.end - start) (map (moved_hole start) holes) ≡ form_behind text hole.span.end holes = form_moved text start hole.span.end holes (omega arith) rest in
    ap (λ bytes. bytes ++ (mark_of_kind hole.kind ∷ form_behind (drop start text) (hole.span.end - start) (map (moved_hole start) holes))) (range_moved text start at hole.span.start h)
    ∙ ap (λ form. slice_range text at hole.span.start ++ (mark_of_kind hole.kind ∷ form)) tail

-- what they have is the same
pub bytes_moved : (text : List ℕ) (start at : ℕ) (holes : List Hole) → start ≤ at → AreHoles text at holes → map (bytes_of_hole (drop start text)) (map (moved_hole start) holes) ≡ map (bytes_of_hole text) holes
bytes_moved text start at [] h within = refl
bytes_moved text start at (hole ∷ holes) h (first, ordered, rest) =
    ap (λ bytes. bytes ∷ map (bytes_of_hole (drop start text)) (map (moved_hole start) holes)) (range_moved text start hole.span.start hole.span.end (omega arith))
    ∙ ap (λ texts. slice_range text hole.span.start hole.span.end ∷ texts) (bytes_moved text start hole.span.end holes (omega arith) rest)

length_moved : (start : ℕ) (holes : List Hole) → length (map (moved_hole start) holes) ≡ length holes
length_moved start holes = length-map holes (moved_hole start)

neither_left : (a b : Bool) → (a || b) ≡ false → a ≡ false
neither_left true b h = h
neither_left false b h = refl

neither_right : (a b : Bool) → (a || b) ≡ false → b ≡ false
neither_right true b h = cc
neither_right false b h = h

-- no byte stands for a hole
pub unmarked : (bytes : List ℕ) → list_any is_hole_byte bytes ≡ false → count_by is_hole_byte bytes ≡ 0
unmarked [] h = refl
unmarked (byte ∷ bytes) h =
    let first : is_hole_byte byte ≡ false = neither_left (is_hole_byte byte) (list_any is_hole_byte bytes) h in
    let rest : count_by is_hole_byte bytes ≡ 0 = unmarked bytes (neither_right (is_hole_byte byte) (list_any is_hole_byte bytes) h) in
    let none : ◌≡◌ {A = ℕ} (cond (is_hole_byte byte) 1 0) 0 = cond-false (is_hole_byte byte) 1 0 first in
    omega (arith, rest, none, sum_by-cons (λ b. cond (is_hole_byte b) 1 0) byte bytes)

-- what is asked before the text from some byte on is cut
pub moved_behind : (text own : List ℕ) (start : ℕ) (holes moved : List Hole) → HasForm text start holes → own ≡ drop start text → moved ≡ map (moved_hole start) holes → AreHoles own 0 moved
moved_behind text own start holes moved (behind, plain) own-is moved-is =
    let zero_is : start - start ≡ 0 = omega arith in
    subst (λ bytes. AreHoles bytes 0 moved) (sym own-is)
    (subst (AreHoles (drop start text) 0) (sym moved-is)
    (subst (λ at. AreHoles (drop start text) at (map (moved_hole start) holes)) zero_is (holes_moved text start start holes (omega arith) behind)))

-- a form that was cut out of the text from some byte on
abbrev pub IsCutOf : List ℕ → List Hole → List ℕ → Type 0
IsCutOf own moved form =
    (form ≡ form_behind own 0 moved)
    × (count_by is_hole_byte own ≡ 0 → text_of_form form (map (bytes_of_hole own) moved) ≡ own)
    × (count_by is_hole_byte own ≡ 0 → count_by is_hole_byte form ≡ length moved)

form_of_cut : (text form : List ℕ) (start : ℕ) (holes : List Hole) → HasForm text start holes → IsCutOf (drop start text) (map (moved_hole start) holes) form → IsForm text start holes form
form_of_cut text form start holes (behind, plain) (exact, whole, marks) =
    let none : count_by is_hole_byte (drop start text) ≡ 0 = unmarked (drop start text) plain in
    let here : start ≤ start = omega arith in
    let zero_is : start - start ≡ 0 = omega arith in
    record {
      exact =
          exact
          ∙ ap (λ at. form_behind (drop start text) at (map (moved_hole start) holes)) (sym zero_is)
          ∙ form_moved text start start holes here behind;
      whole = ap (text_of_form form) (sym (bytes_moved text start start holes here behind)) ∙ whole none;
      marks = marks none ∙ length_moved start holes;
    }

pub form_cut : (text own form : List ℕ) (start : ℕ) (holes moved : List Hole) → HasForm text start holes → own ≡ drop start text → moved ≡ map (moved_hole start) holes → IsCutOf own moved form → IsForm text start holes form
form_cut text own form start holes moved h own-is moved-is is_cut =
    form_of_cut text form start holes h (subst (λ bytes. IsCutOf bytes (map (moved_hole start) holes) form) own-is (subst (λ list. IsCutOf own list form) moved-is is_cut))
