-- A form, filled with what the holes have, is the text.
use Rattle.std.proofs.Common.{◌≡◌, ℕ, ◌<◌, ◌≤◌, ◌-◌, ◌+◌, true, false, cond, List, [], ◌∷◌, ◌++◌, length, get_or, take, drop, slice_range, map, count_by, refl, sym, ap, ◌∙◌, subst, arith, append_assoc, inl, inr}
use Rattle.std.proofs.Math.Nat.{add-zero}
use Rattle.std.proofs.lemmas.Bool.{cond-true, cond-false, cases_Bool}
use Rattle.std.proofs.lemmas.List.{take_rest, append-nil, drop_more, drop_all, drop-drop, get_or-drop}
use Rattle.std.proofs.lemmas.List.Folds.{drop_split}
use Rattle.std.proofs.lemmas.List.Sums.{sum_by-cons, sum_by-append, sum_by-take-drop}
use Rattle.pliron_text_llvm_syntax.specs.declared.forms.Hole.{Hole}
use Rattle.pliron_text_llvm_syntax.specs.declared.forms.HoleKind.{HoleKind}
use Rattle.pliron_text_llvm_syntax.specs.declared.forms.HoleKind.TheVariants.{Operand, Successor}
use Rattle.pliron_text_llvm_syntax.specs.Forms.{is_hole_byte, mark_of_kind, bytes_of_hole, AreHoles, form_behind, text_of_form}

count-cons : (x : ℕ) (xs : List ℕ) → count_by is_hole_byte (x ∷ xs) ≡ cond (is_hole_byte x) 1 0 + count_by is_hole_byte xs
count-cons x xs = sum_by-cons (λ byte. cond (is_hole_byte byte) 1 0) x xs

count-append : (xs ys : List ℕ) → count_by is_hole_byte (xs ++ ys) ≡ count_by is_hole_byte xs + count_by is_hole_byte ys
count-append xs ys = sum_by-append (λ byte. cond (is_hole_byte byte) 1 0) xs ys

count-drop : (i : ℕ) (xs : List ℕ) → count_by is_hole_byte xs ≡ 0 → count_by is_hole_byte (drop i xs) ≡ 0
count-drop i xs h = omega (arith, h, sum_by-take-drop (λ byte. cond (is_hole_byte byte) 1 0) xs i)

count-take : (i : ℕ) (xs : List ℕ) → count_by is_hole_byte xs ≡ 0 → count_by is_hole_byte (take i xs) ≡ 0
count-take i xs h = omega (arith, h, sum_by-take-drop (λ byte. cond (is_hole_byte byte) 1 0) xs i)

-- what is no mark
head-plain : (x : ℕ) (xs : List ℕ) → count_by is_hole_byte (x ∷ xs) ≡ 0 → is_hole_byte x ≡ false
head-plain x xs h = elim (cases_Bool (is_hole_byte x)) [
  | inl marked ↦ absurd (let one : ◌≡◌ {A = ℕ} (cond (is_hole_byte x) 1 0) 1 = cond-true (is_hole_byte x) 1 0 marked in omega (arith, h, count-cons x xs, one))
  | inr plain ↦ plain
]

tail-plain : (x : ℕ) (xs : List ℕ) → count_by is_hole_byte (x ∷ xs) ≡ 0 → count_by is_hole_byte xs ≡ 0
tail-plain x xs h = omega (arith, h, count-cons x xs)

fill-plain : (x : ℕ) (form : List ℕ) (texts : List (List ℕ)) → is_hole_byte x ≡ false → text_of_form (x ∷ form) texts ≡ x ∷ text_of_form form texts
fill-plain x form texts h = cond-false (is_hole_byte x) (get_or texts 0 [] ++ text_of_form form (drop 1 texts)) (x ∷ text_of_form form texts) h

fill-next : (x : ℕ) (form : List ℕ) (texts : List (List ℕ)) → is_hole_byte x ≡ true → text_of_form (x ∷ form) texts ≡ get_or texts 0 [] ++ text_of_form form (drop 1 texts)
fill-next x form texts h = cond-true (is_hole_byte x) (get_or texts 0 [] ++ text_of_form form (drop 1 texts)) (x ∷ text_of_form form texts) h

fill-copy : (xs form : List ℕ) (texts : List (List ℕ)) → count_by is_hole_byte xs ≡ 0 → text_of_form (xs ++ form) texts ≡ xs ++ text_of_form form texts
fill-copy [] form texts h = refl
fill-copy (x ∷ xs) form texts h = fill-plain x (xs ++ form) texts (head-plain x xs h) ∙ ap (λ rest. x ∷ rest) (fill-copy xs form texts (tail-plain x xs h))

fill-mark : (kind : HoleKind) (form text : List ℕ) (texts : List (List ℕ)) → text_of_form (mark_of_kind kind ∷ form) (text ∷ texts) ≡ text ++ text_of_form form texts
fill-mark Operand form text texts = refl
fill-mark Successor form text texts = refl

count-mark : (kind : HoleKind) (form : List ℕ) → count_by is_hole_byte (mark_of_kind kind ∷ form) ≡ 1 + count_by is_hole_byte form
count-mark Operand form = count-cons 0 form
count-mark Successor form = count-cons 1 form

pub form_whole : (text : List ℕ) (at : ℕ) (holes : List Hole) → count_by is_hole_byte text ≡ 0 → AreHoles text at holes → text_of_form (form_behind text at holes) (map (bytes_of_hole text) holes) ≡ drop at text
form_whole text at [] plain h = ap (λ form. text_of_form form []) (sym (append-nil (drop at text))) ∙ fill-copy (drop at text) [] [] (count-drop at text plain) ∙ append-nil (drop at text)
form_whole text at (hole ∷ holes) plain h =
    let before = slice_range text at hole.span.start in
    let rest = form_behind text hole.span.end holes in
    let texts = map (bytes_of_hole text) holes in
    fill-copy before (mark_of_kind hole.kind ∷ rest) (bytes_of_hole text hole ∷ texts) (count-take (hole.span.start - at) (drop at text) (count-drop at text plain))
    ∙ ap (λ form. before ++ form) (fill-mark hole.kind rest (bytes_of_hole text hole) texts
    ∙ ap (λ form. bytes_of_hole text hole ++ form) (form_whole text hole.span.end holes plain h.2)
    ∙ sym (drop_split text hole.span.start hole.span.end h.1))
    ∙ sym (drop_split text at hole.span.start h.0)

pub form_marks : (text : List ℕ) (at : ℕ) (holes : List Hole) → count_by is_hole_byte text ≡ 0 → count_by is_hole_byte (form_behind text at holes) ≡ length holes
form_marks text at [] plain = count-drop at text plain
form_marks text at (hole ∷ holes) plain =
    omega (
      arith,
      count-append (slice_range text at hole.span.start) (mark_of_kind hole.kind ∷ form_behind text hole.span.end holes),
      count-take (hole.span.start - at) (drop at text) (count-drop at text plain),
      count-mark hole.kind (form_behind text hole.span.end holes),
      form_marks text hole.span.end holes plain,
    )

-- one hole more is cut
pub form_step : (text form : List ℕ) (at : ℕ) (holes : List Hole) (i : ℕ) (d : Hole) (whole : List ℕ) → i < length holes → form ++ form_behind text at (drop i holes) ≡ whole
    → (form ++ slice_range text at (get_or holes i d).span.start ++ mark_of_kind (get_or holes i d).kind ∷ []) ++ form_behind text (get_or holes i d).span.end (drop (i + 1) holes) ≡ whole
form_step text form at holes i d whole less h =
    let hole = get_or holes i d in
    let before = slice_range text at hole.span.start in
    let rest = form_behind text hole.span.end (drop (i + 1) holes) in
    append_assoc (form ++ before) (mark_of_kind hole.kind ∷ []) rest
    ∙ append_assoc form before (mark_of_kind hole.kind ∷ rest)
    ∙ ap (λ holes. form ++ form_behind text at holes) (sym (drop_more holes i d less))
    ∙ h

-- the holes behind one
pub holes_step : (text : List ℕ) (at : ℕ) (holes : List Hole) (i : ℕ) (d : Hole) → i < length holes → AreHoles text at (drop i holes)
    → (at ≤ (get_or holes i d).span.start) × ((get_or holes i d).span.start ≤ (get_or holes i d).span.end) × AreHoles text (get_or holes i d).span.end (drop (i + 1) holes)
holes_step text at holes i d less h = subst (AreHoles text at) (drop_more holes i d less) h

-- a hole is in the text
pub holes_within : (text : List ℕ) (at : ℕ) (holes : List Hole) → AreHoles text at holes → at ≤ length text
holes_within text at [] h = h
holes_within text at (hole ∷ holes) h = omega (arith, h.0, h.1, holes_within text hole.span.end holes h.2)

-- one hole more in front
pub holes_back : (text : List ℕ) (at : ℕ) (holes : List Hole) (i : ℕ) (d : Hole) → i < length holes → at ≤ (get_or holes i d).span.start → (get_or holes i d).span.start ≤ (get_or holes i d).span.end
    → AreHoles text (get_or holes i d).span.end (drop (i + 1) holes) → AreHoles text at (drop i holes)
holes_back text at holes i d less start end h = subst (AreHoles text at) (sym (drop_more holes i d less)) (start, end, h)

-- no hole is left
pub holes_end : (text : List ℕ) (at : ℕ) (holes : List Hole) (i : ℕ) → length holes ≤ i → at ≤ length text → AreHoles text at (drop i holes)
holes_end text at holes i past within = subst (AreHoles text at) (sym (drop_all i holes past)) within

first_left : (next : ℕ) (texts : List (List ℕ)) → get_or (drop next texts) 0 [] ≡ get_or texts next []
first_left next texts = get_or-drop next texts 0 [] ∙ ap (λ n. get_or texts n []) (add-zero next)

-- what one byte of a form stands for
pub fill_step : (form : List ℕ) (i : ℕ) (texts : List (List ℕ)) (next : ℕ) (out whole : List ℕ) → i < length form → out ++ text_of_form (drop i form) (drop next texts) ≡ whole
    → (out ++ cond (is_hole_byte (get_or form i 0)) (get_or texts next []) (get_or form i 0 ∷ [])) ++ text_of_form (drop (i + 1) form) (drop (next + cond (is_hole_byte (get_or form i 0)) 1 0) texts) ≡ whole
fill_step form i texts next out whole less h =
    let x = get_or form i 0 in
    let rest = drop (i + 1) form in
    let left : out ++ text_of_form (x ∷ rest) (drop next texts) ≡ whole = ap (λ bytes. out ++ text_of_form bytes (drop next texts)) (sym (drop_more form i 0 less)) ∙ h in
    elim (cases_Bool (is_hole_byte x)) [
      | inl marked ↦
          subst (λ b. (out ++ cond b (get_or texts next []) (x ∷ [])) ++ text_of_form rest (drop (next + cond b 1 0) texts) ≡ whole) (sym marked)
          (append_assoc out (get_or texts next []) (text_of_form rest (drop (next + 1) texts))
          ∙ ap (λ bytes. out ++ (bytes ++ text_of_form rest (drop (next + 1) texts))) (sym (first_left next texts))
          ∙ ap (λ ts. out ++ (get_or (drop next texts) 0 [] ++ text_of_form rest ts)) (sym (drop-drop 1 next texts))
          ∙ ap (λ bytes. out ++ bytes) (sym (fill-next x rest (drop next texts) marked))
          ∙ left)
      | inr plain ↦
          subst (λ b. (out ++ cond b (get_or texts next []) (x ∷ [])) ++ text_of_form rest (drop (next + cond b 1 0) texts) ≡ whole) (sym plain)
          (ap (λ n. (out ++ x ∷ []) ++ text_of_form rest (drop n texts)) (add-zero next)
          ∙ append_assoc out (x ∷ []) (text_of_form rest (drop next texts))
          ∙ ap (λ bytes. out ++ bytes) (sym (fill-plain x rest (drop next texts) plain))
          ∙ left)
    ]

-- no byte is left
pub fill_end : (form : List ℕ) (i : ℕ) (texts : List (List ℕ)) (out whole : List ℕ) → length form ≤ i → out ++ text_of_form (drop i form) texts ≡ whole → out ≡ whole
fill_end form i texts out whole past h = sym (append-nil out) ∙ sym (ap (λ bytes. out ++ text_of_form bytes texts) (drop_all i form past)) ∙ h

-- a hole begins behind what was cut, and in the text
pub hole_begins : (text : List ℕ) (holes : List Hole) (at i : ℕ) (d : Hole) → i < length holes → AreHoles text at (drop i holes) → at ≤ (get_or holes i d).span.start
hole_begins text holes at i d less h = (holes_step text at holes i d less h).0

pub hole_within : (text : List ℕ) (holes : List Hole) (at i : ℕ) (d : Hole) → i < length holes → AreHoles text at (drop i holes) → (get_or holes i d).span.start ≤ length text
hole_within text holes at i d less h =
    let step = holes_step text at holes i d less h in
    let end : (get_or holes i d).span.end ≤ length text = holes_within text (get_or holes i d).span.end (drop (i + 1) holes) step.2 in
    omega (arith, step.1, end)

-- a hole more was cut
pub hole_cut : (text form before after last whole : List ℕ) (holes : List Hole) (at i mark : ℕ) (d : Hole) → i < length holes → AreHoles text at (drop i holes) → form ++ form_behind text at (drop i holes) ≡ whole
    → before ≡ slice_range text at (get_or holes i d).span.start → after ≡ form ++ before → mark ≡ mark_of_kind (get_or holes i d).kind → last ≡ after ++ mark ∷ []
    → AreHoles text (get_or holes i d).span.end (drop (i + 1) holes) × (last ++ form_behind text (get_or holes i d).span.end (drop (i + 1) holes) ≡ whole)
hole_cut text form before after last whole holes at i mark d less h so before-is after-is mark-is last-is =
    let step = holes_step text at holes i d less h in
    let e : last ≡ form ++ slice_range text at (get_or holes i d).span.start ++ mark_of_kind (get_or holes i d).kind ∷ [] =
    last-is ∙ ap (λ bytes. bytes ++ mark ∷ []) (after-is ∙ ap (λ bytes. form ++ bytes) before-is) ∙ ap (λ m. form ++ slice_range text at (get_or holes i d).span.start ++ m ∷ []) mark-is in
    (step.2, ap (λ bytes. bytes ++ form_behind text (get_or holes i d).span.end (drop (i + 1) holes)) e ∙ form_step text form at holes i d whole less so)

-- no hole is left
pub cut_within : (text : List ℕ) (holes : List Hole) (at i : ℕ) → length holes ≤ i → AreHoles text at (drop i holes) → at ≤ length text
cut_within text holes at i past h = subst (AreHoles text at) (drop_all i holes past) h

pub cut_end : (text form behind last whole : List ℕ) (holes : List Hole) (at i : ℕ) → length holes ≤ i → form ++ form_behind text at (drop i holes) ≡ whole → behind ≡ slice_range text at (length text) → last ≡ form ++ behind → last ≡ whole
cut_end text form behind last whole holes at i past so behind-is last-is =
    last-is
    ∙ ap (λ bytes. form ++ bytes) (behind-is ∙ take_rest text at)
    ∙ sym (ap (λ rest. form ++ form_behind text at rest) (drop_all i holes past))
    ∙ so

pub cut_whole : (text form : List ℕ) (holes : List Hole) → form ≡ form_behind text 0 holes → AreHoles text 0 holes → count_by is_hole_byte text ≡ 0 → text_of_form form (map (bytes_of_hole text) holes) ≡ text
cut_whole text form holes e h plain = ap (λ bytes. text_of_form bytes (map (bytes_of_hole text) holes)) e ∙ form_whole text 0 holes plain h

pub cut_marks : (text form : List ℕ) (holes : List Hole) → form ≡ form_behind text 0 holes → count_by is_hole_byte text ≡ 0 → count_by is_hole_byte form ≡ length holes
cut_marks text form holes e plain = ap (λ bytes. count_by is_hole_byte bytes) e ∙ form_marks text 0 holes plain

-- a byte more was filled
pub fill_put : (form : List ℕ) (texts : List (List ℕ)) (out some piece after whole : List ℕ) (i next count : ℕ) → i < length form → next ≤ i → out ++ text_of_form (drop i form) (drop next texts) ≡ whole
    → some ≡ get_or texts next [] → piece ≡ cond (is_hole_byte (get_or form i 0)) some (get_or form i 0 ∷ []) → after ≡ out ++ piece → count ≡ cond (is_hole_byte (get_or form i 0)) 1 0
    → (next + count ≤ i + 1) × (after ++ text_of_form (drop (i + 1) form) (drop (next + count) texts) ≡ whole)
fill_put form texts out some piece after whole i next count less le so some-is piece-is after-is count-is =
    let x = get_or form i 0 in
    let few : count ≤ 1 = elim (cases_Bool (is_hole_byte x)) [
      | inl marked ↦ (let one : ◌≡◌ {A = ℕ} (cond (is_hole_byte x) 1 0) 1 = cond-true (is_hole_byte x) 1 0 marked in omega (arith, count-is, one))
      | inr plain ↦ (let none : ◌≡◌ {A = ℕ} (cond (is_hole_byte x) 1 0) 0 = cond-false (is_hole_byte x) 1 0 plain in omega (arith, count-is, none))
    ] in
    let e : after ≡ out ++ cond (is_hole_byte x) (get_or texts next []) (x ∷ []) = after-is ∙ ap (λ bytes. out ++ bytes) (piece-is ∙ ap (λ bytes. cond (is_hole_byte x) bytes (x ∷ [])) some-is) in (
      omega (arith, few, le),
      subst (λ n. after ++ text_of_form (drop (i + 1) form) (drop (next + n) texts) ≡ whole) (sym count-is)
          (ap (λ bytes. bytes ++ text_of_form (drop (i + 1) form) (drop (next + cond (is_hole_byte x) 1 0) texts)) e ∙ fill_step form i texts next out whole less so),
    )
