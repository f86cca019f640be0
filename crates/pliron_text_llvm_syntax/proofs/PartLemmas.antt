-- Parts that follow each other.
use Rattle.std.proofs.Common.{◌≡◌, true, false, ℕ, ◌<◌, ◌≤◌, ◌-◌, ◌+◌, List, [], ◌∷◌, ◌++◌, length, get_or, take, drop, slice_range, refl, sym, ap, ◌∙◌, subst, arith}
use Rattle.std.proofs.Math.Seq.{drop-length, take-add, take-length}
use Rattle.std.proofs.lemmas.List.{drop_more, drop_all, length-take-le}
use Rattle.std.proofs.lemmas.List.Folds.{drop_split}
use Rattle.pliron_text_llvm_syntax.specs.declared.parts.ModulePart.{ModulePart}
use Rattle.pliron_text_llvm_syntax.specs.declared.tokens.ByteSpan.{ByteSpan}
use Rattle.pliron_text_llvm_syntax.specs.Tokens.{bytes_of_span}
use Rattle.pliron_text_llvm_syntax.specs.declared.tokens.LlvmToken.{LlvmToken}
use Rattle.pliron_text_llvm_syntax.specs.Brackets.{IsTreeAt}
use Rattle.pliron_text_llvm_syntax.specs.declared.functions.FunctionText.{FunctionText}
use Rattle.pliron_text_llvm_syntax.specs.declared.parts.ModulePart.TheVariants.{Function}
use Rattle.pliron_text_llvm_syntax.specs.Functions.{is_define, HasBraces, IsFunctionAt}
use Rattle.pliron_text_llvm_syntax.specs.Parts.{span_of_part, bytes_of_parts, AreConsecutive, IsDefineAt, AreRaw, IsRawOrFunction}
use Rattle.pliron_text_llvm_syntax.specs.Parts.AreRaw.{Nothing, More}

-- one more part behind the last
pub consecutive_append : (start at : ℕ) (parts : List ModulePart) (part : ModulePart) → AreConsecutive start at parts → (span_of_part part).start ≡ at → at < (span_of_part part).end → AreConsecutive start (span_of_part part).end (parts ++ part ∷ [])
consecutive_append start at [] part h is less = (is ∙ sym h, subst (λ n. n < (span_of_part part).end) (sym h) less, refl)
consecutive_append start at (first ∷ parts) part h is less = (h.0, h.1, consecutive_append (span_of_part first).end at parts part h.2 is less)

-- they end no earlier than they begin
pub consecutive_le : (start end : ℕ) (parts : List ModulePart) → AreConsecutive start end parts → start ≤ end
consecutive_le start end [] h = omega (arith, h)
consecutive_le start end (part ∷ parts) h = omega (arith, h.1, consecutive_le (span_of_part part).end end parts h.2)

-- parts up to the end of the text have the bytes from their beginning on
pub consecutive_bytes : (text : List ℕ) (start : ℕ) (parts : List ModulePart) → AreConsecutive start (length text) parts → bytes_of_parts text parts ≡ drop start text
consecutive_bytes text start [] h = sym (subst (λ n. drop n text ≡ []) (sym h) (drop-length text))
consecutive_bytes text start (part ∷ parts) h =
    let rest = consecutive_bytes text (span_of_part part).end parts h.2 in
    let split = drop_split text start (span_of_part part).end (omega (arith, h.1)) in
    subst (λ n. slice_range text n (span_of_part part).end ++ bytes_of_parts text parts ≡ drop start text) (sym h.0)
    (subst (λ bytes. slice_range text start (span_of_part part).end ++ bytes ≡ drop start text) (sym rest) (sym split))

-- the part of this index, and the parts behind it
pub consecutive_step : (start end : ℕ) (parts : List ModulePart) (i : ℕ) (d : ModulePart) → i < length parts → AreConsecutive start end (drop i parts) → ((span_of_part (get_or parts i d)).start ≡ start) × (start < (span_of_part (get_or parts i d)).end) × AreConsecutive (span_of_part (get_or parts i d)).end end (drop (i + 1) parts)
consecutive_step start end parts i d less h = subst (AreConsecutive start end) (drop_more parts i d less) h

-- what was joined up to a part, and the bytes of the part
pub joined_step : (text joined : List ℕ) (end : ℕ) → joined ≡ take (length joined) text → length joined ≤ end → end ≤ length text → joined ++ slice_range text (length joined) end ≡ take end text
joined_step text joined end same less within =
    let more = take-add (length joined) (end - length joined) text in
    let sum : length joined + (end - length joined) ≡ end = omega (arith, less) in
    ap (λ bytes. bytes ++ slice_range text (length joined) end) same ∙ sym more ∙ ap (λ n. take n text) sum

-- all parts were joined
pub joined_all : (text joined : List ℕ) (parts : List ModulePart) (i : ℕ) → length parts ≤ i → joined ≡ take (length joined) text → AreConsecutive (length joined) (length text) (drop i parts) → joined ≡ text
joined_all text joined parts i past same h =
    let none : drop i parts ≡ [] = drop_all i parts past in
    let whole : length joined ≡ length text = subst (λ rest. AreConsecutive (length joined) (length text) rest) none h in
    same ∙ ap (λ n. take n text) whole ∙ take-length text

-- no part
pub consecutive_none : (at : ℕ) (parts : List ModulePart) → parts ≡ [] → AreConsecutive at at parts
consecutive_none at parts e = subst (AreConsecutive at at) (sym e) refl

-- they end where the last one ends
pub consecutive_end : (start at end : ℕ) (parts : List ModulePart) → AreConsecutive start at parts → at ≤ end → end ≤ at → AreConsecutive start end parts
consecutive_end start at end parts h le ge = subst (λ n. AreConsecutive start n parts) (let e : at ≡ end = omega (arith, le, ge) in e) h

-- a part is in the text
pub part_within : (text : List ℕ) (parts : List ModulePart) (at i : ℕ) (d : ModulePart) (span : ByteSpan) → span ≡ span_of_part (get_or parts i d) → i < length parts → AreConsecutive at (length text) (drop i parts) → span.end ≤ length text
part_within text parts at i d span e less h =
    let step = consecutive_step at (length text) parts i d less h in
    subst (λ s. s.end ≤ length text) (sym e) (consecutive_le (span_of_part (get_or parts i d)).end (length text) (drop (i + 1) parts) step.2)

-- a part more was joined
pub part_joined : (text joined after bytes : List ℕ) (parts : List ModulePart) (i : ℕ) (d : ModulePart) (span : ByteSpan) → span ≡ span_of_part (get_or parts i d) → i < length parts
    → joined ≡ take (length joined) text → AreConsecutive (length joined) (length text) (drop i parts) → bytes ≡ bytes_of_span text span → after ≡ joined ++ bytes
    → (after ≡ take (length after) text) × AreConsecutive (length after) (length text) (drop (i + 1) parts)
part_joined text joined after bytes parts i d span e less same h bytes-are after-is =
    let step = consecutive_step (length joined) (length text) parts i d less h in
    let place : ByteSpan → Type 0 = λ s. (s.start ≡ length joined) × (length joined < s.end) × AreConsecutive s.end (length text) (drop (i + 1) parts) in
    let next = subst place (sym e) step in
    let within : span.end ≤ length text = consecutive_le span.end (length text) (drop (i + 1) parts) next.2 in
    let some : length joined ≤ span.end = omega (arith, next.1) in
    let grown : after ≡ take span.end text = after-is ∙ ap (λ more. joined ++ more) bytes-are ∙ ap (λ n. joined ++ slice_range text n span.end) next.0 ∙ joined_step text joined span.end same some within in
    let long : length after ≡ span.end = ap length grown ∙ length-take-le span.end text within in
    (grown ∙ ap (λ n. take n text) (sym long), subst (λ n. AreConsecutive n (length text) (drop (i + 1) parts)) (sym long) next.2)

-- ---- which parts are functions

pub raw_none : (text : List ℕ) (start : ℕ) → AreRaw text start start
raw_none text start = Nothing

-- one more token that isn't `define`
pub raw_more : (text : List ℕ) (start at : ℕ) (tree : LlvmToken) → AreRaw text start at → IsTreeAt text at tree → is_define text tree ≡ false → AreRaw text start tree.span.end
raw_more text start at tree before here other = More tree before here other

-- the next token is `define`
pub define_found : (text : List ℕ) (at : ℕ) (tree : LlvmToken) → IsTreeAt text at tree → is_define text tree ≡ true → IsDefineAt text at
define_found text at tree here is = (tree, here, is)

-- the function at a byte where the raw text before it ends
pub function_part : (text : List ℕ) (at end : ℕ) (function : FunctionText) → at ≤ end → end ≤ at → at < length text → (end < length text → IsDefineAt text end)
    → IsFunctionAt text at function → HasBraces text function.body → IsRawOrFunction text (Function function)
function_part text at end function le ge less define is braces =
    let here : end ≡ function.span.start = omega (arith, is.0) in
    (subst (IsDefineAt text) here (define (omega arith)), subst (λ n. IsFunctionAt text n function) (sym is.0) is, braces)
