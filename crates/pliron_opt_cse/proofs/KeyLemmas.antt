-- Operations have the same numbers exactly if they do the same.
use Rattle.std.proofs.Common.{Bool, List, None, Option, Some, [], ap, append-nil, append_assoc, arith, cond, false, if◌then◌else◌, length, nat_eq, negsuc, pos, refl, suc, sym, take, true, zero, ℕ, ℤ, ◌%◌, ◌++◌, ◌+◌, ◌/◌, ◌^◌, ◌∙◌, ◌∷◌, ◌≡◌, ◌≢◌}
use Rattle.std.specs.Option.{option_to_list}
use Rattle.std.specs.List.{slice_get}
use Rattle.std.specs.Map.{lookup}
use Rattle.std.specs.Cmp.Lexicographic.{pointwise, same_text}
use Rattle.indexmap.specs.IndexMap.{insert_entry}
use Rattle.pliron_core.specs.declared.attrs.AttrObj.{AttrObj}
use Rattle.pliron_core.specs.declared.attrs.AttrObj.TheVariants.{Int, Text}
use Rattle.pliron_core.specs.declared.attrs.Head.{Head}
use Rattle.pliron_core.specs.Tree.{Tree, IsLive, head_of, operands_of, results_of}
use Rattle.pliron_core.proofs.HoldingLemmas.{some_of}
use Rattle.pliron_opt_cse.specs.Keys.{int_words, attr_words, attrs_words, flag_word, head_words, head_words_of, operand_words, key_words}
use Rattle.pliron_opt_cse.specs.MergingSteps.{IsEliminable, MayMerge}
use Rattle.pliron_laws.specs.EdgeChecks.{region_around}

-- lists of one length in front
split_front : (xs ys r s : List ℕ) → length xs ≡ length ys → xs ++ r ≡ ys ++ s → (xs ≡ ys) × (r ≡ s)
split_front [] [] r s l e = (refl, e)
split_front [] (y ∷ ys) r s l e = absurd (omega (arith, l))
split_front (x ∷ xs) [] r s l e = absurd (omega (arith, l))
split_front (x ∷ xs) (y ∷ ys) r s l e =
    let first : x ≡ y = cc in
    let rest : xs ++ r ≡ ys ++ s = cc in
    let t = split_front xs ys r s (omega (arith, l)) rest in
    (ap (λ z. z ∷ xs) first ∙ ap (λ z. y ∷ z) t.0, t.1)

whole : (n m : ℕ) → n % 2 ^ 64 ≡ m % 2 ^ 64 → n / 2 ^ 64 ≡ m / 2 ^ 64 → n ≡ m
whole n m low high = omega (arith, low, high)

split_int : (a b : ℤ) (r s : List ℕ) → int_words a ++ r ≡ int_words b ++ s → (a ≡ b) × (r ≡ s)
split_int (pos n) (pos m) r s e =
    let low : n % 2 ^ 64 ≡ m % 2 ^ 64 = cc in
    let high : n / 2 ^ 64 ≡ m / 2 ^ 64 = cc in
    let rest : r ≡ s = cc in
    (ap pos (whole n m low high), rest)
split_int (negsuc n) (negsuc m) r s e =
    let low : n % 2 ^ 64 ≡ m % 2 ^ 64 = cc in
    let high : n / 2 ^ 64 ≡ m / 2 ^ 64 = cc in
    let rest : r ≡ s = cc in
    (ap negsuc (whole n m low high), rest)
split_int (pos n) (negsuc m) r s e = let q : ◌≡◌ {A = ℕ} 0 1 = cc in absurd (omega (arith, q))
split_int (negsuc n) (pos m) r s e = let q : ◌≡◌ {A = ℕ} 1 0 = cc in absurd (omega (arith, q))

split_attr : (a b : AttrObj) (r s : List ℕ) → attr_words a ++ r ≡ attr_words b ++ s → (a ≡ b) × (r ≡ s)
split_attr (Int n) (Int m) r s e =
    let rest : int_words n ++ r ≡ int_words m ++ s = cc in
    let t = split_int n m r s rest in
    (ap Int t.0, t.1)
split_attr (Text x) (Text y) r s e =
    let size : length x ≡ length y = cc in
    let rest : x ++ r ≡ y ++ s = cc in
    let t = split_front x y r s size rest in
    (ap Text t.0, t.1)
split_attr (Int n) (Text y) r s e = let q : ◌≡◌ {A = ℕ} 0 1 = cc in absurd (omega (arith, q))
split_attr (Text x) (Int m) r s e = let q : ◌≡◌ {A = ℕ} 1 0 = cc in absurd (omega (arith, q))

split_attrs : (xs ys : List AttrObj) (r s : List ℕ) → length xs ≡ length ys → attrs_words xs ++ r ≡ attrs_words ys ++ s → (xs ≡ ys) × (r ≡ s)
split_attrs [] [] r s l e = (refl, e)
split_attrs [] (y ∷ ys) r s l e = absurd (omega (arith, l))
split_attrs (x ∷ xs) [] r s l e = absurd (omega (arith, l))
split_attrs (x ∷ xs) (y ∷ ys) r s l e =
    let joined : attr_words x ++ (attrs_words xs ++ r) ≡ attr_words y ++ (attrs_words ys ++ s) = sym (append_assoc (attr_words x) (attrs_words xs) r) ∙ e ∙ append_assoc (attr_words y) (attrs_words ys) s in
    let a = split_attr x y (attrs_words xs ++ r) (attrs_words ys ++ s) joined in
    let t = split_attrs xs ys r s (omega (arith, l)) a.1 in
    (ap (λ z. z ∷ xs) a.0 ∙ ap (λ z. y ∷ z) t.0, t.1)

same_flag : (a b : Bool) → flag_word a ≡ flag_word b → a ≡ b
same_flag true true e = refl
same_flag false false e = refl
same_flag true false e = absurd (omega (arith, e))
same_flag false true e = absurd (omega (arith, e))

split_head : (h k : Head) (r s : List ℕ) → head_words h ++ r ≡ head_words k ++ s → (h ≡ k) × (r ≡ s)
split_head h k r s e =
    let kind : h.kind ≡ k.kind = cc in
    let flag : flag_word h.ssa ≡ flag_word k.ssa = cc in
    let count : length h.attrs ≡ length k.attrs = cc in
    let rest : attrs_words h.attrs ++ r ≡ attrs_words k.attrs ++ s = cc in
    let t = split_attrs h.attrs k.attrs r s count rest in (
      ap (λ z. let y : Head = record { kind = z; ssa = h.ssa; attrs = h.attrs } in y) kind
          ∙ ap (λ z. let y : Head = record { kind = k.kind; ssa = z; attrs = h.attrs } in y) (same_flag h.ssa k.ssa flag)
          ∙ ap (λ z. let y : Head = record { kind = k.kind; ssa = k.ssa; attrs = z } in y) t.0,
      t.1,
    )

split_operands : (xs ys : List ℕ) (r s : Option ℕ) → operand_words xs r ≡ operand_words ys s → (ys ≡ xs) × (ys ≡ [] → r ≡ s)
split_operands [] [] r s e = let same : option_to_list r ≡ option_to_list s = cc in (refl, λ z. regions r s same)
  where
    regions : (r s : Option ℕ) → option_to_list r ≡ option_to_list s → r ≡ s
    regions None None e = refl
    regions (Some x) (Some y) e = let q : x ≡ y = cc in ap Some q
    regions None (Some y) e = absurd (cc)
    regions (Some x) None e = absurd (cc)
split_operands [] (y ∷ ys) r s e = let q : ◌≡◌ {A = ℕ} 0 (suc (length ys)) = cc in absurd (omega (arith, q))
split_operands (x ∷ xs) [] r s e = let q : ◌≡◌ {A = ℕ} (suc (length xs)) 0 = cc in absurd (omega (arith, q))
split_operands (x ∷ xs) (y ∷ ys) r s e = let q : y ∷ ys ≡ x ∷ xs = cc in (q, λ z. absurd (cc))

-- what has the same numbers does the same
pub same_key_alike : (side_effects : Head → Option Bool) (t : Tree) (a b : ℕ) → IsLive t a → IsLive t b → IsEliminable side_effects t a → IsEliminable side_effects t b → key_words t a ≡ key_words t b → MayMerge side_effects t a b
same_key_alike side_effects t a b live_a live_b ra rb e =
    let ha = some_of (head_of t a) live_a in
    let hb = some_of (head_of t b) live_b in
    let there : head_words ha.0 ++ length (results_of t a) ∷ operand_words (operands_of t a) (region_around t a) ≡ head_words hb.0 ++ length (results_of t b) ∷ operand_words (operands_of t b) (region_around t b) =
    ap (λ z. head_words_of z ++ length (results_of t a) ∷ operand_words (operands_of t a) (region_around t a)) (sym ha.1) ∙ e ∙ ap (λ z. head_words_of z ++ length (results_of t b) ∷ operand_words (operands_of t b) (region_around t b)) hb.1 in
    let s = split_head ha.0 hb.0 _ _ there in
    let rest : length (results_of t a) ∷ operand_words (operands_of t a) (region_around t a) ≡ length (results_of t b) ∷ operand_words (operands_of t b) (region_around t b) = s.1 in
    let results : length (results_of t b) ≡ length (results_of t a) = cc in
    let operands : operand_words (operands_of t a) (region_around t a) ≡ operand_words (operands_of t b) (region_around t b) = cc in
    let o = split_operands (operands_of t a) (operands_of t b) (region_around t a) (region_around t b) operands in
    record {
      alike = record {
        head = hb.1 ∙ ap Some (sym s.0) ∙ sym ha.1;
        operands = o.0;
        results = results;
        no_successors = rb.successors;
        none_of_first = ra.successors;
        no_regions = rb.regions;
        no_region_of_first = ra.regions;
        harmless = rb.harmless;
      };
      near = o.1;
    }

-- and what does the same has the same numbers
pub alike_same_key : (side_effects : Head → Option Bool) (t : Tree) (a b : ℕ) → MayMerge side_effects t a b → key_words t a ≡ key_words t b
alike_same_key side_effects t a b n =
    ap (λ z. head_words_of z ++ length (results_of t a) ∷ operand_words (operands_of t a) (region_around t a)) (sym n.alike.head)
    ∙ ap (λ z. head_words_of (head_of t b) ++ z ∷ operand_words (operands_of t a) (region_around t a)) (sym n.alike.results)
    ∙ ap (λ z. head_words_of (head_of t b) ++ length (results_of t b) ∷ operand_words z (region_around t a)) (sym n.alike.operands)
    ∙ ap (λ z. head_words_of (head_of t b) ++ length (results_of t b) ∷ z) (same (operands_of t b) n.near)
  where
    same : (xs : List ℕ) → (xs ≡ [] → region_around t a ≡ region_around t b) → operand_words xs (region_around t a) ≡ operand_words xs (region_around t b)
    same [] h = ap (λ z. 0 ∷ option_to_list z) (h refl)
    same (x ∷ xs) h = refl

pub alike_repeats : (side_effects : Head → Option Bool) (t : Tree) (a b : ℕ) → MayMerge side_effects t a b → IsEliminable side_effects t a × IsEliminable side_effects t b
alike_repeats side_effects t a b n = (
  record { regions = n.alike.no_region_of_first; successors = n.alike.none_of_first; harmless = λ h e. n.alike.harmless h (n.alike.head ∙ e) },
  record { regions = n.alike.no_regions; successors = n.alike.no_successors; harmless = n.alike.harmless },
)

attrs_next : (xs : List AttrObj) (i : ℕ) (x : AttrObj) → slice_get xs i ≡ Some x → attrs_words (take (suc i) xs) ≡ attrs_words (take i xs) ++ attr_words x
attrs_next [] i x e = absurd (cc e)
attrs_next (y ∷ ys) zero x e = let same : y ≡ x = cc in append-nil (attr_words y) ∙ ap attr_words same
attrs_next (y ∷ ys) (suc i) x e = ap (λ z. attr_words y ++ z) (attrs_next ys i x e) ∙ sym (append_assoc (attr_words y) (attrs_words (take i ys)) (attr_words x))

pub one_more_attr : (old mid new : List ℕ) (xs : List AttrObj) (i : ℕ) (x : AttrObj) → slice_get xs i ≡ Some x → mid ≡ old ++ attrs_words (take i xs) → new ≡ mid ++ attr_words x → new ≡ old ++ attrs_words (take (i + 1) xs)
one_more_attr old mid new xs i x at was push =
    let plus : suc i ≡ i + 1 = omega arith in
    push ∙ ap (λ z. z ++ attr_words x) was ∙ append_assoc old (attrs_words (take i xs)) (attr_words x) ∙ ap (λ z. old ++ z) (sym (attrs_next xs i x at)) ∙ ap (λ n. old ++ attrs_words (take n xs)) plus

pub some_operand_words : (xs : List ℕ) (region : Option ℕ) (count : ℕ) (old mid new : List ℕ) → count ≡ length xs → count ≢ 0 → mid ≡ old ++ count ∷ [] → new ≡ mid ++ xs → new ≡ old ++ operand_words xs region
some_operand_words [] region count old mid new is ne a b = absurd (ne is)
some_operand_words (x ∷ xs) region count old mid new is ne a b = b ∙ ap (λ z. z ++ x ∷ xs) (a ∙ ap (λ z. old ++ z ∷ []) is) ∙ append_assoc old (length (x ∷ xs) ∷ []) (x ∷ xs)

pub no_operand_words : (xs : List ℕ) (region : Option ℕ) (count : ℕ) (old mid new : List ℕ) → count ≡ length xs → count ≡ 0 → mid ≡ old ++ count ∷ [] → new ≡ mid ++ option_to_list region → new ≡ old ++ operand_words xs region
no_operand_words [] region count old mid new is e a b = b ∙ ap (λ z. z ++ option_to_list region) (a ∙ ap (λ z. old ++ z ∷ []) e) ∙ append_assoc old (0 ∷ []) (option_to_list region)
no_operand_words (x ∷ xs) region count old mid new is e a b = absurd (omega (arith, is, e))

-- a map keeps what it has at other keys
pub others_kept : {V : Type 0} (words : V → List ℕ) (other : List ℕ) (key : V) (value : ℕ) (es : List (V × ℕ)) → other ≢ words key
    → lookup (λ k. pointwise nat_eq other (words k)) (insert_entry (λ x y. pointwise nat_eq (words x) (words y)) es key value) ≡ lookup (λ k. pointwise nat_eq other (words k)) es
others_kept words other key value [] ne = ap (λ b. cond b (Some value) None) (apart (pointwise nat_eq other (words key)) refl)
  where
    apart : (b : Bool) → pointwise nat_eq other (words key) ≡ b → pointwise nat_eq other (words key) ≡ false
    apart true e = absurd (ne (same_text other (words key) (sym e)))
    apart false e = e
others_kept words other key value (e ∷ es) ne = go (others_kept words other key value es ne) (pointwise nat_eq (words key) (words e.0)) refl
  where
    test : List ℕ → Bool
    test k = pointwise nat_eq other k

    apart : words key ≡ words e.0 → (b : Bool) → pointwise nat_eq other (words e.0) ≡ b → pointwise nat_eq other (words e.0) ≡ false
    apart s true q = absurd (ne (same_text other (words e.0) (sym q) ∙ sym s))
    apart s false q = q

    go : lookup (λ k. pointwise nat_eq other (words k)) (insert_entry (λ x y. pointwise nat_eq (words x) (words y)) es key value) ≡ lookup (λ k. pointwise nat_eq other (words k)) es
        → (b : Bool) → pointwise nat_eq (words key) (words e.0) ≡ b
        → lookup (λ k. pointwise nat_eq other (words k)) (if pointwise nat_eq (words key) (words e.0) then (e.0, value) ∷ es else e ∷ insert_entry (λ x y. pointwise nat_eq (words x) (words y)) es key value) ≡ lookup (λ k. pointwise nat_eq other (words k)) (e ∷ es)
    go rest true q =
        let off = apart (same_text (words key) (words e.0) (sym q)) (pointwise nat_eq other (words e.0)) refl in
        ap (λ b. lookup (λ k. pointwise nat_eq other (words k)) (if b then (e.0, value) ∷ es else e ∷ insert_entry (λ x y. pointwise nat_eq (words x) (words y)) es key value)) q
        ∙ ap (λ b. cond b (Some value) (lookup (λ k. pointwise nat_eq other (words k)) es)) off
        ∙ sym (ap (λ b. cond b (Some e.1) (lookup (λ k. pointwise nat_eq other (words k)) es)) off)
    go rest false q =
        ap (λ b. lookup (λ k. pointwise nat_eq other (words k)) (if b then (e.0, value) ∷ es else e ∷ insert_entry (λ x y. pointwise nat_eq (words x) (words y)) es key value)) q
        ∙ ap (λ z. cond (pointwise nat_eq other (words e.0)) (Some e.1) z) rest
