-- The operation of a module, and what it holds.
use Rattle.std.proofs.Common.{◌≡◌, ℕ, zero, suc, ◌+◌, ◌<◌, ◌≤◌, List, [], ◌∷◌, ◌++◌, length, map, get_or, set, replicate, take, append_assoc, append-nil, Option, Some, None, refl, sym, ap, ◌∙◌, subst, arith, length-append}
use Rattle.std.specs.Prelude.{slice_get, flat_map}
use Rattle.std.proofs.Math.Seq.{get_or-append_seam}
use Rattle.std.proofs.lemmas.List.{length-set, get_or-set_same, take_all, take_more}
use Rattle.pliron_core.specs.declared.attrs.Head.{Head}
use Rattle.pliron_core.specs.declared.context.OperationEntry.{OperationEntry}
use Rattle.pliron_core.specs.Tree.{Tree, head_of, no_entry, regions_of, layout_of, body_of, parent_of}
use Rattle.pliron_core.specs.Writes.{after_creating, block_created, moved_last, put_last, taken_from}
use Rattle.pliron_core.specs.Invariant.{HaveSameKeys}
use Rattle.pliron_text_llvm_parts.specs.declared.parts.SheetPart.{SheetPart}
use Rattle.pliron_text_llvm_documents.specs.Documents.{function_of, functions_of, HoldsFunctions, KeepsHeads}

-- ---- an operation that is in no block moves into one

moved_is : (t : Tree) (op block : ℕ) → parent_of t op ≡ None → moved_last t op block ≡ put_last t op block
moved_is t op block free = ap (λ o. put_last (taken_from t op o) op block) free

pub moved_operations : (t : Tree) (op block : ℕ) → parent_of t op ≡ None → (moved_last t op block).operations ≡ t.operations
moved_operations t op block free = ap (λ z. z.operations) (moved_is t op block free)

pub moved_layouts : (t : Tree) (op block : ℕ) → parent_of t op ≡ None → (moved_last t op block).layouts ≡ t.layouts
moved_layouts t op block free = ap (λ z. z.layouts) (moved_is t op block free)

pub moved_blocks : (t : Tree) (op block : ℕ) → parent_of t op ≡ None → length (moved_last t op block).bodies ≡ length t.bodies
moved_blocks t op block free = ap (λ z. length z.bodies) (moved_is t op block free) ∙ length-set t.bodies block (body_of t block ++ op ∷ [])

pub moved_body : (t : Tree) (op block : ℕ) → parent_of t op ≡ None → block < length t.bodies → body_of (moved_last t op block) block ≡ body_of t block ++ op ∷ []
moved_body t op block free less = ap (λ z. body_of z block) (moved_is t op block free) ∙ get_or-set_same t.bodies block (body_of t block ++ op ∷ []) [] less

pub ruleset moved_steps = (moved_operations, moved_layouts, moved_blocks, moved_body)

-- ---- a new operation, and its first block

created_regions : (t : Tree) (head : Head) → regions_of (after_creating t head 0 1) (length t.operations) ≡ length t.slots ∷ []
created_regions t head = ap (λ entry. entry.regions) (get_or-append_seam t.operations _ [] _)

only_region : (region slot : ℕ) (regions : List ℕ) → regions ≡ slot ∷ [] → slice_get regions 0 ≡ Some region → region ≡ slot
only_region region slot regions e at = let h : Some slot ≡ Some region = sym (ap (λ rs. slice_get rs 0) e) ∙ at in cc

empty_layout : (t : Tree) (head : Head) (region : ℕ) → region ≡ length t.layouts → layout_of (after_creating t head 0 1) region ≡ []
empty_layout t head region e = ap (λ r. get_or (t.layouts ++ [] ∷ []) r []) e ∙ get_or-append_seam t.layouts [] [] []

pub record HasEmptyBlock (t : Tree) (root region block : ℕ) : Type 0 where
  pub regions : regions_of t root ≡ region ∷ []
  pub layout : layout_of t region ≡ block ∷ []
  pub body : body_of t block ≡ []
  pub within : block < length t.bodies

pub root_holds : (t : Tree) (head : Head) (u v : Tree) (root region block : ℕ) → HaveSameKeys t → root ≡ length t.operations → u ≡ after_creating t head 0 1 → slice_get (regions_of u root) 0 ≡ Some region
    → block ≡ length u.bodies → v ≡ block_created u region 0 → HasEmptyBlock v root region block
root_holds t head u v root region block keys is_root made at is_block grown =
    let own : regions_of u root ≡ length t.slots ∷ [] = ap (λ z. regions_of z root) made ∙ ap (regions_of (after_creating t head 0 1)) is_root ∙ created_regions t head in
    let slot : region ≡ length t.slots = only_region region (length t.slots) (regions_of u root) own at in
    let last : region ≡ length t.layouts = slot ∙ keys.slots in
    let empty : layout_of u region ≡ [] = ap (λ z. layout_of z region) made ∙ empty_layout t head region last in
    let less : region < length u.layouts = subst (λ z. region < length z.layouts) (sym made) (omega (arith, last, length-append t.layouts ([] ∷ []))) in
    record {
      regions = ap (λ z. regions_of z root) grown ∙ own ∙ ap (λ r. r ∷ []) (sym slot);
      layout = ap (λ z. layout_of z region) grown ∙ get_or-set_same u.layouts region (layout_of u region ++ length u.bodies ∷ []) [] less ∙ ap (λ xs. xs ++ length u.bodies ∷ []) empty ∙ ap (λ b. b ∷ []) (sym is_block);
      body = ap (λ z. body_of z block) grown ∙ ap (λ b. get_or (u.bodies ++ [] ∷ []) b []) is_block ∙ get_or-append_seam u.bodies [] [] [];
      within = subst (λ z. block < length z.bodies) (sym grown) (omega (arith, is_block, length-append u.bodies ([] ∷ [])));
    }

-- ---- functions that are put into it

pub nothing_more : (body : List ℕ) → body ≡ body ++ []
nothing_more body = sym (append-nil body)

pub functions_none : (parts : List SheetPart) → [] ≡ functions_of (take 0 parts)
functions_none parts = refl

functions_append : (parts others : List SheetPart) → functions_of (parts ++ others) ≡ functions_of parts ++ functions_of others
functions_append [] others = refl
functions_append (part ∷ parts) others = ap (λ xs. function_of part ++ xs) (functions_append parts others) ∙ sym (append_assoc (function_of part) (functions_of parts) (functions_of others))

pub functions_more : (parts : List SheetPart) (i : ℕ) (d : SheetPart) (body after : List ℕ) → i < length parts → body ≡ functions_of (take i parts) → after ≡ body ++ functions_of (get_or parts i d ∷ []) → after ≡ functions_of (take (i + 1) parts)
functions_more parts i d body after less is grown =
    grown ∙ ap (λ xs. xs ++ functions_of (get_or parts i d ∷ [])) is ∙ sym (functions_append (take i parts) (get_or parts i d ∷ [])) ∙ sym (ap functions_of (take_more parts i d less))

pub functions_all : (parts : List SheetPart) (i : ℕ) (body : List ℕ) → length parts ≤ i → body ≡ functions_of (take i parts) → body ≡ functions_of parts
functions_all parts i body past is = is ∙ ap functions_of (take_all i parts past)

-- ---- the whole

pub root_holds_functions : (t u : Tree) (root region block : ℕ) (parts : List SheetPart) → HasEmptyBlock t root region block → u.operations ≡ t.operations → u.layouts ≡ t.layouts → body_of u block ≡ functions_of parts
    → HoldsFunctions u root parts
root_holds_functions t u root region block parts has operations layouts body = (
  region,
  block,
  ap (λ xs. (get_or xs root no_entry).regions) operations ∙ has.regions,
  ap (λ xs. get_or xs region []) layouts ∙ has.layout,
  body,
)

head_within : (xs ys : List OperationEntry) (op : ℕ) (head : Head) → (get_or xs op no_entry).head ≡ Some head → (get_or (xs ++ ys) op no_entry).head ≡ Some head
head_within [] ys op head is = cc
head_within (x ∷ xs) ys zero head is = is
head_within (x ∷ xs) ys (suc op) head is = head_within xs ys op head is

pub root_keeps_heads : (t u v w : Tree) (head : Head) (region : ℕ) → u ≡ after_creating t head 0 1 → v ≡ block_created u region 0 → w.operations ≡ v.operations → KeepsHeads t w
root_keeps_heads t u v w head region made grown same = record {
  heads = λ op h is.
      ap (λ xs. (get_or xs op no_entry).head) (same ∙ ap (λ z. z.operations) grown ∙ ap (λ z. z.operations) made) ∙ head_within t.operations _ op h is;
}
