-- Blocks that follow each other.
use Rattle.std.proofs.Common.{◌≡◌, ℕ, zero, suc, ◌+◌, ◌-◌, ◌<◌, ◌≤◌, true, List, [], ◌∷◌, ◌++◌, length, take, drop, length-drop, refl, sym, ◌∙◌, ap, subst, arith}
use Rattle.std.specs.Prelude.{take_while, slice_get}
use Rattle.std.proofs.lemmas.List.Sums.{take_while-cons}
use Rattle.pliron_text_llvm_reader.specs.declared.blocks.LineRole.{LineRole}
use Rattle.pliron_text_llvm_reader.specs.declared.blocks.LineRole.TheVariants.{Label, Plain, Terminator}
use Rattle.pliron_text_llvm_reader.specs.declared.blocks.BlockLines.{BlockLines}
use Rattle.pliron_text_llvm_reader.specs.Blocks.{is_plain_line, is_run, is_block, is_end, open_len, IsBlockAt, AreBlocks}

pub end_within : (roles : List LineRole) (n : ℕ) → is_end (slice_get roles n) ≡ true → n < length roles
end_within [] n h = cc
end_within (role ∷ roles) zero h = omega arith
end_within (role ∷ roles) (suc n) h = let less = end_within roles n h in omega (arith, less)

-- plain lines and the line behind them, where that ends the block
run_ended : (roles : List LineRole) → is_end (slice_get roles (length (take_while is_plain_line roles))) ≡ true → is_run (take (suc (length (take_while is_plain_line roles))) roles) ≡ true
run_ended [] h = cc
run_ended (Label ∷ roles) h = cc
run_ended (Plain ∷ roles) h =
    let more : length (take_while is_plain_line (Plain ∷ roles)) ≡ suc (length (take_while is_plain_line roles)) = ap length (take_while-cons is_plain_line Plain roles) in
    let ends : is_end (slice_get (Plain ∷ roles) (suc (length (take_while is_plain_line roles)))) ≡ true = subst (λ n. is_end (slice_get (Plain ∷ roles) n) ≡ true) more h in
    subst (λ n. is_run (take (suc n) (Plain ∷ roles)) ≡ true) (sym more) (run_ended roles ends)
run_ended (Terminator ∷ roles) h = refl

block_whole : (roles : List LineRole) → is_end (slice_get roles (open_len roles)) ≡ true → is_block (take (suc (open_len roles)) roles) ≡ true
block_whole [] h = cc
block_whole (Label ∷ roles) h = run_ended roles h
block_whole (Plain ∷ roles) h = run_ended (Plain ∷ roles) h
block_whole (Terminator ∷ roles) h = run_ended (Terminator ∷ roles) h

-- a block up to its end
pub block_ended : (roles : List LineRole) (last len : ℕ) → last ≡ open_len roles → is_end (slice_get roles last) ≡ true → len ≡ last + 1 → IsBlockAt roles len
block_ended roles last len same h e =
    let ends : is_end (slice_get roles (open_len roles)) ≡ true = subst (λ n. is_end (slice_get roles n) ≡ true) same h in
    let within = end_within roles (open_len roles) ends in
    let longer : suc (open_len roles) ≡ len = omega (arith, e, same) in
    (omega (arith, e), omega (arith, e, same, within), subst (λ n. is_block (take n roles) ≡ true) longer (block_whole roles ends))

-- one more block behind the last
blocks_append : (roles : List LineRole) (start at : ℕ) (blocks : List BlockLines) (block : BlockLines) → AreBlocks roles start at blocks → block.start ≡ at → at < block.end
    → is_block (take (block.end - at) (drop at roles)) ≡ true → AreBlocks roles start block.end (blocks ++ block ∷ [])
blocks_append roles start at [] block h begins some whole =
    let same : at ≡ start = sym h in
    (begins ∙ same, subst (λ n. n < block.end) same some, subst (λ n. is_block (take (block.end - n) (drop n roles)) ≡ true) same whole, refl)
blocks_append roles start at (first ∷ blocks) block h begins some whole = (h.0, h.1, h.2, blocks_append roles first.end at blocks block h.3 begins some whole)

-- no block
pub blocks_none : (roles : List LineRole) (start : ℕ) (blocks : List BlockLines) → blocks ≡ [] → AreBlocks roles start start blocks
blocks_none roles start blocks e = subst (AreBlocks roles start start) (sym e) refl

-- they end where the last line is
pub blocks_end : (roles : List LineRole) (start at end : ℕ) (blocks : List BlockLines) → AreBlocks roles start at blocks → at ≤ end → end ≤ at → AreBlocks roles start end blocks
blocks_end roles start at end blocks h le ge = subst (λ n. AreBlocks roles start n blocks) (let e : at ≡ end = omega (arith, le, ge) in e) h

-- a block more
pub block_added : (roles rest : List LineRole) (at len end : ℕ) (blocks after : List BlockLines) → AreBlocks roles 0 at blocks → at ≤ length roles → rest ≡ drop at roles → IsBlockAt rest len → end ≡ at + len
    → after ≡ blocks ++ (record { start = at; end = end }) ∷ [] → AreBlocks roles 0 end after × (end ≤ length roles)
block_added roles rest at len end blocks after h within same block sum e =
    let long : length rest ≡ length roles - at = ap length same ∙ length-drop at roles in
    let less : at < end = omega (arith, sum, block.0) in
    let count : len ≡ end - at = omega (arith, sum) in
    let whole : is_block (take (end - at) (drop at roles)) ≡ true = subst (λ xs. is_block (take (end - at) xs) ≡ true) same (subst (λ n. is_block (take n rest) ≡ true) count block.2) in
    (subst (AreBlocks roles 0 end) (sym e) (blocks_append roles 0 at blocks (record { start = at; end = end }) h refl less whole), omega (arith, sum, long, block.1, within))
