-- Lemmas on a user whose taken places came together at the front.
use Rattle.std.proofs.Common.{◌≡◌, ◌≢◌, ℕ, ◌-◌, ◌<◌, ◌≤◌, false, List, [], length, get_or, set, Some, sym, ap, ◌∙◌, arith}
use Rattle.std.proofs.lemmas.List.{length-map, length-set}
use Rattle.pliron_core.specs.declared.use_slots.UseSlot.{UseSlot}
use Rattle.pliron_core.specs.declared.use_slots.Holes.{Holes}
use Rattle.pliron_core.specs.declared.use_slots.Holes.TheVariants.{OneGap}
use Rattle.pliron_core.specs.UseSlots.{at, targets_held, no_target, targets_in}
use Rattle.pliron_core.specs.Holes.{gap_in, counted_in, gap_of, is_counted, HaveHoles}
use Rattle.pliron_core.proofs.HoleLemmas.{gap-first, holes-other, hole-written}
use Rattle.pliron_core.proofs.RelocateLemmas.{held-kept}

pub same-many : (rows rows' : List (List UseSlot)) → targets_in rows' ≡ targets_in rows → length rows' ≡ length rows
same-many rows rows' e = sym (length-map rows' targets_held) ∙ ap length e ∙ length-map rows targets_held

-- what is known of the holes, with that user's gap at the end of its row
pub record Settled (rows : List (List UseSlot)) (holes : List Holes) (user : ℕ) : Type 0 where
  pub have : HaveHoles rows holes
  pub within : user < length holes
  pub gapped : is_counted holes user ≡ false
  pub end : (gap_of holes user).start ≡ length (targets_held (get_or rows user []))

pub settled-hole : (rows rows' : List (List UseSlot)) (holes : List Holes) (user start len : ℕ) → user < length holes → targets_in rows' ≡ targets_in rows → start ≡ length (targets_held (get_or rows user [])) → start ≤ length (get_or rows user [])
    → length (get_or rows' user []) ≡ length (get_or rows user []) → len ≡ length (get_or rows' user []) - start
    → ((n : ℕ) (p : UseSlot) → at rows' user n ≡ Some p → n < start → p.target ≢ no_target) → ((n : ℕ) (p : UseSlot) → at rows' user n ≡ Some p → start ≤ n → p.target ≡ no_target)
    → ((u : ℕ) → u ≢ user → get_or rows' u [] ≡ get_or rows u []) → HaveHoles rows holes → Settled rows' (set holes user (OneGap (record { start = start; len = len }))) user
settled-hole rows rows' holes user start len within targets taken few long len_is first free others all =
    let hole : Holes = OneGap (record { start = start; len = len }) in
    let written = hole-written holes user (OneGap (record { start = start; len = len })) within in
    record {
      have = holes-other rows rows' holes user _ (omega (arith, within, all.count)) (same-many rows rows' targets) others (gap-first (get_or rows' user []) start len (omega (arith, few, long)) len_is first free) all;
      within = omega (arith, within, length-set holes user (OneGap (record { start = start; len = len })));
      gapped = ap counted_in written;
      end = ap (λ h. (gap_in h).start) written ∙ taken ∙ ap length (sym (held-kept rows rows' user targets));
    }
