-- Trees stay well linked where uses go to other values, and where operations and blocks go that nothing names.
use Rattle.std.proofs.Common.{◌≡◌, ℕ, Bool, false, length, None, is_some, sym, ap, ◌∙◌, subst}
use Rattle.std.proofs.lemmas.List.{length-map}
use Rattle.pliron_core.specs.Uses.{replace_target}
use Rattle.pliron_core.specs.Tree.{Tree, In, last_of, operands_of, successors_of, body_of}
use Rattle.pliron_core.specs.Invariant.{IsTree}
use Rattle.pliron_core.specs.Writes.{after_replacing}
use Rattle.pliron_core.specs.Erased.{after_erasing}
use Rattle.pliron_laws.specs.Datum.{Meaning}
use Rattle.pliron_theory.specs.Sweeping.{IsSwept, AreNotLive, AreAway}
use Rattle.pliron_theory.proofs.SweptLists.{last_swept}
use Rattle.pliron_theory.proofs.SweptParts.{block_place_back, place_back, jumper_lives, lives, gone_away}
use Rattle.pliron_theory.proofs.SweptStays.{admitted_same}
use Rattle.pliron_theory.proofs.ErasedKeeps.{op_erased, block_erased_with, erased_swept, erased_gone}
use Rattle.pliron_theory.proofs.ReplacedKeeps.{replaced_renamed}
use Rattle.pliron_rewrite_blocks.specs.Links.{KeepsLinks, RenamedLinksLaw, ReplacedLinksLaw, SweptLinksLaw, ErasedLinksLaw}
use Rattle.pliron_rewrite_blocks.proofs.StandingLemmas.{links_stay, links_in_place}

pub renamed_links : RenamedLinksLaw
renamed_links m t v rename h =
    links_in_place m t v h.successors h.parents h.bodies h.block_parents h.slots (λ k a.
    admitted_same m t v k (ap (λ z. z.head) (h.rows k)) (ap length (h.operands k) ∙ length-map (operands_of t k) rename) (ap (λ z. length z.results) (h.rows k)) (ap length (h.successors k)) (ap (λ z. length z.regions) (h.rows k)) a)

pub replaced_links : ReplacedLinksLaw
replaced_links m t old new = renamed_links m t (after_replacing t old new) (replace_target old new) (replaced_renamed t old new)

module _ (m : Meaning) (t v : Tree) (dead dead_block : ℕ → Bool) (w : IsTree t) (wv : IsTree v) (h : IsSwept t v dead dead_block) (g : AreNotLive v dead dead_block) where
  away : AreAway v dead dead_block
  away = gone_away v dead dead_block wv g

  left : (k s : ℕ) → In s (successors_of v k) → dead k ≡ false
  left k s i = jumper_lives t v dead dead_block w wv h away k s i

  target : (k s : ℕ) → In s (successors_of v k) → In s (successors_of t k)
  target k s i = subst (In s) (h.successors k (left k s i)) i

  pub links_swept : KeepsLinks m t v
  links_swept = links_stay m t v (record {
    holders = λ x y e. (place_back t v dead dead_block w wv h away x y e).0;
    block_holders = λ b y e. (block_place_back t v dead dead_block w wv h away b y e).0;
    targets = target;
    ends = λ k s i ends.
        let l = left k s i in
        let lb = h.holders k ends.block ends.in_block l in
        record {
          block = ends.block;
          in_block = h.parents k l ∙ ends.in_block;
          last = ap (last_of None) (h.bodies ends.block lb) ∙ last_swept dead k (body_of t ends.block) l ends.last;
          own_region = λ x j. h.block_parents x (h.targets k x l (target k x j)) ∙ ends.own_region x (target k x j) ∙ sym (h.block_parents ends.block lb);
        };
    admits = λ k a x e.
        let l = lives v dead dead_block wv g k (ap is_some e) in
        let row = h.rows k l in
        admitted_same m t v k (ap (λ z. z.head) row) (ap length (h.operands k l)) (ap (λ z. length z.results) row) (ap length (h.successors k l)) (ap (λ z. length z.regions) row) a x e;
  })

pub swept_links : SweptLinksLaw
swept_links m t v dead dead_block w wv h g = links_swept m t v dead dead_block w wv h g

pub erased_links : ErasedLinksLaw
erased_links m t op w wv live contained = links_swept m t (after_erasing t op) (λ k. op_erased t op k) (λ b. block_erased_with t op b) w wv (erased_swept t op w live contained) (erased_gone t op w live contained)
