-- Lists and owners agree.
use Rattle.std.proofs.Common.{◌≡◌, ◌⊎◌, ℕ, ◌<◌, ◌≤◌, List, [], length, get_or, Some, None, sym, ◌∙◌, subst, inl, inr, arith}
use Rattle.std.proofs.lemmas.List.{get_or_past}
use Rattle.pliron_core.specs.declared.links.Node.{Node}
use Rattle.pliron_core.specs.declared.links.Ends.{Ends}
use Rattle.pliron_core.specs.Lists.{AreOwned}
use Rattle.pliron_core.specs.Nodes.{In, IsDistinct, AreSoundLists, node_at, lists_of, owners_of}
use Rattle.pliron_core.proofs.RowLemmas.{owner-row}
use Rattle.pliron_core.proofs.SoundLemmas.{owners-at}

cases_lt : (l n : ℕ) → (l < n) ⊎ (n ≤ l)
cases_lt l n = grind arith

pub owned-sound : (nodes : List Node) (ends : List Ends) → AreSoundLists nodes ends (lists_of nodes ends) → AreOwned (owners_of nodes) (lists_of nodes ends)
owned-sound nodes ends s = record {
  listed = λ x l e. (s.owned x l (sym (owners-at nodes x) ∙ e)).1;
  owned = λ x l i. owners-at nodes x ∙ owner x l i (cases_lt l (length ends));
  distinct = λ l. distinct l (cases_lt l (length ends));
}
  where
    past : (l : ℕ) → length ends ≤ l → get_or (lists_of nodes ends) l [] ≡ []
    past l le = get_or_past (lists_of nodes ends) l [] (subst (λ n. n ≤ l) s.count le)

    owner : (x l : ℕ) → In x (get_or (lists_of nodes ends) l []) → (l < length ends) ⊎ (length ends ≤ l) → (node_at nodes x).owner ≡ Some l
    owner x l i (inl lt) = owner-row nodes l None (get_or (lists_of nodes ends) l []) None x (s.each l lt).row i
    owner x l i (inr le) = absurd (subst (In x) (past l le) i)

    distinct : (l : ℕ) → (l < length ends) ⊎ (length ends ≤ l) → IsDistinct (get_or (lists_of nodes ends) l [])
    distinct l (inl lt) = (s.each l lt).distinct
    distinct l (inr le) = subst IsDistinct (sym (past l le)) tt
