-- What stands at the start of a text, from what `strip_prefix` answers; and words without brackets.
use Rattle.std.proofs.Common.{◌≡◌, ◌↔◌, ◌≤◌, List, ℕ, ◌++◌, Bool, true, false, Option, None, Some, IsTrue, IsSome, IfSome, refl, sym, ap, ◌∙◌, subst, codes, append_assoc}
use Rattle.std.specs.Prelude.{◌==◌}
use Rattle.std.specs.List.{slice_split}
use Rattle.std.specs.Fmt.{decimal}
use Rattle.std.specs.Str.Pattern.{FindsTextPrefix, StripsPrefix}
use Rattle.std.proofs.lemmas.Bool.{false≢true}
use Rattle.pliron_text.specs.Beginnings.{BeginsWith}
use Rattle.pliron_driver.specs.Plans.{IsNameList, IsPlan, nested_prefix, repeat_prefix}
use Rattle.pliron_driver.specs.PipelineTexts.{Counts, Counts.Once, Counts.ByColon, Counts.InBrackets, Nests, Nests.Itself, Nests.EachByColon, Nests.EachInBrackets, Plans}

pub behind : (start text rest : List ℕ) → StripsPrefix (FindsTextPrefix start) text rest → text ≡ start ++ rest
behind start text rest (n, (long, split, boundary), after, short) = split ∙ ap (λ l. start ++ l) (sym after)

pub begins_otherwise : (start text : List ℕ) → FindsTextPrefix start text None → BeginsWith text start → ⊥
begins_otherwise start text lacks (rest, e) = lacks rest e

-- how often it is run, without brackets
record IsCounted (word : List ℕ) (runs : Option ℕ) (rest : List ℕ) : Type 0 where
  whole : word ≡ repeat_prefix runs ++ rest
  exact : IsSome runs ↔ BeginsWith word (codes "repeat:")
  few : IfSome runs (λ n. (1 ≤ n) × (n ≤ 64))

counted : (word : List ℕ) (runs : Option ℕ) (rest : List ℕ) → Counts false word runs rest → IsCounted word runs rest
counted word _ _ (Once never _) = record { whole = refl; exact = (λ e. absurd (false≢true e), λ b. absurd (never b)); few = tt }
counted word _ _ (ByColon n rest e least most) = record {
  whole = e ∙ ap (λ l. codes "repeat:" ++ l) (sym (append_assoc (decimal n) (codes ":") rest)) ∙ sym (append_assoc (codes "repeat:") (decimal n ++ codes ":") rest);
  exact = (λ s. (decimal n ++ (codes ":" ++ rest), e), λ b. refl);
  few = (least, most);
}
counted word _ _ (InBrackets brackets n rest e least most) = absurd (false≢true brackets)

listed : (text : List ℕ) (nested : Bool) (list : List ℕ) (names : List (List ℕ)) → Nests false text nested list → names ≡ slice_split (λ b. b == 44) list → IsNameList text nested names
listed text _ _ names (Itself never _) pieces = record { list = text; whole = refl; exact = (λ e. absurd (false≢true e), λ b. absurd (never b)); pieces = pieces }
listed text _ _ names (EachByColon list e) pieces = record { list = list; whole = e; exact = (λ s. (list, e), λ b. refl); pieces = pieces }
listed text _ _ names (EachInBrackets brackets list e) pieces = absurd (false≢true brackets)

pub plans_plainly : (word : List ℕ) (runs : Option ℕ) (nested : Bool) (names : List (List ℕ)) → Plans false word runs nested names → IsPlan word runs nested names
plans_plainly word runs nested names p =
    let c = counted word runs p.text p.counts in
    record { rest = p.text; whole = c.whole; exact = c.exact; few = c.few; listed = listed p.text nested p.list names p.nests p.pieces }
