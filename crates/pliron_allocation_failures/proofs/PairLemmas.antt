-- What folding a pair makes of a tree.
use Rattle.std.proofs.Common.{◌≡◌, ◌∙◌, ℕ, List, [], ◌∷◌, length, Option, Some, Result, Ok, Err, IfOk, OnOk, refl, sym, ap, subst, arith, pos, if◌then◌else◌}
use Rattle.pliron_core.specs.declared.attrs.AttrObj.{AttrObj}
use Rattle.pliron_core.specs.declared.attrs.AttrObj.TheVariants.{Int}
use Rattle.pliron_core.specs.declared.attrs.IRStatus.{IRStatus}
use Rattle.pliron_core.specs.Tree.{Tree, IsLive, results_of}
use Rattle.pliron_laws.specs.Outcomes.{Materialises}
use Rattle.pliron_laws.specs.InPlace.{materialising_outcome}
use Rattle.pliron_laws.proofs.ShapeLemmas.{live_at}
use Rattle.pliron_laws.proofs.FoldLemmas.{results_at}
use Rattle.pliron_dialect_bench.specs.BenchMoves.{bench}
use Rattle.pliron_dialect_bench.specs.BenchAnswers.{bench_accepts, bench_constant_head}
use Rattle.pliron_dialect_bench.proofs.BenchSingle.{put_all, put_is}
use Rattle.pliron_allocation_failures.specs.Pairs.{both_put}

two_of : (xs : List ℕ) → length xs ≡ 2 → (first : ℕ) × (second : ℕ) × (xs ≡ first ∷ second ∷ [])
two_of [] e = absurd (omega (arith, e))
two_of (a ∷ []) e = absurd (omega (arith, e))
two_of (a ∷ b ∷ []) e = (a, b, refl)
two_of (a ∷ b ∷ c ∷ more) e = absurd (omega (arith, e))

abbrev answers : List (Option AttrObj)
answers = Some (Int (pos 1)) ∷ Some (Int (pos 2)) ∷ []

two_put : (t : Tree) (op first second : ℕ) → put_all bench_accepts bench_constant_head op (first ∷ second ∷ []) answers t ≡ both_put t op first second
unfolding put_all
two_put t op first second = refl

-- both results are put for constants
abbrev pub BothPut : Tree → Tree → ℕ → Type 0
BothPut t u op = (first : ℕ) × (second : ℕ) × (results_of t op ≡ first ∷ second ∷ []) × (u ≡ both_put t op first second)

pub both_are_put : (t u : Tree) (op : ℕ) (known : List (Option AttrObj)) (status : IRStatus) → IsLive t op → length (results_of t op) ≡ 2 → materialising_outcome bench (λ s known. answers) bench_accepts bench_constant_head t u op known (Some status) → BothPut t u op
both_are_put t u op known status live long is =
    let at = live_at t op live in
    let two = two_of (results_of t op) long in
    let all : Materialises bench_accepts bench_constant_head op (results_of t op) answers t u = subst (λ l. Materialises bench_accepts bench_constant_head op l answers t u) (sym (results_at t op at.0 at.1)) (is.0 at.0 at.1) in
    (two.0, two.1, two.2, put_is bench_accepts bench_constant_head op (results_of t op) answers t u all ∙ ap (λ l. put_all bench_accepts bench_constant_head op l answers t) two.2 ∙ two_put t op two.0 two.1)

pub on_ok_of : {T E : Type 0} (P : T → Type 0) (Q : Type 0) (r : Result T E) → ((x : T) → P x → Q) → IfOk r P → OnOk r Q
on_ok_of P Q (Ok x) f is = f x is
on_ok_of P Q (Err e) f is = tt
