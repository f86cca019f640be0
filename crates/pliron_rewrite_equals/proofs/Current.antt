-- An operation that gives at once gave at its first move, so its results are what it would give now.
use Rattle.std.proofs.Common.{◌≡◌, ℕ, Bool, List, refl, sym, ap₂, ◌∙◌}
use Rattle.pliron_laws.specs.Datum.{Datum, Empty, Shape, Give, Visit, Emit}
use Rattle.pliron_laws.specs.Tree.{shape_of}
use Rattle.pliron_laws.specs.Acting.{Act, Comes, Begins, Answered, AnsweredByWorld}
use Rattle.pliron_theory.proofs.Alike.{data_long}
use Rattle.pliron_rewrite_equals.specs.Current.{CurrentLaw}
use Rattle.pliron_rewrite_equals.proofs.Given.{results_given}

visit_gives : {n : ℕ} {ds values : List Datum} {next : Datum} → Visit n ds next ≡ Give values → ⊥
visit_gives e = cc

emit_gives : {reported next : Datum} {values : List Datum} → Emit reported next ≡ Give values → ⊥
emit_gives e = cc

-- what gives at its first move comes nowhere else
only_begins : (act : Act) (s : Shape) (first r : List Datum) → act s Empty first ≡ Give r → {later : Bool} {memo : Datum} {input : List Datum} → Comes act s first later memo input → (memo ≡ Empty) × (input ≡ first)
only_begins act s first r e Begins = (refl, refl)
only_begins act s first r e (Answered i ds next answer c f) =
    let x = only_begins act s first r e c in
    absurd (visit_gives (sym f ∙ ap₂ (λ p q. act s p q) x.0 x.1 ∙ e))
only_begins act s first r e (AnsweredByWorld effect next answer c f) =
    let x = only_begins act s first r e c in
    absurd (emit_gives (sym f ∙ ap₂ (λ p q. act s p q) x.0 x.1 ∙ e))

pub results_current : CurrentLaw
results_current m t root k w f inside none now u rest s b r e quiet =
    let g = results_given m t root k w f inside none u rest s b r e quiet in
    let n = now g.operation g.liveness g.first (data_long s.environment g.operation.operands g.first g.has) in
    let x = only_begins m.act (shape_of m t g.operation) g.first n.0 n.1 g.comes in
    record { operation = g.operation; liveness = g.liveness; input = g.first; has = g.has; given = g.given; gives = sym (ap₂ (λ p q. m.act (shape_of m t g.operation) p q) x.0 x.1) ∙ g.gives; results = g.results }
