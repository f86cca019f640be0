-- What is seen of operands, and their data.
use Rattle.std.proofs.Common.{◌≡◌, ℕ, ◌^◌, ◌<◌, Bool, true, false, nat_eq, ◌&&◌, List, [], ◌∷◌, ◌++◌, Option, Some, None, inl, inr, refl, sym, ap, ap₂, ◌∙◌, subst}
use Rattle.std.proofs.lemmas.Bool.Decides.{Decides-eqb}
use Rattle.pliron_core.specs.declared.attrs.AttrObj.{AttrObj}
use Rattle.pliron_core.specs.declared.attrs.AttrObj.TheVariants.{Int, Text as Words}
use Rattle.pliron_core.specs.declared.attrs.Head.{Head}
use Rattle.pliron_core.specs.Tree.{In}
use Rattle.pliron_core.proofs.HoldingLemmas.{not_none, some_is}
use Rattle.pliron_laws.specs.Datum.{Datum, Number, datum_of, Meaning}
use Rattle.pliron_laws.specs.States.{Environment, prepend_optional}
use Rattle.pliron_dialect.specs.Roles.{Interpretation}
use Rattle.pliron_bits.specs.declared.operators.Cast.{Cast}
use Rattle.pliron_dialect_mlir.specs.declared.kind.Class.{Class}
use Rattle.pliron_dialect_mlir.specs.declared.computations.Conversion.{Conversion}
use Rattle.pliron_dialect_mlir.specs.Data.{is_width, bits_of_width}
use Rattle.pliron_dialect_mlir.specs.Computations.{conversion_of}
use Rattle.pliron_rewrite_rules.specs.declared.view.Leaf.{Leaf}
use Rattle.pliron_rewrite_rules.specs.declared.view.Leaf.TheVariants.{Unknown, Known}
use Rattle.pliron_rewrite_rules.specs.declared.view.Operand.{Operand}
use Rattle.pliron_rewrite_rules.specs.declared.view.Operand.TheVariants.{Plain, Made}
use Rattle.pliron_rewrite_rules.specs.declared.term.Atom.{Atom}
use Rattle.pliron_rewrite_rules.specs.declared.term.Atom.TheVariants.{Named}
use Rattle.pliron_rewrite_rules.specs.Views.{OperandAgrees, LeafAgrees, leaf_value, leaf_datum, operand_value, operand_values, operand_datum, atom_datum, result_datum}
use Rattle.pliron_mlir_rules.specs.declared.seen.CastSource.{CastSource}
use Rattle.pliron_mlir_rules.specs.Integers.{bits_in, integer, is_integer, below_size}
use Rattle.pliron_mlir_rules.specs.HeadsSay.{both_so, picked, SaysConversion, says_conversion}
use Rattle.pliron_mlir_rules.specs.IntegerActs.{cast_result, mlir_meaning, cast_gives}
use Rattle.pliron_mlir_rules.specs.MlirRules.{leaf_bits, known_bits, is_plain_cast, source_leaf, source_of}

-- a view of two operands has a datum where both have one
pub both_have : (m : Meaning) (head : Head) (p q : Option Datum) (d : Datum) → result_datum m head (prepend_optional p (prepend_optional q (Some []))) ≡ Some d → (e : Datum) × (f : Datum) × (p ≡ Some e) × (q ≡ Some f)
both_have m head None q d is = absurd (not_none is)
both_have m head (Some e) None d is = absurd (not_none is)
both_have m head (Some e) (Some f) d is = (e, f, refl, refl)

pub one_has : (m : Meaning) (head : Head) (p : Option Datum) (d : Datum) → result_datum m head (prepend_optional p (Some [])) ≡ Some d → (e : Datum) × (p ≡ Some e)
one_has m head None d is = absurd (not_none is)
one_has m head (Some e) d is = (e, refl)

pub without_end : (xs : List ℕ) (v : ℕ) → In v (xs ++ []) → In v xs
without_end [] v i = i
without_end (x ∷ xs) v (inl e) = inl e
without_end (x ∷ xs) v (inr i) = inr (without_end xs v i)

-- the value that an operand stands for is in it
pub value_shown : (a : Operand) → In (operand_value a) (operand_values a)
value_shown (Plain leaf) = inl refl
value_shown (Made v head leaves) = inl refl

-- an atom has a datum whose cast is the operand's
pub record IsCastOf (env : Environment) (cast : Cast) (width to : ℕ) (atom : Atom) (x : Datum) : Type 0 where
  pub datum : Datum
  pub has : atom_datum env atom ≡ Some datum
  pub is : x ≡ cast_result cast width to datum

-- what the operand casts is a value of it
pub record IsCastSource (cast : Cast) (to : ℕ) (a : Operand) (s : CastSource) : Type 0 where
  pub is : is_width s.width ≡ true
  pub conversion : Conversion
  pub plain : is_plain_cast cast conversion ≡ true
  pub from : conversion.width ≡ s.width
  pub back : conversion.to ≡ to
  pub shown : In s.value (operand_values a)

-- a cast that rules look through
pub record SaysSource (cast : Cast) (to : ℕ) (head : Head) (leaf : Leaf) (s : CastSource) : Type 0 where
  pub conversion : Conversion
  pub says : SaysConversion cast head conversion
  pub plain : is_plain_cast cast conversion ≡ true
  pub back : conversion.to ≡ to
  pub value_is : leaf_value leaf ≡ s.value
  pub from : conversion.width ≡ s.width

says_source : (cast : Cast) (to : ℕ) (head : Head) (leaf : Leaf) (s : CastSource) → source_leaf cast to (conversion_of cast head) (leaf ∷ []) ≡ Some s → SaysSource cast to head leaf s
says_source cast to head leaf s e = by (conversion_of cast head) refl e
  where
    by : (o : Option Conversion) → conversion_of cast head ≡ o → source_leaf cast to o (leaf ∷ []) ≡ Some s → SaysSource cast to head leaf s
    by None f g = absurd (not_none g)
    by (Some c) f g =
        let both = picked (nat_eq c.to to && is_plain_cast cast c) (record { value = leaf_value leaf; width = c.width }) s g in
        let parts = both_so (nat_eq c.to to) (is_plain_cast cast c) both.0 in
        record {
          conversion = c;
          says = says_conversion cast head c f;
          plain = parts.1;
          back = (Decides-eqb c.to to).0 parts.0;
          value_is = ap (λ x. x.value) both.1;
          from = ap (λ x. x.width) both.1;
        }

no_source : (cast : Cast) (to : ℕ) (s : CastSource) (c : Option Conversion) → source_leaf cast to c [] ≡ Some s → ⊥
no_source cast to s None f = not_none f
no_source cast to s (Some c) f = not_none f

no_sources : (cast : Cast) (to : ℕ) (s : CastSource) (x y : Leaf) (more : List Leaf) (c : Option Conversion) → source_leaf cast to c (x ∷ y ∷ more) ≡ Some s → ⊥
no_sources cast to s x y more None f = not_none f
no_sources cast to s x y more (Some c) f = not_none f

pub is_source : (cast : Cast) (to : ℕ) (a : Operand) (s : CastSource) → source_of cast to a ≡ Some s → IsCastSource cast to a s
is_source cast to (Plain leaf) s e = absurd (not_none e)
is_source cast to (Made v head []) s e = absurd (no_source cast to s (conversion_of cast head) e)
is_source cast to (Made v head (leaf ∷ [])) s e = of (says_source cast to head leaf s e)
  where
    of : SaysSource cast to head leaf s → IsCastSource cast to (Made v head (leaf ∷ [])) s
    of says = record {
      is = subst (λ w. is_width w ≡ true) says.from says.says.is;
      conversion = says.conversion;
      plain = says.plain;
      from = says.from;
      back = says.back;
      shown = inr (inl (sym says.value_is));
    }
is_source cast to (Made v head (leaf ∷ next ∷ more)) s e = absurd (no_sources cast to s leaf next more (conversion_of cast head) e)

module _ {K : Type 0} (class_of : K → Class) (kind : Class → K) (value : Interpretation) (forth : (c : Class) → class_of (kind c) ≡ c) where
  -- what the operand casts has a datum, of which it is the cast
  pub source_casts : (env : Environment) (cast : Cast) (to : ℕ) (a : Operand) (s : CastSource) (x : Datum) → source_of cast to a ≡ Some s → OperandAgrees (mlir_meaning class_of kind value) env a → operand_datum (mlir_meaning class_of kind value) env a ≡ Some x → IsCastOf env cast s.width to (Named s.value) x
  source_casts env cast to (Plain leaf) s x e agrees f = absurd (not_none e)
  source_casts env cast to (Made v head []) s x e agrees f = absurd (no_source cast to s (conversion_of cast head) e)
  source_casts env cast to (Made v head (leaf ∷ [])) s x e agrees f = of (says_source cast to head leaf s e)
    where
      of : SaysSource cast to head leaf s → IsCastOf env cast s.width to (Named s.value) x
      of says =
          let one = one_has (mlir_meaning class_of kind value) head (leaf_datum env leaf) x f in
          record {
            datum = one.0;
            has = ap env (sym says.value_is) ∙ agrees.1.0 ∙ one.1;
            is = some_is (sym f ∙ ap (λ o. result_datum (mlir_meaning class_of kind value) head (prepend_optional o (Some []))) one.1
                ∙ cast_gives class_of kind value forth head cast says.conversion says.says says.plain one.0)
                ∙ ap₂ (λ w u. cast_result cast w u one.0) says.from says.back;
          }
  source_casts env cast to (Made v head (leaf ∷ next ∷ more)) s x e agrees f = absurd (no_sources cast to s leaf next more (conversion_of cast head) e)

  -- the value that an operand stands for has its datum
  pub value_has : (env : Environment) (a : Operand) → OperandAgrees (mlir_meaning class_of kind value) env a → env (operand_value a) ≡ operand_datum (mlir_meaning class_of kind value) env a
  value_has env (Plain leaf) agrees = agrees
  value_has env (Made v head leaves) agrees = agrees.0

  -- a number that is known is the datum
  pub leaf_reads : (env : Environment) (width : ℕ) (leaf : Leaf) (k : ℕ) (y : Datum) → leaf_bits width leaf ≡ Some k → leaf_datum env leaf ≡ Some y → y ≡ integer width k
  leaf_reads env width (Unknown v) k y e f = absurd (not_none e)
  leaf_reads env width (Known v (Int z)) k y e f = sym (some_is f) ∙ is_integer width (Number z) k e
  leaf_reads env width (Known v (Words s)) k y e f = absurd (not_none e)

  pub known_reads : (env : Environment) (width : ℕ) (b : Operand) (k : ℕ) (y : Datum) → known_bits width b ≡ Some k → operand_datum (mlir_meaning class_of kind value) env b ≡ Some y → y ≡ integer width k
  known_reads env width (Plain leaf) k y e f = leaf_reads env width leaf k y e f
  known_reads env width (Made v head leaves) k y e f = absurd (not_none e)

-- known bits are below the size
pub leaf_below : (width : ℕ) (leaf : Leaf) (k : ℕ) → leaf_bits width leaf ≡ Some k → k < 2 ^ bits_of_width width
leaf_below width (Unknown v) k e = absurd (not_none e)
leaf_below width (Known v (Int z)) k e = below_size width (Number z) k e
leaf_below width (Known v (Words s)) k e = absurd (not_none e)

pub known_below : (width : ℕ) (b : Operand) (k : ℕ) → known_bits width b ≡ Some k → k < 2 ^ bits_of_width width
known_below width (Plain leaf) k e = leaf_below width leaf k e
known_below width (Made v head leaves) k e = absurd (not_none e)
