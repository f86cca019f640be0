-- Equal data.
use Rattle.std.proofs.Common.{◌≡◌, Bool, true, false, ◌&&◌, IsTrue, refl, ap, ap₂, arith}
use Rattle.std.specs.Cmp.{signed_Decides}
use Rattle.std.proofs.lemmas.Slice.Eq.{bytes_eq-Decides}
use Rattle.pliron_laws.specs.Datum.{Datum, Empty, Number, Text, Join}
use Rattle.pliron_dialect.specs.Identities.{same_datum}

pub both : (x y : Bool) → IsTrue x → IsTrue y → IsTrue (x && y)
both true y e f = f
both false y e f = grind arith

pub parts : (x y : Bool) → IsTrue (x && y) → IsTrue x × IsTrue y
parts true y e = (refl, e)
parts false y e = grind arith

pub itself : (d : Datum) → IsTrue (same_datum d d)
itself Empty = refl
itself (Number n) = (signed_Decides n n).1 refl
itself (Text s) = (bytes_eq-Decides s s).1 refl
itself (Join a b) = both (same_datum a a) (same_datum b b) (itself a) (itself b)

pub same_is : (d e : Datum) → IsTrue (same_datum d e) → d ≡ e
same_is Empty Empty k = refl
same_is (Number m) (Number n) k = ap Number ((signed_Decides m n).0 k)
same_is (Text s) (Text t) k = ap Text ((bytes_eq-Decides s t).0 k)
same_is (Join a b) (Join c d) k = let p = parts (same_datum a c) (same_datum b d) k in ap₂ Join (same_is a c p.0) (same_is b d p.1)
same_is Empty (Number n) k = grind arith
same_is Empty (Text t) k = grind arith
same_is Empty (Join c d) k = grind arith
same_is (Number m) Empty k = grind arith
same_is (Number m) (Text t) k = grind arith
same_is (Number m) (Join c d) k = grind arith
same_is (Text s) Empty k = grind arith
same_is (Text s) (Number n) k = grind arith
same_is (Text s) (Join c d) k = grind arith
same_is (Join a b) Empty k = grind arith
same_is (Join a b) (Number n) k = grind arith
same_is (Join a b) (Text t) k = grind arith
