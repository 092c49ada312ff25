-- What the answer of a call tells: taken, it met no sentence that refuses it.
use Rattle.std.proofs.Common.{◌≡◌, ℕ, Some, None, Ok, Err, Option, refl, arith}
use Rattle.terms.specs.declared.refusal.Refusal.{Refusal}
use Rattle.terms.specs.Refusals.{answer, unless}

pub taken : (o : Option Refusal) → answer o ≡ Ok tt → o ≡ None
taken None h = refl
taken (Some e) h = let z : ◌≡◌ {A = ℕ} 0 1 = cc in absurd (omega arith)

pub refused : (o : Option Refusal) (e : Refusal) → answer o ≡ Err e → o ≡ Some e
refused None e h = let z : ◌≡◌ {A = ℕ} 0 1 = cc in absurd (omega arith)
refused (Some d) e h = cc

pub unless_none : {X : Type 0} (o : Option Refusal) (x y : X) → o ≡ None → unless o x y ≡ y
unless_none o x y h = rw h

-- a refused call leaves what there was
pub unless_refused : {X : Type 0} (o : Option Refusal) (x y : X) (e : Refusal) → answer o ≡ Err e → unless o x y ≡ x
unless_refused None x y e h = let z : ◌≡◌ {A = ℕ} 0 1 = cc in absurd (omega arith)
unless_refused (Some d) x y e h = refl
