-- Which of several sentences refuses a call, and what its answer tells.
use Rattle.std.proofs.Common.{◌≡◌, ℕ, ◌*◌, eqb, List, [], ◌∷◌, ◌++◌, Some, None, Ok, Err, Option, refl, arith}
use Rattle.std.proofs.lemmas.Grind.{common_steps}
use Rattle.std.proofs.lemmas.Bool.Decides.{nat_tests}
use Rattle.terms.specs.declared.refusal.Refusal.{Refusal}
use Rattle.terms.specs.declared.refusal.Refusal.TheVariants.{NoEntryLeft}
use Rattle.terms.specs.Refusals.{Sentence, ◌gives◌, first, told}
use Rattle.book.specs.Meaning.{Meaning, transfer_refusal}
use Rattle.rules.specs.State.{State}
use Rattle.rules.specs.Calls.{withdraw_sentences}

pub told_ok : {A : Type 0} (o : Option Refusal) (a b : A) → told o a ≡ Ok b → (o ≡ None) × (b ≡ a)
told_ok None a b h = (refl, cc)
told_ok (Some e) a b h = absurd cc

pub told_err : {A : Type 0} (o : Option Refusal) (a : A) (e : Refusal) → told o a ≡ Err e → o ≡ Some e
told_err None a e h = absurd cc
told_err (Some d) a e h = cc

-- of two lists of sentences, the first refuses, or the second decides
pub first_before : (xs ys : List Sentence) (e : Refusal) → first xs ≡ Some e → first (xs ++ ys) ≡ Some e
first_before [] ys e h = absurd cc
first_before (x ∷ xs) ys e h = grind (arith, common_steps, first_before xs ys e)

pub first_behind : (xs ys : List Sentence) → first xs ≡ None → first (xs ++ ys) ≡ first ys
first_behind [] ys h = refl
first_behind (x ∷ xs) ys h = grind (arith, common_steps, first_behind xs ys)

-- a withdrawal that is admitted is a lawful transfer
pub withdrawal_lawful : (a yen left : ℕ) (s : State) (m : Meaning) → first (withdraw_sentences a yen s m) ≡ None → transfer_refusal left a 0 (100 * yen) ≡ first (eqb left 0 gives NoEntryLeft ∷ [])
withdrawal_lawful a yen left s m h = grind (arith, nat_tests)
