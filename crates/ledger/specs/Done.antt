-- What the contract of every call says.
use Rattle.std.specs.Prelude.{◌≡◌, ℕ, true, is_err, Result}
use Rattle.terms.specs.declared.refusal.Refusal.{Refusal}
use Rattle.terms.specs.Refusals.{told, unless}
use Rattle.book.specs.Meaning.{Meaning}
use Rattle.rules.specs.Calls.{Effect}
use Rattle.ledger.specs.declared.ledger.Ledger.{Ledger}
use Rattle.ledger.specs.View.{view, Untouched}

-- a call with that effect, which enters n orders, was made on ledger l and book b, which means m; it answered r and left l' and b', which means m'
pub record Done {A B : Type 0} (n : ℕ) (e : Effect A) (r : Result A Refusal) (l l' : Ledger) (b b' : B) (m m' : Meaning) : Type 0 where
  -- the first sentence that applies refuses it, and else it is taken
  pub answers : r ≡ told e.refusal e.answer
  pub ledger : view l' ≡ unless e.refusal (view l) e.state
  pub book : m' ≡ unless e.refusal m e.book
  -- a refused call leaves ledger, slots and book as the very values that they were
  pub same : is_err r ≡ true → (l' ≡ l) × (b' ≡ b)
  pub slots : Untouched n l l'
