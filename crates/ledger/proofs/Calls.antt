-- What shows that a call was refused or taken, and which slots it left alone.
use Rattle.std.proofs.Common.{◌≡◌, ℕ, ◌+◌, ◌-◌, length, drop, is_err, Some, None, Ok, Err, Result, sym, refl, ap, ◌∙◌, arith}
use Rattle.std.specs.Result.{IsErrAnd}
use Rattle.std.proofs.lemmas.List.{drop-drop}
use Rattle.std.proofs.lemmas.Bool.{false≢true}
use Rattle.std.proofs.lemmas.Result.{err_from_is_err_and}
use Rattle.slots.specs.Items.{items, free}
use Rattle.terms.specs.declared.refusal.Refusal.{Refusal}
use Rattle.terms.specs.Refusals.{told, unless}
use Rattle.book.specs.Meaning.{Meaning}
use Rattle.rules.specs.Calls.{Effect}
use Rattle.ledger.specs.declared.ledger.Ledger.{Ledger}
use Rattle.ledger.specs.View.{view, Untouched}
use Rattle.ledger.specs.Done.{Done}

-- at most n orders came: by the k slots past the orders that the call may have written
pub left : (n k : ℕ) {l l' : Ledger} → n + length (items l.orders.list) ≡ k + length (items l'.orders.list) → free l'.lots.list ≡ free l.lots.list → drop k (free l'.orders.list) ≡ drop n (free l.orders.list) → Untouched n l l'
left n k {l} {l'} sum lots orders =
    let z : n + length (items l.orders.list) - length (items l'.orders.list) ≡ k = omega (arith, sum) in
    record { lots = lots; few = omega (arith, sum); orders = ap (λ (j : ℕ). drop j (free l'.orders.list)) z ∙ orders }

-- a call, and then the review, which enters no order
pub untouched_then : {n : ℕ} {l l' l'' : Ledger} → Untouched 0 l' l'' → Untouched n l l' → Untouched n l l''
untouched_then {n} {l} {l'} {l''} v u =
    let a = length (items l.orders.list) in
    let b = length (items l'.orders.list) in
    let d = length (items l''.orders.list) in
    let sum : n + a ≡ (0 + b - d) + (n + a - b) + d = omega (arith, u.few, v.few) in
    left n ((0 + b - d) + (n + a - b)) sum (v.lots ∙ u.lots) (sym (drop-drop (n + a - b) (0 + b - d) (free l''.orders.list)) ∙ ap (drop (n + a - b)) v.orders ∙ u.orders)

-- a refusal that a `?` hands on
pub handed_on : {A : Type 0} {r : Result A Refusal} {why : Refusal} → IsErrAnd r (λ (e : Refusal). e ≡ why) → r ≡ Err why
handed_on {A} {r} {why} h = let e = err_from_is_err_and r h in e.1 ∙ ap Err e.2

module _ {A B : Type 0} {n : ℕ} {e : Effect A} {r : Result A Refusal} {l : Ledger} {b b' : B} {m m' : Meaning} where
  pub refused : {why : Refusal} → e.refusal ≡ Some why → r ≡ Err why → b' ≡ b → m' ≡ m → Done n e r l l b b' m m'
  refused {why} h is book means =
      record {
        answers = is ∙ ap (λ o. told o e.answer) (sym h);
        ledger = ap (λ o. unless o (view l) e.state) (sym h);
        book = means ∙ ap (λ o. unless o m e.book) (sym h);
        same = λ x. (refl, book);
        slots = left n n refl refl refl;
      }

  pub taken : {l' : Ledger} → e.refusal ≡ None → r ≡ Ok e.answer → view l' ≡ e.state → m' ≡ e.book → Untouched n l l' → Done n e r l l' b b' m m'
  taken {l'} h is state book slots =
      record {
        answers = is ∙ ap (λ o. told o e.answer) (sym h);
        ledger = state ∙ ap (λ o. unless o (view l) e.state) (sym h);
        book = book ∙ ap (λ o. unless o m e.book) (sym h);
        same = λ x. absurd (false≢true (sym (ap is_err is) ∙ x));
        slots = slots;
      }
