use Rattle.std.proofs.Common.{◌≡◌, ◌*◌, is_err, sym, refl, ap, ◌∙◌}
use Rattle.terms.proofs.Refused as terms
use Rattle.book.specs.Meaning.{Meaning, entered}
use Rattle.book.specs.Deposits.{deposit_refusal}
use Rattle.rules.specs.Valuation.{reviewed, call_cleared}
use Rattle.ledger.specs.View.{view}
use Rattle.ledger.proofs.Calls.{refused, handed_on, taken, untouched_then}
use Rattle.ledger.proofs.ledger.Ledger.deposit.Goals as goal

pub returns-in_err-move_deposit : goal.returns-in_err-move_deposit
returns-in_err-move_deposit g c =
    let was = c.in_err-move_deposit.was in
    let book = c.move_deposit.ensures.same (ap is_err was) in
    refused (terms.refused _ _ (sym c.move_deposit.ensures.answers ∙ was)) (handed_on c.from_residual.ensures.1) book (ap g.B.Book.meaning book)

pub returns : goal.returns
returns g c =
    let mean = g.B.Book.meaning in
    let before = mean c.args.book.now in
    let after = mean c.move_deposit.new.book in
    let a = c.args.account in
    let none = terms.taken (deposit_refusal before a c.args.yen) (sym c.move_deposit.ensures.answers ∙ c.in_ok-move_deposit.was) in
    let book : after ≡ entered before 0 a (100 * c.args.yen) = c.move_deposit.ensures.leaves ∙ terms.unless_none _ _ _ none in
    let state = c.review.ensures.view ∙ ap (reviewed after) c.clear_call.ensures.view ∙ ap (λ (x : Meaning). reviewed x (call_cleared a x (view c.args.self.now))) book in
    taken none refl state book (untouched_then c.review.ensures.slots c.clear_call.ensures.slots)
