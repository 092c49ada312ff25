use Rattle.std.proofs.Common.{◌≡◌, ℕ, ◌*◌, eqb, [], ◌∷◌, is_err, None, sym, refl, ap, ◌∙◌}
use Rattle.terms.specs.declared.refusal.Refusal.TheVariants.{NoEntryLeft}
use Rattle.terms.specs.Refusals.{◌gives◌, first}
use Rattle.terms.proofs.Refused as terms
use Rattle.book.specs.Meaning.{Meaning, entered, transfer_refusal}
use Rattle.rules.specs.State.{State}
use Rattle.rules.specs.Valuation.{reviewed}
use Rattle.rules.specs.Calls.{withdraw_sentences, withdraw_call}
use Rattle.rules.proofs.Sentences.{first_before, first_behind, withdrawal_lawful}
use Rattle.ledger.specs.View.{view}
use Rattle.ledger.proofs.Calls.{refused, handed_on, taken}
use Rattle.ledger.proofs.ledger.Ledger.withdraw.Goals as goal

-- of a withdrawal that is admitted, the book decides
by_book : (a yen : ℕ) (s : State) (m : Meaning) → first (withdraw_sentences a yen s m) ≡ None → (withdraw_call a yen s m).refusal ≡ transfer_refusal m.left a 0 (100 * yen)
by_book a yen s m none = first_behind (withdraw_sentences a yen s m) (eqb m.left 0 gives NoEntryLeft ∷ []) none ∙ sym (withdrawal_lawful a yen m.left s m none)

pub returns-in_err-admit_withdrawal : goal.returns-in_err-admit_withdrawal
returns-in_err-admit_withdrawal g c =
    let m = g.B.Book.meaning c.args.book.now in
    let why = terms.refused _ _ (sym c.admit_withdrawal.ensures ∙ c.in_err-admit_withdrawal.was) in
    refused (first_before (withdraw_sentences c.args.account c.args.yen (view c.args.self.now) m) (eqb m.left 0 gives NoEntryLeft ∷ []) _ why) (handed_on c.from_residual.ensures.1) refl refl

pub returns-in_err-transfer : goal.returns-in_err-transfer
returns-in_err-transfer g c =
    let was = c.in_err-transfer.was in
    let none = terms.taken _ (sym c.admit_withdrawal.ensures ∙ c.in_ok-admit_withdrawal.was) in
    let why = terms.refused _ _ (sym c.transfer.ensures.answers ∙ was) in
    let book = c.transfer.ensures.same (ap is_err was) in
    refused (by_book c.args.account c.args.yen (view c.args.self.now) (g.B.Book.meaning c.args.book.now) none ∙ why) (handed_on c.from_residual-in_err-transfer.ensures.1) book (ap g.B.Book.meaning book)

pub returns : goal.returns
returns g c =
    let s = view c.args.self.now in
    let m = g.B.Book.meaning c.args.book.now in
    let a = c.args.account in
    let none = terms.taken _ (sym c.admit_withdrawal.ensures ∙ c.in_ok-admit_withdrawal.was) in
    let went = terms.taken (transfer_refusal m.left a 0 (100 * c.args.yen)) (sym c.transfer.ensures.answers ∙ c.in_ok-transfer.was) in
    let book : g.B.Book.meaning c.transfer.new.self ≡ entered m a 0 (100 * c.args.yen) = c.transfer.ensures.leaves ∙ terms.unless_none _ _ _ went in
    taken (by_book a c.args.yen s m none ∙ went) refl (c.review.ensures.view ∙ ap (λ (x : Meaning). reviewed x s) book) book c.review.ensures.slots
