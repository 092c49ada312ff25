use Rattle.std.proofs.Common.{refl, ap, ◌∙◌}
use Rattle.accounts.specs.declared.state.AccountState.{AccountState}
use Rattle.accounts.specs.Review.{cleared}
use Rattle.accounts.specs.States.{state_of}
use Rattle.rules.proofs.Reviewing.{is_cleared}
use Rattle.ledger.specs.View.{view}
use Rattle.ledger.proofs.Calls.{left}
use Rattle.ledger.proofs.ledger.Ledger.clear_call.Goals as goal

pub returns : goal.returns
returns g c =
    let l = c.args.self.now in
    let m = g.B.Book.meaning c.args.book.now in
    record {
      view = is_cleared c.args.account m (view l) (state_of c.set.new.self) c.clear.result c.standing-standing.result (c.clear.ensures ∙ ap (λ (x : AccountState). cleared x c.standing-standing.result) c.state-state.ensures) c.standing-standing.ensures.value c.set.ensures;
      slots = left 0 0 refl refl refl;
    }
