use Rattle.std.proofs.Common.{◌≡◌, ◌+◌, ◌-◌, ◌<◌, ◌≤◌, length, refl, ap, ⊎_elim, arith}
use Rattle.std.proofs.lemmas.Bool.{cases_lt}
use Rattle.slots.specs.Items.{items, capacity}
use Rattle.accounts.specs.States.{state_of}
use Rattle.rules.proofs.Reviewing.{is_reviewed, fewer_left}
use Rattle.ledger.specs.View.{view}
use Rattle.ledger.proofs.Calls.{left}
use Rattle.ledger.proofs.ledger.Ledger.review.Goals as goal

pub returns : goal.returns
returns g c =
    let l = c.args.self.now in
    let m = g.B.Book.meaning c.args.book.now in
    let v = c.valuation-valuation.result in
    let is = c.valuation-valuation.ensures in
    let reviewed = c.review.ensures in
    let after = c.review.new.orders.list in
    let before = length (items l.orders.list) in
    let sum : 0 + before ≡ before - length (items after) + length (items after) = omega (arith, ap length reviewed.orders, fewer_left m v.settings.margin_percent v.spot v.mark.yen (view l)) in
    record {
      view = is_reviewed m (view l) v.settings.margin_percent v.spot v.mark.yen (ap (λ x. x.margin_percent) is.settings) is.spot is.mark
          (state_of c.review.new.accounts) (items after) (capacity after) (λ a. ⊎_elim (λ (h : a < 256). reviewed.states a h) (λ (h : 256 ≤ a). reviewed.past a h) (cases_lt a 256)) reviewed.orders reviewed.capacity;
      slots = left 0 (before - length (items after)) sum refl reviewed.free;
    }
