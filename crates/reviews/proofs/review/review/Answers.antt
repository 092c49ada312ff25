use Rattle.std.proofs.Common.{ℕ, not, sym, ap, ◌∙◌}
use Rattle.slots.specs.Items.{items}
use Rattle.orders.specs.declared.order.Order.{Order}
use Rattle.orders.specs.Orders.{lawful_order, spared}
use Rattle.accounts.specs.declared.standing.Decision.{Decision}
use Rattle.accounts.specs.States.{state_of}
use Rattle.reviews.specs.Reviews.{decided}
use Rattle.reviews.proofs.Idle.{past}
use Rattle.reviews.proofs.Kept.{kept_alike, owned}
use Rattle.reviews.proofs.review.review.Goals as goal

pub returns-clause-past : goal.returns-clause-past
returns-clause-past g c = λ a h.
    let stays = past (g.B.Book.meaning c.args.book.now) c.args.time c.args.settings.now.margin_percent c.args.spot c.args.mark a (items c.args.lots.now) (items c.args.orders.now) (state_of c.args.accounts.now) h c.requires.lots c.requires.orders in
    c.decide_all-marked.ensures.rest a h ∙ sym (ap (λ (x : Decision). x.state) stays)

pub returns-clause-orders : goal.returns-clause-orders
returns-clause-orders g c =
    let os = items c.args.orders.now in
    let due : ℕ → Decision = decided (g.B.Book.meaning c.args.book.now) c.args.settings.now.margin_percent c.args.spot c.args.mark (items c.args.lots.now) os c.args.accounts.now in
    c.void.ensures.items
    ∙ kept_alike lawful_order (spared c.decide_all-marked.result) (λ (o : Order). not (due o.account).void) (λ o fine. ap not (c.decide_all-marked.ensures.voids o.account (owned o fine))) os c.requires.orders
