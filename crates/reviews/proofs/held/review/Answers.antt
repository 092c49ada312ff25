use Rattle.slots.proofs.Every.{every_kept}
use Rattle.orders.specs.Orders.{lawful_order}
use Rattle.reviews.proofs.held.review.Goals as goal

-- a review leaves some of the orders, and takes none in
pub invariant_of-orders-clause-lawful : goal.invariant_of-orders-clause-lawful
invariant_of-orders-clause-lawful g c = rw c.review.ensures.orders (every_kept lawful_order _ _ c.args.orders.now.lawful)
