use Rattle.std.proofs.Common.{eqb, ◌∙◌, rules}
use Rattle.std.proofs.lemmas.Iterator.{YieldsList-from_slice}
use Rattle.std.proofs.lemmas.Iterator.Adapters.{position_from-zero}
use Rattle.std.proofs.lemmas.Iterator.Search.{position_from_yields_List}
use Rattle.orders.specs.declared.order.Order.{Order}
use Rattle.orders.proofs.Places.{place_is}
use Rattle.orders.proofs.search.find.Goals as goal

pub returns : goal.returns
returns c =
    let test = λ (o : Order). eqb o.number c.args.number in
    position_from_yields_List test _ _ c.position.result c.position.ensures.ran (YieldsList-from_slice _ c.iter.ensures.rest) (λ o b q k. search rules) ∙ position_from-zero test c.args.orders.now
    ∙ place_is c.args.number 0 c.args.orders.now
