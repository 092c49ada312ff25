use Rattle.std.proofs.Common.{◌≡◌, ℕ, ◌+◌, ◌<◌, true, cond, ltb, List, [], ◌∷◌, ◌++◌, length, drop, is_ok, None, Ok, Err, Result, sym, refl, ap, ◌∙◌, arith, rules}
use Rattle.std.proofs.lemmas.List.{length_push}
use Rattle.std.proofs.lemmas.Bool.{cond-true}
use Rattle.std.proofs.lemmas.Bool.Decides.{nat_tests}
use Rattle.slots.specs.Items.{items, free, capacity}
use Rattle.slots.proofs.Every.{every_push}
use Rattle.terms.specs.declared.refusal.Refusal.{Refusal}
use Rattle.terms.specs.Codes.{side_of}
use Rattle.terms.specs.Ranges.{order_number_max}
use Rattle.terms.specs.Refusals.{first, told, answer}
use Rattle.terms.proofs.Refused as terms
use Rattle.book.specs.Meaning.{Meaning}
use Rattle.orders.specs.declared.order.Order.{Order}
use Rattle.orders.specs.Orders.{lawful_order, lawful_orders}
use Rattle.orders.specs.Numbers.{rising}
use Rattle.orders.proofs.Numbers.{rising_push}
use Rattle.rules.specs.State.{with_order}
use Rattle.rules.specs.Valuation.{reviewed}
use Rattle.rules.specs.Calls.{plain_order, next_order, order_forms, order_sentences, order_call}
use Rattle.rules.proofs.Sentences.{told_ok, told_err, first_before, first_behind}
use Rattle.rules.proofs.Entering.{admitted_spot, admitted_room, form_lawful}
use Rattle.rules.proofs.Reviewing.{alike, valued_more}
use Rattle.ledger.specs.declared.ledger.Ledger.{Ledger}
use Rattle.ledger.specs.View.{view}
use Rattle.ledger.proofs.Calls.{left, refused, handed_on, taken, untouched_then}
use Rattle.ledger.proofs.ledger.Ledger.order.Goals as goal

-- what is asked for, under a number
abbrev numbered : ℕ → Order → Order
numbered n o = record { number = n; account = o.account; side = o.side; price = o.price; quantity = o.quantity; cut = o.cut }

-- an order o whose form was admitted, and what is then asked of it under the next number; a, b, price and q are written out at each use, since antt cannot read them off a refusal that is still to be computed (tried)
module _ (a b price q : ℕ) (l : Ledger) (m : Meaning) {o : Order} {r : Result Order Refusal} (form : r ≡ told (first (order_forms a b price q)) (plain_order 0 a (side_of b) price q)) (was : r ≡ Ok o) where
  formed : (first (order_forms a b price q) ≡ None) × (o ≡ plain_order 0 a (side_of b) price q)
  formed = told_ok _ _ _ (sym form ∙ was)

  behind : (order_call a b price q (view l) m).refusal ≡ first (order_sentences (next_order a b price q (view l)) (view l) m)
  behind = first_behind (order_forms a b price q) (order_sentences (next_order a b price q (view l)) (view l) m) formed.0

  asks : (order_call a b price q (view l) m).refusal ≡ first (order_sentences (plain_order (l.issued + 1) o.account o.side o.price o.quantity) (view l) m)
  asks = behind ∙ ap (λ (x : Order). first (order_sentences (plain_order (l.issued + 1) x.account x.side x.price x.quantity) (view l) m)) (sym formed.1)

  -- admitted
  module _ {x : Result (Unit {0}) Refusal} (said : (n : ℕ) → x ≡ answer (first (order_sentences (plain_order n o.account o.side o.price o.quantity) (view l) m))) (fine : x ≡ Ok tt) where
    none : (order_call a b price q (view l) m).refusal ≡ None
    none = asks ∙ terms.taken _ (sym (said (l.issued + 1)) ∙ fine)

    stands : first (order_sentences (next_order a b price q (view l)) (view l) m) ≡ None
    stands = sym behind ∙ none

    room : (length (items l.orders.list) < capacity l.orders.list) × (l.issued ≡ order_number_max → ⊥)
    room = admitted_room (next_order a b price q (view l)) (view l) m stands

    -- so it stands behind the others
    put : {after : List Order} {y : Result (Unit {0}) Order} → y ≡ cond (ltb (length (items l.orders.list)) (capacity l.orders.list)) (Ok tt) (Err (numbered (l.issued + 1) o))
        → after ≡ cond (is_ok y) (items l.orders.list ++ numbered (l.issued + 1) o ∷ []) (items l.orders.list)
        → (is_ok y ≡ true) × (after ≡ items l.orders.list ++ next_order a b price q (view l) ∷ [])
    put {after} {y} value is =
        let space = room.0 in
        let had : is_ok y ≡ true = grind (arith, nat_tests) in
        (had, rw had at is ∙ ap (λ (z : Order). items l.orders.list ++ numbered (l.issued + 1) z ∷ []) formed.1)

pub returns-in_err-order : goal.returns-in_err-order
returns-in_err-order g c =
    let forms = order_forms c.args.account c.args.side c.args.price c.args.quantity in
    let v = view c.args.self.now in
    let next = next_order c.args.account c.args.side c.args.price c.args.quantity v in
    let why = told_err (first forms) _ _ (sym c.admit_form.ensures ∙ c.in_err-order.was) in
    refused (first_before forms (order_sentences next v (g.B.Book.meaning c.args.book.now)) _ why) (handed_on c.from_residual.ensures.1) refl refl

pub returns-in_err-admit_order : goal.returns-in_err-admit_order
returns-in_err-admit_order g c =
    let l = c.args.self.now in
    let why = terms.refused _ _ (sym (c.admit_order.ensures (l.issued + 1)) ∙ c.in_err-admit_order.was) in
    refused (asks c.args.account c.args.side c.args.price c.args.quantity l (g.B.Book.meaning c.args.book.now) c.admit_form.ensures c.in_ok-order.was ∙ why) (handed_on c.from_residual-in_err-admit_order.ensures.1) refl refl

pub overflow_add-number : goal.overflow_add-number
overflow_add-number g c =
    let l = c.args.self.now in
    let more = room c.args.account c.args.side c.args.price c.args.quantity l (g.B.Book.meaning c.args.book.now) c.admit_form.ensures c.in_ok-order.was c.admit_order.ensures c.in_ok-admit_order.was in
    let f : l.issued < 4294967296 = search rules in
    record { fits = omega (arith, more.1, f) }

pub invariant_of-orders : goal.invariant_of-orders
invariant_of-orders g c =
    let l = c.args.self.now in
    let m = g.B.Book.meaning c.args.book.now in
    let form = (formed c.args.account c.args.side c.args.price c.args.quantity l m c.admit_form.ensures c.in_ok-order.was).0 in
    let fine = form_lawful (l.issued + 1) c.args.account c.args.side c.args.price c.args.quantity (side_of c.args.side) (omega (arith, c.ranges.account.fits)) form in
    let e = (put c.args.account c.args.side c.args.price c.args.quantity l m c.admit_form.ensures c.in_ok-order.was c.admit_order.ensures c.in_ok-admit_order.was c.append.ensures.value c.append.ensures.items).1 in
    record { few = omega (arith, c.append.ensures.capacity, l.orders.few); lawful = ap lawful_orders e ∙ every_push lawful_order (items l.orders.list) _ l.orders.lawful fine }

pub invariant_of-self : goal.invariant_of-self
invariant_of-self g c =
    let l = c.args.self.now in
    let m = g.B.Book.meaning c.args.book.now in
    let next = next_order c.args.account c.args.side c.args.price c.args.quantity (view l) in
    let none = stands c.args.account c.args.side c.args.price c.args.quantity l m c.admit_form.ensures c.in_ok-order.was c.admit_order.ensures c.in_ok-admit_order.was in
    let e = (put c.args.account c.args.side c.args.price c.args.quantity l m c.admit_form.ensures c.in_ok-order.was c.admit_order.ensures c.in_ok-admit_order.was c.append.ensures.value c.append.ensures.items).1 in
    record {
      spotted = l.spotted;
      marked = l.marked;
      numbered = ap (rising 0 (l.issued + 1)) e ∙ rising_push 0 l.issued (items l.orders.list) next (omega arith) (omega arith) l.numbered;
      priced = valued_more l.spot l.last (items l.lots.list) (items l.orders.list) (items c.append.new.self) (admitted_spot next (view l) m none) l.priced;
    }

pub returns : goal.returns
returns g c =
    let l = c.args.self.now in
    let m = g.B.Book.meaning c.args.book.now in
    let next = next_order c.args.account c.args.side c.args.price c.args.quantity (view l) in
    let why = none c.args.account c.args.side c.args.price c.args.quantity l m c.admit_form.ensures c.in_ok-order.was c.admit_order.ensures c.in_ok-admit_order.was in
    let e = put c.args.account c.args.side c.args.price c.args.quantity l m c.admit_form.ensures c.in_ok-order.was c.admit_order.ensures c.in_ok-admit_order.was c.append.ensures.value c.append.ensures.items in
    let state = c.review.ensures.view ∙ ap (reviewed m) (alike (with_order next (view l)) refl e.1 c.append.ensures.capacity) in
    let one : 1 + length (items l.orders.list) ≡ 0 + length (items c.append.new.self) = omega (arith, ap length e.1, length_push (items l.orders.list) next) in
    let freed = c.append.ensures.free ∙ cond-true (is_ok c.append.result) (drop 1 (free l.orders.list)) (free l.orders.list) e.0 in
    taken why refl state refl (untouched_then c.review.ensures.slots (left 1 0 one refl freed))
