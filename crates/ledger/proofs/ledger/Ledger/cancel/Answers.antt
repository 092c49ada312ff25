use Rattle.std.proofs.Common.{◌≡◌, ℕ, ◌+◌, Bool, not, List, [], ◌∷◌, length, Some, None, Ok, Err, Option, Result, sym, refl, ap, ◌∙◌, arith}
use Rattle.std.proofs.lemmas.List.Edits.{length-remove}
use Rattle.std.specs.Option.{ok_or}
use Rattle.std.specs.Result.{result_ok}
use Rattle.slots.specs.Items.{items}
use Rattle.slots.proofs.Every.{every_kept}
use Rattle.terms.specs.declared.refusal.Refusal.{Refusal}
use Rattle.terms.specs.declared.refusal.Refusal.TheVariants.{OrderNotHeld}
use Rattle.terms.specs.Refusals.{◌gives◌, first}
use Rattle.orders.specs.declared.order.Order.{Order}
use Rattle.orders.specs.Orders.{lawful_order, lawful_orders, place_of}
use Rattle.orders.specs.Numbers.{is_plain, rising}
use Rattle.orders.proofs.Numbers.{Found, found_at, not_found, rising_kept}
use Rattle.rules.specs.Valuation.{reviewed}
use Rattle.rules.specs.State.{valued}
use Rattle.rules.proofs.Reviewing.{alike, valued_kept}
use Rattle.ledger.specs.declared.ledger.Ledger.{Ledger}
use Rattle.ledger.specs.View.{view}
use Rattle.ledger.proofs.Calls.{left, refused, handed_on, taken, untouched_then}
use Rattle.ledger.proofs.ledger.Ledger.cancel.Goals as goal

-- by whether the order that is held can be taken back
asked : (o : Option Order) {b : Bool} → is_plain o ≡ b → first (not (is_plain o) gives OrderNotHeld ∷ []) ≡ first (not b gives OrderNotHeld ∷ [])
asked o e = ap (λ (x : Bool). first (not x gives OrderNotHeld ∷ [])) e

-- where it is found in the ledger's orders, read as the list s; with what it tells named on the function, the check found that the place is within the list, but not what is true of the orders after (tried)
there : (n i : ℕ) (l : Ledger) {s : List Order} {o : Option ℕ} {r : Result ℕ Refusal} → s ≡ items l.orders.list → o ≡ place_of n s → o ≡ result_ok r → r ≡ Ok i → Found n i (items l.orders.list)
there n i l s o part is = found_at n i 0 l.issued (items l.orders.list) (sym (o ∙ ap (place_of n) s) ∙ part ∙ ap result_ok is) l.numbered

missed : {o : Option ℕ} {r : Result ℕ Refusal} {e : Refusal} → o ≡ result_ok r → r ≡ ok_or o OrderNotHeld → r ≡ Err e → (o ≡ None) × (e ≡ OrderNotHeld)
missed {o} {r} {e} part value is =
    let none : o ≡ None = part ∙ ap result_ok is in
    let same : ◌≡◌ {A = Result ℕ Refusal} (Err e) (Err OrderNotHeld) = sym is ∙ value ∙ ap (λ (x : Option ℕ). ok_or x OrderNotHeld) none in
    (none, cc)

pub returns-in_err-place : goal.returns-in_err-place
returns-in_err-place g c =
    let not_there = missed c.ok_or.ensures.ok_part c.ok_or.ensures.value c.in_err-place.was in
    let none = not_found c.args.number 0 (items c.args.self.now.orders.list) (sym (c.find.ensures ∙ ap (place_of c.args.number) c.as_slice.ensures) ∙ not_there.0) in
    refused (asked _ (ap is_plain none) ∙ ap Some (sym not_there.1)) (handed_on c.from_residual.ensures.1) refl refl

pub get-requires : goal.get-requires
get-requires g c = (there c.args.number c.in_ok-place.place c.args.self.now c.as_slice.ensures c.find.ensures c.ok_or.ensures.ok_part c.in_ok-place.was).inside

pub returns-then-get : goal.returns-then-get
returns-then-get g c =
    let h = there c.args.number c.in_ok-place.place c.args.self.now c.as_slice.ensures c.find.ensures c.ok_or.ensures.ok_part c.in_ok-place.was in
    refused (asked _ (ap is_plain (h.holds c.get.result c.get.ensures) ∙ ap not c.if-get.true)) refl refl refl

pub take_out-requires : goal.take_out-requires
take_out-requires g c = (there c.args.number c.in_ok-place.place c.args.self.now c.as_slice.ensures c.find.ensures c.ok_or.ensures.ok_part c.in_ok-place.was).inside

pub invariant_of-orders : goal.invariant_of-orders
invariant_of-orders g c =
    let l = c.args.self.now in
    let h = there c.args.number c.in_ok-place.place l c.as_slice.ensures c.find.ensures c.ok_or.ensures.ok_part c.in_ok-place.was in
    record {
      few = omega (arith, c.take_out.ensures.capacity, l.orders.few);
      lawful = ap lawful_orders (c.take_out.ensures.items ∙ h.left) ∙ every_kept lawful_order _ (items l.orders.list) l.orders.lawful;
    }

pub invariant_of-self : goal.invariant_of-self
invariant_of-self g c =
    let l = c.args.self.now in
    let h = there c.args.number c.in_ok-place.place l c.as_slice.ensures c.find.ensures c.ok_or.ensures.ok_part c.in_ok-place.was in
    let e = c.take_out.ensures.items ∙ h.left in record {
      spotted = l.spotted;
      marked = l.marked;
      numbered = ap (rising 0 l.issued) e ∙ rising_kept _ 0 l.issued (items l.orders.list) l.numbered;
      priced = ap (valued l.spot l.last (items l.lots.list)) e ∙ valued_kept _ l.spot l.last (items l.lots.list) (items l.orders.list) l.priced;
    }

pub returns : goal.returns
returns g c =
    let l = c.args.self.now in
    let out = c.take_out.ensures in
    let h = there c.args.number c.in_ok-place.place l c.as_slice.ensures c.find.ensures c.ok_or.ensures.ok_part c.in_ok-place.was in
    let plain = ap is_plain (h.holds c.get.result c.get.ensures) ∙ ap not c.if-get.false in
    let state = c.review.ensures.view ∙ ap (reviewed (g.B.Book.meaning c.args.book.now)) (alike (view l) refl (out.items ∙ h.left) out.capacity) in
    let one : 0 + length (items l.orders.list) ≡ 1 + length (items c.take_out.new.self) = omega (arith, ap length out.items, length-remove (items l.orders.list) c.in_ok-place.place h.inside) in
    taken (asked _ plain) refl state refl (untouched_then c.review.ensures.slots (left 0 1 one refl out.free))
