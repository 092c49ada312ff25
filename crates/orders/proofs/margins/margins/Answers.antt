use Rattle.std.proofs.Common.{◌≡◌, ℕ, ◌*◌, ◌<◌, ◌≤◌, true, length, get_or, take, ap, arith, rules}
use Rattle.std.proofs.lemmas.List.{length-take-le}
use Rattle.slots.specs.Items.{items}
use Rattle.slots.proofs.Every.{every_read}
use Rattle.slots.proofs.Items.{items_fit}
use Rattle.sums.proofs.Sums.{folds_as, every_taken}
use Rattle.orders.specs.Margins.{margin_of}
use Rattle.orders.specs.Orders.{lawful_order}
use Rattle.orders.proofs.Sums.{Adds, margin_is, margin_of_small}
use Rattle.orders.proofs.margins.margins.Goals as goal

-- the order that is read is lawful, and what those before it came to is small
pub by_account-requires : goal.by_account-requires
by_account-requires c = (
  omega arith,
  λ i o n k e f.
      let s = c.args.orders.now in
      let os = items s in
      let set = c.args.settings.now in
      let m = c.args.mark in
      let inside : i < length os = rw (ap length c.as_slice.ensures) at k in
      let few = length-take-le i os (omega (arith, inside)) in
      let ok : lawful_order o ≡ true = every_read lawful_order os i o c.requires.orders inside (rw c.as_slice.ensures at e) in
      let is = margin_is o.account set.margin_percent m _ _ (folds_as _ (Adds set.margin_percent m) (λ x o y s. search rules) _ _ _ (rw c.as_slice.ensures at f)) in
      let small : n ≤ 50000000000 * 4095 = omega (arith, is, margin_of_small o.account set.margin_percent m set.percent c.requires.mark (take i os) (every_taken lawful_order i os c.requires.orders), few, items_fit s, c.requires.few, inside) in
      search rules,
)

pub returns : goal.returns
returns c =
    let s = c.args.orders.now in
    let os = items s in
    let set = c.args.settings.now in
    let m = c.args.mark in
    let is : (a : ℕ) → a < 256 → get_or c.by_account.result a 0 ≡ margin_of a set.margin_percent m os =
    λ a h. margin_is a set.margin_percent m _ _ (folds_as _ (Adds set.margin_percent m) (λ x o y s. search rules) _ _ _ (rw c.as_slice.ensures at c.by_account.ensures a h)) in
    record {
      value = is;
      bound = λ a h. omega (arith, is a h, margin_of_small a set.margin_percent m set.percent c.requires.mark os c.requires.orders, items_fit s, c.requires.few);
    }
