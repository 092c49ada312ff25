use Rattle.std.proofs.Common.{◌∙◌, arith}
use Rattle.slots.specs.Items.{items}
use Rattle.slots.proofs.Items.{items_fit}
use Rattle.lots.proofs.Sums.{position_is, all_few, units_fit}
use Rattle.lots.proofs.positions.position.Goals as goal

pub units_on-requires : goal.units_on-requires
units_on-requires c = let s = c.args.lots.now in rw c.as_slice.ensures (units_fit c.requires.lots.0 _ _ (items s) c.requires.lots.1 (omega (arith, items_fit s, c.requires.few)))

pub returns : goal.returns
returns c =
    let s = c.args.lots.now in
    let few = all_few c.requires.lots.0 (items s) c.requires.lots.1 in
    record {
      value = (rw c.as_slice.ensures at c.units_on.ensures.value) ∙ position_is c.args.account c.args.side (items s);
      bound = omega (arith, (rw c.as_slice.ensures at c.units_on.ensures.bound) 50000 few, items_fit s, c.requires.few);
    }
