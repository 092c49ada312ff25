use Rattle.std.proofs.Common.{ℕ, ◌<◌, min, take, set, ap, ◌∙◌, arith, length-set}
use lib.Seq.{take-set-lt}
use Rattle.slots.specs.Items.{used}
use Rattle.slots.proofs.Items.{length_items}
use Rattle.slots.proofs.list.List.replace.Goals as goal

pub returns-clause-items : goal.returns-clause-items
returns-clause-items g c =
    let l = c.args.self.now in
    let i = c.args.i in
    let h : i < used l = omega (arith, length_items l, c.requires) in
    rw c.replace.ensures.after (ap (λ (n : ℕ). take (min l.len (min l.limit n)) (set l.slots.now i c.args.x)) (length-set l.slots.now i c.args.x) ∙ take-set-lt _ _ _ _ h)
