use Rattle.std.proofs.Common.{◌≡◌, sym, rules, ◌∙◌}
use Rattle.workings.proofs.Numerals.{capped, capped_number}
use Rattle.workings.proofs.number.read_number.Goals as goal

pub returns : goal.returns
returns c =
    let kept : c.ok_or.result ≡ capped c.args.max c.parse.result = search rules in
    kept ∙ capped_number c.args.max c.args.text.now c.parse.result c.parse.ensures.value.0 (sym c.if-not-is_numeral.ensures) c.ranges.max.fits
