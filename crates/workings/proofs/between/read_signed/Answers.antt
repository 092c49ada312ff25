use Rattle.std.proofs.Common.{◌≡◌, rules, None, ◌∙◌, lit<}
use Rattle.std.proofs.lemmas.Str.Pattern.{strip_prefix_char}
use Rattle.workings.proofs.Minus.{signed_bare}
use Rattle.workings.specs.Between.{kept}
use Rattle.workings.specs.Numbers.{number_read}
use Rattle.workings.proofs.between.read_signed.Goals as goal

pub returns-in_err-read_number-clause-value : goal.returns-in_err-read_number-clause-value
returns-in_err-read_number-clause-value c =
    let text = c.args.text.now in
    let bare = strip_prefix_char 45 text None c.in_default.ensures.cases (lit< tt) in
    let faulty : c.from_residual.result ≡ kept (number_read c.args.max text) = search rules in
    faulty ∙ signed_bare c.args.max text bare
