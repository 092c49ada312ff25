use Rattle.std.proofs.Common.{◌≡◌, ap, rules, tests, option_map, ◌∙◌}
use Rattle.std.proofs.lemmas.Iterator.{YieldsList-from_slice}
use Rattle.std.proofs.lemmas.Iterator.Search.{find_from_yields_List}
use Rattle.commands.proofs.Skipping.{is_dark, skipped_at, skipped_found}
use Rattle.commands.proofs.line.is_skipped.Goals as goal

pub returns : goal.returns
returns c =
    let first = find_from_yields_List is_dark _ _ c.find-first.result c.find-first.ensures.ran (YieldsList-from_slice c.args.line.now (cc)) (λ x b q k. search (rules, tests)) in
    let skips : c.is_none_or.result ≡ skipped_at (option_map (λ b. b.now) c.find-first.result) = search rules in
    skips ∙ ap skipped_at first ∙ skipped_found c.args.line.now
