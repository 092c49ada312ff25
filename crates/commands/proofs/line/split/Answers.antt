use Rattle.std.proofs.Common.{[], vec_items, ap, ◌∙◌, subst, append-nil}
use Rattle.std.specs.Str.Iter.{split_whitespace_rest}
use Rattle.workings.specs.Lines.{Words}
use Rattle.commands.proofs.Splitting.{first_of, word_more}
use Rattle.commands.proofs.line.split.Goals as goal

pub loop-word-init : goal.loop-word-init
loop-word-init c =
    let whole = ap split_whitespace_rest c.into_iter-word-iterator.ensures.into_iter_gives ∙ c.split_whitespace-word-items.ensures.rest in
    rw (whole, c.new-words.ensures.items) (λ ws h. h)

pub loop-word-preserved : goal.loop-word-preserved
loop-word-preserved c =
    let first = first_of _ c.in-Some.word.now _ c.in-Some.ensures.steps in
    word_more c.args.text.now (vec_items c.loop-word.words) c.in-Some.word (vec_items c.push.new.self) c.in_ok-push.ensures.items c.loop-word.invariant first

pub returns : goal.returns
returns c = subst (Words c.args.text.now) (append-nil _) (c.loop-word.invariant [] c.in-None.ensures.steps.1)
