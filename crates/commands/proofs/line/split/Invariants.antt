use Rattle.std.proofs.Common.{ℕ, List, ◌++◌, vec_items}
use Rattle.std.specs.Str.Iter.{split_whitespace_rest}
use Rattle.workings.specs.Lines.{Words, texts}
use Rattle.commands.proofs.line.split.Given as goal

abbrev pub invariant-loop-word : goal.invariant-loop-word
invariant-loop-word l = (ws : List (List ℕ)) → Words (split_whitespace_rest l.word-iterator) ws → Words l.text (texts (vec_items l.words) ++ ws)
