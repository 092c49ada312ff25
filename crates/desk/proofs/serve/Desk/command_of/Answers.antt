use Rattle.std.proofs.Common.{Some, IfOk, rules}
use Rattle.std.proofs.lemmas.Result.{IfOk-weaker}
use Rattle.workings.specs.Lines.{Words, texts}
use Rattle.commands.specs.Commands.{Holds}
use Rattle.desk.proofs.serve.Desk.command_of.Goals.{in-Ok+in_ok-split-in-Ok, in-Err}
use Rattle.desk.proofs.serve.Desk.command_of.Goals as goal

-- whatever is answered of a command that was parsed: the words of the line write it
pub returns-in-Ok-command-clause-holds : goal.returns-in-Ok-command-clause-holds
returns-in-Ok-command-clause-holds c =
    elim c.match-text_of.branch [
      | in-Ok+in_ok-split-in-Ok w ↦
          let ws = texts w.as_slice.result.now in
          let words : Words c.args.line.now ws = search rules in
          let held : IfOk w.parse-command.result (λ k. Holds c.args.line.now (Some k)) = IfOk-weaker w.parse-command.result _ _ (λ k d. (ws, words, d)) w.parse-command.ensures in
          search rules
      | in-Err w ↦ search rules
    ]
