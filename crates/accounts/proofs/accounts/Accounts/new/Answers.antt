use Rattle.std.proofs.Common.{replicate, arith}
use Rattle.std.proofs.lemmas.List.{get_or-replicate, get_or_past}
use Rattle.accounts.specs.declared.state.AccountState.TheVariants.{Sound}
use Rattle.accounts.proofs.accounts.Accounts.new.Goals as goal

pub returns : goal.returns
returns c = λ a. grind (arith, get_or-replicate 256 a Sound Sound, get_or_past (replicate 256 Sound) a Sound)
