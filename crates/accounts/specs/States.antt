-- The state of an account.
use Rattle.std.specs.Prelude.{ℕ, slice_index_or}
use Rattle.accounts.specs.declared.accounts.Accounts.{Accounts}
use Rattle.accounts.specs.declared.state.AccountState.{AccountState}
use Rattle.accounts.specs.declared.state.AccountState.TheVariants.{Sound}

abbrev pub state_of : Accounts → ℕ → AccountState
state_of accounts a = slice_index_or accounts.states a Sound
