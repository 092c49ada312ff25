use Rattle.std.proofs.Common.{◌≡◌, ℕ, ◌<◌, length, get_or, rules, arith}
use Rattle.std.proofs.lemmas.List.{get_or_default}
use Rattle.std.proofs.lemmas.Grind.{common_steps}
use Rattle.slots.proofs.Made.{made}
use Rattle.accounts.specs.declared.state.AccountState.{AccountState}
use Rattle.accounts.specs.declared.state.AccountState.TheVariants.{Sound}
use Rattle.accounts.proofs.accounts.Accounts.put.Goals as goal

pub returns-clause-states : goal.returns-clause-states
returns-clause-states c = λ a d h.
    let P : ℕ → AccountState → Type 0 = λ (i : ℕ) (x : AccountState). i < 256 → x ≡ (get_or c.args.decisions.now i d).state in
    made _ _ P (λ i y q called. ((λ h. let len : length c.args.decisions.now ≡ 256 = search rules in grind (arith, common_steps, get_or_default)), search rules)) _ 256 c.from_fn-self.ensures.items a Sound h h
