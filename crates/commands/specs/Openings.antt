-- What an `open` asks for, and what it fixes.
use Rattle.std.specs.Prelude.{◌≡◌, Bool}
use Rattle.terms.specs.Settings.{settings_lawful, Holds}
use Rattle.commands.specs.declared.opening.Request.{Request}
use Rattle.commands.specs.declared.opening.Opening.{Opening}

abbrev pub request_lawful : Request → Bool
request_lawful q = settings_lawful q.points_rate q.funding_divisor q.funding_cap q.margin_percent

pub record Admitted (q : Request) (o : Opening) : Type 0 where
  pub settings : Holds q.points_rate q.funding_divisor q.funding_cap q.margin_percent o.settings
  pub lots : o.layout.lots ≡ q.layout.lots
  pub orders : o.layout.orders ≡ q.layout.orders
  pub kind : o.layout.kind ≡ q.layout.kind
  pub entries : o.layout.entries ≡ q.layout.entries
