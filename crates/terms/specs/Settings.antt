-- The ranges of the four settings.
use Rattle.std.specs.Prelude.{◌≡◌, ℕ, Bool, ◌&&◌, nat_le}
use Rattle.terms.specs.Ranges.{between}
use Rattle.terms.specs.declared.settings.Settings.{Settings}

-- points rate, funding divisor, funding cap, margin percent
abbrev pub settings_lawful : ℕ → ℕ → ℕ → ℕ → Bool
settings_lawful r g k p = nat_le r 1000 && (between 1 100 g && (nat_le k 4000 && between 50 100 p))

pub record Holds (r g k p : ℕ) (s : Settings) : Type 0 where
  pub points_rate_is : s.points_rate ≡ r
  pub funding_divisor_is : s.funding_divisor ≡ g
  pub funding_cap_is : s.funding_cap ≡ k
  pub margin_percent_is : s.margin_percent ≡ p
