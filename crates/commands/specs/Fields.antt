-- The name of each field, and the largest number that it takes.
use Rattle.std.specs.Prelude.{ℕ, List, codes}
use Rattle.commands.specs.declared.field.Field.{Field}
use Rattle.commands.specs.declared.field.Field.TheVariants.{PointsRate, FundingDivisor, FundingCap, MarginPercent, Lots, Orders, Kind, Entries, Account, Yen, Topic}

abbrev pub field_name : Field → List ℕ
field_name PointsRate = codes "R"
field_name FundingDivisor = codes "G"
field_name FundingCap = codes "K"
field_name MarginPercent = codes "P"
field_name Lots = codes "LOTS"
field_name Orders = codes "ORDERS"
field_name Kind = codes "KIND"
field_name Entries = codes "ENTRIES"
field_name Account = codes "ACCOUNT"
field_name Yen = codes "YEN"
field_name Topic = codes "TOPIC"

-- a setting is a u32, an account a u8, yen a u64
abbrev pub field_max : Field → ℕ
field_max PointsRate = 4294967295
field_max FundingDivisor = 4294967295
field_max FundingCap = 4294967295
field_max MarginPercent = 4294967295
field_max Lots = 1000000
field_max Orders = 1000000
field_max Kind = 0
field_max Entries = 1000000
field_max Account = 255
field_max Yen = 18446744073709551615
field_max Topic = 0
