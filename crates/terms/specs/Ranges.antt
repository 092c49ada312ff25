-- Ranges that several definitions cite; src/ranges.rt has the code's.
use Rattle.std.specs.Prelude.{ℕ, Bool, ◌&&◌, nat_le}

abbrev pub between : ℕ → ℕ → ℕ → Bool
between low high n = nat_le low n && nat_le n high

-- accounts are 0 to 255: the bank, the company, its proprietary account, the customers
abbrev pub accounts : ℕ
accounts = 256

abbrev pub bank : ℕ
bank = 0

-- the last second of day 1,096
abbrev pub last_time : ℕ
last_time = 94694399

abbrev pub price_max : ℕ
price_max = 100000000

-- units of one order that is entered
abbrev pub order_quantity_max : ℕ
order_quantity_max = 10000

-- the most that an account may hold and have ordered on one side
abbrev pub position_max : ℕ
position_max = 50000

-- yen of one deposit or withdrawal
abbrev pub payment_max : ℕ
payment_max = 10000000000

-- the last number that an order can have
abbrev pub order_number_max : ℕ
order_number_max = 4294967295

-- slots that a ledger uses for lots, and for orders
abbrev pub slots_max : ℕ
slots_max = 4096

-- sen of one transfer, and entries of one book
abbrev pub transfer_max : ℕ
transfer_max = 80000000000000

abbrev pub entries_max : ℕ
entries_max = 65536
