-- The number of each refusal, and which of several comes.
use Rattle.std.specs.Prelude.{ℕ, Bool, cond, List, [], ◌∷◌, Some, None, Ok, Err, Option, Result}
use Rattle.terms.specs.declared.refusal.Refusal.{Refusal}
use Rattle.terms.specs.declared.refusal.Refusal.TheVariants.{TimeOutOfRange, AccountOutOfRange, CodeOutOfRange, PriceOutOfRange, QuantityOutOfRange, PaymentOutOfRange, NoSpotPrice, OrderNotHeld, OrdersDoNotMatch, FillExceedsOrder, FillOutsideLimit, WrongHaltState, WrongAccountState, PositionTooLarge, MarginTooSmall, NoSlotLeft, NoEntryLeft, TicketNotInHand, SettingOutOfRange, TransferUnlawful}

abbrev pub number_of : Refusal → ℕ
number_of TimeOutOfRange = 6
number_of AccountOutOfRange = 7
number_of CodeOutOfRange = 8
number_of PriceOutOfRange = 9
number_of QuantityOutOfRange = 10
number_of PaymentOutOfRange = 11
number_of NoSpotPrice = 12
number_of OrderNotHeld = 13
number_of OrdersDoNotMatch = 14
number_of FillExceedsOrder = 15
number_of FillOutsideLimit = 16
number_of WrongHaltState = 17
number_of WrongAccountState = 18
number_of PositionTooLarge = 19
number_of MarginTooSmall = 20
number_of NoSlotLeft = 21
number_of NoEntryLeft = 22
number_of TicketNotInHand = 23
number_of SettingOutOfRange = 24
number_of TransferUnlawful = 25

-- a sentence that may apply to a call, and the refusal that it then means
pub record Sentence : Type 0 where
  pub applies : Bool
  pub refuses : Refusal

infix 70 ◌gives◌
abbrev pub ◌gives◌ : Bool → Refusal → Sentence
◌gives◌ b e = record { applies = b; refuses = e }

-- the refusal of the first sentence that applies
abbrev pub first : List Sentence → Option Refusal
first [] = None
first (s ∷ ss) = cond s.applies (Some s.refuses) (first ss)

-- what a call answers that has something to tell where it is taken
abbrev pub told : {A : Type 0} → Option Refusal → A → Result A Refusal
told None a = Ok a
told (Some e) a = Err e

-- the same of a call that has nothing to tell
abbrev pub answer : Option Refusal → Result (Unit {0}) Refusal
answer r = told r tt

-- what a call leaves: at a refusal what there was
abbrev pub unless : {X : Type 0} → Option Refusal → X → X → X
unless None old new = new
unless (Some e) old new = old
