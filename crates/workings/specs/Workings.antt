-- The workings that words write.
use Rattle.std.specs.Prelude.{◌≡◌, ℕ, ◌≤◌, List, [], length, drop, ℤ, Some, Ok, Result, slice_index_or, unsigned_abs}
use Rattle.workings.specs.declared.between.RangeFault.{RangeFault}
use Rattle.workings.specs.declared.figure.Figure.{Figure}
use Rattle.workings.specs.declared.figure.Figure.TheVariants.{Spot, Last, Price, Quantity, Rate, Divisor, Cap, Percent, Charge, Held}
use Rattle.workings.specs.declared.topic.Topic.{Topic}
use Rattle.workings.specs.declared.topic.Topic.TheVariants as topic
use Rattle.workings.specs.declared.working.Working.{Working}
use Rattle.workings.specs.declared.working.Working.TheVariants.{Points, Funding, Margin, Split}
use Rattle.workings.specs.Between.{between_read, signed_read}
use Rattle.workings.specs.Figures.{figure_min, figure_max, figure_read}
use Rattle.workings.specs.Topics.{topic_named}

-- the topic under which a working is written
abbrev pub topic_of : Working → Topic
topic_of (Points w) = topic.Points
topic_of (Funding w) = topic.Funding
topic_of (Margin w) = topic.Margin
topic_of (Split w) = topic.Split

-- n is the number that a figure's text writes
abbrev pub Reads : Figure → List ℕ → ℕ → Type 0
Reads f text n = figure_read f text ≡ Ok n

abbrev pub charge_read : List ℕ → Result ℤ RangeFault
charge_read text = signed_read (figure_max Charge) text

-- the texts after a topic's word, and the numbers that they write; of a split, the units that are closed go up to those that the lot holds
abbrev pub Figured : List (List ℕ) → Working → Type 0
Figured fs (Points w) = (length fs ≡ 3) × Reads Spot (slice_index_or fs 0 []) w.spot.value × Reads Quantity (slice_index_or fs 1 []) w.quantity.value × Reads Rate (slice_index_or fs 2 []) w.rate.value
Figured fs (Funding w) = (length fs ≡ 5) × Reads Last (slice_index_or fs 0 []) w.last.value × Reads Spot (slice_index_or fs 1 []) w.spot.value × Reads Divisor (slice_index_or fs 2 []) w.divisor.value × Reads Cap (slice_index_or fs 3 []) w.cap.value × Reads Quantity (slice_index_or fs 4 []) w.quantity.value
Figured fs (Margin w) = (length fs ≡ 3) × Reads Price (slice_index_or fs 0 []) w.price.value × Reads Quantity (slice_index_or fs 1 []) w.quantity.value × Reads Percent (slice_index_or fs 2 []) w.percent.value
Figured fs (Split w) = (length fs ≡ 3) × (charge_read (slice_index_or fs 0 []) ≡ Ok w.charge) × (between_read 0 w.held.value (slice_index_or fs 1 []) ≡ Ok w.closed) × Reads Held (slice_index_or fs 2 []) w.held.value

abbrev pub Within : Figure → ℕ → Type 0
Within f n = (figure_min f ≤ n) × (n ≤ figure_max f)

-- every number lies within its range
abbrev pub InRange : Working → Type 0
InRange (Points w) = Within Spot w.spot.value × Within Quantity w.quantity.value × Within Rate w.rate.value
InRange (Funding w) = Within Last w.last.value × Within Spot w.spot.value × Within Divisor w.divisor.value × Within Cap w.cap.value × Within Quantity w.quantity.value
InRange (Margin w) = Within Price w.price.value × Within Quantity w.quantity.value × Within Percent w.percent.value
InRange (Split w) = (unsigned_abs w.charge ≤ figure_max Charge) × (w.closed ≤ w.held.value) × Within Held w.held.value

-- the working of a topic that texts write
pub record Makes (t : Topic) (fs : List (List ℕ)) (w : Working) : Type 0 where
  pub topic_is : topic_of w ≡ t
  pub figures : Figured fs w
  pub ranges : InRange w

-- the words after `work`, and the working that they write
pub record Asked (ws : List (List ℕ)) (w : Working) : Type 0 where
  pub topic_word : topic_named (slice_index_or ws 0 []) ≡ Some (topic_of w)
  pub figures : Figured (drop 1 ws) w
  pub ranges : InRange w
