-- Document 01, 'Calls': what the board checks of a call before it hands it on, refusals 1 and 2: the memory that it is lent, the channel that it names;
-- and the sizes of a channel's part.
use Rattle.std.specs.Prelude.{◌≡◌, ℕ, ◌-◌, ◌*◌, ◌<◌, Bool, true, false, Result, Ok, Err, eqb}
use Rattle.refusal.specs.Refusals.{number_of}
use Rattle.refusal.specs.declared.Refusal.{Refusal}
use Rattle.refusal.specs.declared.Refusal.TheVariants as refusal
use Rattle.channel_core.specs.Answers.{Answer}
use Rattle.channel_core.specs.Answers as ans
use Rattle.channel.specs.Calls.{outside}
use Rattle.board_state.specs.declared.Board.{Board}

-- sizes of a channel's part
abbrev pub setpoint_size : Board → ℕ
setpoint_size b = b.n * 16

abbrev pub readback_size : Board → ℕ
readback_size b = b.m * 2

-- 1: "lent lengths other than 64 × N and 8 × M"
abbrev pub setpoints_fit : Board → ℕ → Bool
setpoints_fit b lent = eqb lent (b.n * 64)

abbrev pub readbacks_fit : Board → ℕ → Bool
readbacks_fit b lent = eqb lent (b.m * 8)

-- "channel .. out of range"
abbrev pub no_channel : ℕ → Bool
no_channel number = outside 1 4 number

-- refused 1 and 2
abbrev pub size_mismatch : Answer
size_mismatch = ans.refused (number_of refusal.SizeMismatch)

abbrev pub out_of_range : Answer
out_of_range = ans.refused (number_of refusal.OutOfRange)

-- what the check of a channel's number answers: its index, or 2
abbrev pub channel_checked : Result ℕ Refusal → ℕ → Type 0
channel_checked (Ok index) number = (no_channel number ≡ false) × (index ≡ number - 1) × (index < 4)
channel_checked (Err r) number = (no_channel number ≡ true) × (r ≡ refusal.OutOfRange)

-- what the checks of the lent lengths answer
abbrev pub length_checked : Result Unit Refusal → Bool → Type 0
length_checked (Ok u) fit = fit ≡ true
length_checked (Err r) fit = (fit ≡ false) × (r ≡ refusal.SizeMismatch)

abbrev pub setpoints_checked : Result Unit Refusal → Board → ℕ → Type 0
setpoints_checked r b lent = length_checked r (setpoints_fit b lent)

abbrev pub readbacks_checked : Result Unit Refusal → Board → ℕ → Type 0
readbacks_checked r b lent = length_checked r (readbacks_fit b lent)

-- the number that the answer of a check stands for which gives a channel's index; 0 is no refusal
abbrev pub index_number : Result ℕ Refusal → ℕ
index_number (Ok index) = 0
index_number (Err r) = number_of r

-- the index that such a check answers is that of channel 1 to 4
abbrev pub index_of : Result ℕ Refusal → ℕ → Type 0
index_of (Ok index) number = (no_channel number ≡ false) × (index ≡ number - 1) × (index < 4)
index_of (Err r) number = Unit
