-- Document 01, 'Run file and log line': what a record asks, for every string of 8 bytes.
use Rattle.std.specs.Prelude.{ℕ, ◌+◌, ◌*◌, ◌/◌, ◌%◌, cond, ◌||◌, Option, Some, None, Result, Ok, Err, List, get_or, eqb, ltb}
use Rattle.refusal.specs.declared.Refusal.{Refusal}
use Rattle.little_endian.specs.Numbers.{number16, number32}
use Rattle.records.specs.declared.Request.{Request}
use Rattle.records.specs.declared.Request.TheVariants as request

pub data Asked : Type 0 where
  write : (address value : ℕ) → Asked
  read : (address : ℕ) → Asked
  setpoint : (number user buffer index word : ℕ) → Asked
  event : (code : ℕ) → Asked
  ticks : (count : ℕ) → Asked
  reply : (number frame : ℕ) → Asked
  user : (user : ℕ) → Asked
  arm : (number : ℕ) → Asked
  disarm : (number : ℕ) → Asked
  -- 9
  bad : Asked

-- "1 write a := b (to 65,535)"
abbrev pub write_asked : ℕ → ℕ → Asked
write_asked a b = cond (ltb 65535 b) bad (write a b)

-- "3 setpoint (a = 32 × (user − 1) + 16 × (buffer − 1) + index, to 255; word b)"
abbrev pub setpoint_asked : ℕ → ℕ → ℕ → Asked
setpoint_asked number a b = cond (ltb 255 a) bad (setpoint number (a / 32 + 1) (a / 16 % 2 + 1) (a % 16) b)

-- "4 event b (to 255)"
abbrev pub event_asked : ℕ → Asked
event_asked b = cond (ltb 255 b) bad (event b)

-- "5 b ticks (1–10,000)"
abbrev pub ticks_asked : ℕ → Asked
ticks_asked b = cond (ltb b 1 || ltb 10000 b) bad (ticks b)

-- "8 arm b (1 arms, 0 disarms)"
abbrev pub arm_asked : ℕ → ℕ → Asked
arm_asked number b = cond (eqb b 1) (arm number) (cond (eqb b 0) (disarm number) bad)

-- by kind, channel, a and b. "Kinds 1, 2, 4, 5 and 7 ignore the channel byte. Other kinds, or b or a past these ranges, are 9."
unfoldable pub asked_by : ℕ → ℕ → ℕ → ℕ → Asked
asked_by kind number a b =
    cond (eqb kind 1) (write_asked a b)
    (cond (eqb kind 2) (read a)
    (cond (eqb kind 3) (setpoint_asked number a b)
    (cond (eqb kind 4) (event_asked b)
    (cond (eqb kind 5) (ticks_asked b)
    (cond (eqb kind 6) (reply number (a * 4294967296 + b))
    (cond (eqb kind 7) (user b)
    (cond (eqb kind 8) (arm_asked number b) bad)))))))

-- "A record: byte kind, byte channel, 16-bit a, 32-bit b, little-endian."
unfoldable pub asked_of : List ℕ → Asked
asked_of s = asked_by (get_or s 0 0) (get_or s 1 0) (number16 s 2) (number32 s 4)

-- what each case of the code's request stands for
abbrev pub asked : Request → Asked
asked (request.Write address value) = write address value
asked (request.Read address) = read address
asked (request.Setpoint number u buffer index word) = setpoint number u buffer index word
asked (request.Event code) = event code
asked (request.Ticks count) = ticks count
asked (request.Reply number frame) = reply number frame
asked (request.User u) = user u
asked (request.Arm number) = arm number
asked (request.Disarm number) = disarm number

-- the same where there may be none
abbrev pub asked_or_bad : Option Request → Asked
asked_or_bad (Some r) = asked r
asked_or_bad None = bad

-- and of what is decoded: a refused record is a bad one
abbrev pub request_of : Result Request Refusal → Asked
request_of (Ok r) = asked r
request_of (Err k) = bad
