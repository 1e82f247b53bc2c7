-- Document 02, card 7: the readings of a channel's "last setpoint send since idle". They change nothing.
use Rattle.std.specs.Prelude.{cond}
use Rattle.codes.specs.Voltage.{voltage_of}
use Rattle.adc_words.specs.declared.AdcWord.{AdcWord}
use Rattle.adc_words.specs.declared.AdcWords.{AdcWords}
use Rattle.adc_words.specs.Positions.{arrived}
use Rattle.sequencer.specs.Playing.{replies_of}
use Rattle.channel_core.specs.declared.Channel.{Channel}
use Rattle.channel_core.specs.Results.{AdcReading, volts, lost, damaged}
use Rattle.channel_core.specs.Answers.{Answer}
use Rattle.channel_core.specs.Answers as ans

-- the reading of an ADC word: "lost when its reply wasn't stored, with a wrong CRC or not", else "damaged by a wrong CRC", or the voltage of its data
-- (`VoltageExact`, codes/specs/Voltage: exactly code × 10 / 32,768)
unfoldable pub measured : AdcWord → AdcReading
measured w = cond w.stored (cond w.right (volts (voltage_of w.«data»)) damaged) lost

-- "A send's third to sixth replies are its ADC words."
abbrev pub measurement : AdcWords → Answer
measurement w = ans.readings (measured w.third) (measured w.fourth) (measured w.fifth) (measured w.sixth)

-- "The call .. describes its last setpoint send since idle; with none, all four are lost.": with none there are no replies to it
unfoldable pub readings_answer : Channel → Answer
readings_answer c = measurement (arrived c.adc (replies_of c.sequencer.last))
