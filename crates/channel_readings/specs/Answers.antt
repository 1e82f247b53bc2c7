-- Document 02, card 7, and document 01, 'Code places and language forms': "For an answer that is an enum, a definition gives this paper's number and values
-- for each of its cases, and the promises use that definition."
use Rattle.channel_core.specs.Results as result
use Rattle.channel_core.specs.Answers.{Answer}
use Rattle.channel_core.specs.Answers as ans
use Rattle.channel_readings.specs.declared.Reading.{Reading}
use Rattle.channel_readings.specs.declared.Reading.TheVariants as reading
use Rattle.channel_readings.specs.declared.Readings.{Readings}

-- "Each of the four readings is a voltage, or lost, or damaged by a wrong CRC."
abbrev pub adc_reading_of : Reading → result.AdcReading
adc_reading_of (reading.Volts x) = result.volts x
adc_reading_of reading.Lost = result.lost
adc_reading_of reading.Damaged = result.damaged

-- the answer of the call
abbrev pub readings_of : Readings → Answer
readings_of r = ans.readings (adc_reading_of r.third) (adc_reading_of r.fourth) (adc_reading_of r.fifth) (adc_reading_of r.sixth)
