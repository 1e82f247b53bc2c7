-- Every law that specs/Laws.antt states holds. Assumes nothing.
use Rattle.frame.specs.Crc.{of_bits, of_bytes}
use Rattle.frame.specs.Laws.{PolynomialLaws, CrcLaws, FrameLaws}
use Rattle.frame.proofs.Xor as xor
use Rattle.frame.proofs.Multiples as multiples
use Rattle.frame.proofs.Remainders as remainders
use Rattle.frame.proofs.Messages as messages
use Rattle.frame.proofs.Frames as frames
use Rattle.frame.proofs.Readings as readings

pub polynomial_laws : PolynomialLaws
polynomial_laws =
    record {
      sum_coefficient = xor.sum_coefficient;
      product_one = multiples.product_one;
      product_shift = multiples.product_shift;
      product_sum = multiples.product_sum;
    }

pub crc_laws : CrcLaws
crc_laws =
    record {
      remainder_exists = remainders.remainder_exists;
      remainder_unique = remainders.remainder_unique;
      crc_of_bits = λ bits. remainders.crc_is (of_bits bits);
      crc_of_bytes = λ bytes. remainders.crc_is (of_bytes bytes);
      bytes_as_bits = messages.bytes_as_bits;
      bit_by_bit = messages.bit_by_bit;
    }

pub frame_laws : FrameLaws
frame_laws =
    record {
      crc_remainder = frames.crc_remainder;
      crc_right_lem = frames.crc_right_lem;
      crc_only = frames.crc_only;
      encoded_framed = frames.encoded_framed;
      round_trip = frames.round_trip;
      parts_exist = frames.parts_exist;
      parts_unique = frames.parts_unique;
      parts_read = frames.parts_read;
      parts_framed = frames.parts_framed;
      read_one_to_one = frames.read_one_to_one;
      refused_7 = frames.refused_7;
      refused_only = frames.refused_only;
      reading_one_to_one = readings.reading_one_to_one;
    }
