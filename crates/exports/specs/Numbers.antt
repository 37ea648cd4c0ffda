-- How an answer is handed to a caller in C or Rust: as one number of 64 bits, with the number of a refusal in its top
-- byte.
-- Assumes nothing.
use Rattle.std.specs.Prelude.{◌≡◌, cond, List, ℕ, zero, suc, ◌+◌, ◌*◌, ◌/◌, ◌%◌, ◌^◌, ◌≤◌, ◌<◌, eqb, Option, None, Some}
use Rattle.std.proofs.Math.Option.{none}
use Rattle.laws.specs.Reply.{Reply, refused, refused_with, given, on_reply}
use Rattle.laws.specs.Buffers.{after_reply, count_of}
use Rattle.formats.specs.declared.Format.{Format}
use Rattle.ecc.specs.declared.ReadHeader.{ReadHeader}
use Rattle.ecc.specs.HeaderCorrection.{correction_of}
use Rattle.packing.specs.Packing.{pack_reply}
use Rattle.unpacking.specs.Unpacking.{unpack_reply}
use Rattle.csi2.specs.Writers.{pixel_line_reply}
use Rattle.reader.specs.declared.Packet.{Packet}
use Rattle.reader.specs.Reader.{read_packet}

abbrev pub reply_number : Reply ℕ → ℕ
reply_number (refused_with number detail) = number * 2 ^ 56
reply_number (given value) = value

-- the number that the caller of a writer is handed, and the lent buffer after it, both as the reply says
pub record WritesNumber (before : List ℕ) (place : ℕ) (reply : Reply (List ℕ)) (number : ℕ) (after : List ℕ)
    : Type 0 where
  pub answer : number ≡ reply_number (count_of reply)
  pub buffer : after ≡ after_reply before place reply

-- which of a header's 32 bits was wrong, counted from 1; 0 where none was
abbrev pub corrected_number : Option ℕ → ℕ
corrected_number None = 0
corrected_number (Some bit) = 1 + bit

-- a corrected header: its four bytes, then the bit
abbrev pub correction_number : ReadHeader → ℕ
correction_number read = read.header + 2 ^ 32 * corrected_number read.corrected

-- a packet that was read: its identifier, its word count, then the bit
abbrev pub packet_number : Packet → ℕ
packet_number packet =
    packet.data_identifier + 2 ^ 8 * packet.word_count + 2 ^ 24 * corrected_number packet.corrected

-- How a caller takes a number apart: it is a refusal where the top byte is not 0.
abbrev pub reply_of_number : ℕ → Reply ℕ
reply_of_number number = cond (eqb (number / 2 ^ 56) 0) (given number) (refused (number / 2 ^ 56))

abbrev pub corrected_of_number : ℕ → Option ℕ
corrected_of_number zero = None
corrected_of_number (suc bit) = Some bit

abbrev pub correction_of_number : ℕ → ReadHeader
correction_of_number value = record { header = value % 2 ^ 32; corrected = corrected_of_number (value / 2 ^ 32) }

abbrev pub packet_of_number : ℕ → Packet
packet_of_number value =
    record {
      data_identifier = value % 2 ^ 8;
      word_count = value / 2 ^ 8 % 2 ^ 16;
      corrected = corrected_of_number (value / 2 ^ 24);
    }

-- a refusal's number is a byte and not 0, with no detail beside it; a value is at most so large
abbrev pub InBounds : ℕ → Reply ℕ → Type 0
InBounds most (refused_with number detail) = (1 ≤ number) × (number < 256) × (detail ≡ none)
InBounds most (given value) = value ≤ most

-- the number is of that reply alone: taken apart, it gives it back
pub record Unambiguous (most : ℕ) (reply : Reply ℕ) : Type 0 where
  pub bounds : InBounds most reply
  pub comes_back : reply_of_number (reply_number reply) ≡ reply

-- of a value that has parts, the parts come back too
pub record UnambiguousParts {A : Type 0} (number : A → ℕ) (back : ℕ → A) (most : ℕ) (reply : Reply A) : Type 0 where
  pub value : Unambiguous most (on_reply number reply)
  pub parts : on_reply back (on_reply number reply) ≡ reply

-- So is every number that a function of src/lib.rt gives for a reply: beside each stands the most that a value can be.
pub record NumbersUnambiguous : Type 0 where
  pub packed : (format : Format) (pixels : List ℕ) (size place : ℕ)
      → Unambiguous 6144 (count_of (pack_reply format pixels size place))
  pub unpacked : (bits : ℕ) (payload : List ℕ) (size : ℕ) → Unambiguous 4096 (count_of (unpack_reply bits payload size))
  pub pixel_line : (format : Format) (pixels : List ℕ) (identifier size place : ℕ)
      → Unambiguous 6150 (count_of (pixel_line_reply format pixels identifier size place))
  pub correction : (header : ℕ) → header < 2 ^ 32
      → UnambiguousParts correction_number correction_of_number (2 ^ 38) (correction_of header)
  pub packet : (bytes : List ℕ) → UnambiguousParts packet_number packet_of_number (2 ^ 30) (read_packet bytes)
