-- What is written is read back: laws that stand beside the contracts of the writers and of the reader.
-- Assumes nothing.
use Rattle.std.specs.Prelude.{◌≡◌, true, List, [], ℕ, ◌/◌, ◌%◌, ◌^◌, ◌<◌, length, get_or, set, drop, Option, None, Some}
use Rattle.std.specs.Int.Bits.{bit_xor}
use Rattle.laws.specs.Reply.{refused, given}
use Rattle.laws.specs.Buffers.{written, if_room}
use Rattle.formats.specs.declared.Format.{Format}
use Rattle.formats.specs.Formats.{format_of}
use Rattle.unpacking.specs.Unpacking.{unpack_reply}
use Rattle.csi2.specs.declared.short.FrameSync.{FrameSync}
use Rattle.packing.specs.Raw.{payload_of, all_fit}
use Rattle.csi2.specs.Packets.{sync_identifier}
use Rattle.csi2.specs.Writers.{long_packet_reply, pixel_line_reply, short_reply}
use Rattle.reader.specs.Reader.{read_packet, payload_read}

-- the reader's answers about the packet at the start of the bytes
abbrev pub ReadsWith : Option ℕ → List ℕ → ℕ → ℕ → List ℕ → Type 0
ReadsWith corrected bytes identifier count payload =
    (read_packet bytes ≡ given (record { data_identifier = identifier; word_count = count; corrected = corrected }))
    × (payload_read bytes ≡ payload)

-- the bytes with bit i flipped, the lowest of the first byte being bit 0
abbrev pub flipped_in : List ℕ → ℕ → List ℕ
flipped_in bytes i = set bytes (i / 8) (bit_xor (get_or bytes (i / 8) 0) (2 ^ (i % 8)))

-- read with nothing corrected; with any one of the 32 bits of the header flipped all the same, naming that bit; and
-- with any two different ones flipped refused
abbrev pub ReadsAs : List ℕ → ℕ → ℕ → List ℕ → Type 0
ReadsAs bytes identifier count payload =
    ReadsWith None bytes identifier count payload
    × ((i : ℕ) → i < 32 → ReadsWith (Some i) (flipped_in bytes i) identifier count payload)
    × ((i j : ℕ) → i < 32 → j < 32 → (i ≡ j → ⊥) → read_packet (flipped_in (flipped_in bytes i) j) ≡ refused 10)

-- for every long packet that is written, whether or not its pixels fit the format, read from its place
abbrev pub LongPacketReadsBack : Type 0
LongPacketReadsBack =
    (format : Format) (pixels : List ℕ) (identifier place : ℕ) (buffer bytes : List ℕ) → identifier < 256
    → long_packet_reply format pixels identifier (length buffer) place ≡ given bytes
    → ReadsAs (drop place (written buffer place bytes)) identifier
    (length (payload_of format pixels)) (payload_of format pixels)

-- L3: "Unpacking what the twin packed gives the pixels": the payload that is read is unpacked to the pixels, if they
-- fit, into every slice that has room for them
abbrev pub LongPacketUnpacks : Type 0
LongPacketUnpacks =
    (bits : ℕ) (format : Format) (pixels : List ℕ) (identifier place size : ℕ) (buffer bytes : List ℕ)
    → format_of bits ≡ given format → identifier < 256
    → all_fit format pixels ≡ true → long_packet_reply format pixels identifier (length buffer) place ≡ given bytes
    → unpack_reply bits (payload_read (drop place (written buffer place bytes))) size ≡ if_room size 0 pixels

-- so for every pixel line that is written, whose pixels were tested
abbrev pub PixelLineReadsBack : Type 0
PixelLineReadsBack =
    (format : Format) (pixels : List ℕ) (identifier place : ℕ) (buffer bytes : List ℕ) → identifier < 256
    → pixel_line_reply format pixels identifier (length buffer) place ≡ given bytes
    → ReadsAs (drop place (written buffer place bytes)) identifier
    (length (payload_of format pixels)) (payload_of format pixels)

abbrev pub PixelLineUnpacks : Type 0
PixelLineUnpacks =
    (bits : ℕ) (format : Format) (pixels : List ℕ) (identifier place size : ℕ) (buffer bytes : List ℕ)
    → format_of bits ≡ given format → identifier < 256
    → pixel_line_reply format pixels identifier (length buffer) place ≡ given bytes
    → unpack_reply bits (payload_read (drop place (written buffer place bytes))) size ≡ if_room size 0 pixels

-- for every frame start and end
abbrev pub ShortReadsBack : Type 0
ShortReadsBack =
    (identifier : ℕ) (sync : FrameSync) (number place : ℕ) (buffer bytes : List ℕ) → identifier < 256 → number < 65536
    → short_reply identifier sync number (length buffer) place ≡ given bytes
    → ReadsAs (drop place (written buffer place bytes)) (sync_identifier identifier sync) number []
