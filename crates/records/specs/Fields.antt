-- The 24 bytes of a record as numbers, the highest byte of each first.
use Rattle.std.specs.Prelude.{ℕ, ◌+◌, ◌*◌, ◌/◌, ◌%◌, List, [], ◌∷◌, slice_index}
use Rattle.records.specs.declared.fields.Fields.{Fields}

-- the number in two bytes, of which the first is at i
abbrev pub two : ℕ → List ℕ → ℕ
two i bytes = slice_index bytes i * 256 + slice_index bytes (i + 1)

-- the number in eight bytes
abbrev pub eight : ℕ → List ℕ → ℕ
eight i bytes = ((two i bytes * 65536 + two (i + 2) bytes) * 65536 + two (i + 4) bytes) * 65536 + two (i + 6) bytes

abbrev pub fields_of : List ℕ → Fields
fields_of bytes = record {
  tag = slice_index bytes 0;
  part = slice_index bytes 1;
  replica = slice_index bytes 2;
  spare = slice_index bytes 3;
  low = two 4 bytes;
  high = two 6 bytes;
  place = record { first = two 8 bytes; second = two 10 bytes; third = two 12 bytes; fourth = two 14 bytes };
  code = eight 16 bytes;
}

-- the byte of a number that counts this many ones
abbrev pub byte : ℕ → ℕ → ℕ
byte ones n = n / ones % 256

-- a record of these fields
abbrev pub spelled : Fields → List ℕ
spelled f =
    f.tag ∷ f.part ∷ f.replica ∷ f.spare ∷ byte 256 f.low ∷ f.low % 256 ∷ byte 256 f.high ∷ f.high % 256
    ∷ byte 256 f.place.first ∷ f.place.first % 256 ∷ byte 256 f.place.second ∷ f.place.second % 256
    ∷ byte 256 f.place.third ∷ f.place.third % 256 ∷ byte 256 f.place.fourth ∷ f.place.fourth % 256
    ∷ byte 72057594037927936 f.code ∷ byte 281474976710656 f.code ∷ byte 1099511627776 f.code ∷ byte 4294967296 f.code
    ∷ byte 16777216 f.code ∷ byte 65536 f.code ∷ byte 256 f.code ∷ f.code % 256 ∷ []
