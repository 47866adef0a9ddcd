-- The bytes of a text and their classes (IEEE 1364-2005, 3.2, 3.5.1 and 3.7).
use Rattle.std.specs.Prelude.{ℕ, Bool, not, ◌&&◌, ◌||◌, nat_le, ◌==◌}

-- the byte is one of those from low to high
abbrev pub between : ℕ → ℕ → ℕ → Bool
between low high byte = nat_le low byte && nat_le byte high

-- white space: space, tab, newline, form feed and carriage return
unfoldable pub is_white : ℕ → Bool
is_white byte = byte == 32 || between 9 10 byte || between 12 13 byte

-- a byte that is no white space
abbrev pub not_white : ℕ → Bool
not_white byte = not (is_white byte)

-- a byte that doesn't end a line
abbrev pub not_newline : ℕ → Bool
not_newline byte = not (byte == 10)

-- a byte that begins a simple identifier: a letter or the underscore
unfoldable pub is_letter : ℕ → Bool
is_letter byte = between 97 122 byte || between 65 90 byte || byte == 95

-- a decimal digit
unfoldable pub is_decimal : ℕ → Bool
is_decimal byte = between 48 57 byte

-- a byte that goes on in a simple identifier: a letter, a digit, the underscore or the dollar sign
unfoldable pub is_name_byte : ℕ → Bool
is_name_byte byte = is_letter byte || is_decimal byte || byte == 36

-- a printable byte that is not the space
abbrev pub is_visible : ℕ → Bool
is_visible byte = between 33 126 byte

-- a byte that begins a symbol: the printable bytes that are no letter, no digit and none of  " $ ' \ _ `
unfoldable pub is_mark : ℕ → Bool
is_mark byte =
    byte == 33 || byte == 35 || between 37 38 byte || between 40 47 byte || between 58 64 byte || byte == 91 || byte == 93
    || byte == 94 || between 123 126 byte
