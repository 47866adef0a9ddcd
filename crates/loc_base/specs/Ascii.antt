-- Classes of bytes (IEEE 1364-2005, 3.2 and 3.5.1).
use Rattle.std.specs.Prelude.{ℕ, Bool, ◌&&◌, ◌||◌, nat_le, ◌==◌}

-- white space: a space, a tab, a newline, a form feed or a carriage return (3.2)
abbrev pub is_white : ℕ → Bool
is_white byte = byte == 32 || byte == 9 || byte == 10 || byte == 12 || byte == 13

-- a decimal digit (3.5.1)
abbrev pub is_decimal : ℕ → Bool
is_decimal byte = nat_le 48 byte && nat_le byte 57

-- a printable byte that is not the space
abbrev pub is_visible : ℕ → Bool
is_visible byte = nat_le 33 byte && nat_le byte 126
