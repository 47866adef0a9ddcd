-- The number with the wild bits of one digit more. What only private contracts cite.
use Rattle.std.specs.Prelude.{ℕ, ◌+◌, ◌-◌, ◌*◌, if◌then◌else◌}
use Rattle.v_syntax.specs.Numbers.{is_wild, is_hexadecimal}

abbrev pub next_wild : ℕ → ℕ → ℕ → ℕ
next_wild base before byte = if is_wild byte then before * base + (base - 1) else if is_hexadecimal byte then before * base else before
