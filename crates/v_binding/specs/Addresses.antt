-- The addresses of an array (IEEE 1364-2005, 4.9): 1 to 1,024 words, one for each, and 65,536 in all arrays of a design.
use Rattle.std.specs.Prelude.{ℕ, ◌+◌, if◌then◌else◌, nat_le, int_lt, ℤ, Result, Ok, Err}
use Rattle.loc_base.specs.declared.span.Span.{Span}
use Rattle.v_syntax.specs.PartTree.{PlainRange}
use Rattle.v_sizes.specs.Selected.{count_between}
use Rattle.v_binding.specs.declared.error.BindErr.{BindErr}
use Rattle.v_binding.specs.declared.error.BindErr.TheVariants as fault
use Rattle.v_binding.specs.Steps.{◌>>=◌}
use Rattle.v_binding.specs.Names.{Names}
use Rattle.v_binding.specs.Expressions.{index_at}

pub record Addresses : Type 0 where
  -- the least one
  pub low : ℤ
  pub count : ℕ

abbrev pub addresses_between : ℤ → ℤ → Addresses
addresses_between left right = record { low = if int_lt left right then left else right; count = count_between left right }

-- those of a range, for a declaration that spans so much of the text
abbrev pub addresses_at : Names → Span → PlainRange → Result Addresses BindErr
addresses_at names span r =
    index_at names r.left >>= λ left. index_at names r.right >>= λ right.
    if nat_le (count_between left right) 1024 then Ok (addresses_between left right) else Err (fault.Range span)

-- so many words more than before
abbrev pub counted : Span → ℕ → Addresses → Result ℕ BindErr
counted span words a = if nat_le (words + a.count) 65536 then Ok (words + a.count) else Err (fault.Range span)
