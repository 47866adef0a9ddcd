-- Constants where a range, a parameter, a condition or the head of a loop wants one (IEEE 1364-2005, clause 5).
use Rattle.std.specs.Prelude.{ℕ, Bool, not, ◌&&◌, if◌then◌else◌, nat_le, int_lt, max, ℤ, pos, negsuc, ◌-ℤ◌, Option, Some, None, Result, Ok, Err}
use Rattle.loc_base.specs.Bits.{width_of, value_of}
use Rattle.loc_base.specs.Word.{extended}
use Rattle.v_syntax.specs.declared.site.Site.{Site}
use Rattle.v_syntax.specs.Tree.{Tree}
use Rattle.v_syntax.specs.Tree as written
use Rattle.v_syntax.specs.PartTree.{PlainRange}
use Rattle.design_core.specs.Operator.{integer_of}
use Rattle.v_sizes.specs.declared.error.WidthErr.{WidthErr}
use Rattle.v_sizes.specs.declared.error.WidthErr.TheVariants as width_fault
use Rattle.v_sizes.specs.declared.meaning.Const.{Const}
use Rattle.v_sizes.specs.Look.{Look}
use Rattle.v_sizes.specs.Selected.{count_between}
use Rattle.v_sizes.specs.Word.{word}
use Rattle.v_sizes.specs.Context.{constant_of, constant_refusal_in}
use Rattle.v_hierarchy.specs.declared.error.ElabErr.{ElabErr}
use Rattle.v_hierarchy.specs.declared.error.ElabErr.TheVariants as fault
use Rattle.v_hierarchy.specs.declared.bounds.Bounds.{Bounds}
use Rattle.v_hierarchy.specs.Steps.{◌>>=◌}

-- where an expression stands
abbrev pub site_of : Tree → Site
site_of (written.number s _) = s
site_of (written.wild s _) = s
site_of (written.name s _ _) = s
site_of (written.parens s _) = s
site_of (written.concat s _) = s
site_of (written.repeat s _ _) = s
site_of (written.system s _ _) = s
site_of (written.unary s _ _) = s
site_of (written.binary s _ _ _) = s
site_of (written.conditional s _ _ _) = s

abbrev pub fault_of : WidthErr → ElabErr
fault_of (width_fault.UnknownName span) = fault.UnknownName span
fault_of (width_fault.NotConstant span) = fault.NotConstant span
fault_of (width_fault.ZeroDivisor span) = fault.ZeroDivisor span
fault_of (width_fault.Range span) = fault.Range span
fault_of width_fault.NoMemory = fault.NoMemory

-- the constant that an expression is in an assignment of a width, 0 for none
abbrev pub constant_at : Look → ℕ → Tree → Result Const ElabErr
constant_at look context e = elim (constant_refusal_in look e context) [
  | None ↦ Ok (constant_of look e context)
  | Some wrong ↦ Err (fault_of wrong)
]

-- the whole number that a constant means
abbrev pub integer : Const → ℤ
integer c = integer_of c.signed (width_of c.bits) (value_of c.bits)

-- a constant that is assigned to what has a width and a sign: extended by its own sign, or cut
abbrev pub assigned : ℕ → Bool → Const → Const
assigned width signed c =
    record { bits = word width (extended c.signed (width_of c.bits) (max width (width_of c.bits)) (value_of c.bits)); signed = signed }

-- ---- ranges (4.3.1)
abbrev pub bounds : ℤ → ℤ → Bounds
bounds left right = record { left = left; right = right }

-- the range of what has none
abbrev pub scalar : Bounds
scalar = bounds (pos 0) (pos 0)

-- the range of a width that is not written
abbrev pub down_from : ℕ → Bounds
down_from width = bounds (pos width -ℤ pos 1) (pos 0)

abbrev pub width : Bounds → ℕ
width b = count_between b.left b.right

-- an index is a whole number of 32 bits
abbrev pub is_index : ℤ → Bool
is_index n = not (int_lt n (negsuc 2147483647)) && int_lt n (pos 2147483648)

abbrev pub index_at : Look → Tree → Result ℤ ElabErr
index_at look e = constant_at look 0 e >>= λ c. if is_index (integer c) then Ok (integer c) else Err (fault.Range (site_of e).span)

-- the bounds from the left, then 1 to 128 bits
abbrev pub bounds_at : Look → PlainRange → Result Bounds ElabErr
bounds_at look r =
    index_at look r.left >>= λ left. index_at look r.right >>= λ right.
    if nat_le (count_between left right) 128 then Ok (bounds left right) else Err (fault.Range r.site.span)

abbrev pub bounds_if : Look → Option PlainRange → Result (Option Bounds) ElabErr
bounds_if look None = Ok None
bounds_if look (Some r) = bounds_at look r >>= λ b. Ok (Some b)
