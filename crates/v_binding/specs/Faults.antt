-- The refusals of expressions, as binding says them.
use Rattle.v_sizes.specs.declared.error.WidthErr.{WidthErr}
use Rattle.v_sizes.specs.declared.error.WidthErr.TheVariants as width_fault
use Rattle.v_binding.specs.declared.error.BindErr.{BindErr}
use Rattle.v_binding.specs.declared.error.BindErr.TheVariants as fault

abbrev pub fault_of : WidthErr → BindErr
fault_of (width_fault.UnknownName span) = fault.UnknownName span
fault_of (width_fault.NotConstant span) = fault.NotConstant span
fault_of (width_fault.ZeroDivisor span) = fault.ZeroDivisor span
fault_of (width_fault.Range span) = fault.Range span
fault_of width_fault.NoMemory = fault.NoMemory
