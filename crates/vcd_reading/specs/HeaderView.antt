-- What a header shows.
use Rattle.std.specs.Prelude.{map}
use Rattle.vcd_reading.specs.declared.header as code
use Rattle.vcd_reading.specs.Header.{Header, Opened, Variable}

abbrev pub variable_of : code.Variable.Variable → Variable
variable_of v = record { scope = v.scope; type_word = v.type_word.now; size = v.size.now; code = v.code.now; name = v.name.now }

abbrev pub opened_of : code.Opened.Opened → Opened
opened_of scope = record { around = scope.around; name = scope.name.now }

abbrev pub header_of : code.Header.Header → Header
header_of h = record { scopes = map opened_of h.scopes.items; current = h.current; variables = map variable_of h.variables.items; ended = h.ended }
