-- The pieces that a dump is made of (IEEE 1364-2005, 18.2): what its first word says of a piece, and how far it goes.
use Rattle.std.specs.Prelude.{ℕ, Bool, ◌||◌, ◌==◌, if◌then◌else◌, List, [], ◌∷◌, Option, Some, None}
use Rattle.std.specs.Option.{option_and_then, option_map}
use Rattle.vcd_words.specs.Words.{Placed}
use Rattle.vcd_words.specs.Times.{time_in}
use Rattle.vcd_words.specs.Levels.{is_level_digit, level_in}
use Rattle.vcd_reading.specs.declared.commands.Command.{Command}
use Rattle.vcd_reading.specs.declared.commands.Command.TheVariants as command
use Rattle.vcd_reading.specs.declared.kinds.Kind.{Kind}
use Rattle.vcd_reading.specs.declared.kinds.Kind.TheVariants.{Time, Scalar, Vector, Real, Text, Mark, Section}
use Rattle.vcd_reading.specs.Commands.{named_command, command_of, is_end}
use Rattle.vcd_reading.specs.Reals.{is_real}

-- in the header a section begins with any command, but not with a lone `$end`
abbrev pub section_of : Command → Option Kind
section_of command.End = None
section_of command.Comment = Some (Section command.Comment)
section_of command.Dump = Some (Section command.Dump)
section_of command.Scope = Some (Section command.Scope)
section_of command.Upscope = Some (Section command.Upscope)
section_of command.Var = Some (Section command.Var)
section_of command.EndDefinitions = Some (Section command.EndDefinitions)
section_of command.Other = Some (Section command.Other)

-- behind it `$dumpvars` and its kin and `$end` stand alone, and only `$comment` is a section
abbrev pub mark_of : Command → Option Kind
mark_of command.End = Some Mark
mark_of command.Dump = Some Mark
mark_of command.Comment = Some (Section command.Comment)
mark_of command.Scope = None
mark_of command.Upscope = None
mark_of command.Var = None
mark_of command.EndDefinitions = None
mark_of command.Other = None

-- behind the header, what a word begins that is no time and no scalar change, by its first byte: `b`, `r`, `s` or `$`
abbrev pub letter_kind : ℕ → List ℕ → Option Kind
letter_kind first rest =
    if first == 98 || first == 66 then option_map Vector (level_in rest) else
    (if first == 114 || first == 82 then (if is_real rest then Some Real else None) else
    (if first == 115 then Some Text else
    (if first == 36 then mark_of (named_command rest) else None)))

-- behind the header, what a word begins: a time with `#`, a scalar change with its digit
abbrev pub change_kind : ℕ → List ℕ → Option Kind
change_kind first rest =
    if first == 35 then option_map Time (time_in rest) else
    (if is_level_digit first then option_map Scalar (level_in (first ∷ [])) else letter_kind first rest)

-- what a word begins, in the header and behind it
abbrev pub kind_of : Bool → List ℕ → Option Kind
kind_of header [] = None
kind_of header (first ∷ rest) =
    if header then option_and_then section_of (command_of (first ∷ rest)) else change_kind first rest

-- the words behind the first `$end`
unfoldable pub behind_end : List Placed → Option (List Placed)
behind_end [] = None
behind_end (word ∷ words) = if is_end word.word then Some words else behind_end words

-- the words behind the next one
abbrev pub behind_code : List Placed → Option (List Placed)
behind_code [] = None
behind_code (word ∷ words) = Some words

-- the words behind a piece, of those behind its first word; none where the text ends inside it
abbrev pub behind : Kind → List Placed → Option (List Placed)
behind (Time time) words = Some words
behind (Scalar level) words = Some words
behind (Vector level) words = behind_code words
behind Real words = behind_code words
behind Text words = behind_code words
behind Mark words = Some words
behind (Section name) words = behind_end words
