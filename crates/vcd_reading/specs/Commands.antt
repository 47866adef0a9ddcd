-- The keyword commands of a dump (IEEE 1364-2005, 18.2.3).
use Rattle.std.specs.Prelude.{ℕ, Bool, ◌||◌, ◌==◌, if◌then◌else◌, nat_eq, List, [], ◌∷◌, Option, Some, None, codes}
use Rattle.std.specs.Cmp.Lexicographic.{pointwise}
use Rattle.vcd_reading.specs.declared.commands.Command.{Command}
use Rattle.vcd_reading.specs.declared.commands.Command.TheVariants.{End, Comment, Dump, Scope, Upscope, Var, EndDefinitions, Other}

-- whether two words have the same bytes
abbrev pub same_bytes : List ℕ → List ℕ → Bool
same_bytes one other = pointwise nat_eq one other

-- whether a keyword, without its `$`, is one of those that mark a group of changes
unfoldable pub is_dump : List ℕ → Bool
is_dump keyword =
    same_bytes keyword (codes "dumpvars") || same_bytes keyword (codes "dumpall") || same_bytes keyword (codes "dumpon")
    || same_bytes keyword (codes "dumpoff")

-- the command of a keyword without its `$`
unfoldable pub named_command : List ℕ → Command
named_command keyword =
    if same_bytes keyword (codes "end") then End else
    (if same_bytes keyword (codes "comment") then Comment else
    (if is_dump keyword then Dump else
    (if same_bytes keyword (codes "scope") then Scope else
    (if same_bytes keyword (codes "upscope") then Upscope else
    (if same_bytes keyword (codes "var") then Var else
    (if same_bytes keyword (codes "enddefinitions") then EndDefinitions else Other))))))

-- the command of a word that begins with `$`
abbrev pub command_of : List ℕ → Option Command
command_of [] = None
command_of (first ∷ rest) = if first == 36 then Some (named_command rest) else None

-- whether a word is `$end`
unfoldable pub is_end : List ℕ → Bool
is_end word = same_bytes word (codes "$end")
