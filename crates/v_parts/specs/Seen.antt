-- What contracts see of what a reader found: the part without where it lies in memory, and the place behind it.
use Rattle.std.specs.Prelude.{ℕ, ◌≤◌, Option, option_map, List, length, map}
use Rattle.v_lexer.specs.Lexeme.{Lexeme}
use Rattle.std.specs.declared.vec.Vec.{Vec}
use Rattle.std.specs.declared.alloc.Global.{Global}
use Rattle.v_syntax.specs.declared.expression.Expr.{Expr}
use Rattle.v_syntax.specs.declared.declaration.Identifier.{Identifier}
use Rattle.v_syntax.specs.declared.declaration.NamedValue.{NamedValue}
use Rattle.v_syntax.specs.declared.declaration.Range.{Range}
use Rattle.v_syntax.specs.declared.declaration.Delay.{Delay}
use Rattle.v_syntax.specs.declared.declaration.Left.{Left}
use Rattle.v_syntax.specs.Tree.{Tree, tree_of}
use Rattle.v_syntax.specs.PartTree.{PlainRange, range_of, PlainNamed, named_of, PlainDelay, delay_of, PlainLeft, left_of}

abbrev pub as_is : {A : Type 0} → A × ℕ → A × ℕ
as_is x = x

-- a part, and parts, by a view of one
abbrev pub seen_part : {X A : Type 0} → (X → A) → X × ℕ → A × ℕ
seen_part view x = (view x.0, x.1)

abbrev pub seen_parts : {X A : Type 0} → (X → A) → Vec X Global × ℕ → List A × ℕ
seen_parts view x = (map view x.0.items, x.1)

abbrev pub seen_value : Expr × ℕ → Tree × ℕ
seen_value x = (tree_of x.0, x.1)

abbrev pub seen_value_if : Option Expr × ℕ → Option Tree × ℕ
seen_value_if x = (option_map tree_of x.0, x.1)

abbrev pub seen_range : Range × ℕ → PlainRange × ℕ
seen_range x = (range_of x.0, x.1)

abbrev pub seen_range_if : Option Range × ℕ → Option PlainRange × ℕ
seen_range_if x = (option_map range_of x.0, x.1)

abbrev pub seen_delay : Delay × ℕ → PlainDelay × ℕ
seen_delay x = (delay_of x.0, x.1)

abbrev pub seen_delay_if : Option Delay × ℕ → Option PlainDelay × ℕ
seen_delay_if x = (option_map delay_of x.0, x.1)

abbrev pub seen_left : Left × ℕ → PlainLeft × ℕ
seen_left x = (left_of x.0, x.1)

abbrev pub seen_lefts : Vec Left Global × ℕ → List PlainLeft × ℕ
seen_lefts x = (map left_of x.0.items, x.1)

abbrev pub seen_identifiers : Vec Identifier Global × ℕ → List Identifier × ℕ
seen_identifiers x = (x.0.items, x.1)

abbrev pub seen_values : Vec Expr Global × ℕ → List Tree × ℕ
seen_values x = (map tree_of x.0.items, x.1)

abbrev pub seen_named : NamedValue × ℕ → PlainNamed × ℕ
seen_named x = (named_of x.0, x.1)

abbrev pub seen_nameds : Vec NamedValue Global × ℕ → List PlainNamed × ℕ
seen_nameds x = (map named_of x.0.items, x.1)

-- the place behind what was found is within the tokens
abbrev pub Inside : {A : Type 0} → List Lexeme → A × ℕ → Type 0
Inside tokens x = x.1 ≤ length tokens
