-- Worked examples of the definitions: which instances a text makes, under which parameters, and why one is refused.
use Rattle.std.proofs.Common.{◌≡◌, ℕ, ◌+◌, List, [], ◌∷◌, refl}
use Rattle.std.specs.Prelude.{true, false, pos, Option, Some, None, Result, Ok, Err, codes, map}
use Rattle.v_syntax.specs.Bytes.{is_decimal}
use Rattle.v_syntax.specs.Numbers.{is_sign, is_wild, is_hexadecimal}
use Rattle.v_syntax.specs.Literals.{digit_value, base_of}
use Rattle.v_syntax.specs.declared.site.Site.{Site}
use Rattle.v_syntax.specs.declared.declaration.Identifier.{Identifier}
use Rattle.v_syntax.specs.declared.item.Direction.TheVariants as direction
use Rattle.v_syntax.specs.declared.operator.Binary.TheVariants as binary
use Rattle.v_syntax.specs.Tree.{Tree, no_select}
use Rattle.v_syntax.specs.Tree as written
use Rattle.v_syntax.specs.StatementTree.{PlainHead}
use Rattle.v_syntax.specs.ItemTree.{PlainItem, genvar_item, instance_item, generate_item, loop_item, vector_type, several, no_items, more_items, named, ordered}
use Rattle.v_syntax.specs.ModuleTree.{PlainModule, declared_port, no_ports, declared_ports}
use Rattle.std.specs.Fmt.{digits}
use Rattle.design_core.specs.Valuation.{number}
use Rattle.v_sizes.specs.Word.{word}
use Rattle.v_hierarchy.specs.declared.error.ElabErr.{ElabErr}
use Rattle.v_hierarchy.specs.declared.error.ElabErr.TheVariants as fault
use Rattle.v_hierarchy.specs.declared.bounds.Bounds.{Bounds}
use Rattle.v_hierarchy.specs.Instances.{Instance, instances}

abbrev at : ℕ → Site
at token = record { span = record { from = token; to = token + 1 }; token = token; line = 1 }

abbrev called : ℕ → List ℕ → Identifier
called token name = record { site = at token; name = name }

abbrev decimal : List ℕ → Tree
decimal text = written.number (at 0) text

abbrev read : List ℕ → Tree
read text = written.name (at 0) text no_select

-- module child #(parameter W = 2) (input [W - 1:0] i); endmodule
abbrev child : PlainModule
child = record {
  site = at 0;
  name = called 1 (codes "child");
  parameters = record { site = at 2; opens = true; type_of = vector_type false None; name = called 2 (codes "W"); value = decimal (codes "2") } ∷ [];
  ports = declared_ports (declared_port (at 3) direction.Input None false (Some (record { site = at 4; left = written.binary (at 5) binary.Subtract (read (codes "W")) (decimal (codes "1")); right = decimal (codes "0") })) (called 6 (codes "i")) None ∷ []);
  items = [];
}

-- g = 0; g < 2; g = g + 1
abbrev head : PlainHead
head = record {
  site = at 20;
  variable = called 21 (codes "g");
  start = decimal (codes "0");
  condition = written.binary (at 22) binary.Less (read (codes "g")) (decimal (codes "2"));
  next = called 23 (codes "g");
  step = written.binary (at 24) binary.Add (read (codes "g")) (decimal (codes "1"));
}

-- child #(.W(g + 3)) u();
abbrev wide_child : PlainItem
wide_child =
    instance_item (at 27) (called 27 (codes "child"))
    (Some (named (record { site = at 28; name = called 29 (codes "W"); value = Some (written.binary (at 30) binary.Add (read (codes "g")) (decimal (codes "3"))) } ∷ [])))
    (record { site = at 31; name = called 31 (codes "u"); connections = ordered [] } ∷ [])

-- for (head) begin : row .. end
abbrev rows : PlainItem
rows = loop_item (at 20) head (several (at 25) (Some (called 26 (codes "row"))) (more_items wide_child no_items))

-- module top; genvar g; generate for .. endgenerate child v(); endmodule
abbrev top : PlainModule
top = record {
  site = at 10;
  name = called 11 (codes "top");
  parameters = [];
  ports = no_ports;
  items = genvar_item (at 12) (called 13 (codes "g") ∷ []) ∷ generate_item (at 14) (more_items rows no_items)
      ∷ instance_item (at 40) (called 40 (codes "child")) None (record { site = at 41; name = called 41 (codes "v"); connections = ordered [] } ∷ []) ∷ [];
}

abbrev text : List PlainModule
text = child ∷ top ∷ []

-- what is shown of instances: their paths
abbrev paths : Result (List Instance) ElabErr → List (List ℕ)
paths (Ok list) = map (λ i. i.path) list
paths (Err e) = []

-- and the ranges of their ports
abbrev ranges : Result (List Instance) ElabErr → List (List (Option Bounds))
ranges (Ok list) = map (λ i. map (λ p. p.signal.bounds) i.ports) list
ranges (Err e) = []

pub each_turn_makes_a_child_and_then_comes_the_next_item :
    paths (instances text (codes "top")) ≡ codes "top" ∷ codes "top.row[0].u" ∷ codes "top.row[1].u" ∷ codes "top.v" ∷ []
unfolding number word digits digit_value base_of is_sign is_hexadecimal is_wild is_decimal
each_turn_makes_a_child_and_then_comes_the_next_item = refl

-- a value from outside counts, else the parameter's own
pub ranges_are_of_the_values_given :
    ranges (instances text (codes "top")) ≡ [] ∷ (Some (record { left = pos 2; right = pos 0 }) ∷ []) ∷ (Some (record { left = pos 3; right = pos 0 }) ∷ []) ∷ (Some (record { left = pos 1; right = pos 0 }) ∷ []) ∷ []
unfolding number word digits digit_value base_of is_sign is_hexadecimal is_wild is_decimal
ranges_are_of_the_values_given = refl

-- ---- refusals
pub a_text_without_the_top : instances text (codes "none") ≡ Err fault.NoTop
a_text_without_the_top = refl

pub two_modules_of_one_name : instances (top ∷ child ∷ top ∷ []) (codes "top") ≡ Err (fault.DoubleName (at 11).span)
two_modules_of_one_name = refl

pub a_module_that_is_not_there : instances (top ∷ []) (codes "top") ≡ Err (fault.UnknownModule (at 27).span)
unfolding number word digits digit_value base_of is_sign is_hexadecimal is_wild is_decimal
a_module_that_is_not_there = refl
