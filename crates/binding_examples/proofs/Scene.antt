-- What the examples have in common: names with their signals, and nothing bound yet.
use Rattle.std.proofs.Common.{ℕ, ◌+◌, List, [], ◌∷◌, map}
use Rattle.std.specs.Prelude.{Bool, true, false, pos, Option, Some, None, Result, Ok, Err, codes}
use Rattle.loc_base.specs.declared.span.Span.{Span}
use Rattle.v_syntax.specs.declared.site.Site.{Site}
use Rattle.v_syntax.specs.Tree.{Tree, no_select}
use Rattle.v_syntax.specs.Tree as written
use Rattle.design_core.specs.declared.signal.SignalKind.TheVariants as kind
use Rattle.design_core.specs.declared.driver.Driver.{Driver}
use Rattle.design_core.specs.declared.expression.Typed.{Typed}
use Rattle.v_sizes.specs.declared.meaning.Meaning.TheVariants as meaning
use Rattle.v_hierarchy.specs.Constants.{bounds}
use Rattle.v_binding.specs.declared.error.BindErr.{BindErr}
use Rattle.v_binding.specs.declared.known.Use.TheVariants.{Stands as stands}
use Rattle.v_binding.specs.Names.{Names, Known, known}
use Rattle.v_binding.specs.Places.{Home}
use Rattle.v_binding.specs.Signals.{signal_of}
use Rattle.v_binding.specs.Bound.{Root, Bound}
use Rattle.v_binding.specs.Blocks.{Frame}
use Rattle.v_binding.specs.Binding.{nothing_bound}

-- the token of that number, on a line of its own
abbrev pub at : ℕ → Site
at token = record { span = record { from = token; to = token + 1 }; token = token; line = token + 1 }

abbrev pub span : ℕ → Span
span token = (at token).span

-- the inputs clk, rst, a and b of one bit are signals 0 to 3, the register q of one bit is 4, the nets y, w [3:0] and u [0:3] are 5 to 7
abbrev pub one_bit : List ℕ → ℕ → Known
one_bit name signal = known name (stands (meaning.Signal signal 1 false (pos 0) (pos 0)))

abbrev pub names : Names
names =
    one_bit (codes "clk") 0 ∷ one_bit (codes "rst") 1 ∷ one_bit (codes "a") 2 ∷ one_bit (codes "b") 3 ∷ one_bit (codes "q") 4 ∷ one_bit (codes "y") 5
    ∷ known (codes "w") (stands (meaning.Signal 6 4 false (pos 3) (pos 0))) ∷ known (codes "u") (stands (meaning.Signal 7 4 false (pos 0) (pos 3))) ∷ []

abbrev pub frame : Frame
frame = record {
  signals =
      signal_of (codes "clk") kind.Input false (bounds (pos 0) (pos 0)) ∷ signal_of (codes "rst") kind.Input false (bounds (pos 0) (pos 0))
      ∷ signal_of (codes "a") kind.Input false (bounds (pos 0) (pos 0)) ∷ signal_of (codes "b") kind.Input false (bounds (pos 0) (pos 0))
      ∷ signal_of (codes "q") kind.Reg false (bounds (pos 0) (pos 0)) ∷ signal_of (codes "y") kind.Net false (bounds (pos 0) (pos 0))
      ∷ signal_of (codes "w") kind.Net false (bounds (pos 3) (pos 0)) ∷ signal_of (codes "u") kind.Net false (bounds (pos 0) (pos 3)) ∷ [];
  clock = Some 0;
}

abbrev pub root : ℕ → Root
root signal = record { signal = signal; input = signal }

abbrev pub nothing_yet : Bound
nothing_yet = nothing_bound (root 0 ∷ root 1 ∷ root 2 ∷ root 3 ∷ [])

abbrev pub home : Home
home = record { «module» = codes "m"; path = codes "m"; item = 0 }

abbrev pub named : ℕ → List ℕ → Tree
named token text = written.name (at token) text no_select

abbrev pub number : ℕ → List ℕ → Tree
number token text = written.number (at token) text

-- the drivers that are bound, none where the text is refused
abbrev pub drivers_of : Result Bound BindErr → List Driver
drivers_of (Ok b) = b.drivers
drivers_of (Err _) = []

-- why a text is refused
abbrev pub refused : Result Bound BindErr → Option BindErr
refused (Ok _) = None
refused (Err e) = Some e
