-- Continuous assignments, values of declarations, and initial blocks (IEEE 1364-2005, 6.1, 6.2.1 and 9.9.1).
use Rattle.std.specs.Prelude.{ℕ, List, [], ◌∷◌, ◌++◌, length, Option, Some, None, Result, Ok, Err}
use Rattle.loc_base.specs.declared.span.Span.{Span}
use Rattle.v_syntax.specs.declared.site.Site.{Site}
use Rattle.v_syntax.specs.declared.item.NetKind.{NetKind}
use Rattle.v_syntax.specs.declared.item.NetKind.TheVariants as net_kind
use Rattle.v_syntax.specs.Tree.{Tree, no_select}
use Rattle.v_syntax.specs.PartTree.{PlainLeft, name_left}
use Rattle.v_syntax.specs.StatementTree.{PlainStatement, block, assignment, Statements, no_statement, statement}
use Rattle.v_syntax.specs.ItemTree.{PlainDeclarator, PlainAssignment}
use Rattle.design_core.specs.declared.driver.Driver.{Driver}
use Rattle.design_core.specs.declared.driver.Driver.TheVariants as driver
use Rattle.design_core.specs.declared.expression.Typed.{Typed}
use Rattle.design_core.specs.declared.place.PlaceKind.{PlaceKind}
use Rattle.design_core.specs.declared.place.PlaceKind.TheVariants as place_kind
use Rattle.v_sizes.specs.declared.meaning.Meaning.TheVariants as meaning
use Rattle.v_binding.specs.declared.error.BindErr.{BindErr}
use Rattle.v_binding.specs.declared.error.BindErr.TheVariants as fault
use Rattle.v_binding.specs.Steps.{◌>>=◌}
use Rattle.v_binding.specs.declared.known.Use.{Use}
use Rattle.v_binding.specs.declared.known.Use.TheVariants.{Stands as stands, AtTurn as at_turn, Outside as outside}
use Rattle.v_binding.specs.Names.{Names, find}
use Rattle.v_binding.specs.Expressions.{assigned, constant_at}
use Rattle.v_binding.specs.Addresses.{addresses_at, counted}
use Rattle.v_binding.specs.declared.left.Left.{Left}
use Rattle.v_binding.specs.Lefts.{target}
use Rattle.v_binding.specs.Places.{Home, place}
use Rattle.v_binding.specs.Starts.{start, initially}
use Rattle.v_binding.specs.Bound.{Bound, with_places, with_driver, with_words, with_declared, with_initial, with_clock_read}
use Rattle.v_binding.specs.Clocks.{driver_reads_clock}
use Rattle.v_binding.specs.Blocks.{Frame}

-- ---- drivers
-- a driver more, with what it reads
abbrev pub driven : Frame → Span → Driver → Bound → Bound
driven f span d b = with_clock_read (driver_reads_clock f.signals f.clock b.roots d) span (with_driver d b)

-- a driver that is a place of a kind, which begins at a site
abbrev pub driven_at : Frame → Home → PlaceKind → Site → ℕ → Span → Left → Typed → Bound → Bound
driven_at f home kind site copy span l e b =
    driven f span (driver.Cont (record { parts = l.parts }) e (Some (length b.places)) span)
    (with_places (b.places ++ place kind home site copy l ∷ []) b)

-- ---- continuous assignments: the left side first
abbrev pub continuous : Frame → Home → Names → Site → PlainLeft → Tree → Bound → Result Bound BindErr
continuous f home names site left value b =
    target names left >>= λ l. assigned names value l.width >>= λ e. Ok (driven_at f home place_kind.Assign site 0 site.span l e b)

abbrev pub assignment_of : Frame → Home → Names → PlainAssignment → Bound → Result Bound BindErr
assignment_of f home names a b = continuous f home names a.site a.target a.value b

-- ---- declarations: the addresses of an array; the value of a net is an assignment, that of a register its start
abbrev pub array_of : Names → PlainDeclarator → Bound → Result Bound BindErr
array_of names d b = elim d.range [
  | None ↦ Ok b
  | Some r ↦ addresses_at names d.site.span r >>= λ a. counted d.site.span b.words a >>= λ words. Ok (with_words words b)
]

abbrev pub width_of : Option Use → ℕ
width_of (Some (stands (meaning.Signal _ width _ _ _))) = width
width_of _ = 1

abbrev pub number_of : Option Use → ℕ
number_of (Some (stands (meaning.Signal signal _ _ _ _))) = signal
number_of _ = 0

abbrev pub start_at : Names → List ℕ → Tree → Bound → Result Bound BindErr
start_at names name value b =
    let own = find names name in constant_at names value (width_of own) >>= λ c. Ok (with_declared (start (number_of own) (width_of own) c) b)

abbrev pub value_at : Frame → Home → Names → NetKind → PlainDeclarator → Tree → Bound → Result Bound BindErr
value_at f home names net_kind.Wire d value b = continuous f home names d.site (name_left d.name.site d.name.name no_select) value b
value_at f home names net_kind.Reg d value b = start_at names d.name.name value b

abbrev pub declarator_of : Frame → Home → Names → NetKind → PlainDeclarator → Bound → Result Bound BindErr
declarator_of f home names kind d b = array_of names d b >>= λ more. elim d.value [
  | None ↦ Ok more
  | Some value ↦ value_at f home names kind d value more
]

-- ---- initial blocks: a register or, against the rules, a net is named as a whole
abbrev pub initial_fault : Span → Option Use → Option BindErr
initial_fault span (Some (stands (meaning.Signal _ _ _ _ _))) = None
initial_fault span (Some (at_turn _)) = Some (fault.NotConstant span)
initial_fault span (Some outside) = Some (fault.NotConstant span)
initial_fault span _ = Some (fault.UnknownName span)

abbrev pub initial_at : Names → Site → List ℕ → Tree → Bound → Result Bound BindErr
initial_at names site name value b = let own = find names name in elim (initial_fault site.span own) [
  | Some wrong ↦ Err wrong
  | None ↦ constant_at names value (width_of own) >>= λ c. Ok (with_initial (initially site.span (start (number_of own) (width_of own) c)) b)
]

abbrev mutual
  pub initial_block : Names → PlainStatement → Bound → Result Bound BindErr
  initial_block names (block _ _ body) b = initial_all names body b
  initial_block names (assignment _ (name_left site name _) _ _ value) b = initial_at names site name value b
  initial_block names _ b = Ok b

  pub initial_all : Names → Statements → Bound → Result Bound BindErr
  initial_all names no_statement b = Ok b
  initial_all names (statement x xs) b = initial_block names x b >>= initial_all names xs
