-- That the names and the items of a scope are as those of a text, and fit the signals of a design.
use Rattle.std.specs.Prelude.{⊤, ℕ, ◌≡◌, ◌≤◌, Bool, ℤ, List, Option, Some}
use Rattle.loc_base.specs.Bits.{width_of}
use Rattle.design_core.specs.declared.signal.Signal.{Signal}
use Rattle.v_syntax.specs.declared.item.NetKind.{NetKind}
use Rattle.v_syntax.specs.declared.item.NetKind.TheVariants as net_kind
use Rattle.v_syntax.specs.ItemTree.{PlainDeclarator, PlainItem, net_item}
use Rattle.v_sizes.specs.declared.meaning.Meaning.TheVariants as meaning
use Rattle.v_sizes.specs.Context.{IsThere}
use Rattle.v_hierarchy.specs.Items.{written, always, child, inner, turn, Block, scope, Copies, no_copy, copy}
use Rattle.v_binding.specs.declared.known.Use.{Use}
use Rattle.v_binding.specs.declared.known.Use.TheVariants.{Stands as stands}
use Rattle.v_binding.specs.Names.{Names, find, within, turned}
use Rattle.v_binding.specs.Signals.{Scope, Scopes}
use Rattle.v_binding.specs.Items.{scope_next, scopes_after, names_of, scopes_of}
use Rattle.v_binding.specs.Connections.{Socket}
use Rattle.bind_laws.specs.Every.{Every, IfGiven}
use Rattle.bind_laws.specs.Fit.{NamesFit, StepsFit}

-- the name of a signal
pub record NamesSignal (o : Option Use) : Type 0 where
  pub signal : ℕ
  pub width : ℕ
  pub signed : Bool
  pub left : ℤ
  pub right : ℤ
  pub is : o ≡ Some (stands (meaning.Signal signal width signed left right))

-- a register with a start value is a signal, and no array (A.2.4)
abbrev pub HasSignal : Names → NetKind → PlainDeclarator → Type 0
HasSignal names net_kind.Wire d = ⊤
HasSignal names net_kind.Reg d = IfGiven d.value (NamesSignal (find names d.name.name))

abbrev pub ItemFits : Names → PlainItem → Type 0
ItemFits names (net_item _ kind _ _ _ list) = Every (HasSignal names kind) list
ItemFits names _ = ⊤

-- the names of each scope are of the design, and its statements are those of a text
abbrev mutual
  pub CopiesFit : List Signal → Names → Scopes → Copies → Type 0
  CopiesFit signals names scopes no_copy = ⊤
  CopiesFit signals names scopes (copy (written item) rest) = ItemFits names item × CopiesFit signals names scopes rest
  CopiesFit signals names scopes (copy (always _ _ body) rest) = StepsFit body × CopiesFit signals names scopes rest
  CopiesFit signals names scopes (copy (child _ _) rest) = CopiesFit signals names scopes rest
  CopiesFit signals names scopes (copy (inner block) rest) =
      BlockFits signals names (scope_next scopes) block × CopiesFit signals names (scopes_after scopes) rest
  CopiesFit signals names scopes (copy (turn variable value block) rest) =
      (width_of value.bits ≡ 32) × BlockFits signals (turned variable value names) (scope_next scopes) block
      × CopiesFit signals names (scopes_after scopes) rest

  pub BlockFits : List Signal → Names → Scope → Block → Type 0
  BlockFits signals names own (scope _ _ copies) =
      NamesFit signals (names_of own) × CopiesFit signals (within (names_of own) names) (scopes_of own) copies

-- a port is a signal of the design
pub record SocketFits (signals : List Signal) (p : Socket) : Type 0 where
  pub left : ℤ
  pub right : ℤ
  pub there : IsThere signals p.width left right p.signal
  pub least : 1 ≤ p.width
  pub most : p.width ≤ 128
