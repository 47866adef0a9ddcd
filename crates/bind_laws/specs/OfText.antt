-- Instances as a text means them, beside that their names stand for something: what is declared once, and what the grammar has no
-- other way of writing.
use Rattle.std.specs.Prelude.{⊤, ℕ, ◌≡◌, Bool, true, false, List, [], ◌∷◌, Some, None}
use Rattle.v_syntax.specs.declared.item.NetKind.{NetKind}
use Rattle.v_syntax.specs.declared.item.NetKind.TheVariants as net_kind
use Rattle.v_syntax.specs.ItemTree.{PlainDeclarator, PlainItem, net_item, integer_item}
use Rattle.v_hierarchy.specs.declared.signal.Signal.{Signal}
use Rattle.v_hierarchy.specs.Names.{Entry, signal, integer, same_name, find}
use Rattle.v_hierarchy.specs.Headers.{Port}
use Rattle.v_hierarchy.specs.Unrolled.{Steps, nothing, still, run, branch, choose, repeated, StepList, no_step, step, Arms, no_arm, arm, default_arm, Turns, no_turn}
use Rattle.v_hierarchy.specs.Unrolled as Unrolled
use Rattle.v_hierarchy.specs.Items.{Copied, written, always, child, inner, turn, Block, scope, Copies, no_copy, copy}
use Rattle.v_hierarchy.specs.Instances.{Instance}
use Rattle.bind_laws.specs.Every.{Every, IfGiven}

-- a case has one default at most (9.5)
abbrev mutual
  pub OneDefault : Steps → Type 0
  OneDefault nothing = ⊤
  OneDefault (still _) = ⊤
  OneDefault (run list) = AllOneDefault list
  OneDefault (branch _ one other) = OneDefault one × OneDefault other
  OneDefault (choose _ _ arms) = ArmsOneDefault false arms
  OneDefault (repeated _ turns) = TurnsOneDefault turns

  pub AllOneDefault : StepList → Type 0
  AllOneDefault no_step = ⊤
  AllOneDefault (step x rest) = OneDefault x × AllOneDefault rest

  pub ArmsOneDefault : Bool → Arms → Type 0
  ArmsOneDefault had no_arm = ⊤
  ArmsOneDefault had (arm _ x rest) = OneDefault x × ArmsOneDefault had rest
  ArmsOneDefault had (default_arm x rest) = (had ≡ false) × OneDefault x × ArmsOneDefault true rest

  pub TurnsOneDefault : Turns → Type 0
  TurnsOneDefault no_turn = ⊤
  TurnsOneDefault (Unrolled.turn _ x rest) = OneDefault x × TurnsOneDefault rest

-- each name is declared once (12.7)
abbrev pub AreApart : List Entry → Type 0
AreApart [] = ⊤
AreApart (e ∷ es) = (find e.name.name es ≡ None) × AreApart es

-- a name is declared as a signal
pub record IsSignal (entries : List Entry) (name : List ℕ) : Type 0 where
  pub declared : Signal
  pub is : find name entries ≡ Some (signal declared)

-- a register with a start value is no array (A.2.4)
abbrev pub DeclaratorOf : List Entry → NetKind → PlainDeclarator → Type 0
DeclaratorOf entries net_kind.Wire d = ⊤
DeclaratorOf entries net_kind.Reg d = IfGiven d.value (IsSignal entries d.name.name)

-- what an item declares, its scope has
abbrev pub ItemOf : List Entry → PlainItem → Type 0
ItemOf entries (net_item _ kind _ _ _ list) = Every (DeclaratorOf entries kind) list
ItemOf entries (integer_item _ names) = Every (λ name. find name.name entries ≡ Some integer) names
ItemOf entries _ = ⊤

abbrev mutual
  pub CopiesOf : List Entry → Copies → Type 0
  CopiesOf entries no_copy = ⊤
  CopiesOf entries (copy x rest) = CopiedOf entries x × CopiesOf entries rest

  pub CopiedOf : List Entry → Copied → Type 0
  CopiedOf entries (written item) = ItemOf entries item
  CopiedOf entries (always _ _ body) = OneDefault body
  CopiedOf entries (child _ _) = ⊤
  CopiedOf entries (inner block) = BlockOf block
  CopiedOf entries (turn _ _ block) = BlockOf block

  pub BlockOf : Block → Type 0
  BlockOf (scope _ entries copies) = AreApart entries × CopiesOf entries copies

abbrev pub entries_of : Block → List Entry
entries_of (scope _ entries _) = entries

-- ports have names of their own, and each is declared as a signal
abbrev pub PortsApart : List Port → Type 0
PortsApart [] = ⊤
PortsApart (p ∷ ps) = Every (λ q. same_name p.name.name q.name.name ≡ false) ps × PortsApart ps

abbrev pub InstanceOf : Instance → Type 0
InstanceOf i = BlockOf i.body × PortsApart i.ports × Every (λ p. find p.name.name (entries_of i.body) ≡ Some (signal p.signal)) i.ports

-- the first stands in no other
abbrev pub IsFirst : List Instance → Type 0
IsFirst [] = ⊤
IsFirst (i ∷ _) = i.parent ≡ None

pub record OfText (list : List Instance) : Type 0 where
  pub first : IsFirst list
  pub each : Every InstanceOf list
