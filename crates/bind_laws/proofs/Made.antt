-- What items make: each name stands for something, and each turn has 32 bits.
use Rattle.std.proofs.Common.{◌≡◌, ℕ, Bool, true, false, List, [], Option, Some, None, arith}
use Rattle.std.specs.Prelude.{if◌then◌else◌, pos, Result, Ok, Err}
use Rattle.std.specs.Option.{option_map_or}
use Rattle.loc_base.specs.declared.span.Span.{Span}
use Rattle.v_syntax.specs.declared.site.Site.{Site}
use Rattle.v_syntax.specs.declared.declaration.Identifier.{Identifier}
use Rattle.v_syntax.specs.PartTree.{PlainRange}
use Rattle.v_syntax.specs.StatementTree.{PlainHead}
use Rattle.v_syntax.specs.ItemTree.{PlainDeclarator, PlainInstance, PlainItem, port_item, net_item, integer_item, genvar_item, parameter_item, assign_item, gate_item, always_item, initial_item, instance_item, generate_item, loop_item, if_item, if_else_item, PlainBlock, single, several, Items, no_items, more_items}
use Rattle.v_syntax.specs.ModuleTree.{PlainModule}
use Rattle.v_sizes.specs.Context.{IsMeaning}
use Rattle.v_sizes.specs.declared.meaning.Const.{Const}
use Rattle.v_hierarchy.specs.declared.error.ElabErr.{ElabErr}
use Rattle.v_hierarchy.specs.declared.error.ElabErr.TheVariants as fault
use Rattle.v_hierarchy.specs.declared.signal.Signal.{Signal}
use Rattle.v_hierarchy.specs.Steps.{each, turned, placed}
use Rattle.v_hierarchy.specs.Constants.{bounds_if}
use Rattle.v_hierarchy.specs.Constants as whole
use Rattle.v_hierarchy.specs.Names.{Entry, signal, array, integer, genvar, declared, meaning_of, look_in}
use Rattle.v_hierarchy.specs.Parameters.{Given, given_at, kind_at, is_among}
use Rattle.v_hierarchy.specs.Paths.{block_part, turn_part}
use Rattle.v_hierarchy.specs.Unrolled.{unrolled, at_turn, holds_at, begun, stepped, turns, most_turns}
use Rattle.v_hierarchy.specs.Items.{Copied, written, always, inner, turn, Copies, no_copy, copy, and_copy, Place, Met, frames, with_names, with_copy, ported, direction_of, net_of, named_as, outside_value, parameter_of, connections_fit, not_deeper, instance_of, unit_of, loop_genvar, turn_met, within, begins, scope_of, ends, chosen, block_of, turn_of, item, items, body_of}
use Rattle.v_hierarchy.proofs.RangeLaws.{between as range_between}
use Rattle.v_binding.specs.Standing.{EntriesStand, CopiesStand, CopiedStands}
use Rattle.bind_laws.proofs.Steps.{between, ended, Err-Ok, each-keeps, turns-keep}
use Rattle.bind_laws.proofs.Entries.{bounds_if-range, kind_at-is, parameter-stands, declared-stands}
use Rattle.bind_laws.proofs.Loops.{Has32, begun-has, stepped-has, unrolled-fits}

-- what is met of a scope
pub record Stood (m : Met) : Type 0 where
  pub names : EntriesStand m.names
  pub copies : CopiesStand m.copies

and_copy-stands : (cs : Copies) (x : Copied) → CopiesStand cs → CopiedStands x → CopiesStand (and_copy cs x)
and_copy-stands no_copy x all one = (one, tt)
and_copy-stands (copy y rest) x all one = (all.0, and_copy-stands rest x all.1 one)

-- ---- declarations
direction-stands : (ports : List (List ℕ)) (s : Signal) → IsMeaning (meaning_of (signal s)) → (name : Identifier) (es after : List Entry) → EntriesStand es
    → direction_of ports s name es ≡ Ok after → EntriesStand after
direction-stands ports s one name es after all = by (is_among name.name ports)
  where
    by : (among : Bool) → (if among then declared (record { name = name; standing = signal s }) es else Err (fault.PortName name.site.span)) ≡ Ok after → EntriesStand after
    by true is = declared-stands (record { name = name; standing = signal s }) es after one all is
    by false is = Err-Ok is

array-stands : (s : Signal) (r : PlainRange) → IsMeaning (meaning_of (signal s)) → IsMeaning (meaning_of (array s r))
array-stands s r one = (one, omega arith, omega arith)

net-stands : (s : Signal) → IsMeaning (meaning_of (signal s)) → (d : PlainDeclarator) (es after : List Entry) → EntriesStand es
    → net_of s d es ≡ Ok after → EntriesStand after
net-stands s one d es after all is = declared-stands (record { name = d.name; standing = option_map_or (array s) d.range (signal s) }) es after (by d.range) all is
  where
    by : (r : Option PlainRange) → IsMeaning (meaning_of (option_map_or (array s) r (signal s)))
    by None = one
    by (Some r) = array-stands s r one

integer_range : IsMeaning (meaning_of integer)
integer_range = range_between (pos 31) (pos 0) (omega arith)

-- ---- module instances
instance-stands : (place : Place) (s : Site) (m : PlainModule) (values : List Given) (i : PlainInstance) (met after : Met) → Stood met
    → instance_of place s m values i met ≡ Ok after → Stood after
instance-stands place s m values i met after stood is =
    between (not_deeper place.levels i.name.site.span) _ after (Stood after) is λ _ _ is.
    between (placed i.name.site.span met.left) _ after (Stood after) is λ left _ is.
    between (connections_fit i.site.span m i.connections) _ after (Stood after) is λ _ _ is.
    ended Stood _ after is (record { names = stood.names; copies = and_copy-stands met.copies _ stood.copies tt })

-- ---- generates
turn_met-stands : (span : Span) (m n : Met) → Stood m → turn_met span m ≡ Ok n → Stood n
turn_met-stands span m n stood is =
    between (turned span m.left) _ n (Stood n) is λ left _ is.
    ended Stood (record { names = m.names; copies = m.copies; left = left }) n is (record { names = stood.names; copies = stood.copies })

-- what a body makes in a scope that begins with no names
abbrev Makes : (Place → Met → Result Met ElabErr) → Type 0
Makes body = (place : Place) (m n : Met) → Stood m → body place m ≡ Ok n → Stood n

block-stands : (body : Place → Met → Result Met ElabErr) → Makes body → (place : Place) (block : PlainBlock) (m n : Met) → Stood m
    → block_of body place block m ≡ Ok n → Stood n
block-stands body makes place block m n stood is =
    let own = within place (block_part block) (frames place m) in
    between (body own (begins [] m.left)) _ n (Stood n) is λ x first is.
    let inside = makes own (begins [] m.left) x (record { names = tt; copies = tt }) first in
    ended Stood (ends m x (inner (scope_of own x))) n is
    (record { names = stood.names; copies = and_copy-stands m.copies (inner (scope_of own x)) stood.copies (inside.names, inside.copies) })

turn-stands : (body : Place → Met → Result Met ElabErr) → Makes body → (place : Place) (variable : Identifier) (block : PlainBlock) (scopes : List (List Entry))
    (value : Const) (m n : Met) → Has32 value → Stood m → turn_of body place variable block scopes value m ≡ Ok n → Stood n
turn-stands body makes place variable block scopes value m n one stood is =
    let own = within place (turn_part block (whole.integer value)) (at_turn variable value scopes) in
    between (body own (begins [] m.left)) _ n (Stood n) is λ x first is.
    let inside = makes own (begins [] m.left) x (record { names = tt; copies = tt }) first in
    ended Stood (ends m x (turn variable value (scope_of own x))) n is
    (record { names = stood.names; copies = and_copy-stands m.copies (turn variable value (scope_of own x)) stood.copies (one, inside.names, inside.copies) })

loop-stands : (body : Place → Met → Result Met ElabErr) → Makes body → (place : Place) (span : Span) (head : PlainHead) (block : PlainBlock) (scopes : List (List Entry))
    (first : Const × Bool) (m n : Met) → Has32 first.0 → Stood m
    → turns most_turns span (turn_met span) (turn_of body place head.variable block scopes) (stepped scopes head) first m ≡ Ok n → Stood n
loop-stands body makes place span head block scopes first m n one stood is =
    turns-keep Stood Has32 span (turn_met span) (turn_of body place head.variable block scopes) (stepped scopes head) (turn_met-stands span)
    (λ value a b has all e. turn-stands body makes place head.variable block scopes value a b has all e)
    (λ value following _ e. stepped-has scopes head value following e)
    most_turns first.0 first.1 m n one stood is

chosen-stands : (one other : Met → Result Met ElabErr) → ((m n : Met) → Stood m → one m ≡ Ok n → Stood n) → ((m n : Met) → Stood m → other m ≡ Ok n → Stood n)
    → (holds : Bool) (m n : Met) → Stood m → chosen holds one other m ≡ Ok n → Stood n
chosen-stands one other first second true m n stood is = first m n stood is
chosen-stands one other first second false m n stood is = second m n stood is

-- ---- items
-- one more as it is written
written-stands : (m n : Met) (names : List Entry) (x : PlainItem) → Stood m → EntriesStand names
    → ◌≡◌ {A = Result Met ElabErr} (Ok (with_copy (with_names m names) (written x))) (Ok n) → Stood n
written-stands m n names x stood all is = ended Stood (with_copy (with_names m names) (written x)) n is (record { names = all; copies = and_copy-stands m.copies (written x) stood.copies tt })

named-stands : (m n : Met) (names : List Entry) → Stood m → EntriesStand names → ◌≡◌ {A = Result Met ElabErr} (Ok (with_names m names)) (Ok n) → Stood n
named-stands m n names stood all is = ended Stood (with_names m names) n is (record { names = all; copies = stood.copies })

mutual
  pub item-stands : (place : Place) (x : PlainItem) (m n : Met) → Stood m → item place x m ≡ Ok n → Stood n
  item-stands place (port_item _ direction kind signed range names) m n stood is =
      between (bounds_if (look_in (frames place m)) range) _ n (Stood n) is λ b first is.
      let s : Signal = record { direction = Some direction; kind = kind; signed = signed; bounds = b } in
      between (each (direction_of (ported place) s) names m.names) _ n (Stood n) is λ more second is.
      named-stands m n more stood
      (each-keeps EntriesStand (direction_of (ported place) s) (direction-stands (ported place) s (bounds_if-range (look_in (frames place m)) range b first)) names m.names more stood.names second) is
  item-stands place (net_item s kind signed range delay names) m n stood is =
      between (bounds_if (look_in (frames place m)) range) _ n (Stood n) is λ b first is.
      let t : Signal = record { direction = None; kind = Some kind; signed = signed; bounds = b } in
      between (each (net_of t) names m.names) _ n (Stood n) is λ more second is.
      written-stands m n more (net_item s kind signed range delay names) stood
      (each-keeps EntriesStand (net_of t) (net-stands t (bounds_if-range (look_in (frames place m)) range b first)) names m.names more stood.names second) is
  item-stands place (integer_item s names) m n stood is =
      between (each (named_as integer) names m.names) _ n (Stood n) is λ more second is.
      written-stands m n more (integer_item s names) stood
      (each-keeps EntriesStand (named_as integer) (λ name es after all e. declared-stands (record { name = name; standing = integer }) es after integer_range all e) names m.names more stood.names second) is
  item-stands place (genvar_item _ names) m n stood is =
      between (each (named_as genvar) names m.names) _ n (Stood n) is λ more second is.
      named-stands m n more stood
      (each-keeps EntriesStand (named_as genvar) (λ name es after all e. declared-stands (record { name = name; standing = genvar }) es after integer_range all e) names m.names more stood.names second) is
  item-stands place (parameter_item _ own type_of values) m n stood is =
      between (kind_at (look_in (frames place m)) type_of) _ n (Stood n) is λ kind first is.
      between (each (parameter_of place own kind) values m.names) _ n (Stood n) is λ more second is.
      named-stands m n more stood
      (each-keeps EntriesStand (parameter_of place own kind)
      (λ x es after all e. parameter-stands place.outer kind (outside_value place own x.name.name) x.name x.value es after (kind_at-is (look_in (frames place m)) type_of kind first) all e)
      values m.names more stood.names second) is
  item-stands place (assign_item s delay assignments) m n stood is = written-stands m n m.names (assign_item s delay assignments) stood stood.names is
  item-stands place (gate_item s kind delay gates) m n stood is = written-stands m n m.names (gate_item s kind delay gates) stood stood.names is
  item-stands place (initial_item s body) m n stood is = written-stands m n m.names (initial_item s body) stood stood.names is
  item-stands place (always_item s events body) m n stood is =
      between (unrolled (frames place m) body m.left) _ n (Stood n) is λ x first is.
      ended Stood (with_copy (record { names = m.names; copies = m.copies; left = x.1 }) (always s events x.0)) n is
      (record { names = stood.names; copies = and_copy-stands m.copies (always s events x.0) stood.copies (unrolled-fits (frames place m) body m.left x first) })
  item-stands place (instance_item s name parameters instances) m n stood is =
      between (unit_of place name) _ n (Stood n) is λ unit _ is.
      between (given_at (look_in (frames place m)) unit parameters) _ n (Stood n) is λ values _ is.
      each-keeps Stood (instance_of place s unit values) (λ i a b all e. instance-stands place s unit values i a b all e) instances m n stood is
  item-stands place (generate_item _ list) m n stood is = items-stand place list m n stood is
  item-stands place (loop_item s head body) m n stood is =
      between (loop_genvar (frames place m) head.variable) _ n (Stood n) is λ _ _ is.
      between (begun (frames place m) head) _ n (Stood n) is λ first one is.
      loop-stands (λ own. body_of own body) (λ own a b all e. body-stands own body a b all e) place s.span head body (frames place m) first m n
      (begun-has (frames place m) head first one) stood is
  item-stands place (if_item _ condition on_true) m n stood is =
      between (holds_at (frames place m) condition) _ n (Stood n) is λ holds _ is.
      chosen-stands (block_of (λ own. body_of own on_true) place on_true) (λ same. Ok same)
      (λ a b all e. block-stands (λ own. body_of own on_true) (λ own c d stands e. body-stands own on_true c d stands e) place on_true a b all e)
      (λ a b all e. ended Stood a b e all) holds m n stood is
  item-stands place (if_else_item _ condition on_true other) m n stood is =
      between (holds_at (frames place m) condition) _ n (Stood n) is λ holds _ is.
      chosen-stands (block_of (λ own. body_of own on_true) place on_true) (block_of (λ own. body_of own other) place other)
      (λ a b all e. block-stands (λ own. body_of own on_true) (λ own c d stands e. body-stands own on_true c d stands e) place on_true a b all e)
      (λ a b all e. block-stands (λ own. body_of own other) (λ own c d stands e. body-stands own other c d stands e) place other a b all e) holds m n stood is

  pub items-stand : (place : Place) (xs : Items) (m n : Met) → Stood m → items place xs m ≡ Ok n → Stood n
  items-stand place no_items m n stood is = ended Stood m n is stood
  items-stand place (more_items x xs) m n stood is =
      between (item place x m) (items place xs) n (Stood n) is λ p first is. items-stand place xs p n (item-stands place x m p stood first) is

  pub body-stands : (place : Place) (b : PlainBlock) (m n : Met) → Stood m → body_of place b m ≡ Ok n → Stood n
  body-stands place (single _ x) m n stood is = item-stands place x m n stood is
  body-stands place (several _ _ xs) m n stood is = items-stand place xs m n stood is
