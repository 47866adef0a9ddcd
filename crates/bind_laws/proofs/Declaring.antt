-- Lists of declarations: each does what one does.
use Rattle.std.proofs.Common.{◌≡◌, ℕ, Bool, true, false, List, [], ◌∷◌, ◌++◌, Option, Some, None, sym}
use Rattle.std.specs.Prelude.{⊤, if◌then◌else◌, is_some, map, Result, Ok, Err}
use Rattle.std.specs.Option.{option_map_or}
use Rattle.std.proofs.lemmas.Option.{none-some}
use Rattle.v_syntax.specs.declared.declaration.Identifier.{Identifier}
use Rattle.v_syntax.specs.declared.item.NetKind.{NetKind}
use Rattle.v_syntax.specs.declared.item.NetKind.TheVariants as net_kind
use Rattle.v_syntax.specs.Tree.{Tree}
use Rattle.v_syntax.specs.PartTree.{PlainRange}
use Rattle.v_syntax.specs.ItemTree.{PlainDeclarator}
use Rattle.v_sizes.specs.declared.meaning.Const.{Const}
use Rattle.v_hierarchy.specs.declared.error.ElabErr.{ElabErr}
use Rattle.v_hierarchy.specs.declared.error.ElabErr.TheVariants as fault
use Rattle.v_hierarchy.specs.declared.kind.Kind.{Kind}
use Rattle.v_hierarchy.specs.declared.signal.Signal.{Signal}
use Rattle.v_hierarchy.specs.Steps.{each}
use Rattle.v_hierarchy.specs.Names.{Entry, signal, array, integer, genvar, find, declared, fresh, look_in}
use Rattle.v_hierarchy.specs.Parameters.{value_at, parameter, is_among}
use Rattle.v_hierarchy.specs.Items.{direction_of, net_of, named_as}
use Rattle.v_hierarchy.proofs.FrameLaws.{declared-fresh}
use Rattle.bind_laws.specs.Every.{Every, IfGiven}
use Rattle.bind_laws.specs.OfText.{IsSignal, DeclaratorOf}
use Rattle.bind_laws.specs.Written.{WrittenDeclarator}
use Rattle.bind_laws.proofs.Steps.{between, ended, Err-Ok}
use Rattle.bind_laws.proofs.Grown.{IsPort, Grows, Declares, signal-declared, port-declared, integer-declared, declared-does, same-declares, then-declares, fresh-none}

-- ---- lists of facts
pub every-all : {A : Type 0} (xs : List A) → Every (λ (_ : A). ⊤) xs
every-all [] = tt
every-all (x ∷ xs) = (tt, every-all xs)

pub every-weaker : {A : Type 0} (P Q : A → Type 0) → ((x : A) → P x → Q x) → (xs : List A) → Every P xs → Every Q xs
every-weaker P Q weaker [] all = tt
every-weaker P Q weaker (x ∷ xs) all = (weaker x all.0, every-weaker P Q weaker xs all.1)

pub every-append : {A : Type 0} (P : A → Type 0) (xs ys : List A) → Every P xs → Every P ys → Every P (xs ++ ys)
every-append P [] ys one other = other
every-append P (x ∷ xs) ys one other = (one.0, every-append P xs ys one.1 other)

pub every-map : {A B : Type 0} (f : A → B) (P : B → Type 0) (xs : List A) → Every (λ x. P (f x)) xs → Every P (map f xs)
every-map f P [] all = tt
every-map f P (x ∷ xs) all = (all.0, every-map f P xs all.1)

-- ---- one step, and what it makes of its element
pub record Made {A : Type 0} (Is : List Entry → A → Type 0) (x : A) (es after : List Entry) : Type 0 where
  pub does : Declares es after
  pub is : Is after x

pub record AllMade {A : Type 0} (Is : List Entry → A → Type 0) (xs : List A) (es after : List Entry) : Type 0 where
  pub does : Declares es after
  pub are : Every (Is after) xs

pub each-makes : {A : Type 0} (Pre : A → Type 0) (Is : List Entry → A → Type 0) (step : A → List Entry → Result (List Entry) ElabErr)
    → ((es after : List Entry) (x : A) → Grows es after → Is es x → Is after x)
    → ((x : A) (es after : List Entry) → Pre x → step x es ≡ Ok after → Made Is x es after)
    → (xs : List A) (es after : List Entry) → Every Pre xs → each step xs es ≡ Ok after → AllMade Is xs es after
each-makes Pre Is step keeps makes [] es after pre is = ended (AllMade Is [] es) es after is (record { does = same-declares es; are = tt })
each-makes Pre Is step keeps makes (x ∷ xs) es after pre is =
    between (step x es) (each step xs) after (AllMade Is (x ∷ xs) es after) is λ more first rest.
    let one = makes x es more pre.0 first in
    let others = each-makes Pre Is step keeps makes xs more after pre.1 rest in
    record { does = then-declares one.does others.does; are = (keeps more after x others.does.grows one.is, others.are) }

-- ---- ports
abbrev pub IsNamedPort : List Entry → Identifier → Type 0
IsNamedPort es name = IsPort es name.name

direction-makes : (ports : List (List ℕ)) (s : Signal) → is_some s.direction ≡ true → (name : Identifier) (es after : List Entry)
    → direction_of ports s name es ≡ Ok after → Made IsNamedPort name es after
direction-makes ports s directed name es after = by (is_among name.name ports)
  where
    by : (among : Bool) → (if among then declared (record { name = name; standing = signal s }) es else Err (fault.PortName name.site.span)) ≡ Ok after
        → Made IsNamedPort name es after
    by true is = record { does = declared-does (record { name = name; standing = signal s }) es after is; is = port-declared name s es after directed is }
    by false is = Err-Ok is

pub directions-make : (ports : List (List ℕ)) (s : Signal) → is_some s.direction ≡ true → (names : List Identifier) (es after : List Entry)
    → each (direction_of ports s) names es ≡ Ok after → AllMade IsNamedPort names es after
directions-make ports s directed names es after is =
    each-makes (λ _. ⊤) IsNamedPort (direction_of ports s) (λ a b name grows one. grows.ports name.name one)
    (λ name a b _ e. direction-makes ports s directed name a b e) names es after (every-all names) is

-- ---- nets and registers
pub declarator-keeps : (kind : NetKind) (es after : List Entry) (d : PlainDeclarator) → Grows es after → DeclaratorOf es kind d → DeclaratorOf after kind d
declarator-keeps net_kind.Wire es after d grows one = tt
declarator-keeps net_kind.Reg es after d grows one = by d.value one
  where
    by : (v : Option Tree) → IfGiven v (IsSignal es d.name.name) → IfGiven v (IsSignal after d.name.name)
    by None one = tt
    by (Some e) one = grows.signals d.name.name one

net-makes : (kind : NetKind) (s : Signal) (d : PlainDeclarator) (es after : List Entry) → WrittenDeclarator d → net_of s d es ≡ Ok after
    → Made (λ es d. DeclaratorOf es kind d) d es after
net-makes kind s d es after as_written is =
    record { does = declared-does (record { name = d.name; standing = option_map_or (array s) d.range (signal s) }) es after is; is = of_kind kind }
  where
    own : (r : Option PlainRange) → r ≡ None → declared (record { name = d.name; standing = option_map_or (array s) r (signal s) }) es ≡ Ok after → IsSignal after d.name.name
    own None none e = signal-declared d.name s es after e
    own (Some r) none e = absurd (none-some r (sym none))

    of_value : (v : Option Tree) → IfGiven v (d.range ≡ None) → IfGiven v (IsSignal after d.name.name)
    of_value None as_written = tt
    of_value (Some e) none = own d.range none is

    of_kind : (kind : NetKind) → DeclaratorOf after kind d
    of_kind net_kind.Wire = tt
    of_kind net_kind.Reg = of_value d.value as_written

pub nets-make : (kind : NetKind) (s : Signal) (ds : List PlainDeclarator) (es after : List Entry) → Every WrittenDeclarator ds → each (net_of s) ds es ≡ Ok after
    → AllMade (λ es d. DeclaratorOf es kind d) ds es after
nets-make kind s ds es after as_written is =
    each-makes WrittenDeclarator (λ es d. DeclaratorOf es kind d) (net_of s) (λ a b d grows one. declarator-keeps kind a b d grows one)
    (λ d a b w e. net-makes kind s d a b w e) ds es after as_written is

-- ---- integers, and what nothing is said of
pub integers-make : (names : List Identifier) (es after : List Entry) → each (named_as integer) names es ≡ Ok after
    → AllMade (λ es (name : Identifier). find name.name es ≡ Some integer) names es after
integers-make names es after is =
    each-makes (λ _. ⊤) (λ es (name : Identifier). find name.name es ≡ Some integer) (named_as integer) (λ a b name grows one. grows.integers name.name one)
    (λ name a b _ e. record { does = declared-does (record { name = name; standing = integer }) a b e; is = integer-declared name a b e })
    names es after (every-all names) is

pub genvars-make : (names : List Identifier) (es after : List Entry) → each (named_as genvar) names es ≡ Ok after → Declares es after
genvars-make names es after is =
    (each-makes (λ _. ⊤) (λ _ (_ : Identifier). ⊤) (named_as genvar) (λ a b name grows one. tt)
    (λ name a b _ e. record { does = declared-does (record { name = name; standing = genvar }) a b e; is = tt })
    names es after (every-all names) is).does

pub parameter-does : (outer : List (List Entry)) (kind : Kind) (given : Option Const) (name : Identifier) (e : Tree) (es after : List Entry)
    → parameter outer kind given name e es ≡ Ok after → Declares es after
parameter-does outer kind given name e es after is =
    between (fresh name es) _ after (Declares es after) is λ u first is.
    between (value_at (look_in (es ∷ outer)) kind given e) _ after (Declares es after) is λ s _ is.
    let own : Entry = record { name = name; standing = s } in
    ended (Declares es) (es ++ own ∷ []) after is (declared-does own es (es ++ own ∷ []) (declared-fresh own es (fresh-none name es u first)))

pub parameters-do : {A : Type 0} (step : A → List Entry → Result (List Entry) ElabErr) → ((x : A) (es after : List Entry) → step x es ≡ Ok after → Declares es after)
    → (xs : List A) (es after : List Entry) → each step xs es ≡ Ok after → Declares es after
parameters-do step does xs es after is =
    (each-makes (λ _. ⊤) (λ _ _. ⊤) step (λ a b x grows one. tt) (λ x a b _ e. record { does = does x a b e; is = tt }) xs es after (every-all xs) is).does
