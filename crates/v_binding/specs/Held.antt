-- Names as the code holds them: the innermost last, each with what it stood for before.
use Rattle.std.specs.Prelude.{⊤, ◌≡◌, true, List, [], ◌∷◌, map, reverse}
use Rattle.std.proofs.Props.{props}
use Rattle.v_sizes.specs.declared.scope.Scope.{Scope}
use Rattle.v_sizes.specs.Scopes.{has_entry}
use Rattle.v_binding.specs.declared.known.Known.{Known}
use Rattle.v_binding.specs.declared.names.Held.{Held}
use Rattle.v_binding.specs.Names as plain
use Rattle.v_binding.specs.Names.{look_in}

-- a name with what it stands for, as definitions have it
abbrev pub known_of : Known → plain.Known
known_of k = plain.known k.name.now k.use_of

-- names, the innermost first
abbrev pub plain_names : List Held → plain.Names
plain_names helds = map (λ h. known_of h.known) helds

abbrev pub names_of : List Held → plain.Names
names_of helds = plain_names (reverse helds)

-- each is held with what its name stood for without it, and has an entry
abbrev pub AreHeld : Scope → List Held → Type 0
AreHeld scope [] = ⊤
AreHeld scope (h ∷ hs) =
    (h.was ≡ look_in (plain_names hs) h.known.name.now) × (has_entry scope h.known.name.now ≡ true) × AreHeld scope hs

-- that is one fact
pub AreHeld-prop : (scope : Scope) (hs : List Held) → IsProp (AreHeld scope hs)
AreHeld-prop scope [] = Prim.hlevel props
AreHeld-prop scope (h ∷ hs) = let rest : IsProp (AreHeld scope hs) = AreHeld-prop scope hs in Prim.hlevel (props, rest)
