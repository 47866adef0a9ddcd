-- Places: the assignments of a design (IEEE 1364-2005, 6.1, 7.2, 9.2 and 12.3.9). The number of a place is the length of the list
-- of those before it.
use Rattle.std.specs.Prelude.{ℕ, List}
use Rattle.v_syntax.specs.declared.site.Site.{Site}
use Rattle.design_core.specs.declared.place.Place.{Place}
use Rattle.design_core.specs.declared.place.PlaceKind.{PlaceKind}
use Rattle.v_binding.specs.declared.left.Left.{Left}

-- where an assignment stands: the module of its text, the path of its scope, gate or instance, and the first token of its item
pub record Home : Type 0 where
  pub «module» : List ℕ
  pub path : List ℕ
  pub item : ℕ

-- a value with the places up to its end
pub record Placed (A : Type 0) : Type 0 where
  pub value : A
  pub places : List Place

abbrev pub placed : {A : Type 0} → A → List Place → Placed A
placed value places = record { value = value; places = places }

-- the place of an assignment; `copy` is the first place of a gate or of a module instance, else 0
abbrev pub place : PlaceKind → Home → Site → ℕ → Left → Place
place kind home site copy l = record {
  kind = kind;
  width = l.width;
  site = site.token;
  home = home.item;
  copy = copy;
  line = site.line;
  «module» = home.«module»;
  path = home.path;
  signal = l.named;
}
