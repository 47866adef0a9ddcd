-- A list of names as contracts see it.
use Rattle.std.specs.Prelude.{ℕ, List, map}
use Rattle.v_scopes.specs.declared.name_list.NameList.{NameList}

abbrev pub listed : NameList → List (List ℕ)
listed names = map (λ n. n.now) names.list.items
