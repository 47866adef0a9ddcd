-- Names of files as paths (POSIX.1-2017, 4.13): what lies between slashes leads from folder to folder. Nothing and `.` lead nowhere;
-- `..` is kept as it is, since where it leads is known only where the folders are.
use Rattle.std.specs.Prelude.{ℕ, ◌≡◌, ◌≢◌, Bool, true, false, not, ◌&&◌, if◌then◌else◌, nat_eq, List, [], ◌∷◌}
use Rattle.std.specs.Cmp.Lexicographic.{pointwise}
use Rattle.std.specs.List.{list_any, starts_with}
use Rattle.std.specs.Path.{cur_dir, path_components}
use Rattle.std.specs.Str.{bytes_eq}

-- components but a first `.`
abbrev pub without_here : List (List ℕ) → List (List ℕ)
without_here [] = []
without_here (first ∷ rest) = if bytes_eq first cur_dir then rest else first ∷ rest

-- the parts of a path: `/` where it begins with a slash, and then what lies between its slashes, but nothing and `.`
abbrev pub parts_of : List ℕ → List (List ℕ)
parts_of path = without_here (path_components path)

-- two names are one path, and two aren't
abbrev pub IsSamePath : List ℕ → List ℕ → Type 0
IsSamePath one other = parts_of one ≡ parts_of other

abbrev pub IsOtherPath : List ℕ → List ℕ → Type 0
IsOtherPath one other = parts_of one ≢ parts_of other

-- the same, as a test
abbrev pub is_same_path : List ℕ → List ℕ → Bool
is_same_path one other = pointwise bytes_eq (parts_of one) (parts_of other)

-- a name begins, as a path, with another: their parts are the same, but that the other's last one may go on, and more may follow
abbrev pub begin_parts : List (List ℕ) → List (List ℕ) → Bool
begin_parts [] names = true
begin_parts (part ∷ parts) [] = false
begin_parts (last ∷ []) (name ∷ names) = starts_with nat_eq name last
begin_parts (part ∷ next ∷ parts) (name ∷ names) = bytes_eq part name && begin_parts (next ∷ parts) names

abbrev pub path_begins : List ℕ → List ℕ → Bool
path_begins front name = begin_parts (parts_of front) (parts_of name)

-- ---- names among names
-- a name is, as a path, one of some
abbrev pub is_path_of_one : List (List ℕ) → List ℕ → Bool
is_path_of_one names name = list_any (is_same_path name) names

-- no name is, as a path, another one
abbrev pub are_paths_once : List (List ℕ) → Bool
are_paths_once [] = true
are_paths_once (name ∷ names) = not (is_path_of_one names name) && are_paths_once names
