-- A path that is looked for is held against those of scopes.
use Rattle.std.proofs.Common.{◌≡◌, ℕ, ◌+◌, ◌<◌, ◌==◌, Bool, true, false, ◌&&◌, if◌then◌else◌, List, [], ◌∷◌, ◌++◌, length, map, take, drop, get_or, refl, sym, ◌∙◌, ap, inl, inr, Option, Some, None}
use Rattle.std.specs.Prelude.{fold, slice_get}
use Rattle.std.specs.Borrow.{Bor}
use Rattle.std.specs.Option.{option_map, option_and_then, option_or}
use Rattle.std.proofs.lemmas.Bool.{cases_Bool, cond-true, cond-false}
use Rattle.std.proofs.lemmas.List.{length-map, map-append, map_more}
use Rattle.std.proofs.lemmas.List.Sums.{fold-append}
use Rattle.std.proofs.lemmas.Option.{slice_get-map}
use Rattle.vcd_reading.specs.declared.header as code
use Rattle.vcd_reading.specs.declared.paths.Met.{Met}
use Rattle.vcd_reading.specs.Commands.{same_bytes}
use Rattle.vcd_reading.specs.Header.{Opened}
use Rattle.vcd_reading.specs.HeaderView.{opened_of}
use Rattle.vcd_reading.specs.Paths.{bytes_behind, is_all, rest_of, IsMet}
use Rattle.vcd_reading.specs.Scopes.{path_in, paths_of, place_of, with_path}
use Rattle.vcd_reading.proofs.IndexLaws.{place_more}

-- what is left behind the front that is stripped
pub strip_none : (bytes front : List ℕ) → same_bytes (take (length front) bytes) front ≡ false → None ≡ bytes_behind bytes front
strip_none bytes [] is = absurd (true_false is)
  where
    true_false : true ≡ false → ⊥
    true_false e = cc
strip_none [] (y ∷ front) is = refl
strip_none (x ∷ bytes) (y ∷ front) is =
    elim (cases_Bool (x == y)) [
      | inl here ↦
          sym (cond-true _ _ _ here
          ∙ sym (strip_none bytes front (sym (ap (λ b. b && same_bytes (take (length front) bytes) front) here) ∙ is)))
      | inr away ↦ sym (cond-false _ _ _ away)
    ]

pub strip_some : (bytes front : List ℕ) → same_bytes (take (length front) bytes) front ≡ true
    → Some (drop (length front) bytes) ≡ bytes_behind bytes front
strip_some bytes [] is = refl
strip_some [] (y ∷ front) is = absurd (false_true is)
  where
    false_true : false ≡ true → ⊥
    false_true e = cc
strip_some (x ∷ bytes) (y ∷ front) is =
    elim (cases_Bool (x == y)) [
      | inl here ↦
          strip_some bytes front (sym (ap (λ b. b && same_bytes (take (length front) bytes) front) here) ∙ is) ∙ sym (cond-true _ _ _ here)
      | inr away ↦ absurd (false_true (sym (ap (λ b. b && same_bytes (take (length front) bytes) front) away) ∙ is))
    ]
  where
    false_true : false ≡ true → ⊥
    false_true e = cc

pub ruleset strip_steps = (strip_none, strip_some)

-- what is left behind two, one after the other
pub behind_both : (bytes front more : List ℕ)
    → bytes_behind bytes (front ++ more) ≡ option_and_then (λ rest. bytes_behind rest more) (bytes_behind bytes front)
behind_both bytes [] more = refl
behind_both [] (y ∷ front) more = refl
behind_both (x ∷ bytes) (y ∷ front) more =
    elim (cases_Bool (x == y)) [
      | inl here ↦
          cond-true _ _ _ here ∙ behind_both bytes front more
          ∙ sym (ap (option_and_then (λ rest. bytes_behind rest more)) (cond-true _ _ _ here))
      | inr away ↦
          cond-false _ _ _ away ∙ sym (ap (option_and_then (λ rest. bytes_behind rest more)) (cond-false _ _ _ away))
    ]

-- bytes are the same where nothing is left of them
pub same_all : (bytes front : List ℕ) → same_bytes bytes front ≡ is_all (bytes_behind bytes front)
same_all [] [] = refl
same_all (x ∷ bytes) [] = refl
same_all [] (y ∷ front) = refl
same_all (x ∷ bytes) (y ∷ front) =
    elim (cases_Bool (x == y)) [
      | inl here ↦
          ap (λ b. b && same_bytes bytes front) here ∙ same_all bytes front ∙ sym (ap is_all (cond-true _ _ _ here))
      | inr away ↦ ap (λ b. b && same_bytes bytes front) away ∙ sym (ap is_all (cond-false _ _ _ away))
    ]

-- what is left behind the path of a scope around another
rests_at : (path : List ℕ) (paths : List (List ℕ)) (met : Met) (around : ℕ) → IsMet path paths met
    → option_map rest_of (slice_get met.rests.items around) ≡ option_map (bytes_behind path) (slice_get paths around)
rests_at path paths met around is =
    sym (slice_get-map rest_of met.rests.items around) ∙ ap (λ l. slice_get l around) is.rests
    ∙ slice_get-map (bytes_behind path) paths around

-- the path of a scope, where there is none of the scope around it
in_none : (paths : List (List ℕ)) (around : ℕ) (name : List ℕ) (outer : Option (List ℕ)) → slice_get paths around ≡ outer → outer ≡ None
    → path_in paths (Some around) name ≡ name
in_none paths around name outer is none = cc

pub rest_none : (path : List ℕ) (paths : List (List ℕ)) (met : Met) (around : ℕ) (name : List ℕ) → IsMet path paths met
    → slice_get met.rests.items around ≡ None → bytes_behind path name ≡ bytes_behind path (path_in paths (Some around) name)
rest_none path paths met around name is none =
    ap (bytes_behind path) (sym (by (slice_get paths around) refl (sym (ap (option_map rest_of) none) ∙ rests_at path paths met around is)))
  where
    by : (outer : Option (List ℕ)) → slice_get paths around ≡ outer → None ≡ option_map (bytes_behind path) outer
        → path_in paths (Some around) name ≡ name
    by None at e = cc
    by (Some outer) at e = absurd (none_some e)
      where
        none_some : None ≡ Some (bytes_behind path outer) → ⊥
        none_some e = cc

pub rest_some : (path : List ℕ) (paths : List (List ℕ)) (met : Met) (around : ℕ) (name : List ℕ) (rest : Option (Bor (List ℕ))) → IsMet path paths met
    → slice_get met.rests.items around ≡ Some rest
    → option_and_then (λ left. bytes_behind left (46 ∷ name)) (rest_of rest) ≡ bytes_behind path (path_in paths (Some around) name)
rest_some path paths met around name rest is some =
    by (slice_get paths around) refl (sym (ap (option_map rest_of) some) ∙ rests_at path paths met around is)
  where
    by : (outer : Option (List ℕ)) → slice_get paths around ≡ outer → Some (rest_of rest) ≡ option_map (bytes_behind path) outer
        → option_and_then (λ left. bytes_behind left (46 ∷ name)) (rest_of rest) ≡ bytes_behind path (path_in paths (Some around) name)
    by None at e = absurd (some_none e)
      where
        some_none : Some (rest_of rest) ≡ None → ⊥
        some_none e = cc
    by (Some outer) at e =
        ap (option_and_then (λ left. bytes_behind left (46 ∷ name))) (the_rest outer e) ∙ sym (behind_both path outer (46 ∷ name))
        ∙ ap (bytes_behind path) (inside outer at)
      where
        the_rest : (outer : List ℕ) → Some (rest_of rest) ≡ Some (bytes_behind path outer) → rest_of rest ≡ bytes_behind path outer
        the_rest outer e = cc

        inside : (outer : List ℕ) → slice_get paths around ≡ Some outer → outer ++ 46 ∷ name ≡ path_in paths (Some around) name
        inside outer at = cc

-- one more scope
pub met_more : (path : List ℕ) (paths : List (List ℕ)) (scope : code.Opened.Opened) (old new : Met) (rest : Option (Bor (List ℕ))) → IsMet path paths old
    → rest_of rest ≡ bytes_behind path (path_in paths scope.around scope.name.now) → new.rests.items ≡ old.rests.items ++ rest ∷ []
    → new.found ≡ option_or old.found (if is_all (rest_of rest) then Some (length old.rests.items) else None)
    → IsMet path (with_path paths (opened_of scope)) new
met_more path paths scope old new rest is left pushed found =
    let own = path_in paths scope.around scope.name.now in
    let count : length old.rests.items ≡ length paths =
    sym (length-map old.rests.items rest_of) ∙ ap length is.rests ∙ length-map paths (bytes_behind path) in
    record {
      rests = ap (map rest_of) pushed ∙ map-append rest_of old.rests.items (rest ∷ []) ∙ ap (λ l. l ++ rest_of rest ∷ []) is.rests
          ∙ ap (λ r. map (bytes_behind path) paths ++ r ∷ []) left ∙ sym (map-append (bytes_behind path) paths (own ∷ []));
      found = found ∙ ap (λ o. option_or o (if is_all (rest_of rest) then Some (length old.rests.items) else None)) is.found
          ∙ ap (λ r. option_or (place_of (same_bytes path) paths) (if is_all r then Some (length old.rests.items) else None)) left
          ∙ ap (λ b. option_or (place_of (same_bytes path) paths) (if b then Some (length old.rests.items) else None)) (sym (same_all path own))
          ∙ ap (λ n. option_or (place_of (same_bytes path) paths) (if same_bytes path own then Some n else None)) count
          ∙ sym (place_more (same_bytes path) paths own);
    }

-- the paths of some scopes and one more
pub paths_more : (scopes : List code.Opened.Opened) (i : ℕ) (d : code.Opened.Opened) → i < length scopes
    → with_path (paths_of (map opened_of (take i scopes))) (opened_of (get_or scopes i d)) ≡ paths_of (map opened_of (take (i + 1) scopes))
paths_more scopes i d within =
    sym (ap paths_of (map_more opened_of scopes i d within)
    ∙ fold-append with_path [] (map opened_of (take i scopes)) (opened_of (get_or scopes i d) ∷ []))

pub ruleset path_steps = (rest_none, rest_some)
