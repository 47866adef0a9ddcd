-- Names, signals and scopes more, and names that are taken off.
use Rattle.std.proofs.Common.{◌≡◌, ℕ, zero, suc, ◌+◌, ◌<◌, ◌≤◌, List, [], ◌∷◌, ◌++◌, map, length, length-drop, drop, refl, sym, ap, ◌∙◌, arith}
use Rattle.std.proofs.lemmas.List.{map-append, length-map}
use Rattle.v_hierarchy.specs.declared.standing.Entry.{Entry}
use Rattle.v_hierarchy.specs.Views.{entry_of}
use Rattle.v_binding.specs.Names as plain
use Rattle.v_binding.specs.Names.{within}
use Rattle.v_binding.specs.Signals as signals
use Rattle.v_binding.specs.Signals.{and_scope, unnumbered}
use Rattle.bind_scopes.specs.declared.scope.Scope.{Scope}
use Rattle.bind_scopes.specs.Views.{scope_of, scopes_of, in_order}

pub map_pushed : {A B : Type 0} (f : A → B) (before after : List A) (x : A) → after ≡ before ++ x ∷ [] → map f after ≡ map f before ++ f x ∷ []
map_pushed f before after x is = ap (map f) is ∙ map-append f before (x ∷ [])

in_order-push : (ss : List signals.Scope) (s : signals.Scope) → in_order (ss ++ s ∷ []) ≡ and_scope (in_order ss) s
in_order-push [] s = refl
in_order-push (x ∷ xs) s = ap (signals.more_scopes x) (in_order-push xs s)

pub scope_ended : (before after : List Scope) (s : Scope) (own : signals.Scope) → after ≡ before ++ s ∷ [] → scope_of s ≡ own → scopes_of after ≡ and_scope (scopes_of before) own
scope_ended before after s own is same =
    ap in_order (map_pushed scope_of before after s is) ∙ in_order-push (map scope_of before) (scope_of s) ∙ ap (and_scope (scopes_of before)) same

drop-one : {A : Type 0} (xs : List A) (k : ℕ) → drop 1 (drop k xs) ≡ drop (suc k) xs
drop-one xs zero = refl
drop-one [] (suc k) = refl
drop-one (x ∷ xs) (suc k) = drop-one xs k

pub drop_next : {A : Type 0} (xs now after : List A) (k next : ℕ) → suc k ≡ next → now ≡ drop k xs → after ≡ drop 1 now → after ≡ drop next xs
drop_next xs now after k next one is done = done ∙ ap (drop 1) is ∙ drop-one xs k ∙ ap (λ n. drop n xs) one

pub some_left : {A : Type 0} (xs now : List A) (k : ℕ) → k < length xs → now ≡ drop k xs → now ≡ [] → ⊥
some_left xs now k within is none = omega (arith, ap length (sym is ∙ none), length-drop k xs)

-- the names of a scope, taken off again
pub left_again : (ks names : plain.Names) → drop (length ks) (within ks names) ≡ names
left_again [] names = refl
left_again (k ∷ ks) names = sym (drop-one (within ks (k ∷ names)) (length ks)) ∙ ap (drop 1) (left_again ks (k ∷ names))

long-more : (ks names : plain.Names) → length (within ks names) ≡ length ks + length names
long-more [] names = omega arith
long-more (k ∷ ks) names = omega (arith, long-more ks (k ∷ names))

-- as many names are seen as a scope has, and more
pub names_fit : (count : ℕ) (es : List Entry) (names now : plain.Names) → count ≡ length es → now ≡ within (map unnumbered (map entry_of es)) names → count ≤ length now
names_fit count es names now long is =
    omega (arith, long, ap length is, long-more (map unnumbered (map entry_of es)) names, length-map (map entry_of es) unnumbered, length-map es entry_of)

-- they are taken off again
pub taken_off : (count : ℕ) (es : List Entry) (names now left : plain.Names) → count ≡ length es → now ≡ within (map unnumbered (map entry_of es)) names → left ≡ drop count now → left ≡ names
taken_off count es names now left long is gone =
    gone ∙ ap (drop count) is
    ∙ ap (λ k. drop k (within (map unnumbered (map entry_of es)) names)) (long ∙ sym (length-map (map entry_of es) unnumbered ∙ length-map es entry_of))
    ∙ left_again (map unnumbered (map entry_of es)) names
