-- The walk over what items make, one after another; names that are entered and left again.
use Rattle.std.proofs.Common.{◌≡◌, ℕ, zero, suc, ◌+◌, ◌<◌, ◌≤◌, List, [], ◌∷◌, length, map, refl, sym, ap, ◌∙◌, arith}
use Rattle.std.proofs.lemmas.List.{length-map, drop-map, drop_all}
use Rattle.std.proofs.Math.Seq.{drop-cons}
use Rattle.std.specs.Prelude.{drop, get_or, Result, Ok, Err}
use Rattle.v_hierarchy.specs.declared.instance.Copied as made
use Rattle.v_hierarchy.specs.Views.{copied_of, copies_of}
use Rattle.v_hierarchy.specs.Items.{Copied, written, always, child, inner, turn, Copies, copy}
use Rattle.v_binding.specs.declared.error.BindErr.{BindErr}
use Rattle.v_binding.specs.Steps.{◌>>=◌}
use Rattle.v_binding.specs.declared.known.Known as code
use Rattle.v_binding.specs.Names.{Known, Names, within}
use Rattle.v_binding.specs.Held.{known_of}
use Rattle.v_binding.specs.Signals.{Scope, Scopes, no_scope}
use Rattle.v_binding.specs.Blocks.{always_block}
use Rattle.v_binding.specs.Connections.{Socket}
use Rattle.v_binding.specs.Connections as connections
use Rattle.v_binding.specs.Items.{Met, with_bound, Ground, home_of, written_of, ports_next, children_after, scope_next, scopes_after, bound_copies}
use Rattle.bind_scopes.specs.declared.scope.Scope as code_scope
use Rattle.bind_scopes.specs.Views.{in_order, scope_of}
use Rattle.v_design.specs.Copies.{copy_at, scopes_behind}

-- ---- a step more is a step, then the rest
behind : {A B C : Type 0} (r : Result A BindErr) (f : A → B) (g : B → Result C BindErr) → r >>= (λ a. g (f a)) ≡ (r >>= (λ a. Ok (f a))) >>= g
behind (Ok a) f g = refl
behind (Err e) f g = refl

pub copies-step : (g : Ground) (names : Names) (scopes : Scopes) (x : Copied) (rest : Copies) (met : Met)
    → bound_copies g names scopes (copy x rest) met ≡ copy_at g names (scope_next scopes) x met >>= bound_copies g names (scopes_behind x scopes) rest
copies-step g names scopes (written item) rest met =
    behind (written_of g names item met.bound) (λ b. with_bound met b) (bound_copies g names scopes rest)
copies-step g names scopes (always s sensitivity body) rest met =
    behind (always_block g.frame (home_of g s) names s sensitivity body met.bound) (λ b. with_bound met b) (bound_copies g names scopes rest)
copies-step g names scopes (child s c) rest met =
    behind (connections.child_of g.frame (home_of g s) names (ports_next met.children) c met.bound)
    (λ b. record { children = children_after met.children; bound = b }) (bound_copies g names scopes rest)
copies-step g names scopes (inner block) rest met = refl
copies-step g names scopes (turn variable value block) rest met = refl

-- ---- names that are entered are taken off again
dropped : (n : ℕ) (known : Known) (names all : Names) → drop n all ≡ known ∷ names → drop (suc n) all ≡ names
dropped zero known names [] is = absurd (omega (arith, ap length is))
dropped zero known names (k ∷ ks) is = cc
dropped (suc n) known names [] is = absurd (omega (arith, ap length is))
dropped (suc n) known names (k ∷ ks) is = dropped n known names ks is

pub within-left : (ks : List Known) (names : Names) → drop (length ks) (within ks names) ≡ names
within-left [] names = refl
within-left (k ∷ ks) names = dropped (length ks) k names (within ks (k ∷ names)) (within-left ks (k ∷ names))

pub within-many : (ks : List Known) (names : Names) → length (within ks names) ≡ length ks + length names
within-many [] names = omega arith
within-many (k ∷ ks) names = omega (arith, within-many ks (k ∷ names))

-- ---- a step of the walk
pub copies-on : (g : Ground) (names : Names) (scopes : Scopes) (x : Copied) (rest : Copies) (met more : Met) → copy_at g names (scope_next scopes) x met ≡ Ok more
    → bound_copies g names scopes (copy x rest) met ≡ bound_copies g names (scopes_behind x scopes) rest more
copies-on g names scopes x rest met more is =
    copies-step g names scopes x rest met ∙ ap (λ r. r >>= bound_copies g names (scopes_behind x scopes) rest) is

pub copies-refused : (g : Ground) (names : Names) (scopes : Scopes) (x : Copied) (rest : Copies) (met : Met) (wrong : BindErr)
    → copy_at g names (scope_next scopes) x met ≡ Err wrong → bound_copies g names scopes (copy x rest) met ≡ Err wrong
copies-refused g names scopes x rest met wrong is =
    copies-step g names scopes x rest met ∙ ap (λ r. r >>= bound_copies g names (scopes_behind x scopes) rest) is

-- a step of the walk over what the code holds, where so many scopes had their turn before and behind it
pub copies-next : (g : Ground) (names : Names) (scopes : List code_scope.Scope) (xs : List made.Copied) (before after i : ℕ) (d : made.Copied) (met more : Met) → i < length xs
    → copy_at g names (scope_next (in_order (map scope_of (drop before scopes)))) (copied_of (get_or xs i d)) met ≡ Ok more
    → in_order (map scope_of (drop after scopes)) ≡ scopes_behind (copied_of (get_or xs i d)) (in_order (map scope_of (drop before scopes)))
    → bound_copies g names (in_order (map scope_of (drop after scopes))) (copies_of (map copied_of (drop (i + 1) xs))) more
    ≡ bound_copies g names (in_order (map scope_of (drop before scopes))) (copies_of (map copied_of (drop i xs))) met
copies-next g names scopes xs before after i d met more within is behind =
    let now = in_order (map scope_of (drop before scopes)) in
    let one : i + 1 ≡ suc i = omega arith in
    ap (λ ss. bound_copies g names ss (copies_of (map copied_of (drop (i + 1) xs))) more) behind
    ∙ ap (λ n. bound_copies g names (scopes_behind (copied_of (get_or xs i d)) now) (copies_of (map copied_of (drop n xs))) more) one
    ∙ sym (ap (λ ys. bound_copies g names now (copies_of (map copied_of ys)) met) (drop-cons xs i d within)
    ∙ copies-on g names now (copied_of (get_or xs i d)) (copies_of (map copied_of (drop (suc i) xs))) met more is)

pub copies-stop : (g : Ground) (names : Names) (scopes : Scopes) (xs : List made.Copied) (i : ℕ) (d : made.Copied) (met : Met) (wrong : BindErr) → i < length xs
    → copy_at g names (scope_next scopes) (copied_of (get_or xs i d)) met ≡ Err wrong → bound_copies g names scopes (copies_of (map copied_of (drop i xs))) met ≡ Err wrong
copies-stop g names scopes xs i d met wrong within is =
    ap (λ ys. bound_copies g names scopes (copies_of (map copied_of ys)) met) (drop-cons xs i d within)
    ∙ copies-refused g names scopes (copied_of (get_or xs i d)) (copies_of (map copied_of (drop (suc i) xs))) met wrong is

-- ---- the scopes, and the children, whose turn is still to come
behind-scope : (xs : List Scope) (n : ℕ) → scopes_after (in_order (drop n xs)) ≡ in_order (drop (suc n) xs)
behind-scope [] zero = refl
behind-scope [] (suc n) = refl
behind-scope (x ∷ xs) zero = refl
behind-scope (x ∷ xs) (suc n) = behind-scope xs n

behind-child : (xs : List (List Socket)) (n : ℕ) → children_after (drop n xs) ≡ drop (suc n) xs
behind-child [] zero = refl
behind-child [] (suc n) = refl
behind-child (x ∷ xs) zero = refl
behind-child (x ∷ xs) (suc n) = behind-child xs n

pub scope-met : (xs : List code_scope.Scope) (n : ℕ) → in_order (map scope_of (drop (n + 1) xs)) ≡ scopes_after (in_order (map scope_of (drop n xs)))
scope-met xs n =
    let one : n + 1 ≡ suc n = omega arith in
    ap (λ m. in_order (map scope_of (drop m xs))) one ∙ ap in_order (sym (drop-map scope_of (suc n) xs)) ∙ sym (behind-scope (map scope_of xs) n)
    ∙ ap (λ ss. scopes_after (in_order ss)) (drop-map scope_of n xs)

pub scope-past : (xs : List code_scope.Scope) (n : ℕ) → length xs ≤ n → in_order (map scope_of (drop n xs)) ≡ scopes_after (in_order (map scope_of (drop n xs)))
scope-past xs n past = let none : drop n xs ≡ [] = drop_all n xs past in rw none

pub child-met : (xs : List (List Socket)) (n : ℕ) → drop (n + 1) xs ≡ children_after (drop n xs)
child-met xs n = let one : n + 1 ≡ suc n = omega arith in ap (λ m. drop m xs) one ∙ sym (behind-child xs n)

pub child-past : (f : ℕ → List Socket) (ns : List ℕ) (n : ℕ) → length ns ≤ n → drop n (map f ns) ≡ children_after (drop n (map f ns))
child-past f ns n past = let none : drop n (map f ns) ≡ [] = drop-map f n ns ∙ ap (map f) (drop_all n ns past) in rw none

-- the ports of the next child
pub ports-here : (f : ℕ → List Socket) (ns : List ℕ) (n d : ℕ) → n < length ns → ports_next (drop n (map f ns)) ≡ f (get_or ns n d)
ports-here f [] n d within = absurd (omega (arith, within))
ports-here f (x ∷ xs) zero d within = refl
ports-here f (x ∷ xs) (suc n) d within = ports-here f xs n d (omega (arith, within))

pub ports-none : (f : ℕ → List Socket) (ns : List ℕ) (n : ℕ) → length ns ≤ n → ports_next (drop n (map f ns)) ≡ []
ports-none f ns n past = let none : drop n (map f ns) ≡ [] = drop-map f n ns ∙ ap (map f) (drop_all n ns past) in rw none

-- the next scope
pub scope-here : (xs : List code_scope.Scope) (n : ℕ) (d : code_scope.Scope) → n < length xs → scope_of (get_or xs n d) ≡ scope_next (in_order (map scope_of (drop n xs)))
scope-here [] n d within = absurd (omega (arith, within))
scope-here (x ∷ xs) zero d within = refl
scope-here (x ∷ xs) (suc n) d within = scope-here xs n d (omega (arith, within))

pub scope-none : (xs : List code_scope.Scope) (n : ℕ) → length xs ≤ n → scope_next (in_order (map scope_of (drop n xs))) ≡ scope_next no_scope
scope-none xs n past = let none : drop n xs ≡ [] = drop_all n xs past in rw none

pub ruleset copies_laws = (copies-next, copies-stop)

pub ruleset scope_laws = (scope-here, scope-none)

pub ruleset scopes_met = (scope-met, scope-past)

pub ruleset children_met = (child-met, child-past)

pub ruleset next_ports = (ports-here, ports-none)

-- the same of names as the code holds them
pub entered-left : (ks : List code.Known) (names : Names) → drop (length ks) (within (map known_of ks) names) ≡ names
entered-left ks names = ap (λ n. drop n (within (map known_of ks) names)) (sym (length-map ks known_of)) ∙ within-left (map known_of ks) names

pub entered-many : (ks : List code.Known) (names : Names) → length ks ≤ length (within (map known_of ks) names)
entered-many ks names = omega (arith, within-many (map known_of ks) names, length-map ks known_of)

pub ruleset entered = (entered-left, entered-many)

-- a name that is taken off
pub dropped-some : (n : ℕ) (names : Names) → n < length names → drop n names ≡ [] → ⊥
dropped-some n [] within is = omega (arith, within)
dropped-some zero (k ∷ ks) within is = omega (arith, ap length is)
dropped-some (suc n) (k ∷ ks) within is = dropped-some n ks (omega (arith, within)) is

dropped-next : (n : ℕ) (names : Names) → drop 1 (drop n names) ≡ drop (suc n) names
dropped-next zero [] = refl
dropped-next (suc n) [] = refl
dropped-next zero (k ∷ ks) = refl
dropped-next (suc n) (k ∷ ks) = dropped-next n ks

pub dropped-once : (n : ℕ) (names : Names) → drop 1 (drop n names) ≡ drop (n + 1) names
dropped-once n names = let one : suc n ≡ n + 1 = omega arith in dropped-next n names ∙ ap (λ m. drop m names) one
