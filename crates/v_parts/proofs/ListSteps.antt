-- The steps of reading a list with commas, as equations.
use Rattle.std.proofs.Common.{◌≡◌, ◌≢◌, ℕ, zero, suc, ◌+◌, ◌-◌, ◌≤◌, true, false, if◌then◌else◌, List, [], ◌∷◌, ◌++◌, length, map, Ok, Err, sym, ap, ◌∙◌, refl, arith}
use Rattle.v_lexer.specs.Lexeme.{Lexeme}
use Rattle.v_lexer.specs.declared.types.terminal.Terminal.TheVariants as marks
use Rattle.v_tree.specs.declared.fault.Fault.{Fault}
use Rattle.v_tree.specs.Marks.{mark_at, same}
use Rattle.v_lexer.specs.declared.types.terminal.Terminal.{Terminal}
use Rattle.v_tree.specs.declared.fault.Stop.{Stop}
use Rattle.v_tree.specs.Faults.{no_place, Fails}
use Rattle.v_tree.specs.Reading.{Read, ◌>>=◌}
use Rattle.v_tree.proofs.StepLemmas.{fails_along}
use Rattle.v_tree.proofs.BindLemmas.{good, bad}
use Rattle.v_tree.proofs.CompleteLemmas.{step, then_of, else_of}
use Rattle.v_parts.specs.Reading.{more_at, list_at, run_at}

-- parts that were read, before those that are read on
abbrev pub with_front : {X A : Type 0} → (X → A) → List X → Read (List A) → Read (List A)
with_front view front r = r >>= λ xs. good (map view front ++ xs.0, xs.1)

map_one : {X A : Type 0} (f : X → A) (xs : List X) (y : X) → map f (xs ++ y ∷ []) ≡ map f xs ++ f y ∷ []
map_one f [] y = refl
map_one f (x ∷ xs) y = ap (λ r. f x ∷ r) (map_one f xs y)

append_assoc : {A : Type 0} (xs : List A) (y : A) (zs : List A) → (xs ++ y ∷ []) ++ zs ≡ xs ++ y ∷ zs
append_assoc [] y zs = refl
append_assoc (x ∷ xs) y zs = ap (λ r. x ∷ r) (append_assoc xs y zs)

pub append_none : {A : Type 0} (xs : List A) → xs ++ [] ≡ xs
append_none [] = refl
append_none (x ∷ xs) = ap (λ r. x ∷ r) (append_none xs)

pub front_one : {X A : Type 0} (view : X → A) (xs : List X) (y : X) (r : Read (List A)) → with_front view xs (r >>= λ zs. good (view y ∷ zs.0, zs.1)) ≡ with_front view (xs ++ y ∷ []) r
front_one view xs y (Err g) = refl
front_one {X} {A} view xs y (Ok zs) =
    let lists : map view xs ++ view y ∷ zs.0 ≡ map view (xs ++ y ∷ []) ++ zs.0 =
    sym (ap (λ r. r ++ zs.0) (map_one view xs y) ∙ append_assoc (map view xs) (view y) zs.0) in
    ap (λ q. good {A = List A × ℕ} (q, zs.1)) lists

more_zero : {A : Type 0} (t : List Lexeme) (part : ℕ → Read A) (a : ℕ) → more_at t part 0 a ≡ good ([], a)
unfolding more_at
more_zero t part a = refl

more_some : {A : Type 0} (t : List Lexeme) (part : ℕ → Read A) (n a : ℕ) → n ≢ 0
    → more_at t part n a ≡ (if same (mark_at t a) marks.Comma then (part (a + 1) >>= λ x. more_at t part (n - 1) x.1 >>= λ xs. good (x.0 ∷ xs.0, xs.1)) else good ([], a))
unfolding more_at
more_some t part zero a some = absurd (some refl)
more_some t part (suc n) a some =
    let e : suc n - 1 ≡ n = omega arith in
    ap (λ k. if same (mark_at t a) marks.Comma then (part (a + 1) >>= λ x. more_at t part k x.1 >>= λ xs. good (x.0 ∷ xs.0, xs.1)) else good ([], a)) (sym e)

-- the first was read
pub list_from : {X A : Type 0} (t : List Lexeme) (part : ℕ → Read A) (view : X → A) (a : ℕ) (x : X) (m : ℕ) (front : List X) → part a ≡ good (view x, m) → front ≡ x ∷ []
    → list_at t part a ≡ with_front view front (more_at t part (length t) m)
unfolding list_at
list_from t part view a x m front read e =
    step (part a) (view x, m) _ _ read refl ∙ ap (λ q. with_front view q (more_at t part (length t) m)) (sym e)

-- one more is read
pub list_turn : {X A : Type 0} (t : List Lexeme) (part : ℕ → Read A) (view : X → A) (n a : ℕ) (front : List X) (y : X) (m : ℕ) → n ≢ 0 → same (mark_at t a) marks.Comma ≡ true
    → part (a + 1) ≡ good (view y, m) → with_front view front (more_at t part n a) ≡ with_front view (front ++ y ∷ []) (more_at t part (n - 1) m)
list_turn t part view n a front y m some comma read =
    ap (with_front view front) (more_some t part n a some ∙ then_of _ _ _ _ comma (step (part (a + 1)) (view y, m) _ _ read refl))
    ∙ front_one view front y (more_at t part (n - 1) m)

-- no comma follows
pub list_ends : {X A : Type 0} (t : List Lexeme) (part : ℕ → Read A) (view : X → A) (n a : ℕ) (front : List X) → same (mark_at t a) marks.Comma ≡ false
    → with_front view front (more_at t part n a) ≡ good (map view front, a)
unfolding more_at
list_ends {X} {A} t part view zero a front other = ap (λ q. good {A = List A × ℕ} (q, a)) (append_none (map view front))
list_ends {X} {A} t part view (suc n) a front other =
    ap (with_front view front) (else_of _ _ _ _ other refl) ∙ ap (λ q. good {A = List A × ℕ} (q, a)) (append_none (map view front))

-- as many as there are tokens were read
pub list_done : {X A : Type 0} (t : List Lexeme) (part : ℕ → Read A) (view : X → A) (n a : ℕ) (front : List X) → n ≡ 0 → with_front view front (more_at t part n a) ≡ good (map view front, a)
list_done {X} {A} t part view n a front e =
    ap (with_front view front) (ap (λ k. more_at t part k a) e ∙ more_zero t part a) ∙ ap (λ q. good {A = List A × ℕ} (q, a)) (append_none (map view front))

-- the next one fails
pub list_fails : {X A : Type 0} (t : List Lexeme) (part : ℕ → Read A) (view : X → A) (n a : ℕ) (front : List X) (f : Fault) → n ≢ 0 → same (mark_at t a) marks.Comma ≡ true
    → part (a + 1) ≡ bad f → with_front view front (more_at t part n a) ≡ bad f
list_fails {X} {A} t part view n a front f some comma read =
    ap (with_front view front) (more_some t part n a some ∙ then_of _ _ _ _ comma (ap (λ q. q >>= λ x. more_at t part (n - 1) x.1 >>= λ xs. good {A = List A × ℕ} (x.0 ∷ xs.0, xs.1)) read))

-- what was read of the list from `at` on, where the rest is read on from `end`
pub record Listing {X A : Type 0} (t : List Lexeme) (part : ℕ → Read A) (view : X → A) (at : ℕ) (front : List X) (n end : ℕ) : Type 0 where
  pub inside : end ≤ length t
  pub goes_on : list_at t part at ≡ with_front view front (more_at t part n end)

-- no comma follows
pub listing_ends : {X A : Type 0} {t : List Lexeme} {part : ℕ → Read A} {view : X → A} {at : ℕ} {front : List X} {n end : ℕ} → Listing t part view at front n end
    → same (mark_at t end) marks.Comma ≡ false → list_at t part at ≡ good (map view front, end)
listing_ends {t} {part} {view} {at} {front} {n} {end} l other = l.goes_on ∙ list_ends t part view n end front other

-- as many as there are tokens were read
pub listing_done : {X A : Type 0} {t : List Lexeme} {part : ℕ → Read A} {view : X → A} {at : ℕ} {front : List X} {n end : ℕ} → Listing t part view at front n end
    → n ≡ 0 → list_at t part at ≡ good (map view front, end)
listing_done {t} {part} {view} {at} {front} {n} {end} l none = l.goes_on ∙ list_done t part view n end front none

-- one more is read
pub listing_turn : {X A : Type 0} {t : List Lexeme} {part : ℕ → Read A} {view : X → A} {at : ℕ} {front more : List X} {n k end m : ℕ} {y : X} → Listing t part view at front n end
    → n ≢ 0 → same (mark_at t end) marks.Comma ≡ true → part (end + 1) ≡ good (view y, m) → m ≤ length t → more ≡ front ++ y ∷ [] → k ≡ n - 1 → Listing t part view at more k m
listing_turn {t} {part} {view} {at} {front} {more} {n} {k} {end} {m} {y} l some comma read inside pushed fewer = record {
  inside = inside;
  goes_on = l.goes_on ∙ list_turn t part view n end front y m some comma read
      ∙ ap (λ q. with_front view q (more_at t part (n - 1) m)) (sym pushed) ∙ ap (λ j. with_front view more (more_at t part j m)) (sym fewer);
}

-- the next one fails
pub listing_fails : {X A : Type 0} {t : List Lexeme} {part : ℕ → Read A} {view : X → A} {at : ℕ} {front : List X} {n end : ℕ} → Listing t part view at front n end
    → n ≢ 0 → same (mark_at t end) marks.Comma ≡ true → (e : Stop) → Fails e (part (end + 1)) → Fails e (list_at t part at)
listing_fails {t} {part} {view} {at} {front} {n} {end} l some comma e read =
    fails_along e (part (end + 1)) (list_at t part at) (λ f is. l.goes_on ∙ list_fails t part view n end front f some comma is) read

pub map_itself : {A : Type 0} (xs : List A) → map (λ x. x) xs ≡ xs
map_itself [] = refl
map_itself (x ∷ xs) = ap (λ r. x ∷ r) (map_itself xs)

-- nothing was read yet
pub run_from : {X A : Type 0} (view : X → A) (front : List X) (r : Read (List A)) → front ≡ [] → r ≡ with_front view front r
run_from view front (Err f) e = refl
run_from {X} {A} view front (Ok xs) e = ap (λ q. good {A = List A × ℕ} (map view q ++ xs.0, xs.1)) (sym e)

-- the first was read
pub run_first : {X A : Type 0} (view : X → A) (front : List X) (x : X) (r : Read (List A)) → front ≡ x ∷ [] → (r >>= λ xs. good (view x ∷ xs.0, xs.1)) ≡ with_front view front r
run_first view front x (Err f) e = refl
run_first {X} {A} view front x (Ok xs) e = ap (λ q. good {A = List A × ℕ} (map view q ++ xs.0, xs.1)) (sym e)

run_some : {S A : Type 0} (t : List Lexeme) (last : Terminal) (part : S → ℕ → Read A) (next : S → A → S) (n : ℕ) (s : S) (a : ℕ) → n ≢ 0
    → run_at t last part next n s a ≡ (if same (mark_at t a) last then good ([], a + 1) else (part s a >>= λ x. run_at t last part next (n - 1) (next s x.0) x.1 >>= λ xs. good (x.0 ∷ xs.0, xs.1)))
unfolding run_at
run_some t last part next zero s a some = absurd (some refl)
run_some t last part next (suc n) s a some =
    let e : suc n - 1 ≡ n = omega arith in
    ap (λ k. if same (mark_at t a) last then good ([], a + 1) else (part s a >>= λ x. run_at t last part next k (next s x.0) x.1 >>= λ xs. good (x.0 ∷ xs.0, xs.1))) (sym e)

-- one more is read
pub run_turn : {S X A : Type 0} (t : List Lexeme) (last : Terminal) (part : S → ℕ → Read A) (next : S → A → S) (view : X → A) (n : ℕ) (s : S) (a : ℕ) (front : List X) (y : X) (m : ℕ) → n ≢ 0 → same (mark_at t a) last ≡ false
    → part s a ≡ good (view y, m) → with_front view front (run_at t last part next n s a) ≡ with_front view (front ++ y ∷ []) (run_at t last part next (n - 1) (next s (view y)) m)
run_turn t last part next view n s a front y m some other read =
    ap (with_front view front) (run_some t last part next n s a some ∙ else_of _ _ _ _ other (step (part s a) (view y, m) _ _ read refl))
    ∙ front_one view front y (run_at t last part next (n - 1) (next s (view y)) m)

-- the last token follows
pub run_ends : {S X A : Type 0} (t : List Lexeme) (last : Terminal) (part : S → ℕ → Read A) (next : S → A → S) (view : X → A) (n : ℕ) (s : S) (a : ℕ) (front : List X) → n ≢ 0 → same (mark_at t a) last ≡ true
    → with_front view front (run_at t last part next n s a) ≡ good (map view front, a + 1)
run_ends {S} {X} {A} t last part next view n s a front some is =
    ap (with_front view front) (run_some t last part next n s a some ∙ then_of _ _ _ _ is refl) ∙ ap (λ q. good {A = List A × ℕ} (q, a + 1)) (append_none (map view front))

-- the next one fails
pub run_fails : {S X A : Type 0} (t : List Lexeme) (last : Terminal) (part : S → ℕ → Read A) (next : S → A → S) (view : X → A) (n : ℕ) (s : S) (a : ℕ) (front : List X) (f : Fault) → n ≢ 0 → same (mark_at t a) last ≡ false
    → part s a ≡ bad f → with_front view front (run_at t last part next n s a) ≡ bad f
run_fails {S} {X} {A} t last part next view n s a front f some other read =
    ap (with_front view front) (run_some t last part next n s a some ∙ else_of _ _ _ _ other (ap (λ q. q >>= λ x. run_at t last part next (n - 1) (next s x.0) x.1 >>= λ xs. good {A = List A × ℕ} (x.0 ∷ xs.0, xs.1)) read))

-- as many as there are tokens were read
pub run_done : {S X A : Type 0} (t : List Lexeme) (last : Terminal) (part : S → ℕ → Read A) (next : S → A → S) (view : X → A) (n : ℕ) (s : S) (a : ℕ) (front : List X) → n ≡ 0
    → with_front view front (run_at t last part next n s a) ≡ bad (no_place t a)
unfolding run_at
run_done t last part next view n s a front e = ap (λ k. with_front view front (run_at t last part next k s a)) e
